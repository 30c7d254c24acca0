-- The definitions that the promises cite, from document 02, C-09; read them in this order. The last says how the code goes about it.
pub mod Missing
pub mod Plans
pub mod Checking
pub mod Planning
pub mod Theorems
pub mod Gaps
