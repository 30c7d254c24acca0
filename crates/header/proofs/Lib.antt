-- Laws of the definitions, which upper crates cite too. The proof of a function stands in the folder of its name.
pub mod FlagBits
pub mod Judging
pub mod Reading
pub mod Writing
pub mod Verifying
pub mod Codes
pub mod Directives
pub mod Behind
pub mod OwnData
pub mod Pdus
pub mod PdusBack
pub mod Sizes
pub mod Conditions
pub mod Comparing
pub mod RoundTrip
pub mod Demands
