-- The definitions that the promises cite: how a header goes in as numbers, and how an answer comes out as numbers.
pub mod Given
pub mod Shown
pub mod Pairs
pub mod Received
pub mod Differing
pub mod MetadataNumbers
pub mod Standing
pub mod Plans
