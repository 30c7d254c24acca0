-- Laws of the definitions. The proof of a function stands in the folder of its name.
pub mod Tests
pub mod Runs
pub mod Sources
pub mod Sides
pub mod Laying
pub mod Merging
pub mod Spans
pub mod Ordering
pub mod Differing
pub mod Differences
pub mod Demands
pub mod Room
pub mod Memory
pub mod Entering
pub mod Running
pub mod Fewest
pub mod Prefixes
pub mod Splits
pub mod OwedDemands
mod Cases
