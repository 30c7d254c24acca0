-- Laws of the definitions, which upper crates cite too. The proof of a function stands in the folder of its name.
pub mod Reading
pub mod Walking
pub mod Writing
pub mod Shown
pub mod Parts
pub mod RoundTrip
pub mod Cases
