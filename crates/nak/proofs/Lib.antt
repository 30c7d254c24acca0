-- Laws of the definitions. The proof of a function stands in the folder of its name.
pub mod Reading
pub mod Walking
pub mod Tests
pub mod Offsets
pub mod Storing
pub mod Writing
pub mod Reserving
pub mod Counting
pub mod Comparing
pub mod Cases
pub mod Demands
pub mod RoundTrip
pub mod Archive
pub mod Streams
