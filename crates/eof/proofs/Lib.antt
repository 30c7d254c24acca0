-- Laws of the definitions. The proof of a function stands in the folder of its name.
pub mod Faults
pub mod Data
pub mod Back
pub mod Demands
pub mod Cases
