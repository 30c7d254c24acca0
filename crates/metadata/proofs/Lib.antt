-- Laws of the definitions. The proof of a function stands in the folder of its name.
pub mod Types
pub mod Names
pub mod Data
pub mod Shown
pub mod Back
pub mod Demands
pub mod Cases
