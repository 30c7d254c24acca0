-- Laws of the definitions. The proof of a function stands in the folder of its name.
pub mod Codes
pub mod Data
pub mod Demands
pub mod Cases
