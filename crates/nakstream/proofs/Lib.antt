-- Laws of calls. The proof of a function stands in the folder of its name.
pub mod Taken
