-- Laws of the definitions. The proof of a function stands in the folder of its name.
mod Deciding
