-- Laws of the definitions. The proof of a function stands in the folder of its name.
mod Given
mod Shown
mod Pairs
mod MetadataShown
mod Standing
