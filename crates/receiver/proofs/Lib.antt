-- Laws of the definitions. The proof of a function stands in the folder of its name.
pub mod Reading
pub mod Window
pub mod Calls
pub mod Cutting
pub mod Shorts
pub mod Waits
pub mod Given
pub mod Laid
