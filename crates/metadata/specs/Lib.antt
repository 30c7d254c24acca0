-- The definitions that the promises cite, from section 5.2.5 of the standard and document 02, C-11; read them in this order.
pub mod Metadata
pub mod Reading
pub mod Writing
pub mod Cases
pub mod Demands
