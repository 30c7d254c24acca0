-- The definitions that the promises cite, from section 5.2.2 of the standard and document 02, C-01; read them in this order.
pub mod Fault
pub mod Eof
pub mod Reading
pub mod Writing
pub mod Cases
pub mod Demands
