-- The definitions that the promises cite, from section 5.1 of the standard and document 01; read them in this order.
pub mod Flags
pub mod Header
pub mod Judging
pub mod Reading
pub mod Writing
pub mod Verifying
pub mod Code
pub mod Directive
pub mod Pdu
pub mod Size
pub mod Condition
pub mod Comparing
pub mod Within
pub mod Demands
