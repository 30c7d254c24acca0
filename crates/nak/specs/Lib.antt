-- The definitions that the promises cite, from section 5.2 of the standard and document 01; read them in this order.
pub mod Nak
pub mod Reading
pub mod Requests
pub mod Writing
pub mod Reserving
pub mod Counting
pub mod Comparing
pub mod Within
pub mod Cases
pub mod Demands
pub mod Archive
