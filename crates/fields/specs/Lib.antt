-- The definitions that the promises cite, from the standard and document 01; read them in this order.
pub mod Checksum
pub mod Width
pub mod BigEndian
pub mod Refusal
pub mod Answer
pub mod Staged
pub mod Demand3
