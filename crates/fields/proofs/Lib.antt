-- Laws of the definitions, which upper crates cite too. The proof of a function stands in the folder of its name.
pub mod Xor
pub mod Checksum
pub mod Table
pub mod BigEndian
pub mod Parts
pub mod Width
pub mod OneToOne
pub mod Judging
pub mod Staged
pub mod Demand3
pub mod Handed
pub mod Waiting
