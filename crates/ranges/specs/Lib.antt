-- The definitions that the promises cite; read them in this order.
pub mod Runs
pub mod Pairs
pub mod Merging
pub mod Laying
pub mod Order
pub mod Transaction
pub mod Sources
pub mod Differing
pub mod Within
pub mod Demands
pub mod Room
pub mod Owing
pub mod Memory
pub mod Log
pub mod OwedWithin
pub mod OwedDemands
