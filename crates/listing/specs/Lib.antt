-- The definitions that the promises cite.
pub mod Listing
pub mod Pdus
