-- The definitions that the promises cite, and what is proved beside them; read them in this order. `Within` is for private functions.
pub mod Form
pub mod Reading
pub mod Walking
pub mod Writing
pub mod Within
pub mod Shown
pub mod Parts
pub mod RoundTrip
pub mod Cases
