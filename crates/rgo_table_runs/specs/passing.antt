pub mod Turns
pub mod Passes
pub mod Laws
pub mod Examples
