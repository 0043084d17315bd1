pub mod Claiming
pub mod Releasing
pub mod Laws
pub mod Examples
