pub mod Follows
pub mod Simulations
