pub mod Settling
pub mod Examples
