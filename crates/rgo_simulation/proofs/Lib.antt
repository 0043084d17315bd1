pub mod Together
pub mod Settling
pub mod Lift
