pub mod Erased
pub mod Parts
