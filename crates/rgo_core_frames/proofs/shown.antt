-- What words of frames show: values, frames and constants.
pub mod ConstantLemmas
pub mod Operands
pub mod Sending
pub mod Showing
pub mod Stacking
pub mod Tables
pub mod WordLemmas
