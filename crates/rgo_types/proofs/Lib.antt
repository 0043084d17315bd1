mod Breaks
pub mod Ends
pub mod Weights
