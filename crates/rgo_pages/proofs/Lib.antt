pub mod Trying
pub mod Chaining
pub mod Moments
pub mod Giving
pub mod Vain
pub mod Examples
