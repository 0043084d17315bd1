pub mod crews
pub mod ending
pub mod examples
pub mod leaving
pub mod lists
pub mod passes
