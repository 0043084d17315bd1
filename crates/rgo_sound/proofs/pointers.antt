-- Pointers: they stay in their regions, and a live variable points into the region of its class.
pub mod Actions
pub mod Owners
pub mod Steps
pub mod Variables
