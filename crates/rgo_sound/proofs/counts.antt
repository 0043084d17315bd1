-- Counts: of pages and regions, made, taken and returned.
pub mod Pages
pub mod Regions
pub mod Removed
pub mod Room
pub mod Tally
pub mod Whole
