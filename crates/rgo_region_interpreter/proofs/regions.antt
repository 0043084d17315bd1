-- The table of regions after each change.
pub mod Changes
pub mod Counts
pub mod Memory
pub mod Rows
