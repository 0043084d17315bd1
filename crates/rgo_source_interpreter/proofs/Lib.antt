pub mod Counts
pub mod LongerLists
pub mod Stacks
