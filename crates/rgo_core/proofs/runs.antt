-- The run of the region machine that explains the words.
pub mod Opening
pub mod Possible
pub mod Runs
pub mod Stories
pub mod Traces
