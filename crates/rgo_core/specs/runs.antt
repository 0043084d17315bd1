-- The run of the region machine that explains a table, from its opening on.
pub mod Causes
pub mod Opening
pub mod Plans
pub mod Possible
pub mod Runs
pub mod Story
pub mod Traces
