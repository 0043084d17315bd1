-- The accesses of goroutines to the table, one file for each kind: which record may make it, and what it leaves.
pub mod Cells
pub mod Chains
pub mod ChannelTraps
pub mod Channels
pub mod Claims
pub mod Clock
pub mod Commits
pub mod ElementTraps
pub mod NewObjects
pub mod OperandTraps
pub mod Regions
