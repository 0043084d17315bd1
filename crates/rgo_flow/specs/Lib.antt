pub mod Blocks
pub mod Graphs
pub mod Live
pub mod Ranges
pub mod Runs
pub mod Solved
pub mod Table
pub mod Uses
