pub mod Actions
pub mod Deadlocks
pub mod Ends
pub mod Growing
pub mod Limits
pub mod Lines
pub mod Machines
pub mod Runs
