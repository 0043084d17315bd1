-- Operations on channels: what a try leaves, and what a goroutine knows that has to wait.
pub mod Leavings
pub mod Tries
pub mod Waiting
