-- What each step of a driver keeps of its goroutines and of their prints.
pub mod Moving
pub mod Parked
pub mod Parts
pub mod Snapshots
pub mod Steps
pub mod Turning
