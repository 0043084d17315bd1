-- Instructions of one goroutine with their regions.
pub mod Acts
pub mod AtOnce
pub mod Instructed
pub mod Making
pub mod Parts
pub mod Quiet
pub mod Rooms
pub mod Stretching
pub mod Turning
pub mod Turns
pub mod Unmarked
