-- Each definition where it holds and where it must not.
pub mod Closing
pub mod Crews
pub mod Parking
pub mod Passes
pub mod Runs
pub mod Turns
