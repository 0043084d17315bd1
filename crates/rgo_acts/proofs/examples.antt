-- Each definition where it holds and where it must not.
pub mod Actors
pub mod Duties
pub mod Objects
pub mod Waits
