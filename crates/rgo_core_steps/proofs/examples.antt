-- Each definition where it holds and where it must not.
pub mod Channels
pub mod Grown
pub mod Memory
pub mod Spread
pub mod Steps
