-- Each definition where it holds and where it must not.
pub mod Bounds
pub mod Channels
pub mod Core
pub mod Links
pub mod Spread
pub mod Traces
