-- Calls, returns and `go`: what is passed on, what is left to the caller, and what a new goroutine has.
pub mod Enters
pub mod Lists
pub mod Passable
pub mod Passed
pub mod Returns
pub mod Rules
pub mod Starts
pub mod States
