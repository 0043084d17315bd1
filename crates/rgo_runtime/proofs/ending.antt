-- From what a driver knows at the end of a run to the run of the code.
pub mod Closing
pub mod Narrowing
pub mod Playing
pub mod Running
pub mod Telling
