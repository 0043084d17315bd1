pub mod Items
pub mod Printing
pub mod Runs
pub mod Spaces
pub mod Waiting
