pub mod Rows
pub mod Prints
pub mod Final
pub mod Closed
pub mod Gathering
pub mod Members
pub mod Examples
