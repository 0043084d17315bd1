pub mod Rows
pub mod Prints
pub mod Ends
pub mod Gathering
pub mod Members
pub mod Laws
pub mod Examples
