pub mod Asked
pub mod Branches
pub mod Dying
pub mod Live
pub mod Seen
pub mod Sets
pub mod Spans
pub mod Used
