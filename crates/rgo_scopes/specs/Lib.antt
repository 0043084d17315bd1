pub mod Blocks
pub mod Newest
pub mod Trail
