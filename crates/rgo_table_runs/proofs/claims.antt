pub mod Erased
pub mod Counted
pub mod Claimed
pub mod Examples
