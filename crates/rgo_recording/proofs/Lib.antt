pub mod Ended
pub mod Going
pub mod Leading
pub mod Replaying
pub mod Starting
pub mod Texts
