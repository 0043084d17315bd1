-- What a goroutine owes before its next instruction is done.
pub mod Attending
pub mod Paging
pub mod Preparing
pub mod SettlingBoth
