-- Where a goroutine is before an access, read off its record, and that the loads before the access leave it there.
pub mod AtChannels
pub mod Instructions
pub mod Locating
pub mod Measuring
pub mod Resting
