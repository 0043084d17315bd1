-- Passes: every goroutine meets the driver, and they see what the others have seen.
pub mod Crews
pub mod Meetings
