-- How goroutines begin, start others, and meet at channels.
pub mod Children
pub mod Meetings
pub mod Opening
