-- Accesses to channels.
pub mod AtChannels
pub mod Commits
pub mod Examples
pub mod Leaving
pub mod Meetings
pub mod Moves
pub mod TrapMoves
