pub mod Fronts
pub mod Lines
pub mod OneJournal
pub mod Replaying
pub mod Walking
