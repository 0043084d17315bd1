-- Turns: steps of a world in a row.
pub mod Meeting
pub mod PlainTurns
pub mod Standing
pub mod Stepping
pub mod Taking
pub mod Takings
pub mod Targets
