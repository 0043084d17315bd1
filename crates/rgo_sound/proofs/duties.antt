-- Duties: each can be done in its turn, and after the last one the newest frame is settled.
pub mod Attends
pub mod Instructs
pub mod Moves
