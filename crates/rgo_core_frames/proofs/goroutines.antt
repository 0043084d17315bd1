-- Starts, offers and ends.
pub mod Ending
pub mod Offering
pub mod Starting
