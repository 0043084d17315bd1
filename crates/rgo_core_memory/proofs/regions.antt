-- Regions: created at a slot, their stakes, and what their slots are used for.
pub mod Attending
pub mod Bounds
pub mod Causes
pub mod Counting
pub mod Creating
pub mod Infos
pub mod Sharing
pub mod Slots
