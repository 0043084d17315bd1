-- The image, part by part, when a step leaves it as it was.
pub mod Births
pub mod Channels
pub mod Elsewhere
pub mod Existing
pub mod Facts
pub mod Frames
pub mod Keeping
pub mod Keeps
pub mod Quiets
pub mod Steadies
pub mod Stepped
