pub mod Laws
pub mod Notes
pub mod Recorders
pub mod Recordings
