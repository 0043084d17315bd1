pub mod Examples
pub mod Forms
pub mod Laws
pub mod Picks
pub mod Reading
pub mod Replays
pub mod Text
