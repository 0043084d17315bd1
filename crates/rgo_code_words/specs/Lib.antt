pub mod Cuts
pub mod Pieces
pub mod Readers
pub mod Views
pub mod Worded
