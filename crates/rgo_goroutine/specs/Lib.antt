-- of the crates below, for those above
pub use Rattle.rgo_acts.specs as Acts
pub mod Goroutines
pub mod Passing
pub mod Turns
pub mod Acting
pub mod Instructions
pub mod Examples
