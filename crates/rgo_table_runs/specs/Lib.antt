-- of the crates below, for those above
pub use Rattle.rgo_goroutine.specs as Goroutine
pub mod claims
pub mod closing
pub mod passing
