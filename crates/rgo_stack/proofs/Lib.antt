-- of the crates below, for those above
pub use Rattle.rgo_loop.proofs as Loop
pub mod Calling
pub mod Examined
pub mod Frames
pub mod Lookups
pub mod Roomy
pub mod Sizes
