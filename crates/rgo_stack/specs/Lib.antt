-- of the crates below, for those above
pub use Rattle.rgo_loop.specs as Loop
pub mod Stacks
pub mod Places
pub mod Steps
pub mod Runs
pub mod Examples
