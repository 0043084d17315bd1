-- of the crates below, for those above
pub use Rattle.rgo_core_facts.proofs as Facts
pub mod Steps
pub mod Small
