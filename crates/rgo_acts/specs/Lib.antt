-- of the crates below, for those above
pub use Rattle.rgo_body.specs as Body
pub use Rattle.rgo_compact.specs as Compact
pub use Rattle.rgo_core_facts.specs as Facts
pub mod ActorExamples
pub mod Actors
pub mod Attending
pub mod DutyExamples
pub mod Elements
pub mod Endings
pub mod Limits
pub mod Locals
pub mod ObjectExamples
pub mod Objects
pub mod Prints
pub mod Ready
pub mod Resting
pub mod Runs
pub mod Shortages
pub mod Starts
pub mod Talks
pub mod Traps
pub mod WaitExamples
pub mod Waits
