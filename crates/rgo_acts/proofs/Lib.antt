-- of the crates below, for those above
pub use Rattle.rgo_body.proofs as Body
pub use Rattle.rgo_chan.proofs as Chan
pub use Rattle.rgo_core_facts.proofs as Facts
pub mod Standing
pub mod accesses
pub mod attending
pub mod before
pub mod clock
pub mod computing
pub mod examples
pub mod new_objects
pub mod talking
