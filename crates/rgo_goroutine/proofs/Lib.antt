-- of the crates below, for those above
pub use Rattle.rgo_acts.proofs as Acts
pub mod Handing
pub mod Lifting
pub mod Joining
pub mod Looking
pub mod Concluding
pub mod Instructing
pub mod Keeping
pub mod Dispatching
pub mod Advancing
pub mod Lasting
pub mod TurnActs
pub mod Beginning
pub mod Examples
pub mod Shaping
pub mod Reaching
pub mod Resting
pub mod Attending
pub mod Executing
pub mod Acknowledging
