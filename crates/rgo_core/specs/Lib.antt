-- of the crates below, for those above
pub use Rattle.rgo_core_channels.specs as Channels
pub use Rattle.rgo_core_frames.specs as Frames
pub use Rattle.rgo_core_memory.specs as Memory
pub use Rattle.rgo_core_rule.specs as Rule
pub mod Core
pub mod Image
pub mod Laws
pub mod Next
pub mod Records
pub mod Steps
pub mod examples
pub mod moves
pub mod runs
pub mod ties
