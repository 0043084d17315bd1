-- what proofs of the crates above cite of the crates below
pub use Rattle.rgo_core_channels.proofs as Channels
pub use Rattle.rgo_core_frames.proofs as Frames
pub use Rattle.rgo_core_memory.proofs as Memory
pub use Rattle.rgo_core_rule.proofs as Rule
pub mod Disjoint
pub mod Examples
pub mod Lists
pub mod accesses
pub mod channel_steps
pub mod clock
pub mod goroutines
pub mod image
pub mod new_objects
pub mod pages
pub mod regions
pub mod runs
pub mod steps
