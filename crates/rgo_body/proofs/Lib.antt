-- of the crates below, for those above
pub use Rattle.rgo_pages.proofs as Pages
pub mod Acting
pub mod Attending
pub mod Calling
pub mod Computing
pub mod Creating
pub mod Decoding
pub mod Examined
pub mod Fielding
pub mod LoopRuns
pub mod OpKinds
pub mod Placing
pub mod PuttingBase
pub mod Removing
pub mod Sharing
pub mod Showing
pub mod Starting
pub mod Stepping
pub mod Tables
pub mod Transfers
