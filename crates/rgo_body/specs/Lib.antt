-- of the crates below, for those above
pub use Rattle.rgo_stack.specs.Loop as Loop
pub use Rattle.rgo_pages.specs as Pages
pub use Rattle.rgo_stack.specs as Stack
pub mod Programs
pub mod Nexts
pub mod Queues
pub mod Reserves
pub mod Bodies
pub mod Shows
pub mod Fields
pub mod Steps
pub mod Duties
pub mod Examples
