-- definitions of the crates below that the crates above name
pub use Rattle.rgo_ast.specs as Ast
pub use Rattle.rgo_code.specs as Code
pub use Rattle.rgo_flow.specs as Flow
pub use Rattle.rgo_machine.specs as Machine
pub use Rattle.rgo_memory.specs as Memory
pub use Rattle.rgo_region_machine.specs as RegionMachine
pub use Rattle.rgo_tac.specs as Tac
pub use Rattle.rgo_typed.specs as Typed
pub use Rattle.rgo_wellformed.specs as WellFormed
pub mod Core
pub mod Erasure
pub mod Examples
pub mod Good
pub mod Holding
pub mod Invariant
pub mod Leaving
pub mod NextNames
pub mod Offers
pub mod Owners
pub mod Progress
pub mod RegionRuns
pub mod Reserved
pub mod Room
pub mod Running
pub mod Safety
pub mod Stakes
pub mod Tally
pub mod Types
pub mod Values
