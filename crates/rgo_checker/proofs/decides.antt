-- What the checker computes decides the rules.
pub mod ActionLaws
pub mod ClassLaws
pub mod ExistenceLaws
pub mod InstrLaws
pub mod LendingLaws
pub mod LineKept
pub mod LiveDecided
pub mod NamingLaws
pub mod OperandLaws
pub mod PassingLaws
pub mod PlaceLaws
pub mod RegionLaws
pub mod TypeLaws
