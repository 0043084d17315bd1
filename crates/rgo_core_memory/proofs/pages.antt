-- Pages: claimed, filled, on chains, and returned.
pub mod Chaining
pub mod Chains
pub mod Claiming
pub mod InUse
pub mod Owing
pub mod Paging
pub mod Refilling
pub mod Releases
pub mod Reserving
pub mod Trying
