pub mod Decided
pub mod Deciding
pub mod Getting
pub mod Listing
pub mod Pointwise
pub mod decides
pub mod outcomes
pub mod walks
