-- Accesses that claim pages, reserve them, and return chains.
pub mod Chains
pub mod Claims
pub mod Reserves
pub mod Room
pub mod SpreadExamples
pub mod Unreserved
