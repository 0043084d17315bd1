-- New objects: their addresses, the stores of their words (`Zeroing`, `Strewing`), and the allocation, with the last one.
pub mod Addresses
pub mod Allocating
pub mod Making
pub mod MakingApart
pub mod Spreads
pub mod Strewing
pub mod Zeroing
