-- Searches for a free slot or page.
pub mod Covering
pub mod Exchanges
