-- Offers and meetings: whose they are, and that their channels are live.
pub mod Meets
pub mod Offers
