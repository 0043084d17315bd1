-- The steps of the region machine, unfolded, and that each keeps the invariant.
pub mod Acting
pub mod Each
pub mod Examples
pub mod HeapGrows
pub mod Leaving
pub mod OneStep
