-- A step over the memory that is kept is one over the whole memory.
pub mod Actions
pub mod Good
pub mod Memory
pub mod Steps
