-- Loads and stores of cells, from one word (`Storing`) to the instruction (`Accesses`), by the types of its operands (`Typing`).
pub mod Accesses
pub mod Storing
pub mod Typing
