-- Loads and stores of the table's words that are the next instruction.
pub mod Fields
pub mod Loading
pub mod Words
