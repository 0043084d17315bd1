-- Instructions that compute words from words, and touch no word of the table.
pub mod Computes
pub mod Dividing
pub mod Executing
pub mod LocalActs
