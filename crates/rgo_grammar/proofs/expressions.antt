-- Expressions: reading them is correct (up to `Correct`), and what the grammar derives is read.
pub mod Starts
pub mod Operands
pub mod Literals
pub mod Correct
pub mod Second
pub mod Ends
pub mod Parts
pub mod Complete
