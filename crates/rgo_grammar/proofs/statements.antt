-- Statements: reading them is correct (up to `Correct`), and what the grammar derives is read.
pub mod Simple
pub mod Locals
pub mod Headers
pub mod Branches
pub mod Correct
pub mod Parts
pub mod KindsComplete
pub mod Complete
