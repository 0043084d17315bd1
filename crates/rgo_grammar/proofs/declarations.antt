-- Declarations and programs: reading them is correct, and what the grammar derives is read.
pub mod Correct
pub mod Program
pub mod Complete
