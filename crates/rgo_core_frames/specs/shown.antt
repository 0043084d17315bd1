-- How words show values, variables, frames and constants.
pub mod Constants
pub mod Ints
pub mod NameTables
pub mod Operands
pub mod Operators
pub mod Stacks
pub mod Variables
pub mod WordFrames
pub mod Words
