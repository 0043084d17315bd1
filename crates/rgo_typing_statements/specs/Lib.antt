pub mod Outcomes
pub mod Statements
pub mod TypedStatements
pub mod Views
