pub mod Ready
pub mod Before
pub mod Answers
pub mod Waits
pub mod Examples
pub mod CellExamples
