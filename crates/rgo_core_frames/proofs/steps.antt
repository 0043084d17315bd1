-- Instructions and local steps of one goroutine, on its record.
pub mod ActionSteps
pub mod Computing
pub mod Instructing
pub mod Ints
pub mod LocalActs
pub mod LocalDuties
pub mod LocalSteps
