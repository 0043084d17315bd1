pub mod Examples
pub mod Fits
pub mod Records
pub mod States
pub mod goroutines
pub mod regions
pub mod shown
pub mod steps
