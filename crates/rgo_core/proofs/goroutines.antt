-- Starts of goroutines, their numbers, and what all have counted.
pub mod Counting
pub mod Numbers
pub mod Starting
