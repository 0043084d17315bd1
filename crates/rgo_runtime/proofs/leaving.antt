-- Goroutines that retire or are given up: the driver has their records.
pub mod All
pub mod One
