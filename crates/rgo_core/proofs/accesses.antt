-- Loads and stores of objects, and what a record knows of slices and of spread objects.
pub mod Accesses
pub mod Cells
pub mod ElementTraps
pub mod Elements
pub mod Indexes
pub mod LinkExamples
pub mod Links
pub mod Locating
pub mod PageNumbers
pub mod Slices
