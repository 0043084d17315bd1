-- Accesses to the counts of regions.
pub mod Duties
pub mod Regions
pub mod Stakes
