-- Duties: what each of them leaves.
pub mod Counts
pub mod LocalDuties
