-- Duties, slots and pages, as the record of a goroutine has them.
pub mod Bookkeeping
pub mod Creating
pub mod Making
pub mod Paging
pub mod Reserving
pub mod SlotLemmas
pub mod StakeDuties
