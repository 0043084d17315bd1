-- Accesses to the clock: prints, traps and ends.
pub mod ClockLifts
pub mod Clocks
pub mod Ending
pub mod OperandTraps
pub mod Printing
pub mod Traps
