-- Steps of one goroutine, by the functions of its record alone.
pub mod After
pub mod Clocking
pub mod Drawing
pub mod Paging
pub mod SettledLaws
pub mod Settling
pub mod Staking
