-- Names and stakes: in each frame a name denotes at most one region, and a goroutine has one holding name for each of its stakes.
pub mod Core
pub mod Edges
pub mod Pending
pub mod Ruled
pub mod Stakes
