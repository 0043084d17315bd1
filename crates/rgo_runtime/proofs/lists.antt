-- Lists, boxes, groups and sums, whatever their elements are.
pub mod Boxing
pub mod Queues
pub mod Summing
pub mod Sweeps
pub mod Walks
