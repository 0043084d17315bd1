-- What the code keeps of goroutines shows the holders of the region machine.
pub mod FirstState
pub mod Holding
pub mod Marked
pub mod Newest
pub mod Nexts
pub mod OneHolder
pub mod Orderly
pub mod Showing
