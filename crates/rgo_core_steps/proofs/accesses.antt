-- What each access asks and leaves, and what several of them leave together.
pub mod Calling
pub mod Cells
pub mod Channels
pub mod Growing
pub mod Lefts
pub mod Telling
