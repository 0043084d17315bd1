-- Steps of one goroutine, as functions of its record.
pub mod Actions
pub mod Before
pub mod BeforeLaws
pub mod Bookkept
pub mod Ends
pub mod Local
pub mod LocalLaws
pub mod Makes
pub mod Prints
pub mod Quiet
