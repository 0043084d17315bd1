-- What is proved of reading functions and of the grammar, and how such facts are put together.
pub mod Next
pub mod Correct
pub mod Lists
pub mod Complete
