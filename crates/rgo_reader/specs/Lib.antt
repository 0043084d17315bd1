pub mod Agrees
pub mod Lists
pub mod Expressions
