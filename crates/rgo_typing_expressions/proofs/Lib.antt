pub mod Lists
pub mod Numbers
pub mod Trees
pub mod Typed
