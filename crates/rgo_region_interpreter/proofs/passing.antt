-- Calls, returns and starts with what they pass.
pub mod Beginning
pub mod Calling
pub mod Entering
pub mod Lists
pub mod Returning
pub mod Starts
