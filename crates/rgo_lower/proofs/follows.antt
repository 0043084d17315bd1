-- Lowered code follows the source machine.
pub mod Lists
pub mod Places
pub mod Grows
pub mod Size
pub mod Matched
pub mod Calls
pub mod Settings
pub mod Changes
pub mod Chains
pub mod Steps
pub mod Terms
pub mod Actions
pub mod Entering
pub mod Branches
pub mod Statements
pub mod Whole
