pub mod Imports
pub mod Names
pub mod Numbering
pub mod Outcomes
pub mod Packages
pub mod Signatures
pub mod Views
