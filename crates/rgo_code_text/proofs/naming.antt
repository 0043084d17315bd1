-- Names and their numbers.
pub mod Firsts
pub mod Knowing
pub mod Naming
pub mod Numbering
pub mod Tables
