-- The plain part of a region run: the run of the three-address machine without regions.
pub mod Running
pub mod Steps
