pub mod Misfits
pub mod Refusals
pub mod Unbroken
