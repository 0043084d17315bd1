pub mod Trying
pub mod Vain
