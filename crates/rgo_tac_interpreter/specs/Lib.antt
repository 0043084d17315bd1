pub mod Making
pub mod Quick
pub mod Stretches
pub mod Transfers
