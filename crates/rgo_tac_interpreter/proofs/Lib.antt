pub mod Executing
pub mod Finding
pub mod Making
pub mod Stretching
pub mod Transferring
