pub mod Bare
pub mod Filled
pub mod Inserted
pub mod Laws
pub mod Passing
