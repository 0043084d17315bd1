pub mod Callees
pub mod Checking
pub mod Laws
pub mod Packages
pub mod Results
pub mod Scopes
pub mod Terms
pub mod Types
