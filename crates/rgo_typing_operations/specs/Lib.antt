pub mod Types
pub mod Terms
pub mod Results
