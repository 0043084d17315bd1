pub mod acts
pub mod holding
pub mod lifting
pub mod owing
pub mod passing
pub mod regions
pub mod stepping
