pub mod accesses
pub mod examples
pub mod making
pub mod record_steps
pub mod searching
pub mod tables
