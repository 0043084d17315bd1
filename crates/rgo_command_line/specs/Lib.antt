pub mod Commands
pub mod Laws
pub mod Limits
pub mod Numbers
pub mod Parser
