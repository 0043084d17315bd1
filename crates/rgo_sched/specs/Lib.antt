pub mod Accounts
pub mod Crew
pub mod Deques
pub mod Permits
pub mod Positions
pub mod Rounds
