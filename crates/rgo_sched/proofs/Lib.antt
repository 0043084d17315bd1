pub mod AccountLemmas
pub mod CrewLemmas
pub mod DealLemmas
pub mod ResultLemmas
pub mod RoundLemmas
