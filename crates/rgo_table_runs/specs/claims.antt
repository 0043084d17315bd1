pub mod TableRuns
pub mod Laws
pub mod Examples
