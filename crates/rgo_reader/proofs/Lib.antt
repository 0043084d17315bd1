pub mod TypeTurns
pub mod Nodes
