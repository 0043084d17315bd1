-- New objects: which one is made, where, and the stores of its words.
pub mod Apart
pub mod Kinds
pub mod Made
pub mod Pages
pub mod Reserves
pub mod Stores
