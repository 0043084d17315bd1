-- Accesses that make a new object.
pub mod MakesObject
pub mod NewApart
pub mod NewObjects
pub mod NextObject
pub mod Objects
pub mod ObjectsApart
pub mod WordsApart
