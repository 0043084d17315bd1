-- The stores that make a new object.
pub mod Apart
pub mod Objects
