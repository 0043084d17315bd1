pub mod Items
pub mod Headers
pub mod Statements
pub mod Parsing
pub mod Laws
