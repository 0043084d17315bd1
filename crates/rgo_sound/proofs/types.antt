-- Types: variables, cells and package variables keep values of their types.
pub mod Actions
pub mod Steps
