pub mod Flow
pub mod Nested
pub mod Programs
pub mod Views
