pub mod Examples
pub mod Frames
pub mod Source
pub mod Stands
pub mod Steps
pub mod Todos
