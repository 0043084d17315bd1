pub mod Emitted
pub mod Examples
pub mod Laws
pub mod Lowered
pub mod Shapes
pub mod Sizes
