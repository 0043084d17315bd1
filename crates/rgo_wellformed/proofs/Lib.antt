pub mod ExampleProofs
pub mod Parts
pub mod Types
