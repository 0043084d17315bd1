-- The image of a state: its parts, how it encodes values, and what leaves it.
pub mod BoundExamples
pub mod Bounds
pub mod Contents
pub mod Encodings
pub mod Parts
pub mod Standing
