mod Lengths
mod Lines
