-- Code that is made of lines has these lines, and fits.
pub mod Assembling
pub mod Few
pub mod Fitting
pub mod LinesOfCode
pub mod Making
pub mod Opening
pub mod Unmaking
