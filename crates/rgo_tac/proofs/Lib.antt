pub mod Bodies
pub mod Fitting
