pub mod Looking
pub mod Turning
pub mod Standing
pub mod Counting
pub mod Lacking
pub mod Passed
pub mod Examples
