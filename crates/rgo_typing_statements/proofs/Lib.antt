pub mod Ends
pub mod Printed
pub mod Trees
pub mod Turns
