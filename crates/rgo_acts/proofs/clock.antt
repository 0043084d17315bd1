-- Acts on the clock and on the number of goroutines: prints, ends and starts.
pub mod Ends
pub mod Printing
pub mod Starts
