-- A machine for the grammar: it takes one token at a time, with a stack of what is still to come. It occurs only in proofs.
pub mod Table
pub mod Runs
pub mod Starts
