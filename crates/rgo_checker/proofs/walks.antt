-- The two walks over all lines of code.
pub mod Counting
pub mod ExistenceWalk
pub mod FunctionLines
pub mod Reaching
pub mod Scanning
pub mod WalkLaws
