-- Tables as a whole: where words lie, how one opens and is split into seats, what one shows of its run.
pub mod Layouts
pub mod Outcomes
pub mod Parting
pub mod Sums
