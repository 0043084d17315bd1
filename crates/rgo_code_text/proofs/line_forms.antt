-- Lines: each is that of one item, or of none.
pub mod EachLine
pub mod ItemsOne
pub mod LineWords
pub mod LinesBack
pub mod NewLines
pub mod Walking
