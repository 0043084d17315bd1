pub mod NewestLemmas
pub mod TrailLemmas
