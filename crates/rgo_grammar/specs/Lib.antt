pub mod Grammar
pub mod FirstBad
pub mod Nesting
pub mod Laws
pub mod reading
