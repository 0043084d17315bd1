-- Regions by their slots: creations, stakes, pages.
pub mod Creations
pub mod Pages
pub mod Reserved
pub mod Slots
pub mod Stakes
