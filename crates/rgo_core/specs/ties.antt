-- What ties records to words: prints, numbers, pages, lengths, and places at channels.
pub mod AtChannels
pub mod Bounds
pub mod Clock
pub mod Links
pub mod Moments
pub mod Numbers
