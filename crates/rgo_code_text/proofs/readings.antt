-- Each text is that of one code, or is refused at one line.
pub mod EachText
pub mod OneRefusal
pub mod PrintableExamples
pub mod Refusing
pub mod Ruled
pub mod RuledUses
