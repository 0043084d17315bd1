-- Operations: their words, and what is read of these.
pub mod ActionOps
pub mod ActionsBack
pub mod ActionsIs
pub mod CallNotes
pub mod CopyInstrs
pub mod EachPrint
pub mod Instrs
pub mod Notes
pub mod OpTexts
pub mod OpWords
pub mod OpsBack
pub mod PrintWords
pub mod TypeWords
