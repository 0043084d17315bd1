pub mod ListTurns
pub mod ExprTurns
pub mod StmtTurns
pub mod DeclTurns
pub mod Wholes
pub mod Cuts
pub mod Answered
