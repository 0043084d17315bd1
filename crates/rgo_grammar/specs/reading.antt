-- Reading a list of lexemes from left to right, as functions. The parser's functions compute them, and the proofs use them in place
-- of the grammar. Nobody has to trust them: it is proved that they read exactly what the grammar derives (`Grammar`), and that the
-- place where they fail is the first bad token (`FirstBad`).
pub mod Read
pub mod Types
pub mod Expressions
pub mod Statements
pub mod Declarations
