-- Reading functions for the headers of `if` and `for` up to the block; those of rgo_grammar read a header together with its block. The
-- code reads headers outside the cycle of statements, so that the cycle is small.
use Rattle.std.specs.Prelude.{List, Option, Some, None}
use Rattle.rgo_ast.specs.Tree.{Expr, Stmt}
use Rattle.rgo_ast.specs.Views.{expr_of, boxed_expr_of, boxed_stmt_of}
use Rattle.rgo_lexer.specs.declared.terminals.Terminal.{Terminal}
use Rattle.rgo_lexer.specs.declared.terminals.Terminal.TheVariants.{OpenBrace}
use Rattle.rgo_lexer.specs.Lexemes.{Lexeme}
use Rattle.rgo_grammar.specs.reading.Read.{Read, Done, Failed, At, ◌>>=◌, yielding, next_lexeme}
use Rattle.rgo_grammar.specs.reading.Statements as reading
use Rattle.rgo_parser.specs.declared.headers.Head.{Head}
use Rattle.rgo_parser.specs.declared.headers.Head.TheVariants as head
use Rattle.rgo_parser.specs.declared.headers.IfHeader.{IfHeader}
use Rattle.rgo_parser.specs.declared.headers.ForHeader.{ForHeader}

abbrev pub reading_head_of : Head → reading.Head
reading_head_of (head.Condition e) = reading.condition (expr_of e.value)
reading_head_of (head.Init s) = reading.init (boxed_stmt_of s)

-- a header of an `if` as data: the statement before the `;`, if any, and the condition
abbrev pub if_of : IfHeader → Option Stmt × Expr
if_of h = (boxed_stmt_of h.init, expr_of h.test.value)

-- a header of a `for` as data: the statement before the first `;`, the condition, and the post statement, if any
abbrev pub for_of : ForHeader → Option Stmt × Option Expr × Option Stmt
for_of h = (boxed_stmt_of h.init, boxed_expr_of h.test, boxed_stmt_of h.post)

abbrev pub if_parts : Option Stmt → Expr → Option Stmt × Expr
if_parts s c = (s, c)

abbrev pub for_parts : Option Stmt → Option Expr → Option Stmt → Option Stmt × Option Expr × Option Stmt
for_parts s c p = (s, c, p)

-- Below, `value` reads an expression of a header.

abbrev pub if_header_rest : (List Lexeme → Read Expr) → reading.Head → List Lexeme → Read (Option Stmt × Expr)
if_header_rest value (reading.condition c) l = Done (None, c) l
if_header_rest value (reading.init s) l = value l >>= yielding (if_parts s)

abbrev pub if_header : (List Lexeme → Read Expr) → List Lexeme → Read (Option Stmt × Expr)
if_header value l = reading.head value l >>= if_header_rest value

abbrev pub for_header_rest : (List Lexeme → Read Expr) → reading.Head → List Lexeme → Read (Option Stmt × Option Expr × Option Stmt)
for_header_rest value (reading.condition c) l = Done (None, Some c, None) l
for_header_rest value (reading.init s) l =
    reading.condition_on value l (next_lexeme l) >>= λ c w. reading.post_stmt_on value w (next_lexeme w) >>= yielding (for_parts s c)

abbrev pub for_header_by : (List Lexeme → Read Expr) → Terminal → List Lexeme → Read (Option Stmt × Option Expr × Option Stmt)
for_header_by value OpenBrace l = Done (None, None, None) l
for_header_by value _ l = reading.head value l >>= for_header_rest value

abbrev pub for_header_on : (List Lexeme → Read Expr) → List Lexeme → Option (Lexeme × List Lexeme)
    → Read (Option Stmt × Option Expr × Option Stmt)
for_header_on value l None = Failed (At l)
for_header_on value l (Some x) = for_header_by value x.0.terminal l

abbrev pub for_header : (List Lexeme → Read Expr) → List Lexeme → Read (Option Stmt × Option Expr × Option Stmt)
for_header value l = for_header_on value l (next_lexeme l)
