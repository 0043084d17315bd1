-- Reading functions for the parts of statements that contain no other statement; those of rgo_grammar read whole statements. The parser
-- splits a statement there: what is read before its block needs no recursion.
use Rattle.std.specs.Prelude.{ℕ, false, true, List, [], ◌∷◌, Option, Some, None}
use Rattle.rgo_ast.specs.declared.statements.Stmt.{Stmt as CodeStmt}
use Rattle.rgo_ast.specs.Tree.{Stmt}
use Rattle.rgo_ast.specs.Tree as tree
use Rattle.rgo_ast.specs.Views.{stmt_of}
use Rattle.rgo_lexer.specs.declared.terminals.Terminal.{Terminal}
use Rattle.rgo_lexer.specs.declared.terminals.Terminal.TheVariants.{OpenBrace, Semicolon, Var, Go, If, Else, For, Return, Break, Continue}
use Rattle.rgo_lexer.specs.Lexemes.{Leaf, Lexeme}
use Rattle.rgo_grammar.specs.reading.Read.{Read, Done, Failed, At, ◌>>=◌, yielding, next_lexeme}
use Rattle.rgo_grammar.specs.reading.Expressions.{expr}
use Rattle.rgo_grammar.specs.reading.Statements as reading
use Rattle.rgo_parser.specs.declared.openings.Leading.{Leading as CodeLeading}
use Rattle.rgo_parser.specs.declared.openings.Leading.TheVariants as code_leading
use Rattle.rgo_parser.specs.declared.openings.Else.{Else as CodeElse}
use Rattle.rgo_parser.specs.declared.openings.Else.TheVariants as code_else
use Rattle.rgo_reader.specs.Agrees.{leaf_at}
use Rattle.rgo_parser.specs.Headers.{for_header}

-- after the word `if`; only its place matters
abbrev pub if_at : ℕ → Leaf → List Lexeme → Read Stmt
if_at n i l = reading.if_stmt n (leaf_at i.at) l

-- after the word `for`
abbrev pub for_at : ℕ → Leaf → List Lexeme → Read Stmt
for_at n i l = for_header (expr true n 1) l >>= λ h. reading.looped (reading.block n) i h.0 h.1 h.2

-- the empty statement leaves nothing in the list
abbrev pub stmt_list_of : Option CodeStmt → List Stmt
stmt_list_of None = []
stmt_list_of (Some s) = stmt_of s ∷ []

-- statements that were read whole, or the kind of statement that begins at a place
pub data Leading : Type 0 where
  Whole : List Stmt → Leading
  Block : ℕ → Leading
  IfAt : ℕ → Leading
  ForAt : ℕ → Leading

abbrev pub leading_of : CodeLeading → Leading
leading_of code_leading.Empty = Whole []
leading_of (code_leading.Whole s) = Whole (stmt_of s ∷ [])
leading_of (code_leading.Block at) = Block at
leading_of (code_leading.If at) = IfAt at
leading_of (code_leading.For at) = ForAt at

abbrev pub one_leading : Stmt → Leading
one_leading s = Whole (s ∷ [])

abbrev pub leading_by : ℕ → Terminal → Leaf → List Lexeme → List Lexeme → Read Leading
leading_by n OpenBrace i l m = Done (Block i.at) m
leading_by n If i l m = Done (IfAt i.at) m
leading_by n For i l m = Done (ForAt i.at) m
leading_by n Go i l m = reading.going n (expr false n 1) i m >>= yielding one_leading
leading_by n Var i l m = reading.vars n (expr false n 1) i m >>= yielding one_leading
leading_by n Return i l m = reading.return_on (expr false n 1) i m (next_lexeme m) >>= yielding one_leading
leading_by n Break i l m = Done (one_leading (tree.Break i.at)) m
leading_by n Continue i l m = Done (one_leading (tree.Continue i.at)) m
leading_by n Semicolon i l m = Done (Whole []) l
leading_by n _ i l m = reading.defining (expr false n 1) l >>= yielding one_leading

abbrev pub leading_on : ℕ → List Lexeme → Option (Lexeme × List Lexeme) → Read Leading
leading_on n l None = Failed (At l)
leading_on n l (Some x) = leading_by n x.0.terminal x.0.leaf l x.1

abbrev pub leading : ℕ → List Lexeme → Read Leading
leading n l = leading_on n l (next_lexeme l)

-- after the block of an `if`
abbrev pub after_else_by : Terminal → Leaf → List Lexeme → List Lexeme → Read CodeElse
after_else_by If i l m = Done (code_else.If i.at) m
after_else_by _ i l m = Done (code_else.Block i.at) l

abbrev pub after_else_on : List Lexeme → Option (Lexeme × List Lexeme) → Read CodeElse
after_else_on l None = Failed (At l)
after_else_on l (Some x) = after_else_by x.0.terminal x.0.leaf l x.1

abbrev pub else_word_by : Terminal → List Lexeme → List Lexeme → Read CodeElse
else_word_by Else l m = after_else_on m (next_lexeme m)
else_word_by _ l m = Done code_else.None l

abbrev pub else_word_on : List Lexeme → Option (Lexeme × List Lexeme) → Read CodeElse
else_word_on l None = Done code_else.None l
else_word_on l (Some x) = else_word_by x.0.terminal l x.1

abbrev pub else_word : List Lexeme → Read CodeElse
else_word l = else_word_on l (next_lexeme l)
