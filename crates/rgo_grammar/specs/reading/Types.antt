-- Reading names and types. They contain no expression, so they are outside the cycles of the other reading functions.
use Rattle.std.specs.Prelude.{ℕ, zero, suc, List, [], ◌∷◌, ◌++◌, Option, Some, None}
use Rattle.rgo_ast.specs.declared.ops.BinaryOp.TheVariants as op
use Rattle.rgo_ast.specs.declared.names.Ident.{Ident}
use Rattle.rgo_ast.specs.Tree as tree
use Rattle.rgo_ast.specs.Tree.{Binding}
use Rattle.rgo_lexer.specs.{declared.terminals.Terminal.{Terminal, TheVariants.{Name, Binary, OpenBracket, CloseBracket, Comma}}, declared.terminals.Terminal.TheVariants.{Chan}, Lexemes.{Leaf, Lexeme, ident}}
use Rattle.rgo_grammar.specs.reading.Read.{Reader, Read, Done, Failed, At, Starving, ◌>>=◌, yielding, next_lexeme, token, several}

abbrev pub type_by : Reader tree.TypeExpr → Terminal → Leaf → List Lexeme
    → List Lexeme → Read tree.TypeExpr
type_by inner Name i l m = Done (tree.Named (ident i)) m
type_by inner (Binary op.Mul) i l m = token Name m >>= yielding (λ j. tree.Pointer (ident j) i.at)
type_by inner OpenBracket i l m =
    token CloseBracket m >>= λ _ w. inner w >>= yielding (λ t. tree.Slice t i.at)
type_by inner Chan i l m = inner m >>= yielding (λ t. tree.Chan t i.at)
type_by inner _ i l m = Failed (At l)

abbrev pub type_on : Reader tree.TypeExpr → List Lexeme
    → Option (Lexeme × List Lexeme) → Read tree.TypeExpr
type_on inner l None = Failed (At l)
type_on inner l (Some x) = type_by inner x.0.terminal x.0.leaf l x.1

unfoldable pub a_type : ℕ → List Lexeme → Read tree.TypeExpr
a_type zero l = Failed Starving
a_type (suc n) l = type_on (a_type n) l (next_lexeme l)

abbrev pub names_by : (List Ident → Reader (List Ident)) → List Ident → Terminal → List Lexeme
    → List Lexeme → Read (List Ident)
names_by again found Comma l m = token Name m >>= λ j. again (found ++ ident j ∷ [])
names_by again found _ l m = Done found l

abbrev pub names_on : (List Ident → Reader (List Ident)) → List Ident → List Lexeme
    → Option (Lexeme × List Lexeme) → Read (List Ident)
names_on again found l None = Done found l
names_on again found l (Some x) = names_by again found x.0.terminal l x.1

-- more names of a list, appended to those found so far
unfoldable pub names : ℕ → List Ident → List Lexeme → Read (List Ident)
names zero found l = Failed Starving
names (suc n) found l = names_on (names n) found l (next_lexeme l)

abbrev pub binding_with : List Ident → tree.TypeExpr → Binding
binding_with ns t = record { names = ns; ty = t }

-- more names of a list and their type, appended to those found so far
abbrev pub typed_names : ℕ → List Ident → List Lexeme → Read Binding
typed_names n found l = names n found l >>= λ ns w. a_type n w >>= yielding (binding_with ns)

abbrev pub a_binding : ℕ → List Lexeme → Read Binding
a_binding n l = token Name l >>= λ i. typed_names n (ident i ∷ [])

abbrev pub bindings : Terminal → Terminal → ℕ → List Lexeme → Read (List Binding × Leaf)
bindings separator closer n l = several separator closer (a_binding n) n [] l
