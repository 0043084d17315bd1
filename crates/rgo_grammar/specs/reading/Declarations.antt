-- Reading declarations and whole programs.
use Rattle.std.specs.Prelude.{ℕ, zero, suc, List, [], ◌∷◌, ◌++◌, Option, Some, None}
use Rattle.rgo_ast.specs.declared.names.ImportPath.{ImportPath}
use Rattle.rgo_ast.specs.Tree as tree
use Rattle.rgo_ast.specs.Tree.{Binding, TypeSpec, Function}
use Rattle.rgo_lexer.specs.{declared.terminals.Terminal.{Terminal, TheVariants.{Name, Main, Text, OpenParen, CloseParen}}, declared.terminals.Terminal.TheVariants.{OpenBrace, CloseBrace, Comma, Semicolon, Package}, declared.terminals.Terminal.TheVariants.{Import, TypeWord, Struct, Var, Func}, Lexemes.{Leaf, Lexeme, ident, path}}
use Rattle.rgo_grammar.specs.reading.{Read.{Reader, Read, Done, Failed, At, Starving, ◌>>=◌, yielding, next_lexeme, token, single, several}, Types.{a_type, a_binding, bindings}, Statements.{block}}

-- one item, or a group of them in parentheses
abbrev pub group_by : {A : Type 0} → Reader A → ℕ → Terminal → List Lexeme
    → List Lexeme → Read (List A)
group_by item n OpenParen l m = several Semicolon CloseParen item n [] m >>= yielding (λ x. x.0)
group_by item n _ l m = single (item l)

abbrev pub group_on : {A : Type 0} → Reader A → ℕ → List Lexeme
    → Option (Lexeme × List Lexeme) → Read (List A)
group_on item n l None = Failed (At l)
group_on item n l (Some x) = group_by item n x.0.terminal l x.1

abbrev pub group : {A : Type 0} → Reader A → ℕ → List Lexeme → Read (List A)
group item n l = group_on item n l (next_lexeme l)

abbrev pub import_path : List Lexeme → Read ImportPath
import_path l = token Text l >>= yielding path

abbrev pub import_decl : ℕ → Leaf → List Lexeme → Read tree.Import
import_decl n i l = group import_path n l >>= yielding (λ ps. record { paths = ps; at = i.at })

abbrev pub struct : Leaf → List Binding → TypeSpec
struct i fs = record { name = ident i; fields = fs }

abbrev pub type_spec : ℕ → List Lexeme → Read TypeSpec
type_spec n l =
    token Name l >>= λ i w. token Struct w >>= λ _ u. token OpenBrace u >>= λ _ v. bindings
    Semicolon CloseBrace n v >>= yielding (λ x. struct i x.0)

-- the type of a function's result, up to the block
abbrev pub result_by : ℕ → Terminal → List Lexeme → Read (Option tree.TypeExpr)
result_by n OpenBrace l = Done None l
result_by n _ l = a_type n l >>= yielding (λ t. Some t)

abbrev pub result_on : ℕ → List Lexeme → Option (Lexeme × List Lexeme) → Read (Option tree.TypeExpr)
result_on n l None = Failed (At l)
result_on n l (Some x) = result_by n x.0.terminal l

abbrev pub function : Leaf → Leaf → List Binding → Option tree.TypeExpr
    → List tree.Stmt → Leaf → tree.Decl
function i j ps r b end =
    tree.Func (record
    { name = ident j; params = ps; result_type = r; body = b; at = i.at; end = end.at })

abbrev pub func : ℕ → Leaf → List Lexeme → Read tree.Decl
func n i l =
    token Name l >>= λ j w. token OpenParen w >>= λ _ u. bindings Comma CloseParen n u >>= λ ps v.
    result_on n v (next_lexeme v) >>= λ r y. block n y >>= yielding (λ b. function i j ps.0 r b.0 b.1)

abbrev pub decl_by : ℕ → Terminal → Leaf → List Lexeme → List Lexeme → Read tree.Decl
decl_by n TypeWord i l m = group (type_spec n) n m >>= yielding (λ ss. tree.Types ss i.at)
decl_by n Var i l m = group (a_binding n) n m >>= yielding (λ bs. tree.Vars bs i.at)
decl_by n Func i l m = func n i m
decl_by n _ i l m = Failed (At l)

abbrev pub decl_on : ℕ → List Lexeme → Option (Lexeme × List Lexeme) → Read tree.Decl
decl_on n l None = Failed (At l)
decl_on n l (Some x) = decl_by n x.0.terminal x.0.leaf l x.1

abbrev pub decls_on : ℕ → (List tree.Decl → Reader (List tree.Decl)) → List tree.Decl → List Lexeme
    → Option (Lexeme × List Lexeme) → Read (List tree.Decl)
decls_on n again found l None = Done found l
decls_on n again found l (Some x) =
    decl_by n x.0.terminal x.0.leaf l x.1 >>= λ d w. token Semicolon w >>= λ _.
    again (found ++ d ∷ [])

-- declarations up to the end, each read with the first bound, appended to those found so far
unfoldable pub decls : ℕ → ℕ → List tree.Decl → List Lexeme → Read (List tree.Decl)
decls n zero found l = Failed Starving
decls n (suc m) found l = decls_on n (decls n m) found l (next_lexeme l)

abbrev pub imports_by : ℕ → (List tree.Import → Reader (List tree.Import)) → List tree.Import
    → Terminal → Leaf → List Lexeme → List Lexeme → Read (List tree.Import)
imports_by n again found Import i l m =
    import_decl n i m >>= λ d w. token Semicolon w >>= λ _. again (found ++ d ∷ [])
imports_by n again found _ i l m = Done found l

abbrev pub imports_on : ℕ → (List tree.Import → Reader (List tree.Import)) → List tree.Import
    → List Lexeme → Option (Lexeme × List Lexeme) → Read (List tree.Import)
imports_on n again found l None = Done found l
imports_on n again found l (Some x) = imports_by n again found x.0.terminal x.0.leaf l x.1

unfoldable pub imports : ℕ → ℕ → List tree.Import → List Lexeme → Read (List tree.Import)
imports n zero found l = Failed Starving
imports n (suc m) found l = imports_on n (imports n m) found l (next_lexeme l)

abbrev pub head : List Lexeme → Read Leaf
head l = token Package l >>= λ _ w. token Main w >>= λ _ u. token Semicolon u

abbrev pub program : ℕ → List Lexeme → Read (List tree.Import × List tree.Decl)
program n l =
    head l >>= λ _ w. imports n n [] w >>= λ is u. decls n n [] u >>= yielding (λ ds. (is, ds))
