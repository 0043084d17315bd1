-- What an expression begins with, and the machine at the symbols of one.
use Rattle.std.proofs.Common.{◌≡◌, ℕ, ◌≤◌, Bool, true, false, List, [], ◌∷◌, ◌++◌, length, Some, refl, arith, ◌<◌, cond, not}
use Rattle.rgo_ast.specs.declared.ops.{BinaryOp.{BinaryOp}, UnaryOp.{UnaryOp}}
use Rattle.rgo_ast.specs.Tree as tree
use Rattle.rgo_ast.specs.declared.ops.AssignOp.TheVariants as assign_op
use Rattle.rgo_ast.specs.declared.ops.BinaryOp.TheVariants as op
use Rattle.rgo_lexer.specs.{Lexemes.{Leaf, Lexeme, tok, is_same_terminal}, declared.terminals.Terminal.{Terminal, TheVariants.{Binary, Assign, Name, New, Make, Number, Text, Bang, Ampersand, Arrow, OpenParen, CloseParen, OpenBracket, CloseBracket, CloseBrace, Dot}}}
use Rattle.rgo_grammar.specs.Grammar.{IsExpr.{unary, binary}, IsPrimary.{number, text, name, parens, new, make_slice, make_chan, make_sized, select, index, call}, IsUnary.{signed, literal, keyed, primary}, IsExpr, level, sign, IsUnary, IsPrimary}
use Rattle.rgo_grammar.specs.reading.Read.{Reader}
use Rattle.rgo_grammar.proofs.machine.{Table.{Sym, Unary, Bin, step, both}, Runs.{run, closes}}
use Rattle.rgo_grammar.proofs.reading.{Correct.{Empties}, Next.{IsNext, begins_append, next_also}}

-- the precedence of a token as a binary operator; 0 if it is not one
abbrev pub level_of : Terminal → ℕ
level_of (Binary o) = level o
level_of _ = 0

abbrev pub top : List Lexeme → ℕ
top [] = 0
top (t ∷ l) = level_of t.terminal

pub level_some : (o : BinaryOp) → 1 ≤ level o
level_some op.Or = omega arith
level_some op.And = omega arith
level_some _ = omega arith

abbrev pub starts : Terminal → Bool
starts (Binary op.Add) = true
starts (Binary op.Sub) = true
starts Bang = true
starts Arrow = true
starts Ampersand = true
starts (Number n) = true
starts Text = true
starts Name = true
starts OpenParen = true
starts New = true
starts Make = true
starts _ = false

abbrev pub Starts : List Lexeme → Type 0
Starts = IsNext starts

pub starts_some : (x : List Lexeme) → Starts x → 1 ≤ length x
starts_some [] h = absurd h
starts_some (t ∷ x) h = omega arith

-- no sign and no `&`
abbrev pub unsigned : Terminal → Bool
unsigned (Binary op.Add) = false
unsigned (Binary op.Sub) = false
unsigned Bang = false
unsigned Arrow = false
unsigned Ampersand = false
unsigned _ = true

sign_starts : (k : Terminal) (o : UnaryOp) → sign k ≡ Some o → starts k ≡ true
sign_starts (Binary op.Add) o h = refl
sign_starts (Binary op.Sub) o h = refl
sign_starts Bang o h = refl
sign_starts Arrow o h = refl
sign_starts _ o h = cc

-- what a primary expression begins with
abbrev pub operands : Terminal → Bool
operands k = cond (starts k) (unsigned k) false

pub primary_begins : {x : List Lexeme} {v : tree.Expr} → IsPrimary x v → IsNext operands x
primary_begins (number n i) = refl
primary_begins (text i) = refl
primary_begins (name i) = refl
primary_begins (parens i j f) = refl
primary_begins (new i j k m) = refl
primary_begins (make_slice i j k m c t f e) = refl
primary_begins (make_chan i j k t e) = refl
primary_begins (make_sized i j k c t f e) = refl
primary_begins (select i j {x} p) =
    begins_append _ x (tok Dot i ∷ tok Name j ∷ []) (primary_begins p)
primary_begins (index i j {x} {y} p f) =
    begins_append _ x (tok OpenBracket i ∷ (y ++ tok CloseBracket j ∷ [])) (primary_begins p)
primary_begins (call i {x} {y} p d) = begins_append _ x (tok OpenParen i ∷ y) (primary_begins p)

pub primary_starts : {x : List Lexeme} {v : tree.Expr} → IsPrimary x v → Starts x
primary_starts {x = x} p = next_also x (primary_begins p) (λ k e. (both e).0)

pub unary_starts : {h : Bool} {x : List Lexeme} {v : tree.Expr} → IsUnary h x v → Starts x
unary_starts (signed k o i {x} s u) = sign_starts k o s
unary_starts (literal i j k {y} d) = refl
unary_starts (keyed i j k {y} d) = refl
unary_starts (primary p) = primary_starts p

pub expr_starts : {h : Bool} {p : ℕ} {x : List Lexeme} {v : tree.Expr} → IsExpr h p x v → Starts x
expr_starts (unary u) = unary_starts u
expr_starts (binary o i {x} {y} l f g) = begins_append _ x (tok (Binary o) i ∷ y) (expr_starts f)

-- nothing that closes a list of expressions begins one
abbrev pub Closes : Terminal → Type 0
Closes k = (t : Terminal) → starts t ≡ true → not (is_same_terminal k t) ≡ true

pub paren_closes : Closes CloseParen
paren_closes CloseParen h = cc
paren_closes _ h = refl

pub brace_closes : Closes CloseBrace
brace_closes CloseBrace h = cc
brace_closes _ h = refl

-- ---- the machine

-- an expression in brackets is read as it should be at l
abbrev pub Reads : Reader tree.Expr → List Lexeme → Type 0
Reads inner l = Empties (Unary false ∷ Bin false ∷ []) (IsExpr false 1) l (inner l)

pub operator_run : (h : Bool) (o : BinaryOp) (i : Leaf) (l : List Lexeme) (s : List Sym)
    → run (tok (Binary o) i ∷ l) (Bin h ∷ s) ≡ run l (Unary h ∷ Bin h ∷ s)
unfolding run step
operator_run h op.Add i l s = refl
operator_run h op.Sub i l s = refl
operator_run h op.Mul i l s = refl
operator_run h op.Div i l s = refl
operator_run h op.Rem i l s = refl
operator_run h _ i l s = refl

bin_passes : (h : Bool) (k : Terminal) (i : Leaf) (l : List Lexeme) (s : List Sym) → level_of k < 1
    → run (tok k i ∷ l) (Bin h ∷ s) ≡ run (tok k i ∷ l) s
unfolding run step
bin_passes h (Binary o) i l s e = absurd (omega (arith, level_some o))
bin_passes h (Assign assign_op.Plain) i l s e = refl
bin_passes h _ i l s e = refl

-- if no operator comes next, none is waited for
pub bin_pops : (h : Bool) (w : List Lexeme) (s : List Sym) → top w < 1 → run w (Bin h ∷ s) ≡ run w s
unfolding run closes
bin_pops h [] s e = refl
bin_pops h (t ∷ w) s e = bin_passes h t.terminal t.leaf w s e
