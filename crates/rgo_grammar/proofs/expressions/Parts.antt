-- Parts of expressions in the grammar are read as their trees if expressions are: `new ( .. )` and `make ( .. )`, items of lists, and
-- the literals around them.
use Rattle.std.proofs.Common.{◌≡◌, ℕ, suc, inr, true, false, List, ◌∷◌, ◌++◌, refl, ap, arith, [], ◌<◌}
use Rattle.rgo_ast.specs.declared.names.Ident.{Ident}
use Rattle.rgo_ast.specs.Tree.{elements_of}
use Rattle.rgo_ast.specs.Tree as tree
use Rattle.rgo_lexer.specs.{declared.terminals.Terminal.{Terminal, TheVariants.{Name, CloseParen, Comma, CloseBrace, Colon}}, Lexemes.{Leaf, Lexeme, tok, ident, is_same_terminal}}
use Rattle.rgo_grammar.specs.Grammar.{IsMakeEnd, IsElements, IsMakeEnd.{plain, comma}, IsElements.{no_element, last_element, more_elements}}
use Rattle.rgo_grammar.specs.reading.{Read.{Reader, Done, ◌>>=◌, yielding}, Expressions.{make_end, capacity, capacity_by, sized_chan, expr, elements_from, elements}}
use Rattle.rgo_grammar.proofs.reading.Complete.{Meets, meets_then}
use Rattle.rgo_grammar.proofs.expressions.{Starts.{Starts, starts, level_of, Closes, paren_closes, brace_closes}, Ends.{EndsExpr, ReadsAs, posts}, Literals.{keyed_list}}

make_end_done : {z : List Lexeme} → IsMakeEnd z → (l : List Lexeme)
    → (j : Leaf) × (make_end (z ++ l) ≡ Done j l)
make_end_done (plain j) l = (j, refl)
make_end_done (comma i j) l = (j, refl)

make_end_ends : {z : List Lexeme} → IsMakeEnd z → (l : List Lexeme) → EndsExpr (z ++ l)
make_end_ends (plain j) l = (omega arith, refl)
make_end_ends (comma i j) l = (omega arith, refl)

-- an expression and the end
pub ended_value : (y : List Lexeme) (v : tree.Expr) {z : List Lexeme} (f : tree.Expr → tree.Expr)
    (n : ℕ) (l : List Lexeme) → ReadsAs y v → IsMakeEnd z
    → Meets (expr false n 1 (y ++ (z ++ l)) >>= λ u w. make_end w >>= yielding (λ _. f u))
    (Done (f v) l)
ended_value y v {z} f n l h e =
    let g = make_end_done e l in
    meets_then _ (h n (z ++ l) (make_end_ends e l)) (inr (ap (λ r. r >>= yielding (λ _. f v)) g.1))

-- ---- make ( chan Type [ , Expr ] [,] )

pub sized_end : (inner : Reader tree.Expr) (t : tree.TypeExpr) (i : Leaf) {z : List Lexeme}
    → IsMakeEnd z → (l : List Lexeme)
    → sized_chan inner t i (z ++ l) ≡ Done (tree.MakeChan t tree.no_capacity i.at) l
sized_end inner t i (plain j) l = refl
sized_end inner t i (comma c j) l = refl

capacity_else : (inner : Reader tree.Expr) (t : tree.TypeExpr) (i : Leaf) (k : Terminal)
    (l m : List Lexeme) → starts k ≡ true
    → capacity_by inner t i k l m
    ≡ (inner l >>= λ v w. make_end w >>= yielding (λ _. tree.MakeChan t (tree.a_capacity v) i.at))
capacity_else inner t i CloseParen l m h = cc
capacity_else inner t i _ l m h = refl

pub capacity_at : (inner : Reader tree.Expr) (t : tree.TypeExpr) (i : Leaf) (l : List Lexeme)
    → Starts l → capacity inner t i l
    ≡ (inner l >>= λ v w. make_end w >>= yielding (λ _. tree.MakeChan t (tree.a_capacity v) i.at))
capacity_at inner t i [] h = absurd h
capacity_at inner t i (u ∷ l) h = capacity_else inner t i u.terminal (u ∷ l) l h

-- what may close a list of expressions
pub record Closer (closer : Terminal) : Type 0 where
  pub closes : Closes closer
  pub other : is_same_terminal closer Comma ≡ false
  pub loose : level_of closer < 1
  pub unposted : posts closer ≡ false

pub paren_closer : Closer CloseParen
paren_closer = record { closes = paren_closes; other = refl; loose = omega arith; unposted = refl }

pub brace_closer : Closer CloseBrace
brace_closer = record { closes = brace_closes; other = refl; loose = omega arith; unposted = refl }

pub elements_keyed : {y : List Lexeme} {e : Ident × tree.Expr} {es : List (Ident × tree.Expr)}
    (t : List (Ident × tree.Expr)) → IsElements y t → t ≡ e ∷ es → (l : List Lexeme)
    → (i c : Leaf) × (m : List Lexeme) × (y ++ l ≡ tok Name i ∷ tok Colon c ∷ m)
elements_keyed t (no_element j) q l = cc
elements_keyed t (last_element i c j {x} {v} h) q l =
    (i, c, (x ++ tok CloseBrace j ∷ []) ++ l, refl)
elements_keyed t (more_elements i c j {x} {y} {v} {vs} h d) q l =
    (i, c, (x ++ tok Comma j ∷ y) ++ l, refl)

pub keyed_here : (n : ℕ) (inner : Reader tree.Expr) (i j : Leaf) (l : List Lexeme)
    → ((a c : Leaf) × (m : List Lexeme) × (l ≡ tok Name a ∷ tok Colon c ∷ m))
    → elements n inner i j l
    ≡ (elements_from (suc n) inner [] l >>= yielding
    (λ x. tree.Keyed (ident j) (elements_of x.0) i.at))
keyed_here n inner i j l (a, c, m, e) =
    rw e (keyed_list n inner i j (tok Name a) (tok Colon c ∷ m) refl)
