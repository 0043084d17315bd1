-- Expressions of the grammar are read as their trees, before whatever does not continue them: an expression is read as far as possible,
-- so the same tokens before an operator or a `(` would be part of a larger one.
use Rattle.std.proofs.Common.{ℕ, zero, suc, ◌+◌, ◌≤◌, inl, inr, Bool, false, List, [], ◌∷◌, ◌++◌, refl, append_assoc, arith}
use Rattle.rgo_ast.specs.declared.names.Ident.{Ident}
use Rattle.rgo_ast.specs.Tree as tree
use Rattle.rgo_lexer.specs.{declared.terminals.Terminal.{Terminal, TheVariants.{Name, Binary, OpenParen, OpenBracket, CloseBracket, CloseBrace, Comma, Colon, Dot, CloseParen}}, Lexemes.{Leaf, Lexeme, tok, ident}}
use Rattle.rgo_grammar.specs.Grammar.{level, IsExpr, IsUnary, IsPrimary, IsExprs, IsElements, IsExpr.{unary as of_unary, binary}, IsUnary.{signed, literal, keyed, primary as of_primary}, IsPrimary.{number, text, name, parens, new, make_slice, make_chan, make_sized, select, index, call}, IsExprs.{none, last, more}, IsElements.{no_element, last_element, more_elements}}
use Rattle.rgo_grammar.specs.reading.{Read.{Done}, Expressions.{exprs, exprs_from, keyed_element, elements_from, expr, climb, unary, primary, post}}
use Rattle.rgo_grammar.proofs.machine.Table.{both}
use Rattle.rgo_grammar.proofs.reading.{Complete.{Meets, meets_trans, meets_bind, meets_then, items_last, items_more, items_none}, Next.{next_also, begins_append}}
use Rattle.rgo_grammar.proofs.types.Complete.{type_complete}
use Rattle.rgo_grammar.proofs.expressions.{Starts.{top, expr_starts, primary_begins}, Ends.{Unposted, EndsExpr, finished, operated, selected, indexed_at, called_at, post_done, signed_by, unsigned_at}, Parts.{Closer, brace_closer, paren_closer, capacity_at, elements_keyed, ended_value, keyed_here, sized_end}, Second.{exprs_unkeyed}}

mutual
  unfolding expr

  primary_complete : {x : List Lexeme} {v : tree.Expr} → IsPrimary x v → (n : ℕ) (l : List Lexeme)
      → (m : ℕ) × Meets (primary n (x ++ l)) (post m v l)
  primary_complete p zero l = (0, inl refl)
  primary_complete (number v i) (suc n) l = (n, inr refl)
  primary_complete (text i) (suc n) l = (n, inr refl)
  primary_complete (name i) (suc n) l = (n, inr refl)
  primary_complete (parens i j {x} {v} f) (suc n) l = (
    n,
    rw append_assoc
        (meets_bind _
        (meets_then _
        (finished false n x (omega arith, refl)
        (formula_complete f n 1 (tok CloseParen j ∷ l) (omega arith))) (inr refl))),
  )
  primary_complete (new i j k m) (suc n) l = (n, inr refl)
  primary_complete (make_slice i j k m c {x} {y} {z} {t} {v} h f e) (suc n) l = (
    n,
    rw (append_assoc, append_assoc)
        (meets_bind _
        (meets_then _ (type_complete x t h n (tok Comma c ∷ (y ++ (z ++ l))))
        (ended_value y v (λ u. tree.MakeSlice t u i.at) n l
        (λ m w g. finished false m y g (formula_complete f m 1 w (omega arith))) e))),
  )
  primary_complete (make_chan i j k {x} {z} {t} h e) (suc n) l = (
    n,
    rw append_assoc
        (meets_bind _
        (meets_then _ (type_complete x t h n (z ++ l)) (inr (sized_end (expr false n 1) t i e l)))),
  )
  primary_complete (make_sized i j k c {x} {y} {z} {t} {v} h f e) (suc n) l = (
    n,
    rw (append_assoc, append_assoc)
        (meets_bind {y = Done (tree.MakeChan t (tree.a_capacity v) i.at) l} _
        (meets_then _ (type_complete x t h n (tok Comma c ∷ (y ++ (z ++ l))))
        (rw (capacity_at (expr false n 1) t i (y ++ (z ++ l))
        (begins_append _ y (z ++ l) (expr_starts f)))
        (ended_value y v (λ u. tree.MakeChan t (tree.a_capacity u) i.at) n l
        (λ m w g. finished false m y g (formula_complete f m 1 w (omega arith))) e)))),
  )
  primary_complete (select i j {x} {v} p) (suc n) l =
      let h = primary_complete p (suc n) (tok Dot i ∷ tok Name j ∷ l) in
      let g = selected i j v h.0 l in (
        g.0,
        rw append_assoc (meets_trans h.1 g.1),
      )
  primary_complete (index i j {x} {y} {v} {w} p f) (suc n) l =
      let h = primary_complete p (suc n) (tok OpenBracket i ∷ (y ++ tok CloseBracket j ∷ l)) in
      let g = indexed_at i j v w y h.0 l
      (λ m u e. finished false m y e (formula_complete f m 1 u (omega arith))) in (
        g.0,
        rw (append_assoc, append_assoc) (meets_trans h.1 g.1),
      )
  primary_complete (call i {x} {y} {v} {vs} p d) (suc n) l =
      let h = primary_complete p (suc n) (tok OpenParen i ∷ (y ++ l)) in
      let g = called_at i v y vs h.0 l (λ m k. exprs_found d paren_closer m k [] l) in (
        g.0,
        rw append_assoc (meets_trans h.1 g.1),
      )

  unary_complete : {h : Bool} {x : List Lexeme} {v : tree.Expr} → IsUnary h x v
      → (n : ℕ) (l : List Lexeme) → Unposted l → Meets (unary h n (x ++ l)) (Done v l)
  unary_complete u zero l e = inl refl
  unary_complete (signed {header} k o i {x} {v} s u) (suc n) l e =
      rw (signed_by header n (expr false n 1) (unary header n) (primary n) k o i
      (tok k i ∷ (x ++ l)) (x ++ l) s) (meets_bind _ (unary_complete u n l e))
  unary_complete (literal i j k d) (suc n) l e =
      rw (exprs_unkeyed d l) (meets_bind _ (exprs_found d brace_closer n n [] l).1)
  unary_complete (keyed i j k {y} {e} {es} d) (suc n) l g =
      rw (keyed_here n (expr false n 1) i j (y ++ l) (elements_keyed (e ∷ es) d refl l))
      (meets_bind _ (elements_found d n (suc n) [] l).1)
  unary_complete (of_primary {header} {x} {v} p) (suc n) l e =
      let g = primary_complete p n l in
      rw (unsigned_at header n (x ++ l)
      (begins_append _ x l (next_also x (primary_begins p) (λ k e. (both e).1))))
      (meets_trans g.1 (post_done g.0 v l e))

  formula_complete : {h : Bool} {q : ℕ} {x : List Lexeme} {v : tree.Expr} → IsExpr h q x v
      → (n p : ℕ) (l : List Lexeme) → p ≤ q → top l ≤ q → Unposted l
      → (m : ℕ) × Meets (expr h n p (x ++ l)) (climb h m p v l)
  formula_complete f zero p l a t e = (0, inl refl)
  formula_complete (of_unary {header} {x} {v} u) (suc n) p l a t e =
      (n, meets_bind _ (unary_complete u n l e))
  formula_complete (binary {header} o i {x} {y} {a} {b} le f g) (suc n) p l s t e =
      let first = formula_complete f (suc n) p (tok (Binary o) i ∷ (y ++ l))
      (omega arith) (omega arith) refl in
      let rest = operated header p o i a b y first.0 l (omega arith) (omega arith)
      (λ m. formula_complete g m (level o + 1) l (omega arith) (omega arith) e) in (
        rest.0,
        rw append_assoc (meets_trans first.1 rest.1),
      )

  -- after those that were found
  pub exprs_found : {closer : Terminal} {y : List Lexeme} {vs : List tree.Expr}
      → IsExprs closer y vs → Closer closer → (m n : ℕ) (found : List tree.Expr) (l : List Lexeme)
      → (j : Leaf) × Meets (exprs_from closer n (expr false m 1) found (y ++ l))
      (Done (found ++ vs, j) l)
  exprs_found (none {closer} j) c m n found l =
      items_none Comma closer c.other (expr false m 1) n found j l
  exprs_found (last {closer} j {x} {v} f) c m n found l =
      let h = finished false m x (c.loose, c.unposted)
      (formula_complete f m 1 (tok closer j ∷ l) (omega arith)) in
      rw append_assoc
      (items_last Comma closer c.other (expr false m 1) n found v j x l
      (next_also x (expr_starts f) c.closes) h)
  exprs_found (more {closer} j {x} {y} {v} {vs} f d) c m n found l =
      let h = finished false m x (omega arith, refl)
      (formula_complete f m 1 (tok Comma j ∷ (y ++ l)) (omega arith)) in
      rw append_assoc
      (items_more Comma closer c.other (expr false m 1) n found vs v j x y l
      (next_also x (expr_starts f) c.closes) h (λ k us. exprs_found d c m k us l))

  elements_found : {y : List Lexeme} {es : List (Ident × tree.Expr)} → IsElements y es
      → (m n : ℕ) (found : List (Ident × tree.Expr)) (l : List Lexeme)
      → (j : Leaf) × Meets (elements_from n (expr false m 1) found (y ++ l))
      (Done (found ++ es, j) l)
  elements_found (no_element j) m n found l =
      items_none Comma CloseBrace refl (keyed_element (expr false m 1)) n found j l
  elements_found (last_element i c j {x} {v} f) m n found l =
      let h = meets_bind _
      (finished false m x (omega arith, refl)
      (formula_complete f m 1 (tok CloseBrace j ∷ l) (omega arith))) in
      rw append_assoc
      (items_last Comma CloseBrace refl (keyed_element (expr false m 1)) n found (ident i, v) j
      (tok Name i ∷ tok Colon c ∷ x) l refl h)
  elements_found (more_elements i c j {x} {y} {v} {vs} f d) m n found l =
      let h = meets_bind _
      (finished false m x (omega arith, refl)
      (formula_complete f m 1 (tok Comma j ∷ (y ++ l)) (omega arith))) in
      rw append_assoc
      (items_more Comma CloseBrace refl (keyed_element (expr false m 1)) n found vs (ident i, v) j
      (tok Name i ∷ tok Colon c ∷ x) y l refl h (λ k us. elements_found d m k us l))

pub expr_complete : {h : Bool} {x : List Lexeme} {v : tree.Expr} → IsExpr h 1 x v
    → (n : ℕ) (l : List Lexeme) → EndsExpr l → Meets (expr h n 1 (x ++ l)) (Done v l)
expr_complete {h} {x} f n l e = finished h n x e (formula_complete f n 1 l (omega arith))

pub exprs_complete : {closer : Terminal} {y : List Lexeme} {vs : List tree.Expr}
    → IsExprs closer y vs → Closer closer → (m n : ℕ) (l : List Lexeme)
    → (j : Leaf) × Meets (exprs closer n (expr false m 1) (y ++ l)) (Done (vs, j) l)
exprs_complete d c m n l = exprs_found d c m n [] l
