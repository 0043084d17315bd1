-- Simple statements and declarations of local variables in the grammar are read as their trees if expressions are.
use Rattle.std.proofs.Common.{◌≡◌, inr, Bool, true, false, List, [], ◌∷◌, ◌++◌, refl, append_assoc, arith, ℕ, ◌⊎◌, inl}
use Rattle.rgo_ast.specs.Tree as tree
use Rattle.rgo_ast.specs.declared.ops.AssignOp.TheVariants as assign_op
use Rattle.rgo_lexer.specs.{declared.terminals.Terminal.{Terminal, TheVariants.{Name, Arrow, Define, Assign, Step, OpenBrace, CloseBrace, Semicolon, OpenParen, CloseParen, Comma}}, Lexemes.{Leaf, Lexeme, tok, is_same_terminal, ident}}
use Rattle.rgo_grammar.specs.Grammar.{IsExpr, IsSimple, IsType, IsLocalVar, Listed, IsSimple.{plain, send, step as stepped, assign, define}, IsNames.{one as one_name, more as more_names}, IsType.{named, pointer, slice, chan}, IsBinding.{binding as of_names}, IsLocalVar.{zero as zeroed, typed, inferred}}
use Rattle.rgo_grammar.specs.reading.{Read.{Reader, Read, Done, next_lexeme, ◌>>=◌, yielding, single}, Statements.{simple_by, simple_on, valued, named_by, named_on, defining_by, defining, initial_by, initial, local_var_on, local_var, vars_on}, Types.{a_type, binding_with}}
use Rattle.rgo_grammar.proofs.reading.{Complete.{Meets, meets_bind, meets_then, Opens, listed_complete}, Next.{IsNext, NotNext, begins_append, next_other}}
use Rattle.rgo_grammar.proofs.types.Complete.{type_complete, binding_complete}
use Rattle.rgo_grammar.proofs.expressions.{Starts.{Starts, expr_starts}, Second.{Apart, name_then, SecondNot, second_append, second_not}, Ends.{EndsExpr}}

-- what a simple statement and a declaration of local variables end before
abbrev pub ends : Terminal → Bool
ends Semicolon = true
ends CloseParen = true
ends CloseBrace = true
ends OpenBrace = true
ends _ = false

abbrev pub Ends : List Lexeme → Type 0
Ends = IsNext ends

ends_by : (k : Terminal) (i : Leaf) (l : List Lexeme) → ends k ≡ true → EndsExpr (tok k i ∷ l)
ends_by Semicolon i l h = (omega arith, refl)
ends_by CloseParen i l h = (omega arith, refl)
ends_by CloseBrace i l h = (omega arith, refl)
ends_by OpenBrace i l h = (omega arith, refl)
ends_by _ i l h = cc

pub ends_expr : (l : List Lexeme) → Ends l → EndsExpr l
ends_expr [] h = absurd h
ends_expr (t ∷ l) h = ends_by t.terminal t.leaf l h

-- a reader of expressions that reads each in the grammar
abbrev pub ReadsExprs : Bool → Reader tree.Expr → Type 0
ReadsExprs h value =
    (x : List Lexeme) (v : tree.Expr) → IsExpr h 1 x v → (l : List Lexeme) → EndsExpr l
    → Meets (value (x ++ l)) (Done v l)

define_apart : Apart (is_same_terminal Define)
define_apart = record { dot = refl; bracket = refl; paren = refl; operator = λ o. refl }

abbrev Undefined : List Lexeme → Type 0
Undefined l = SecondNot (is_same_terminal Define) l

expr_undefined : {h : Bool} {x : List Lexeme} {v : tree.Expr} (z : List Lexeme) → IsExpr h 1 x v
    → NotNext (is_same_terminal Define) z → Undefined (x ++ z)
expr_undefined {x = x} z e h =
    second_append (is_same_terminal Define) x z (expr_starts e) (second_not (is_same_terminal Define) define_apart e) h

ends_undefined : (k : Terminal) → ends k ≡ true → is_same_terminal Define k ≡ false
ends_undefined Define h = cc
ends_undefined _ h = refl

pub simple_starts : {h d : Bool} {x : List Lexeme} {s : tree.Stmt} → IsSimple h d x s
    → (l : List Lexeme) → Starts (x ++ l)
simple_starts (plain {x} e) l = begins_append _ x l (expr_starts e)
simple_starts (send i {x} {y} e g) l =
    rw append_assoc (begins_append _ x (tok Arrow i ∷ (y ++ l)) (expr_starts e))
simple_starts (stepped o i {x} e) l =
    rw append_assoc (begins_append _ x (tok (Step o) i ∷ l) (expr_starts e))
simple_starts (assign o i {x} {y} e g) l =
    rw append_assoc (begins_append _ x (tok (Assign o) i ∷ (y ++ l)) (expr_starts e))
simple_starts (define i j {x} e) l = refl

module _ (value : Reader tree.Expr) where
  simple_end_by : (a : tree.Expr) (k : Terminal) (i : Leaf) (l m : List Lexeme) → ends k ≡ true
      → simple_by value a k i l m ≡ Done (tree.Plain a) l
  simple_end_by a Arrow i l m h = cc
  simple_end_by a (Step o) i l m h = cc
  simple_end_by a (Assign o) i l m h = cc
  simple_end_by a _ i l m h = refl

  simple_end : (a : tree.Expr) (l : List Lexeme) → Ends l
      → simple_on value a l (next_lexeme l) ≡ Done (tree.Plain a) l
  simple_end a [] h = absurd h
  simple_end a (t ∷ l) h = simple_end_by a t.terminal t.leaf (t ∷ l) l h

  second_by : (i : Leaf) (k : Terminal) (j : Leaf) (l m : List Lexeme) → is_same_terminal Define k ≡ false
      → named_by value i k j l m ≡ valued value l
  second_by i Define j l m h = cc
  second_by i _ j l m h = refl

  second_on : (i : Leaf) (l m : List Lexeme) → NotNext (is_same_terminal Define) m
      → named_on value i l (next_lexeme m) ≡ valued value l
  second_on i l [] h = refl
  second_on i l (t ∷ m) h = second_by i t.terminal t.leaf l m h

  undefined_by : (k : Terminal) (i : Leaf) (l m : List Lexeme) → name_then (is_same_terminal Define) k m
      → defining_by value k i l m ≡ valued value l
  undefined_by Name i l m h = second_on i l m h
  undefined_by _ i l m h = refl

  undefined_at : (l : List Lexeme) → Starts l → Undefined l → defining value l ≡ valued value l
  undefined_at [] h u = absurd h
  undefined_at (t ∷ l) h u = undefined_by t.terminal t.leaf (t ∷ l) l u

  module _ (h : Bool) (value_done : ReadsExprs h value) where
    -- one that may be no definition
    pub valued_complete : {x : List Lexeme} {s : tree.Stmt} → IsSimple h false x s
        → (l : List Lexeme) → Ends l → Meets (valued value (x ++ l)) (Done s l)
    valued_complete (plain {x} {v} e) l d =
        meets_then _ (value_done x v e l (ends_expr l d)) (inr (simple_end v l d))
    valued_complete (send i {x} {y} {a} {b} e g) l d =
        rw append_assoc
        (meets_then _ (value_done x a e (tok Arrow i ∷ (y ++ l)) (omega arith, refl))
        (meets_bind _ (value_done y b g l (ends_expr l d))))
    valued_complete (stepped o i {x} {v} e) l d =
        rw append_assoc (meets_bind _ (value_done x v e (tok (Step o) i ∷ l) (omega arith, refl)))
    valued_complete (assign o i {x} {y} {a} {b} e g) l d =
        rw append_assoc
        (meets_then _ (value_done x a e (tok (Assign o) i ∷ (y ++ l)) (omega arith, refl))
        (meets_bind _ (value_done y b g l (ends_expr l d))))

    undefined : {x : List Lexeme} {s : tree.Stmt} → IsSimple h false x s → (l : List Lexeme)
        → Ends l → Undefined (x ++ l)
    undefined (plain e) l d = expr_undefined l e (next_other l d ends_undefined)
    undefined (send i {x} {y} e g) l d =
        rw append_assoc (expr_undefined (tok Arrow i ∷ (y ++ l)) e refl)
    undefined (stepped o i e) l d = rw append_assoc (expr_undefined (tok (Step o) i ∷ l) e refl)
    undefined (assign o i {x} {y} e g) l d =
        rw append_assoc (expr_undefined (tok (Assign o) i ∷ (y ++ l)) e refl)

    no_definition : {x : List Lexeme} {s : tree.Stmt} → IsSimple h false x s → (l : List Lexeme)
        → Ends l → Meets (defining value (x ++ l)) (Done s l)
    no_definition {x} p l d =
        rw (undefined_at (x ++ l) (simple_starts p l) (undefined p l d)) (valued_complete p l d)

    pub simple_complete : {x : List Lexeme} {s : tree.Stmt} → IsSimple h true x s
        → (l : List Lexeme) → Ends l → Meets (defining value (x ++ l)) (Done s l)
    simple_complete (plain e) l d = no_definition (plain e) l d
    simple_complete (send i e g) l d = no_definition (send i e g) l d
    simple_complete (stepped o i e) l d = no_definition (stepped o i e) l d
    simple_complete (assign o i e g) l d = no_definition (assign o i e g) l d
    simple_complete (define i j {x} {v} e) l d = meets_bind _ (value_done x v e l (ends_expr l d))

-- ---- declarations of local variables

module _ (n : ℕ) (value : Reader tree.Expr) (value_done : ReadsExprs false value) where
  initial_end_by : (i : Leaf) (t : tree.TypeExpr) (k : Terminal) (j : Leaf) (l m : List Lexeme)
      → ends k ≡ true → initial_by value i t k j l m ≡ Done (tree.Zero (binding_with (ident i ∷ []) t)) l
  initial_end_by i t (Assign assign_op.Plain) j l m h = cc
  initial_end_by i t _ j l m h = refl

  initial_end : (i : Leaf) (t : tree.TypeExpr) (l : List Lexeme) → Ends l
      → initial value i t l (next_lexeme l) ≡ Done (tree.Zero (binding_with (ident i ∷ []) t)) l
  initial_end i t [] h = absurd h
  initial_end i t (u ∷ l) h = initial_end_by i t u.terminal u.leaf (u ∷ l) l h

  type_at : (i : Leaf) {x : List Lexeme} {t : tree.TypeExpr} → IsType x t → (l : List Lexeme)
      → local_var_on n value i (x ++ l) (next_lexeme (x ++ l))
      ≡ (a_type n (x ++ l) >>= λ t w. initial value i t w (next_lexeme w))
  type_at i (named j) l = refl
  type_at i (pointer j k) l = refl
  type_at i (slice j k h) l = refl
  type_at i (chan j h) l = refl

  value_given : {x : List Lexeme} {v : tree.Expr} → IsExpr false 1 x v
      → (f : tree.Expr → tree.LocalVar) (l : List Lexeme) → Ends l
      → Meets (value (x ++ l) >>= yielding f) (Done (f v) l)
  value_given {x} {v} e f l h = meets_bind _ (value_done x v e l (ends_expr l h))

  type_then : (i : Leaf) {x : List Lexeme} {t : tree.TypeExpr} → IsType x t
      → (l : List Lexeme) (r : Read tree.LocalVar) → Meets (initial value i t l (next_lexeme l)) r
      → Meets (local_var n value (tok Name i ∷ (x ++ l))) r
  type_then i {x} {t} h l r g = rw (type_at i h l) (meets_then _ (type_complete x t h n l) g)

  pub local_complete : {x : List Lexeme} {v : tree.LocalVar} → IsLocalVar x v → (l : List Lexeme)
      → Ends l → Meets (local_var n value (x ++ l)) (Done v l)
  local_complete (zeroed (of_names {t = t} (one_name i) h)) l e =
      type_then i h l (Done (tree.Zero (binding_with (ident i ∷ []) t)) l) (inr (initial_end i t l e))
  local_complete (zeroed (of_names {y = y} {t = t} (more_names i j {x} {ns} g) h)) l e =
      meets_bind _
      (binding_complete (tok Name i ∷ tok Comma j ∷ (x ++ y)) (binding_with (ident i ∷ ns) t)
      (of_names (more_names i j g) h) n l)
  local_complete (typed i j {x} {y} {t} {v} h g) l e =
      rw append_assoc
      (type_then i h (tok (Assign assign_op.Plain) j ∷ (y ++ l))
      (Done (tree.Typed (ident i) t v j.at) l)
      (value_given g (λ u. tree.Typed (ident i) t u j.at) l e))
  local_complete (inferred i j {y} {v} g) l e =
      value_given g (λ u. tree.Inferred (ident i) u j.at) l e

  local_opens : (x : List Lexeme) (v : tree.LocalVar) → IsLocalVar x v → Opens CloseParen x
  local_opens _ _ (zeroed (of_names (one_name i) t)) = refl
  local_opens _ _ (zeroed (of_names (more_names i j h) t)) = refl
  local_opens _ _ (typed i j h e) = refl
  local_opens _ _ (inferred i j e) = refl

  local_reads : (x : List Lexeme) (v : tree.LocalVar) → IsLocalVar x v
      → (k : Terminal) (j : Leaf) (l : List Lexeme) → (k ≡ Semicolon) ⊎ (k ≡ CloseParen)
      → Meets (local_var n value (x ++ tok k j ∷ l)) (Done v (tok k j ∷ l))
  local_reads x v h k j l (inl e) = local_complete h (tok k j ∷ l) (rw e refl)
  local_reads x v h k j l (inr e) = local_complete h (tok k j ∷ l) (rw e refl)

  -- after `var`
  one_at : {x : List Lexeme} {v : tree.LocalVar} → IsLocalVar x v → (l : List Lexeme)
      → vars_on n value (x ++ l) (next_lexeme (x ++ l)) ≡ single (local_var n value (x ++ l))
  one_at (zeroed (of_names (one_name i) t)) l = refl
  one_at (zeroed (of_names (more_names i j h) t)) l = refl
  one_at (typed i j h e) l = refl
  one_at (inferred i j e) l = refl

  pub one_complete : {x : List Lexeme} {v : tree.LocalVar} → IsLocalVar x v → (l : List Lexeme)
      → Ends l → Meets (vars_on n value (x ++ l) (next_lexeme (x ++ l))) (Done (v ∷ []) l)
  one_complete h l e = rw (one_at h l) (meets_bind _ (local_complete h l e))

  pub vars_complete : (i : Leaf) {y : List Lexeme} {vs : List tree.LocalVar}
      → Listed IsLocalVar Semicolon CloseParen y vs → (l : List Lexeme)
      → Meets (vars_on n value (tok OpenParen i ∷ (y ++ l)) (next_lexeme (tok OpenParen i ∷ (y ++ l))))
      (Done vs l)
  vars_complete i {y} {vs} d l =
      let h = listed_complete Semicolon CloseParen refl IsLocalVar (local_var n value) local_opens
      local_reads d n [] l in
      meets_bind _ h.1
