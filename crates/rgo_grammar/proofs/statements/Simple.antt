-- Reading simple statements is correct if reading expressions is. A statement that is an expression so far may still become a send or
-- an assignment, so the machine keeps a symbol for that after it, which the next token uses or drops.
use Rattle.std.proofs.Common.{◌≡◌, ℕ, ◌+◌, ◌≤◌, Bool, true, false, List, [], ◌∷◌, ◌++◌, length, Some, refl, ◌∙◌, append_assoc, append-nil, arith}
use Rattle.rgo_ast.specs.declared.ops.AssignOp.{AssignOp}
use Rattle.rgo_ast.specs.declared.ops.AssignOp.TheVariants as assign_op
use Rattle.rgo_ast.specs.Tree as tree
use Rattle.rgo_lexer.specs.{declared.terminals.Terminal.{Terminal, TheVariants.{Name, Arrow, Define, Assign, Step}}, Lexemes.{Leaf, Lexeme, tok, is_same_terminal}}
use Rattle.rgo_grammar.specs.Grammar.{IsExpr, IsSimple, IsSimple.{plain, send, step as stepped, assign, define}}
use Rattle.rgo_grammar.specs.reading.{Read.{Reader, Read, ◌>>=◌, yielding, next_lexeme}, Statements.{simple_by, simple_on, valued, named_by, named_on, defining}}
use Rattle.rgo_grammar.proofs.machine.{Table.{Context, alone, for_post, Sym, Unary, Bin, Tail, Named, Post, Block, header, rest, then_all, plain_row, row, nullable, find, next, step, after, starts_row}, Runs.{run, closes}, Starts.{takes, passes, alike, starts_as, after_name, name_ends}}
use Rattle.rgo_grammar.proofs.reading.{Next.{NotNext}, Correct.{Correct, token_read, same_start, correct_after, correct_bind, correct_given, correct_under, shorter, Empties, Correct.{done, stops}}}

-- a stack for a value in place of another, which the machine takes as the same at what comes next
pub correct_left : {A : Type 0} {from : List Sym} {to via : A → List Sym}
    {P Q : List Lexeme → A → List Lexeme → Type 0} {l : List Lexeme} {m : Read A}
    → Correct from to P l m
    → ((z : List Lexeme) (a : A) (w : List Lexeme) → P z a w
    → Q z a w × ((s : List Sym) → run w (to a ++ s) ≡ run w (via a ++ s))) → Correct from via Q l m
correct_left (done z {a} {w} c p h) g = let f = g z a w p in done z c f.0 (λ s. h s ∙ f.1 s)
correct_left (stops h) g = stops h

-- a reader of expressions that is correct on lists up to this length
abbrev pub Values : Bool → ℕ → Reader tree.Expr → Type 0
Values h m value =
    (l : List Lexeme) → length l ≤ m → Empties (Unary h ∷ Bin h ∷ []) (IsExpr h 1) l (value l)

-- what continues a simple statement that is an expression so far
abbrev pub tails : Terminal → Bool
tails Arrow = true
tails (Step o) = true
tails (Assign o) = true
tails _ = false

-- the stack after a simple statement: one that is an expression might have continued
abbrev pub leaves : Context → tree.Stmt → List Sym
leaves c (tree.Plain v) = Tail c ∷ []
leaves c _ = rest c

-- what is known of the tokens after it
abbrev pub Left : tree.Stmt → List Lexeme → Type 0
Left (tree.Plain v) w = NotNext tails w
Left _ w = Unit {0}

abbrev pub AtSimple : Context → Bool → List Lexeme → List Lexeme → tree.Stmt → List Lexeme → Type 0
AtSimple c d x z s w = IsSimple (header c) d (x ++ z) s × Left s w

assign_run : (c : Context) (o : AssignOp) (i : Leaf) (l : List Lexeme) (s : List Sym)
    → run (tok (Assign o) i ∷ l) (Tail c ∷ s) ≡ run l
    (Unary (header c) ∷ Bin (header c) ∷ (rest c ++ s))
unfolding run step
assign_run c assign_op.Plain i l s = refl
assign_run c _ i l s = refl

-- what begins an expression, except for names
starts_other : (h : Bool) (k : Terminal) (after named : List Sym) → is_same_terminal Name k ≡ false
    → find k (starts_row h after named) ≡ find k (then_all (row (Unary h)) after)
starts_other true k after named e = rw e refl
starts_other false k after named e = rw e refl

named_nullable : (c : Context) → nullable (Named c) ≡ nullable (Tail c)
named_nullable alone = refl
named_nullable _ = refl

module _ (c : Context) (m : ℕ) (value : Reader tree.Expr)
    (value_c : Values (header c) m value) where
  -- the last expression of a statement that is none
  part_correct : {Q : List Lexeme → tree.Stmt → List Lexeme → Type 0} {l : List Lexeme}
      (f : tree.Expr → tree.Stmt) → length l ≤ m
      → ((z : List Lexeme) (v : tree.Expr) (w : List Lexeme) → IsExpr (header c) 1 z v
      → Q z (f v) w × (leaves c (f v) ≡ rest c))
      → Correct (Unary (header c) ∷ Bin (header c) ∷ rest c) (leaves c) Q l (value l >>= yielding f)
  part_correct {Q = Q} {l = l} f b g =
      correct_left
      (correct_given {Q = λ z s w. Q z s w × (leaves c s ≡ rest c)} f
      (correct_under (rest c) (value_c l b)) g) (λ z s w h. (h.0, λ u. rw h.1 refl))

  simple_by_correct : (d : Bool) (x : List Lexeme) (a : tree.Expr) (k : Terminal) (i : Leaf)
      (l : List Lexeme) → length l ≤ m → IsExpr (header c) 1 x a
      → Correct (Tail c ∷ []) (leaves c) (AtSimple c d x) (tok k i ∷ l)
      (simple_by value a k i (tok k i ∷ l) l)
  unfolding run step
  simple_by_correct d x a Arrow i l b e =
      token_read (part_correct _ b (λ z v w g. ((send i e g, tt), refl))) (λ s. refl)
  simple_by_correct d x a (Step o) i l b e =
      done (tok (Step o) i ∷ []) refl (stepped o i e, tt) (λ s. refl)
  simple_by_correct d x a (Assign o) i l b e =
      token_read (part_correct _ b (λ z v w g. ((assign o i e g, tt), refl)))
      (λ s. assign_run c o i l s)
  simple_by_correct d x a _ i l b e = done [] refl (rw append-nil (plain e), refl) (λ s. refl)

  simple_on_correct : (d : Bool) (x : List Lexeme) (a : tree.Expr) (l : List Lexeme) → length l ≤ m
      → IsExpr (header c) 1 x a
      → Correct (Tail c ∷ []) (leaves c) (AtSimple c d x) l (simple_on value a l (next_lexeme l))
  simple_on_correct d x a [] b e = done [] refl (rw append-nil (plain e), tt) (λ s. refl)
  simple_on_correct d x a (t ∷ l) b e = simple_by_correct d x a t.terminal t.leaf l (omega arith) e

  pub valued_correct : (d : Bool) (l : List Lexeme) → length l ≤ m
      → Correct (Unary (header c) ∷ Bin (header c) ∷ Tail c ∷ []) (leaves c)
      (AtSimple c d []) l (valued value l)
  valued_correct d l b =
      correct_bind (correct_under (Tail c ∷ []) (value_c l b))
      (λ z a w e h. simple_on_correct d z a w (omega (arith, shorter l z w e)) h)

  -- a symbol X that begins a simple statement, with u under it
  module _ (X : Sym) (u : List Sym) (x_name : next X Name ≡ Some (Named c ∷ u))
      (x_stays : nullable X ≡ false) where
    as_value : (l : List Lexeme) → length l ≤ m
        → ((s : List Sym)
        → run l (X ∷ s) ≡ run l (Unary (header c) ∷ Bin (header c) ∷ Tail c ∷ (u ++ s)))
        → Correct (X ∷ []) (λ s. leaves c s ++ u) (AtSimple c true []) l (valued value l)
    as_value l b e = same_start (correct_under u (valued_correct true l b)) e

    name_run : (i : Leaf) (l : List Lexeme) (s : List Sym)
        → run l (Named c ∷ (u ++ s)) ≡ run l (Post ∷ Bin (header c) ∷ Tail c ∷ (u ++ s))
        → run (tok Name i ∷ l) (X ∷ s) ≡ run (tok Name i ∷ l)
        (Unary (header c) ∷ Bin (header c) ∷ Tail c ∷ (u ++ s))
    unfolding run step
    name_run i l s e = takes X Name (Named c ∷ u) i l s x_name ∙ e

    named_by_correct : (i : Leaf) (k : Terminal) (j : Leaf) (l : List Lexeme) → length l + 2 ≤ m
        → Correct (X ∷ [])
        (λ s. leaves c s ++ u) (AtSimple c true []) (tok Name i ∷ tok k j ∷ l)
        (named_by value i k j (tok Name i ∷ tok k j ∷ l) l)
    unfolding run step
    named_by_correct i Define j l b =
        correct_after (tok Name i ∷ tok Define j ∷ []) refl
        (correct_under u
        (part_correct _ (omega (arith, b)) (λ z v w g. ((define i j g, tt), refl))))
        (λ s. takes X Name (Named c ∷ u) i (tok Define j ∷ l) s x_name ∙ rw append_assoc refl)
    named_by_correct i k j l b =
        as_value (tok Name i ∷ tok k j ∷ l) (omega (arith, b))
        (λ s. name_run i (tok k j ∷ l) s
        (after_name (header c) (Named c) (Tail c) (tok k j) l (u ++ s) (named_nullable c) refl))

    named_on_correct : (i : Leaf) (l : List Lexeme) → length l + 1 ≤ m
        → Correct (X ∷ [])
        (λ s. leaves c s ++ u) (AtSimple c true []) (tok Name i ∷ l)
        (named_on value i (tok Name i ∷ l) (next_lexeme l))
    named_on_correct i [] b =
        as_value (tok Name i ∷ []) (omega (arith, b))
        (λ s. name_run i [] s (name_ends (header c) (Named c) (Tail c) (u ++ s) (named_nullable c)))
    named_on_correct i (t ∷ l) b = named_by_correct i t.terminal t.leaf l (omega (arith, b))

    pub defining_correct : (k : Terminal) (i : Leaf) (l : List Lexeme) → length l + 1 ≤ m
        → next X k ≡ find k (starts_row (header c) (Bin (header c) ∷ Tail c ∷ u) (Named c ∷ u))
        → Correct (X ∷ [])
        (λ s. leaves c s ++ u) (AtSimple c true []) (tok k i ∷ l) (defining value (tok k i ∷ l))
    defining_correct Name i l b e = named_on_correct i l b
    defining_correct k i l b e =
        as_value (tok k i ∷ l) (omega (arith, b))
        (λ s. starts_as X (Unary (header c)) (Bin (header c) ∷ Tail c ∷ u) (tok k i) l s
        (e ∙ starts_other (header c) k (Bin (header c) ∷ Tail c ∷ u) (Named c ∷ u) refl) x_stays
        refl)

-- ---- what is left of the stack, at what does not continue the statement

untailed : (c : Context) (k : Terminal) → tails k ≡ false → next (Tail c) k ≡ find k (plain_row c)
untailed c Arrow h = cc
untailed c (Step o) h = cc
untailed c (Assign o) h = cc
untailed c _ h = refl

-- after a statement that is alone nothing
left_alone : (st : tree.Stmt) (w : List Lexeme) (s : List Sym) → Left st w
    → run w (leaves alone st ++ s) ≡ run w s
unfolding run closes
left_alone (tree.Plain v) [] s h = refl
left_alone (tree.Plain v) (t ∷ w) s h = passes (Tail alone) t w s (untailed alone t.terminal h) refl
left_alone _ w s h = refl

pub alone_correct : {X : Sym} {u : List Sym} {d : Bool} {l : List Lexeme} {r : Read tree.Stmt}
    → Correct (X ∷ []) (λ s. leaves alone s ++ u) (AtSimple alone d []) l r
    → Correct (X ∷ []) (λ _. u) (λ z s w. IsSimple false d z s) l r
alone_correct {u = u} h =
    correct_left h (λ z st w g. (g.0, λ s. rw append_assoc (left_alone st w (u ++ s) g.1)))

-- after the last statement of a header a block
pub left_before_block : (st : tree.Stmt) (w : List Lexeme) (s : List Sym) → Left st w
    → run w (leaves for_post st ++ s) ≡ run w (Block ∷ s)
unfolding run closes
left_before_block (tree.Plain v) [] s h = refl
left_before_block (tree.Plain v) (t ∷ w) s h =
    alike (Tail for_post) Block t w s (untailed for_post t.terminal h) refl
left_before_block _ w s h = refl
