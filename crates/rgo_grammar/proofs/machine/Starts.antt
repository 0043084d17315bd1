-- What the machine does at a symbol, by the symbol's row: it takes a token, stops, or does the same as at another symbol. Proofs about
-- reading cite these, so that none of them unfolds the table.
use Rattle.std.proofs.Common.{◌≡◌, Bool, true, false, cond, List, [], ◌∷◌, ◌++◌, Option, Some, None, refl, append_assoc}
use Rattle.rgo_lexer.specs.{declared.terminals.Terminal.{Terminal}, Lexemes.{Leaf, Lexeme, tok, is_same_terminal}}
use Rattle.rgo_grammar.proofs.machine.{Table.{Sym, T, Bin, Post, Row, then_all, joined, post_row, bin_row, row, nullable, find, next, entered, step}, Runs.{Stopped, advance, run, closes}}

pub takes : (x : Sym) (k : Terminal) (a : List Sym) (i : Leaf) (l : List Lexeme) (s : List Sym)
    → next x k ≡ Some a → run (tok k i ∷ l) (x ∷ s) ≡ run l (a ++ s)
unfolding run step
takes x k a i l s e = rw e refl

pub refuses : (x : Sym) (t : Lexeme) (l : List Lexeme) (s : List Sym) → next x t.terminal ≡ None
    → nullable x ≡ false → run (t ∷ l) (x ∷ s) ≡ Stopped (t ∷ l)
unfolding run step
refuses x t l s e n = rw (e, n) refl

-- at the end of the list
pub stays : (x : Sym) (s : List Sym) → nullable x ≡ false → run [] (x ∷ s) ≡ Stopped []
unfolding run closes
stays x s n = rw n refl

-- what may be left out and does not take the next token
pub passes : (x : Sym) (t : Lexeme) (l : List Lexeme) (s : List Sym) → next x t.terminal ≡ None
    → nullable x ≡ true → run (t ∷ l) (x ∷ s) ≡ run (t ∷ l) s
unfolding run step
passes x t l s e n = rw (e, n) refl

-- two symbols that take the next token alike
pub alike : (x y : Sym) (t : Lexeme) (l : List Lexeme) (s : List Sym)
    → next x t.terminal ≡ next y t.terminal → nullable x ≡ nullable y
    → run (t ∷ l) (x ∷ s) ≡ run (t ∷ l) (y ∷ s)
unfolding run step
alike x y t l s e n = rw (e, n) refl

-- one kind of token begins it
pub one_start : (x : Sym) (k : Terminal) (a : List Sym) (t : Lexeme) (m : List Lexeme)
    (s : List Sym) → next x t.terminal ≡ cond (is_same_terminal k t.terminal) (Some a) None → nullable x ≡ false
    → run (t ∷ m) (x ∷ s) ≡ run (t ∷ m) (T k ∷ (a ++ s))
unfolding run step
one_start x k a t m s e n =
    rw (e, n) (elim (is_same_terminal k t.terminal) as
    (λ v. advance (run m) (Stopped (t ∷ m)) (entered (cond v (Some a) None) s None) ≡ advance
    (run m) (Stopped (t ∷ m)) (entered (cond v (Some []) None) (a ++ s) None))
    [ true ↦ refl | false ↦ refl ])

-- a row, each entry of which has more after it, and another row
entered_joined : (k : Terminal) (r q : Row) (after s : List Sym) (other : Option (List Sym))
    → entered (find k (joined (then_all r after) q)) s other ≡ entered (find k r) (after ++ s)
    (entered (find k q) s other)
entered_joined k [] q after s other = refl
entered_joined k ((j, a) ∷ r) q after s other =
    elim (is_same_terminal j k) as
    (λ v. entered (cond v (Some (a ++ after)) (find k (joined (then_all r after) q))) s other
    ≡ entered (cond v (Some a) (find k r)) (after ++ s) (entered (find k q) s other)) [
      | true ↦ rw append_assoc refl
      | false ↦ entered_joined k r q after s other
    ]

pub entered_then : (k : Terminal) (r : Row) (after s : List Sym)
    → entered (find k (then_all r after)) s None ≡ entered (find k r) (after ++ s) None
entered_then k [] after s = refl
entered_then k ((j, a) ∷ r) after s =
    elim (is_same_terminal j k) as
    (λ v. entered (cond v (Some (a ++ after)) (find k (then_all r after))) s None ≡ entered
    (cond v (Some a) (find k r)) (after ++ s) None)
    [ true ↦ rw append_assoc refl | false ↦ entered_then k r after s ]

-- what another begins with begins it, with more after that
pub starts_as : (x y : Sym) (after : List Sym) (t : Lexeme) (m : List Lexeme) (s : List Sym)
    → next x t.terminal ≡ find t.terminal (then_all (row y) after) → nullable x ≡ false
    → nullable y ≡ false → run (t ∷ m) (x ∷ s) ≡ run (t ∷ m) (y ∷ (after ++ s))
unfolding run step
starts_as x y after t m s e n o = rw (e, n, o, entered_then t.terminal (row y) after s) refl

-- x after a name that begins an expression, where the expression is followed by y and one kind of
-- token is for x alone
pub after_name : (h : Bool) (x y : Sym) (t : Lexeme) (m : List Lexeme) (s : List Sym)
    → nullable x ≡ nullable y
    → next x t.terminal ≡ find t.terminal
    (joined (then_all post_row (Bin h ∷ y ∷ [])) (joined (then_all (bin_row h) (y ∷ [])) (row y)))
    → run (t ∷ m) (x ∷ s) ≡ run (t ∷ m) (Post ∷ Bin h ∷ y ∷ s)
unfolding run step
after_name h x y t m s n e =
    rw (
      e,
      entered_joined t.terminal post_row (joined (then_all (bin_row h) (y ∷ [])) (row y))
          (Bin h ∷ y ∷ []) s (cond (nullable x) (step s t.terminal) None),
      entered_joined t.terminal (bin_row h) (row y) (y ∷ []) s
          (cond (nullable x) (step s t.terminal) None),
      n,
    ) refl

pub name_ends : (h : Bool) (x y : Sym) (s : List Sym) → nullable x ≡ nullable y
    → run [] (x ∷ s) ≡ run [] (Post ∷ Bin h ∷ y ∷ s)
unfolding run closes
name_ends h x y s n = rw n refl
