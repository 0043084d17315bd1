-- What is proved of the grammar: what it derives is read as its tree. And how such facts are put together. Each fact is stated up to a
-- bound on the turns that was too small; that the bound is large enough is proved once, for whole programs, by correctness (Whole).
use Rattle.std.proofs.Common.{◌≡◌, ℕ, zero, suc, ◌⊎◌, inl, inr, false, List, [], ◌∷◌, ◌++◌, refl, ◌∙◌, ap, append_assoc, append-nil, Bool, true, not}
use Rattle.rgo_lexer.specs.{declared.terminals.Terminal.{Terminal}, Lexemes.{Leaf, Lexeme, tok, is_same_terminal}}
use Rattle.rgo_grammar.specs.Grammar.{Listed, Listed.{none, last, more}}
use Rattle.rgo_grammar.specs.reading.Read.{several, Reader, Read, Done, Failed, Starving, ◌>>=◌, list_rest, listed, single}
use Rattle.rgo_grammar.proofs.machine.Table.{same_self, closer}
use Rattle.rgo_grammar.proofs.reading.Next.{IsNext, begins_append}

-- the same, unless the bound on the turns was too small
abbrev pub Meets : {A : Type 0} → Read A → Read A → Type 0
Meets x y = (x ≡ Failed Starving) ⊎ (x ≡ y)

pub meets_trans : {A : Type 0} {x y z : Read A} → Meets x y → Meets y z → Meets x z
meets_trans (inl e) g = inl e
meets_trans (inr e) (inl g) = inl (e ∙ g)
meets_trans (inr e) (inr g) = inr (e ∙ g)

pub meets_bind : {A B : Type 0} {x y : Read A} (f : A → Reader B) → Meets x y
    → Meets (x >>= f) (y >>= f)
meets_bind f (inl e) = inl (ap (λ u. u >>= f) e)
meets_bind f (inr e) = inr (ap (λ u. u >>= f) e)

-- what is read first, and then what is read after it
pub meets_then : {A B : Type 0} {x : Read A} {a : A} {w : List Lexeme} (f : A → Reader B)
    {z : Read B} → Meets x (Done a w) → Meets (f a w) z → Meets (x >>= f) z
meets_then f h g = meets_trans (meets_bind f h) g

pub bind_assoc : {A B C : Type 0} (m : Read A) (f : A → Reader B) (g : B → List Lexeme → Read C)
    → ((m >>= f) >>= g) ≡ (m >>= λ a w. f a w >>= g)
bind_assoc (Done a w) f g = refl
bind_assoc (Failed s) f g = refl

-- a token comes first that does not close
abbrev pub Opens : Terminal → List Lexeme → Type 0
Opens closer = IsNext (λ k. not (is_same_terminal closer k))

pub not_true : (b : Bool) → not b ≡ true → b ≡ false
not_true true h = cc
not_true false h = refl

module _ {A : Type 0} (separator closer : Terminal) (other : is_same_terminal closer separator ≡ false)
    (item : Reader (List A)) where
  pub listed_none : (n : ℕ) (found : List A) (j : Leaf) (l : List Lexeme)
      → Meets (listed separator closer item n found (tok closer j ∷ l)) (Done (found, j) l)
  unfolding listed
  listed_none zero found j l = inl refl
  listed_none (suc n) found j l = inr (rw same_self refl)

  listed_open : (n : ℕ) (found : List A) (l : List Lexeme) → Opens closer l
      → listed separator closer item (suc n) found l
      ≡ (item l >>= λ a. list_rest separator closer (listed separator closer item n) (found ++ a))
  unfolding listed
  listed_open n found [] o = absurd o
  listed_open n found (t ∷ l) o = rw (not_true (is_same_terminal closer t.terminal) o) refl

  pub listed_last : (n : ℕ) (found a : List A) (j : Leaf) (x l : List Lexeme)
      → Opens closer (x ++ tok closer j ∷ l)
      → Meets (item (x ++ tok closer j ∷ l)) (Done a (tok closer j ∷ l))
      → Meets (listed separator closer item n found (x ++ tok closer j ∷ l))
      (Done (found ++ a, j) l)
  unfolding listed
  listed_last zero found a j x l o h = inl refl
  listed_last (suc n) found a j x l o h =
      rw (listed_open n found (x ++ tok closer j ∷ l) o) (meets_then _ h (inr (rw same_self refl)))

  pub listed_more : (n : ℕ) (found a : List A) (i : Leaf) (x l : List Lexeme)
      → Opens closer (x ++ tok separator i ∷ l)
      → Meets (item (x ++ tok separator i ∷ l)) (Done a (tok separator i ∷ l))
      → (m : ℕ) × Meets (listed separator closer item n found (x ++ tok separator i ∷ l))
      (listed separator closer item m (found ++ a) l)
  unfolding listed
  listed_more zero found a i x l o h = (0, inl refl)
  listed_more (suc n) found a i x l o h = (
    n,
    rw (listed_open n found (x ++ tok separator i ∷ l) o)
        (meets_then _ h (inr (rw (other, same_self) refl))),
  )

-- items that are read one by one
module _ {A : Type 0} (separator closer : Terminal) (other : is_same_terminal closer separator ≡ false)
    (item : Reader A) where
  pub items_none : (n : ℕ) (found : List A) (j : Leaf) (l : List Lexeme)
      → (j' : Leaf) × Meets (several separator closer item n found (tok closer j ∷ l))
      (Done (found ++ [], j') l)
  unfolding several
  items_none n found j l =
      (j, rw append-nil (listed_none separator closer other (λ m. single (item m)) n found j l))

  pub items_last : (n : ℕ) (found : List A) (a : A) (j : Leaf) (x l : List Lexeme) → Opens closer x
      → Meets (item (x ++ tok closer j ∷ l)) (Done a (tok closer j ∷ l))
      → (j' : Leaf) × Meets (several separator closer item n found (x ++ tok closer j ∷ l))
      (Done (found ++ a ∷ [], j') l)
  unfolding several
  items_last n found a j x l o h = (
    j,
    listed_last separator closer other
        (λ m. single (item m)) n found (a ∷ []) j x l
        (begins_append _ x (tok closer j ∷ l) o) (meets_bind _ h),
  )

  pub items_more : (n : ℕ) (found all : List A) (a : A) (i : Leaf) (x y l : List Lexeme)
      → Opens closer x
      → Meets (item (x ++ tok separator i ∷ (y ++ l))) (Done a (tok separator i ∷ (y ++ l)))
      → ((m : ℕ) (f : List A)
      → (j : Leaf) × Meets (several separator closer item m f (y ++ l)) (Done (f ++ all, j) l))
      → (j : Leaf) × Meets (several separator closer item n found (x ++ tok separator i ∷ (y ++ l)))
      (Done (found ++ a ∷ all, j) l)
  unfolding several
  items_more n found all a i x y l o h again =
      let one = listed_more separator closer other
      (λ m. single (item m)) n found (a ∷ []) i x (y ++ l)
      (begins_append _ x (tok separator i ∷ (y ++ l)) o) (meets_bind _ h) in
      let rest = again one.0 (found ++ a ∷ []) in
      let rest' = rw append_assoc at rest.1 in
      (rest.0, meets_trans one.1 rest')

-- a list in the grammar is read as its items, if each item is that is followed by a separator or by
-- what closes the list
module _ {A : Type 0} (separator closer : Terminal) (other : is_same_terminal closer separator ≡ false)
    (Item : List Lexeme → A → Type 0)
    (item : Reader A)
    (opens : (x : List Lexeme) (a : A) → Item x a → Opens closer x)
    (reads : (x : List Lexeme) (a : A) → Item x a → (k : Terminal) (j : Leaf) (l : List Lexeme)
    → (k ≡ separator) ⊎ (k ≡ closer)
    → Meets (item (x ++ tok k j ∷ l)) (Done a (tok k j ∷ l))) where
  pub listed_complete : {y : List Lexeme} {all : List A} → Listed Item separator closer y all
      → (n : ℕ) (found : List A) (l : List Lexeme)
      → (j : Leaf) × Meets (several separator closer item n found (y ++ l))
      (Done (found ++ all, j) l)
  listed_complete (none j) n found l = items_none separator closer other item n found j l
  listed_complete (last j {x} {a} h) n found l =
      rw append_assoc
      (items_last separator closer other item n found a j x l (opens x a h)
      (reads x a h closer j l (inr refl)))
  listed_complete (more i {x} {y} {a} {all} h d) n found l =
      rw append_assoc
      (items_more separator closer other item n found all a i x y l (opens x a h)
      (reads x a h separator i (y ++ l) (inl refl)) (λ m f. listed_complete d m f l))
