-- The longest word of a table that a text begins with. The definition compares all entries, and the code takes the first that fits: they
-- agree since no entry comes after a shorter one, which is checked by computing.
use Rattle.std.proofs.Common.{◌≡◌, ℕ, ◌+◌, ◌<◌, ◌≤◌, zero, suc, map, get_or, take, drop, Bool, true, false, cond, List, [], ◌∷◌, length, Option, Some, None, refl, sym, ap, ◌∙◌, arith, Contains, IfSome}
use Rattle.std.specs.Prelude.{nat_le}
use Rattle.std.specs.List.{list_all}
use Rattle.std.proofs.lemmas.List.{at_drop_more}
use Rattle.std.proofs.lemmas.Bool.{and_parts, leb-true, true≢false}
use Rattle.std.proofs.lemmas.Bool.Decides.{nat_tests}
use Rattle.rgo_lexer.specs.Bytes.{has_prefix}
use Rattle.rgo_lexer.specs.Operators.{longer_entry, longest_front, longer_first}
use Rattle.rgo_lexer.specs.declared.terminals.Terminal.{Terminal}
use Rattle.rgo_lexer.proofs.Begins.{begins_with-is, begins_with-length, begins_with-whole, begins_with-front}

-- what is found, by whether the text begins with the first entry
abbrev found_by : List ℕ × Terminal → Option (ℕ × Terminal) → Bool → Option (ℕ × Terminal)
found_by e found v = cond v (longer_entry e found) found

-- the same, by whether the entry is as long as what was found after it
abbrev longer_by : List ℕ × Terminal → ℕ × Terminal → Bool → Option (ℕ × Terminal)
longer_by e f v = cond v (Some (length e.0, e.1)) (Some f)

contains_later : (e : List ℕ × Terminal) (table : List (List ℕ × Terminal)) (f : List ℕ × Terminal)
    → Contains table f → Contains (e ∷ table) f
contains_later e table f c = (suc c.0, omega (arith, c.1), c.2)

some_same : (p q : ℕ × Terminal) → Some p ≡ Some q → (p.0 ≡ q.0) × (p.1 ≡ q.1)
some_same p q e = let same : p ≡ q = cc in (ap (λ x. x.0) same, ap (λ x. x.1) same)

-- the first n bytes of a text are an entry of the table with this terminal
abbrev pub IsFound : List (List ℕ × Terminal) → List ℕ → ℕ → Terminal → Type 0
IsFound table text n k = Contains table (take n text, k) × (n ≤ length text)

-- what is found is an entry
pub found_among : (table : List (List ℕ × Terminal)) (text : List ℕ) (n : ℕ) (k : Terminal)
    → longest_front table text ≡ Some (n, k) → IsFound table text n k
found_among [] text n k e = cc
found_among (e ∷ table) text n k found =
    by_test (has_prefix text e.0) refl (λ d. later (found_among table text n k d)) found
  where
    later : IsFound table text n k → IsFound (e ∷ table) text n k
    later c = (contains_later e table (take n text, k) c.0, c.1)

    this : has_prefix text e.0 ≡ true → longer_entry e None ≡ Some (n, k)
        → IsFound (e ∷ table) text n k
    this b d =
        let same = some_same (length e.0, e.1) (n, k) d in
        let word : e.0 ≡ take n text = sym (begins_with-is e.0 text b) ∙ ap (λ m. take m text) same.0 in
        let fits = begins_with-length e.0 text b in
        ((0, omega arith, rw (word, same.1) refl), omega (arith, same.0))

    by_length : has_prefix text e.0 ≡ true → (v : Bool) (f : ℕ × Terminal)
        → (Some f ≡ Some (n, k) → IsFound (e ∷ table) text n k) → longer_by e f v ≡ Some (n, k)
        → IsFound (e ∷ table) text n k
    by_length b true f ih d = this b d
    by_length b false f ih d = ih d

    by_found : has_prefix text e.0 ≡ true → (o : Option (ℕ × Terminal))
        → (o ≡ Some (n, k) → IsFound (e ∷ table) text n k) → longer_entry e o ≡ Some (n, k)
        → IsFound (e ∷ table) text n k
    by_found b None ih d = this b d
    by_found b (Some f) ih d = by_length b (nat_le f.0 (length e.0)) f ih d

    by_test : (v : Bool) → has_prefix text e.0 ≡ v
        → (longest_front table text ≡ Some (n, k) → IsFound (e ∷ table) text n k)
        → found_by e (longest_front table text) v ≡ Some (n, k) → IsFound (e ∷ table) text n k
    by_test true b ih d = by_found b (longest_front table text) ih d
    by_test false b ih d = ih d

-- something of m bytes or more is found
abbrev pub Covers : ℕ → Option (ℕ × Terminal) → Type 0
Covers m None = ⊥
Covers m (Some f) = m ≤ f.0

covers_this : (e : List ℕ × Terminal) (o : Option (ℕ × Terminal)) → Covers (length e.0) (longer_entry e o)
covers_this e None = omega arith
covers_this e (Some f) = by_test (nat_le f.0 (length e.0)) refl
  where
    by_test : (v : Bool) → nat_le f.0 (length e.0) ≡ v → Covers (length e.0) (longer_by e f v)
    by_test true d = omega arith
    by_test false d = grind (arith, nat_tests)

covers_later : (m : ℕ) (e : List ℕ × Terminal) (o : Option (ℕ × Terminal)) → Covers m o
    → Covers m (longer_entry e o)
covers_later m e None c = absurd c
covers_later m e (Some f) c = by_test (nat_le f.0 (length e.0)) refl
  where
    by_test : (v : Bool) → nat_le f.0 (length e.0) ≡ v → Covers m (longer_by e f v)
    by_test true d = let le : f.0 ≤ length e.0 = leb-true f.0 (length e.0) d in omega (arith, c)
    by_test false d = c

-- no entry that the text begins with is longer than what is found
pub found_longest : (table : List (List ℕ × Terminal)) (text : List ℕ) (f : List ℕ × Terminal)
    → Contains table f → has_prefix text f.0 ≡ true
    → Covers (length f.0) (longest_front table text)
found_longest table text f c b = at_place table c.0 c.1 c.2
  where
    at_place : (l : List (List ℕ × Terminal)) (k : ℕ) → k < length l → get_or l k f ≡ f
        → Covers (length f.0) (longest_front l text)
    at_place [] k lt i = absurd (omega arith)
    at_place (e ∷ l) zero lt i = rw (i, b) (covers_this f (longest_front l text))
    at_place (e ∷ l) (suc k) lt i = later (has_prefix text e.0) (at_place l k (omega arith) i)
      where
        later : (v : Bool) → Covers (length f.0) (longest_front l text)
            → Covers (length f.0) (found_by e (longest_front l text) v)
        later true ih = covers_later (length f.0) e (longest_front l text) ih
        later false ih = ih

abbrev pub IsAtMost : ℕ → Option (ℕ × Terminal) → Type 0
IsAtMost n o = IfSome o (λ f. f.0 ≤ n)

-- the longer of two is within a bound exactly where both are
parts_at_most : (n : ℕ) (e : List ℕ × Terminal) (o : Option (ℕ × Terminal))
    → IsAtMost n (longer_entry e o) → (length e.0 ≤ n) × IsAtMost n o
parts_at_most n e None h = (h, tt)
parts_at_most n e (Some f) h = by_test (nat_le f.0 (length e.0)) refl h
  where
    by_test : (v : Bool) → nat_le f.0 (length e.0) ≡ v → IsAtMost n (longer_by e f v)
        → (length e.0 ≤ n) × (f.0 ≤ n)
    by_test true d h =
        let le : f.0 ≤ length e.0 = leb-true f.0 (length e.0) d in (h, omega (arith, h))
    by_test false d h =
        let lt : length e.0 ≤ f.0 = grind (arith, nat_tests) in (omega (arith, h), h)

-- a front at least as long as what is found has the same longest entry
pub found-take : (table : List (List ℕ × Terminal)) (text : List ℕ) (n : ℕ)
    → IsAtMost n (longest_front table text)
    → longest_front table (take n text) ≡ longest_front table text
found-take [] text n h = refl
found-take (e ∷ table) text n h =
    by_test (has_prefix text e.0) (has_prefix (take n text) e.0) refl refl h
    (found-take table text n)
  where
    by_test : (v w : Bool) → has_prefix text e.0 ≡ v → has_prefix (take n text) e.0 ≡ w
        → IsAtMost n (found_by e (longest_front table text) v)
        → (IsAtMost n (longest_front table text)
        → longest_front table (take n text) ≡ longest_front table text)
        → found_by e (longest_front table (take n text)) w ≡ found_by e (longest_front table text) v
    by_test true true b c h ih =
        ap (longer_entry e) (ih (parts_at_most n e (longest_front table text) h).1)
    by_test true false b c h ih =
        absurd (true≢false (sym (begins_with-front e.0 text n
        (parts_at_most n e (longest_front table text) h).0 b) ∙ c))
    by_test false true b c h ih = absurd (true≢false (sym (begins_with-whole e.0 text n c) ∙ b))
    by_test false false b c h ih = ih h

longer_at_most : (n : ℕ) (e : List ℕ × Terminal) (o : Option (ℕ × Terminal)) → length e.0 ≤ n
    → IsAtMost n o → IsAtMost n (longer_entry e o)
longer_at_most n e None le h = le
longer_at_most n e (Some f) le h = by_test (nat_le f.0 (length e.0))
  where
    by_test : (v : Bool) → IsAtMost n (longer_by e f v)
    by_test true = le
    by_test false = h

at_most : (n : ℕ) (table : List (List ℕ × Terminal)) (text : List ℕ)
    → list_all (λ f. nat_le (length f.0) n) table ≡ true → IsAtMost n (longest_front table text)
at_most n [] text h = tt
at_most n (e ∷ table) text h =
    let parts = and_parts (nat_le (length e.0) n) (list_all (λ f. nat_le (length f.0) n) table) h in
    by_test (has_prefix text e.0) (leb-true (length e.0) n parts.0) (at_most n table text parts.1)
  where
    by_test : (v : Bool) → length e.0 ≤ n → IsAtMost n (longest_front table text)
        → IsAtMost n (found_by e (longest_front table text) v)
    by_test true le ih = longer_at_most n e (longest_front table text) le ih
    by_test false le ih = ih

longer_here : (e : List ℕ × Terminal) (o : Option (ℕ × Terminal)) → IsAtMost (length e.0) o
    → longer_entry e o ≡ Some (length e.0, e.1)
longer_here e None h = refl
longer_here e (Some f) h = by_test (nat_le f.0 (length e.0)) refl
  where
    by_test : (v : Bool) → nat_le f.0 (length e.0) ≡ v → longer_by e f v ≡ Some (length e.0, e.1)
    by_test true d = refl
    by_test false d = absurd (grind (arith, nat_tests))

-- in a table with the longer words first, the first that the text begins with is the longest
found_here : (e : List ℕ × Terminal) (table : List (List ℕ × Terminal)) (text : List ℕ)
    → longer_first (e ∷ table) ≡ true → has_prefix text e.0 ≡ true
    → longest_front (e ∷ table) text ≡ Some (length e.0, e.1)
found_here e table text order begins =
    let parts = and_parts (list_all (λ f. nat_le (length f.0) (length e.0)) table)
    (longer_first table) order in
    ap (found_by e (longest_front table text)) begins
    ∙ longer_here e (longest_front table text) (at_most (length e.0) table text parts.0)

-- the same of a table that is read up to place i
pub found_at : {X : Type 0} (g : X → List ℕ × Terminal) (table : List X) (i : ℕ) (d : X)
    (text : List ℕ) → i < length table → longer_first (map g (drop i table)) ≡ true
    → has_prefix text (g (get_or table i d)).0 ≡ true
    → longest_front (map g (drop i table)) text ≡ Some
    (length (g (get_or table i d)).0, (g (get_or table i d)).1)
found_at g table i d text lt order begins =
    let order' : longer_first
    (map g (get_or table i d ∷ drop (i + 1) table)) ≡ true = sym (at_drop_more
    (λ l. longer_first (map g l)) table i d lt) ∙ order in
    at_drop_more (λ l. longest_front (map g l) text) table i d lt
    ∙ found_here (g (get_or table i d)) (map g (drop (i + 1) table)) text order' begins

-- a test of each entry of a table holds of each that it contains
pub passes : (p : List ℕ × Terminal → Bool) (table : List (List ℕ × Terminal))
    (f : List ℕ × Terminal) → list_all p table ≡ true → Contains table f → p f ≡ true
passes p table f h c = at_place table h c.0 c.1 c.2
  where
    at_place : (l : List (List ℕ × Terminal)) → list_all p l ≡ true → (k : ℕ) → k < length l
        → get_or l k f ≡ f → p f ≡ true
    at_place [] h k lt i = absurd (omega arith)
    at_place (e ∷ l) h zero lt i = rw i at (and_parts (p e) (list_all p l) h).0
    at_place (e ∷ l) h (suc k) lt i =
        at_place l (and_parts (p e) (list_all p l) h).1 k (omega arith) i
