-- Histories: what a longer one replays, and whose accesses it has. Counting accesses of a goroutine is a sum, so it splits at every
-- append. From equal sums follows that the part that a seat has not seen has none of its own.
use Rattle.std.proofs.Common.{◌≡◌, ℕ, zero, suc, ◌+◌, ◌<◌, ◌≤◌, ◌≢◌, ◌==◌, cond, ltb, Bool, true, false, List, [], ◌∷◌, ◌++◌, Option, Some, None, length, set, slice_index, if◌then◌else◌, refl, ap, sym, ◌∙◌, arith, append_assoc}
use mathlib.Core.Option.{some, some-injective, some-ne-none}
use mathlib.Core.List.{IsPrefix}
use lib.ListN.{get_elem?}
use Rattle.std.proofs.lemmas.Bool.Decides.{nat_tests}
use Rattle.std.proofs.lemmas.List.Sums.{sum_by-append}
use Rattle.rgo_core_rule.specs.Histories.{Sound, access, glance, replay, is_number, accesses_by}
use Rattle.rgo_core_rule.specs.Views.{longer}
use Rattle.rgo_core_rule.specs.declared.accesses.Access.{Access}
use Rattle.rgo_core_rule.specs.declared.accesses.Kind.{Kind}

-- ---- what it leaves

pub replay_append : (words : List ℕ) (xs ys : List Access) → replay words (xs ++ ys) ≡ replay (replay words xs) ys
replay_append words [] ys = refl
replay_append words (x ∷ xs) ys = replay_append (set words x.word x.left) xs ys

pub sound_more : (words : List ℕ) (xs : List Access) (a : Access) → Sound words xs → a.found ≡ slice_index (replay words xs) a.word
    → Sound words (xs ++ a ∷ [])
sound_more words [] a s f = (f, tt)
sound_more words (x ∷ xs) a s f = (s.0, sound_more (set words x.word x.left) xs a s.1 f)

pub sound_rest : (words : List ℕ) (xs ys : List Access) → Sound words (xs ++ ys) → Sound (replay words xs) ys
sound_rest words [] ys s = s
sound_rest words (x ∷ xs) ys s = sound_rest (set words x.word x.left) xs ys s.1

pub seen_more : (xs history : List Access) (a : Access) → IsPrefix xs history → IsPrefix xs (history ++ a ∷ [])
seen_more xs history a p = (p.0 ++ a ∷ [], sym (append_assoc xs p.0 (a ∷ [])) ∙ ap (λ (z : List Access). z ++ a ∷ []) p.1)

-- ---- whose accesses it has

abbrev one_if : Bool → ℕ
one_if t = cond t 1 0

pub by_append : (g : ℕ) (xs ys : List Access) → accesses_by g (xs ++ ys) ≡ accesses_by g xs + accesses_by g ys
by_append g xs ys = sum_by-append (λ (a : Access). one_if (is_number g a.by)) xs ys

cond_same : (g h : ℕ) → g ≡ h → one_if (g == h) ≡ 1
cond_same g h e = go (g == h) (grind (arith, nat_tests))
  where
    go : (t : Bool) → t ≡ true → one_if t ≡ 1
    go t e = rw e refl

cond_other : (g h : ℕ) → g ≢ h → one_if (g == h) ≡ 0
cond_other g h e = go (g == h) (grind (arith, nat_tests))
  where
    go : (t : Bool) → t ≡ false → one_if t ≡ 0
    go t e = rw e refl

pub by_own : (g : ℕ) (kind : Kind) (i n x : ℕ) → accesses_by g (access g kind i n x ∷ []) ≡ 1
by_own g kind i n x = let e = cond_same g g refl in omega arith

pub by_another : (g h : ℕ) (kind : Kind) (i n x : ℕ) → g ≢ h → accesses_by h (access g kind i n x ∷ []) ≡ 0
by_another g h kind i n x ne = let e = cond_other g h ne in omega arith

pub by_none : (g : ℕ) (xs : List Access) (kind : Kind) (n : ℕ) → accesses_by g (xs ++ glance kind n ∷ []) ≡ accesses_by g xs
by_none g xs kind n = by_append g xs (glance kind n ∷ []) ∙ omega arith

not_one : (x : Access) (g : ℕ) → (x.by ≡ Some g → ⊥) → accesses_by g (x ∷ []) ≡ 0
not_one x g h = let e = go x.by h in omega arith
  where
    go : (o : Option ℕ) → (o ≡ Some g → ⊥) → one_if (is_number g o) ≡ 0
    go None h = refl
    go (Some k) h = cond_other k g (λ e. h (ap Some e))

-- who made no access of the list
pub by_nobody : (xs : List Access) (g : ℕ) → ((i : ℕ) (a : Access) → get_elem? xs i ≡ some a → a.by ≡ Some g → ⊥) → accesses_by g xs ≡ 0
by_nobody [] g h = refl
by_nobody (x ∷ xs) g h =
    let a = by_append g (x ∷ []) xs in
    let b = by_nobody xs g (λ i. h (suc i)) in
    let c = not_one x g (h 0 x refl) in
    omega arith

-- who made one
pub by_some : (xs : List Access) (g i : ℕ) (a : Access) → get_elem? xs i ≡ some a → a.by ≡ Some g → 0 < accesses_by g xs
by_some [] g i a e is = absurd (some-ne-none a (sym e))
by_some (x ∷ xs) g zero a e is =
    let b = by_append g (x ∷ []) xs in
    let c = go x.by (ap (λ (z : Access). z.by) (some-injective x a e) ∙ is) in
    omega arith
  where
    go : (o : Option ℕ) → o ≡ Some g → one_if (is_number g o) ≡ 1
    go o s = ap (λ (z : Option ℕ). one_if (is_number g z)) s ∙ cond_same g g refl
by_some (x ∷ xs) g (suc i) a e is = let b = by_append g (x ∷ []) xs in let c = by_some xs g i a e is in omega arith

pub by_prefix : (g : ℕ) (xs history : List Access) → IsPrefix xs history → accesses_by g xs ≤ accesses_by g history
by_prefix g xs history p = let a = by_append g xs p.0 in let e : accesses_by g (xs ++ p.0) ≡ accesses_by g history = ap
    (accesses_by g) p.1 in omega arith

-- ---- the longer of two beginnings of one history has the accesses of both

abbrev tail_of : List Access → List Access
tail_of [] = []
tail_of (x ∷ xs) = xs

by_longer : (g : ℕ) (xs ys r q : List Access) → xs ++ r ≡ ys ++ q → length xs ≤ length ys → accesses_by g xs ≤ accesses_by g ys
by_longer g [] ys r q e h = omega arith
by_longer g (x ∷ xs) [] r q e h = absurd (omega arith)
by_longer g (x ∷ xs) (y ∷ ys) r q e h =
    let same : x ≡ y = some-injective x y (ap (λ (l : List Access). get_elem? l 0) e) in
    let more = by_longer g xs ys r q (ap tail_of e) (omega arith) in
    let a = by_append g (x ∷ []) xs in
    let b = by_append g (y ∷ []) ys in
    let c : accesses_by g (x ∷ []) ≡ accesses_by g (y ∷ []) = ap (λ (z : Access). accesses_by g (z ∷ [])) same in
    omega arith

module _ (g : ℕ) (xs ys history : List Access) (p : IsPrefix xs history) (q : IsPrefix ys history) where
  pub longer_left : accesses_by g xs ≡ accesses_by g history → accesses_by g (longer xs ys) ≡ accesses_by g history
  longer_left e = go (ltb (length xs) (length ys)) refl
    where
      go : (b : Bool) → ltb (length xs) (length ys) ≡ b → accesses_by g (if b then ys else xs) ≡ accesses_by g history
      go true s = let m = by_longer g xs ys p.0 q.0 (p.1
          ∙ sym q.1) (let z : length xs < length ys = grind (arith, nat_tests) in omega arith) in let a = by_prefix g ys history q in omega arith
      go false s = e

  pub longer_right : accesses_by g ys ≡ accesses_by g history → accesses_by g (longer xs ys) ≡ accesses_by g history
  longer_right e = go (ltb (length xs) (length ys)) refl
    where
      go : (b : Bool) → ltb (length xs) (length ys) ≡ b → accesses_by g (if b then ys else xs) ≡ accesses_by g history
      go true s = e
      go false s = let m = by_longer g ys xs q.0 p.0 (q.1
          ∙ sym p.1) (let z : length ys ≤ length xs = grind (arith, nat_tests) in z) in let a = by_prefix g xs history p in omega arith

pub longer_prefix : (xs ys history : List Access) → IsPrefix xs history → IsPrefix ys history → IsPrefix (longer xs ys) history
longer_prefix xs ys history p q = go (ltb (length xs) (length ys))
  where
    go : (b : Bool) → IsPrefix (if b then ys else xs) history
    go true = q
    go false = p
