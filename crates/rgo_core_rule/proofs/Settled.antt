-- If every goroutine has looked and none has changed a word, the words are what all of them found. `still_by` carries it: an access
-- since then is by no goroutine, or by one whose record counts no access after its `front`. So it is in `front`, where that
-- goroutine has changed nothing.
use Rattle.std.proofs.Common.{◌≡◌, ℕ, zero, suc, List, [], ◌∷◌, ◌++◌, Option, Some, None, set, slice_index, refl, ap, sym, subst, ◌∙◌, ⊎_elim, arith, append_assoc}
use mathlib.Core.Option.{some, some-injective, some-ne-none}
use lib.ListN.{get_elem?}
use Rattle.rgo_core_rule.specs.Histories.{Sound, replay, accesses_by}
use Rattle.rgo_core_rule.specs.Passes.{ChangesNothing, HasLooked, TurnLooks}
use Rattle.rgo_core_rule.specs.Rule.{Closing}
use Rattle.rgo_core_rule.specs.declared.accesses.Access.{Access}
use Rattle.rgo_core_rule.specs.declared.accesses.View.{View}
use Rattle.rgo_core_rule.proofs.Histories.{by_append, by_some, replay_append, sound_rest}
use Rattle.rgo_core_rule.proofs.Lists.{append_at, at_append, below_at, cancel, set_own}

-- an access that changes nothing leaves the words as they were
same_words : (words : List ℕ) (a : Access) → a.found ≡ slice_index words a.word → a.left ≡ a.found → set words a.word a.left ≡ words
same_words words a found left = ap (set words a.word) (left ∙ found) ∙ set_own words a.word

replay_still : (since : List Access) (words : List ℕ) → Sound words since → ChangesNothing since → replay words since ≡ words
replay_still [] words s still = refl
replay_still (a ∷ since) words s still = replay_still since (set words a.word a.left) s.1 (λ i x q. still (suc i) x q)
    ∙ same_words words a s.0 (still 0 a refl)

found_still : (since : List Access) (words : List ℕ) (a : Access) → Sound words since → ChangesNothing since → (i : ℕ)
    → get_elem? since i ≡ some a → a.found ≡ slice_index words a.word
found_still [] words a s still i q = absurd (some-ne-none a (sym q))
found_still (x ∷ since) words a s still zero q = subst (λ (y : Access). y.found ≡ slice_index words y.word) (some-injective x a q) s.0
found_still (x ∷ since) words a s still (suc i) q =
    found_still since (set words x.word x.left) a s.1 (λ j y r. still (suc j) y r) i q
    ∙ ap (λ (l : List ℕ). slice_index l a.word) (same_words words x s.0 (still 0 x refl))

-- after a history that has all accesses of a goroutine none of its own follows
none_after : (g n : ℕ) (front rest history : List Access) → history ≡ front ++ rest → n ≡ accesses_by g front → n ≡ accesses_by g history
    → accesses_by g rest ≡ 0
none_after g n front rest history is all count =
    let parts = by_append g front rest in
    let whole : accesses_by g history ≡ accesses_by g (front ++ rest) = ap (accesses_by g) is in
    omega arith

pub turn_looks : TurnLooks
turn_looks g old new before early later front turn rest history is had all more whole still =
    let a = by_append g (before ++ front) turn in
    let b = by_append g before front in
    let c = by_append g early later in
    let d : accesses_by g before ≡ accesses_by g (early ++ later) = ap (accesses_by g) is in
    let none : accesses_by g front ≡ 0 = omega arith in
    record {
      front = front ++ turn;
      rest = rest;
      is = all ∙ ap (λ (l : List Access). l ++ rest) (append_assoc before front turn);
      own = whole ∙ ap (accesses_by g) (append_assoc before front turn);
      still = λ i x q w. ⊎_elim
          (λ t. absurd (let n = by_some front g i x t w in omega arith))
          (λ t. still t.0 x t.1 w)
          (append_at front turn i x q);
    }

module _ {E R : Type 0} (accesses : R → ℕ) (Explains : List ℕ → List R → List E
    → Type 0) (opening words : List ℕ) (v : View R) (end : Closing accesses Explains opening words v) (before since : List Access)
    (history : end.history ≡ before ++ since) (looked : (g : ℕ) (c : R) → get_elem? end.recs g ≡ some c
    → HasLooked accesses before end.history g c) where
  still_by : (by : Option ℕ) (i : ℕ) (a : Access) → get_elem? since i ≡ some a → a.by ≡ by → a.left ≡ a.found
  still_by None i a q is = let p = at_append before since i a q in end.account.glances p.0 a (subst (λ (l : List Access). get_elem? l p.0 ≡ some a)
      (sym history) p.1) is
  still_by (Some g) i a q is =
      let p = at_append before since i a q in
      let c = below_at end.recs g (end.account.makers p.0 a g (subst (λ (l : List Access). get_elem? l p.0 ≡ some a) (sym history) p.1) is) in
      let l = looked g c.0 c.1 in
      let parts : since ≡ l.front ++ l.rest = cancel before since (l.front ++ l.rest) (sym history ∙ (l.is ∙ append_assoc before l.front l.rest)) in
      let none = none_after g (accesses c.0) (before ++ l.front) l.rest end.history l.is l.own (end.account.counted g c.0 c.1) in
      ⊎_elim (λ t. l.still i a t is) (λ t. absurd (let n = by_some l.rest g t.0 a t.1 is in omega arith))
      (append_at l.front l.rest i a (subst (λ (z : List Access). get_elem? z i ≡ some a) parts q))

  pub all_still : ChangesNothing since
  all_still i a q = still_by a.by i a q refl

  sound : Sound (replay opening before) since
  sound = sound_rest opening before since (subst (λ (l : List Access). Sound opening l) history end.account.sound)

  pub words_stay : words ≡ replay opening before
  words_stay = end.account.replayed ∙ (ap (replay opening) history ∙ (replay_append opening before since
      ∙ replay_still since (replay opening before) sound all_still))

  pub found_stays : (i : ℕ) (a : Access) → get_elem? since i ≡ some a → a.found ≡ slice_index words a.word
  found_stays i a q = found_still since (replay opening before) a sound all_still i q ∙ ap (λ (l : List ℕ). slice_index l a.word) (sym words_stay)
