-- What the pairs of queues are after a queue was begun or has changed. Induction over the queues: the one of the address changes, and those
-- after it have other addresses, since the map has each address once (`IsDistinct`).
use Rattle.std.proofs.Common.{◌≡◌, ◌==◌, ℕ, Bool, true, false, cond, not, List, [], ◌∷◌, ◌++◌, Some, None, IsPermutation, drop, filter, take, map, nat_eq, refl, sym, ap, ◌∙◌, subst, append_assoc, append-nil, ◌+◌, arith, length, length-append}
use Rattle.std.specs.List.{AllByRecursion, IsDistinct}
use Rattle.std.specs.Map.{keys_of, lookup, set_value}
use Rattle.std.proofs.Math.Seq.{drop-append-add, drop-append_seam, take-append-add, take-append_seam}
use Rattle.std.proofs.lemmas.Bool.{eqb-true}
use Rattle.std.proofs.lemmas.Bool.Decides.{nat_tests}
use Rattle.std.proofs.lemmas.List.{length-map, map-append}
use Rattle.std.proofs.lemmas.List.Elements.{filter-append}
use Rattle.std.proofs.lemmas.List.Filters.{length-filter_both}
use Rattle.std.proofs.lemmas.List.Sorted.{IsPermutation-append, IsPermutation-append_comm, IsPermutation-append_right, IsPermutation-trans, length_permutation}
use Rattle.rgo_runtime.specs.Parking.{TakesAll, elsewhere, queue_with, pairs_of, values_at, parked_values}

same_number : (n : ℕ) → nat_eq n n ≡ true
same_number n = grind (arith, nat_tests)

module _ {T : Type 0} where
  -- the pairs of one queue
  abbrev pub pairs_at : ℕ → List T → List (ℕ × T)
  pairs_at at values = map (λ value. (at, value)) values

  pub nothing_in : (values : List T) → length values ≡ 0 → values ≡ []
  nothing_in [] none = refl
  nothing_in (v ∷ values) none = absurd (omega (arith, none))

  -- ---- one address, and the others

  elsewhere-other : (at there : ℕ) (values : List T) → nat_eq at there ≡ false → elsewhere at (pairs_at there values) ≡ pairs_at there values
  elsewhere-other at there [] apart = refl
  elsewhere-other at there (v ∷ values) apart =
      ap (λ b. cond (not b) ((there, v) ∷ elsewhere at (pairs_at there values)) (elsewhere at (pairs_at there values))) apart
      ∙ ap (λ l. (there, v) ∷ l) (elsewhere-other at there values apart)

  elsewhere-same : (at there : ℕ) (values : List T) → nat_eq at there ≡ true → elsewhere at (pairs_at there values) ≡ []
  elsewhere-same at there [] same = refl
  elsewhere-same at there (v ∷ values) same =
      ap (λ b. cond (not b) ((there, v) ∷ elsewhere at (pairs_at there values)) (elsewhere at (pairs_at there values))) same
      ∙ elsewhere-same at there values same

  values-other : (at there : ℕ) (values : List T) → nat_eq at there ≡ false → values_at at (pairs_at there values) ≡ []
  values-other at there [] apart = refl
  values-other at there (v ∷ values) apart =
      ap (λ b. parked_values (cond b ((there, v) ∷ filter (λ p. at == p.0) (pairs_at there values)) (filter (λ p. at == p.0) (pairs_at there values)))) apart
      ∙ values-other at there values apart

  values-same : (at there : ℕ) (values : List T) → nat_eq at there ≡ true → values_at at (pairs_at there values) ≡ values
  values-same at there [] same = refl
  values-same at there (v ∷ values) same =
      ap (λ b. parked_values (cond b ((there, v) ∷ filter (λ p. at == p.0) (pairs_at there values)) (filter (λ p. at == p.0) (pairs_at there values)))) same
      ∙ ap (λ l. v ∷ l) (values-same at there values same)

  pub elsewhere-append : (at : ℕ) (ps qs : List (ℕ × T)) → elsewhere at (ps ++ qs) ≡ elsewhere at ps ++ elsewhere at qs
  elsewhere-append at ps qs = filter-append (λ p. not (at == p.0)) ps qs

  pub values-append : (at : ℕ) (ps qs : List (ℕ × T)) → values_at at (ps ++ qs) ≡ values_at at ps ++ values_at at qs
  values-append at ps qs =
      ap parked_values (filter-append (λ p. at == p.0) ps qs)
      ∙ map-append (λ p. p.1) (filter (λ p. at == p.0) ps) (filter (λ p. at == p.0) qs)

  -- what is parked at an address, and what is parked elsewhere, are all
  pub parted : (at : ℕ) (ps : List (ℕ × T)) → length (values_at at ps) + length (elsewhere at ps) ≡ length ps
  parted at ps =
      ap (λ n. n + length (elsewhere at ps)) (length-map (filter (λ p. at == p.0) ps) (λ p. p.1))
      ∙ length-filter_both (λ p. at == p.0) (λ p. not (at == p.0)) (λ _. refl) ps

  values_in : (at : ℕ) (values : List T) → parked_values (pairs_at at values) ≡ values
  values_in at [] = refl
  values_in at (v ∷ values) = ap (λ l. v ∷ l) (values_in at values)

  -- one more pair at an address
  pub one_at : (at : ℕ) (value : T) (ps : List (ℕ × T)) → values_at at ps ≡ [] → values_at at (ps ++ (at, value) ∷ []) ≡ value ∷ []
  one_at at value ps none =
      values-append at ps ((at, value) ∷ [])
      ∙ (ap (λ l. l ++ values_at at ((at, value) ∷ [])) none ∙ values-same at at (value ∷ []) (same_number at))

  pub one_elsewhere : (at : ℕ) (value : T) (ps : List (ℕ × T)) → elsewhere at (ps ++ (at, value) ∷ []) ≡ elsewhere at ps
  one_elsewhere at value ps =
      elsewhere-append at ps ((at, value) ∷ [])
      ∙ (ap (λ l. elsewhere at ps ++ l) (elsewhere-same at at (value ∷ []) (same_number at)) ∙ append-nil (elsewhere at ps))

  -- ---- all values of three lists of pairs

  pub length_taken : (ps : List (ℕ × T)) (a b : List T) → TakesAll ps a b → length b ≡ length a + length ps
  length_taken ps a b (more, come, same) =
      let many = length_permutation (parked_values ps) more same in
      let long = length-map ps (λ p. p.1) in
      let all = ap length come ∙ length-append a more in
      omega (arith, many, long, all)

  pub all_three : (ps qs rs : List (ℕ × T)) (a b c d : List T) → TakesAll ps a b → TakesAll qs b c → TakesAll rs c d → TakesAll (ps ++ (qs ++ rs)) a d
  all_three ps qs rs a b c d (x, ax, px) (y, by, qy) (z, cz, rz) = (
    x ++ (y ++ z),
    cz ∙ (ap (λ l. l ++ z) (by ∙ ap (λ l. l ++ y) ax) ∙ (append_assoc (a ++ x) y z ∙ append_assoc a x (y ++ z))),
    subst (λ l. IsPermutation l (x ++ (y ++ z))) (sym (map-append (λ p. p.1) ps (qs ++ rs)))
        (subst (λ l. IsPermutation (parked_values ps ++ l) (x ++ (y ++ z))) (sym (map-append (λ p. p.1) qs rs))
        (IsPermutation-append (parked_values ps) x (parked_values qs ++ parked_values rs) (y ++ z) px
        (IsPermutation-append (parked_values qs) y (parked_values rs) z qy rz))),
  )

  -- ---- the values of one queue

  pub length_joined : (b : Bool) (value : T) (values : List T) → length (queue_with b value values) ≡ length values + 1
  length_joined true value values = omega arith
  length_joined false value values = length-append values (value ∷ [])

  pub joined_to_none : (b : Bool) (value : T) (values : List T) → values ≡ [] → queue_with b value values ≡ value ∷ []
  joined_to_none true value values none = ap (λ l. value ∷ l) none
  joined_to_none false value values none = ap (λ l. l ++ value ∷ []) none

  -- values have moved from the beginning of one list to the end of another
  pub come_over : (into queue old left : List T) (n : ℕ) → into ++ left ≡ old ++ queue → length into ≡ length old + n → into ≡ old ++ take n queue
  come_over into queue old left n same long =
      sym (take-append_seam into left)
      ∙ (ap (λ l. take (length into) l) same ∙ (ap (λ k. take k (old ++ queue)) long ∙ take-append-add old queue n))

  pub stay_behind : (into queue old left : List T) (n : ℕ) → into ++ left ≡ old ++ queue → length into ≡ length old + n → left ≡ drop n queue
  stay_behind into queue old left n same long =
      sym (drop-append_seam into left)
      ∙ (ap (λ l. drop (length into) l) same ∙ (ap (λ k. drop k (old ++ queue)) long ∙ drop-append-add old queue n))

module _ {T Q : Type 0} (items : Q → List T) where
  pub pairs-append : (es fs : List (ℕ × Q)) → pairs_of items (es ++ fs) ≡ pairs_of items es ++ pairs_of items fs
  pairs-append [] fs = refl
  pairs-append (e ∷ es) fs =
      ap (λ l. pairs_at e.0 (items e.1) ++ l) (pairs-append es fs)
      ∙ sym (append_assoc (pairs_at e.0 (items e.1)) (pairs_of items es) (pairs_of items fs))

  -- a queue of one value was begun
  pub begun : (es : List (ℕ × Q)) (at : ℕ) (queue : Q) (value : T) → items queue ≡ value ∷ []
      → pairs_of items (es ++ (at, queue) ∷ []) ≡ pairs_of items es ++ (at, value) ∷ []
  begun es at queue value is =
      pairs-append es ((at, queue) ∷ []) ∙ ap (λ l. pairs_of items es ++ (pairs_at at l ++ [])) is

  -- a queue has the values that it had
  pub kept : (es : List (ℕ × Q)) (at : ℕ) (old new : Q) → lookup (nat_eq at) es ≡ Some old → items new ≡ items old
      → pairs_of items (set_value (nat_eq at) es new) ≡ pairs_of items es
  kept [] at old new found is = refl
  kept (e ∷ es) at old new found is = by (nat_eq at e.0) found (λ there. kept es at old new there is)
    where
      by : (b : Bool) → cond b (Some e.1) (lookup (nat_eq at) es) ≡ Some old
          → (lookup (nat_eq at) es ≡ Some old → pairs_of items (set_value (nat_eq at) es new) ≡ pairs_of items es)
          → pairs_of items (cond b ((e.0, new) ∷ es) (e ∷ set_value (nat_eq at) es new)) ≡ pairs_of items (e ∷ es)
      by true there rest =
          let here : e.1 ≡ old = cc in
          ap (λ l. pairs_at e.0 l ++ pairs_of items es) (is ∙ ap items (sym here))
      by false there rest = ap (λ l. pairs_at e.0 (items e.1) ++ l) (rest there)

  -- no queue has this address
  pub none_elsewhere : (es : List (ℕ × Q)) (at : ℕ) → lookup (nat_eq at) es ≡ None → elsewhere at (pairs_of items es) ≡ pairs_of items es
  none_elsewhere [] at none = refl
  none_elsewhere (e ∷ es) at none = by (nat_eq at e.0) refl none (none_elsewhere es at)
    where
      by : (b : Bool) → nat_eq at e.0 ≡ b → cond b (Some e.1) (lookup (nat_eq at) es) ≡ None
          → (lookup (nat_eq at) es ≡ None → elsewhere at (pairs_of items es) ≡ pairs_of items es)
          → elsewhere at (pairs_of items (e ∷ es)) ≡ pairs_of items (e ∷ es)
      by true same none rest = cc
      by false apart none rest =
          elsewhere-append at (pairs_at e.0 (items e.1)) (pairs_of items es)
          ∙ ap (λ l. l ++ elsewhere at (pairs_of items es)) (elsewhere-other at e.0 (items e.1) apart)
          ∙ ap (λ l. pairs_at e.0 (items e.1) ++ l) (rest none)

  pub none_at : (es : List (ℕ × Q)) (at : ℕ) → lookup (nat_eq at) es ≡ None → values_at at (pairs_of items es) ≡ []
  none_at [] at none = refl
  none_at (e ∷ es) at none = by (nat_eq at e.0) refl none (none_at es at)
    where
      by : (b : Bool) → nat_eq at e.0 ≡ b → cond b (Some e.1) (lookup (nat_eq at) es) ≡ None
          → (lookup (nat_eq at) es ≡ None → values_at at (pairs_of items es) ≡ [])
          → values_at at (pairs_of items (e ∷ es)) ≡ []
      by true same none rest = cc
      by false apart none rest =
          values-append at (pairs_at e.0 (items e.1)) (pairs_of items es)
          ∙ ap (λ l. l ++ values_at at (pairs_of items es)) (values-other at e.0 (items e.1) apart)
          ∙ rest none

  apart_from : (es : List (ℕ × Q)) (at : ℕ) → AllByRecursion (λ y. nat_eq at y ≡ false) (keys_of es) → lookup (nat_eq at) es ≡ None
  apart_from [] at apart = refl
  apart_from (e ∷ es) at apart = ap (λ b. cond b (Some e.1) (lookup (nat_eq at) es)) apart.0 ∙ apart_from es at apart.1

  -- the queues after the one of this address have other addresses
  later_apart : (e : ℕ × Q) (es : List (ℕ × Q)) (at : ℕ) → IsDistinct nat_eq (keys_of (e ∷ es)) → nat_eq at e.0 ≡ true
      → lookup (nat_eq at) es ≡ None
  unfolding IsDistinct
  later_apart e es at distinct same =
      subst (λ n. lookup (nat_eq n) es ≡ None) (sym (eqb-true at e.0 same)) (apart_from es e.0 distinct.0)

  later_distinct : (e : ℕ × Q) (es : List (ℕ × Q)) → IsDistinct nat_eq (keys_of (e ∷ es)) → IsDistinct nat_eq (keys_of es)
  unfolding IsDistinct
  later_distinct e es distinct = distinct.1

  -- the values of a queue are those at its address, also when it has changed
  pub changed_at : (es : List (ℕ × Q)) (at : ℕ) (old new : Q) → IsDistinct nat_eq (keys_of es) → lookup (nat_eq at) es ≡ Some old
      → values_at at (pairs_of items (set_value (nat_eq at) es new)) ≡ items new
  changed_at [] at old new distinct found = cc
  changed_at (e ∷ es) at old new distinct found =
      by (nat_eq at e.0) refl found (changed_at es at old new (later_distinct e es distinct))
    where
      by : (b : Bool) → nat_eq at e.0 ≡ b → cond b (Some e.1) (lookup (nat_eq at) es) ≡ Some old
          → (lookup (nat_eq at) es ≡ Some old → values_at at (pairs_of items (set_value (nat_eq at) es new)) ≡ items new)
          → values_at at (pairs_of items (cond b ((e.0, new) ∷ es) (e ∷ set_value (nat_eq at) es new))) ≡ items new
      by true same there rest =
          values-append at (pairs_at e.0 (items new)) (pairs_of items es)
          ∙ ap (λ l. values_at at (pairs_at e.0 (items new)) ++ l) (none_at es at (later_apart e es at distinct same))
          ∙ append-nil _
          ∙ values-same at e.0 (items new) same
      by false apart there rest =
          values-append at (pairs_at e.0 (items e.1)) (pairs_of items (set_value (nat_eq at) es new))
          ∙ ap (λ l. l ++ values_at at (pairs_of items (set_value (nat_eq at) es new))) (values-other at e.0 (items e.1) apart)
          ∙ rest there

  pub found_at : (es : List (ℕ × Q)) (at : ℕ) (old : Q) → IsDistinct nat_eq (keys_of es) → lookup (nat_eq at) es ≡ Some old
      → values_at at (pairs_of items es) ≡ items old
  found_at es at old distinct found =
      ap (values_at at) (sym (kept es at old old found refl)) ∙ changed_at es at old old distinct found

  -- those at other addresses are as before
  pub others_kept : (es : List (ℕ × Q)) (at : ℕ) (old new : Q) → lookup (nat_eq at) es ≡ Some old
      → elsewhere at (pairs_of items (set_value (nat_eq at) es new)) ≡ elsewhere at (pairs_of items es)
  others_kept [] at old new found = refl
  others_kept (e ∷ es) at old new found = by (nat_eq at e.0) refl found (others_kept es at old new)
    where
      by : (b : Bool) → nat_eq at e.0 ≡ b → cond b (Some e.1) (lookup (nat_eq at) es) ≡ Some old
          → (lookup (nat_eq at) es ≡ Some old
          → elsewhere at (pairs_of items (set_value (nat_eq at) es new)) ≡ elsewhere at (pairs_of items es))
          → elsewhere at (pairs_of items (cond b ((e.0, new) ∷ es) (e ∷ set_value (nat_eq at) es new))) ≡ elsewhere at (pairs_of items (e ∷ es))
      by true same there rest =
          elsewhere-append at (pairs_at e.0 (items new)) (pairs_of items es)
          ∙ ap (λ l. l ++ elsewhere at (pairs_of items es))
          (elsewhere-same at e.0 (items new) same ∙ sym (elsewhere-same at e.0 (items e.1) same))
          ∙ sym (elsewhere-append at (pairs_at e.0 (items e.1)) (pairs_of items es))
      by false apart there rest =
          elsewhere-append at (pairs_at e.0 (items e.1)) (pairs_of items (set_value (nat_eq at) es new))
          ∙ ap (λ l. elsewhere at (pairs_at e.0 (items e.1)) ++ l) (rest there)
          ∙ sym (elsewhere-append at (pairs_at e.0 (items e.1)) (pairs_of items es))

  -- ---- all queues

  -- some queues have come to the end of a list, and the others are left
  pub record Moved (queues : List (ℕ × Q)) (old : List T) (left : List (ℕ × Q)) (new : List T) : Type 0 where
    pub more : List T
    pub come : new ≡ old ++ more
    pub all : IsPermutation (parked_values (pairs_of items queues)) (more ++ parked_values (pairs_of items left))

  pub values_last : (left : List (ℕ × Q)) (e : ℕ × Q)
      → parked_values (pairs_of items (left ++ e ∷ [])) ≡ parked_values (pairs_of items left) ++ items e.1
  values_last left e =
      ap parked_values (pairs-append left (e ∷ []))
      ∙ map-append (λ p. p.1) (pairs_of items left) (pairs_at e.0 (items e.1) ++ [])
      ∙ ap (λ l. parked_values (pairs_of items left) ++ parked_values l) (append-nil (pairs_at e.0 (items e.1)))
      ∙ ap (λ l. parked_values (pairs_of items left) ++ l) (values_in e.0 (items e.1))

  -- the last queue has come
  pub moved_more : (queues : List (ℕ × Q)) (old : List T) (before left : List (ℕ × Q)) (e : ℕ × Q) (mid new : List T)
      → Moved queues old before mid → before ≡ left ++ e ∷ [] → new ≡ mid ++ items e.1 → Moved queues old left new
  moved_more queues old before left e mid new moved is come =
      let rest : parked_values (pairs_of items before) ≡ parked_values (pairs_of items left) ++ items e.1 =
      ap (λ es. parked_values (pairs_of items es)) is ∙ values_last left e in
      record {
        more = moved.more ++ items e.1;
        come = come ∙ ap (λ l. l ++ items e.1) moved.come ∙ append_assoc old moved.more (items e.1);
        all = IsPermutation-trans _ _ _ moved.all
            (subst (λ l. IsPermutation (moved.more ++ l) ((moved.more ++ items e.1) ++ parked_values (pairs_of items left))) (sym rest)
            (subst (λ l. IsPermutation (moved.more ++ (parked_values (pairs_of items left) ++ items e.1)) l)
            (sym (append_assoc moved.more (items e.1) (parked_values (pairs_of items left))))
            (IsPermutation-append_right moved.more _ _ (IsPermutation-append_comm (parked_values (pairs_of items left)) (items e.1)))));
      }

  -- the last queue was empty
  pub none_last : (left : List (ℕ × Q)) (e : ℕ × Q) → items e.1 ≡ [] → pairs_of items (left ++ e ∷ []) ≡ pairs_of items left
  none_last left e none =
      pairs-append left (e ∷ [])
      ∙ (ap (λ l. pairs_of items left ++ (pairs_at e.0 l ++ [])) none ∙ append-nil (pairs_of items left))

  -- the room that the last queue needs, and that the others need
  pub length_last : (left : List (ℕ × Q)) (e : ℕ × Q)
      → length (pairs_of items (left ++ e ∷ [])) ≡ length (pairs_of items left) + length (items e.1)
  length_last left e =
      ap length (pairs-append left (e ∷ []))
      ∙ length-append (pairs_of items left) (pairs_at e.0 (items e.1) ++ [])
      ∙ ap (λ l. length (pairs_of items left) + length l) (append-nil (pairs_at e.0 (items e.1)))
      ∙ ap (λ n. length (pairs_of items left) + n) (length-map (items e.1) (λ v. (e.0, v)))
