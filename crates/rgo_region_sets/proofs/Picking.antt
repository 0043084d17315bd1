-- Sets that are picked from sets, one name after the other.
use Rattle.std.proofs.Common.{◌≡◌, ◌⊎◌, ⊎_elim, ◌<◌, ◌≤◌, ◌+◌, ℕ, Bool, true, false, Decides, List, [], ◌∷◌, ◌++◌, length, take, get_or, refl, sym, subst, ◌∙◌, arith}
use Rattle.std.specs.Prelude.{◌↔◌}
use Rattle.std.specs.List.{Contains}
use Rattle.std.specs.List.Sorted.{IsStrictlyIncreasing}
use Rattle.std.proofs.lemmas.Bool.{false≢true}
use Rattle.std.proofs.lemmas.List.{take_all, get_or-take, length-take-le, get_or_default}
use Rattle.std.proofs.lemmas.List.Elements.{Contains-push, Contains-push_cases, Contains-append_left, Contains-get_or}
use Rattle.std.proofs.lemmas.List.Kept.{AllPairs-from_increasing}
use Rattle.std.proofs.lemmas.List.Quantifiers.{all_pairs_push}
use Rattle.rgo_graphs.proofs.Lists.{no_member, take_cases, take_more_left, take_more_here}
use Rattle.rgo_region_sets.specs.Sets.{IsSet, pushed_if}

pub rises_push : (names : List ℕ) (x : ℕ) → IsStrictlyIncreasing names
    → ((k : ℕ) → Contains names k → k < x) → IsStrictlyIncreasing (names ++ x ∷ [])
rises_push names x rises below =
    let pairs = all_pairs_push (λ a b. a < b) names x (AllPairs-from_increasing names rises)
    (λ k d within. below (get_or names k d) (Contains-get_or names k d within)) in
    λ k within. pairs k (k + 1) 0 (omega arith) within

-- what has the first of ascending names are below the next
below_next : (names : List ℕ) (i : ℕ) (d k : ℕ) → IsStrictlyIncreasing names → i < length names
    → Contains (take i names) k → k < get_or names i d
below_next names i d k rises within h =
    let place : h.0 < i = omega (arith, h.1, length-take-le i names (omega arith)) in
    let less = AllPairs-from_increasing names rises h.0 i k place within in
    let is : get_or names h.0 k ≡ k = sym (get_or-take i names h.0 k place) ∙ h.2 in
    omega (arith, less, is, get_or_default names i k d within)

pub set_empty : (Has : ℕ → Type 0) → ((k : ℕ) → Has k → ⊥) → IsSet [] Has
set_empty Has none = record {
  ascends = λ k within. absurd (omega (arith, within));
  members = λ k. (λ h. absurd (no_member k h), λ h. absurd (none k h));
}

pub set_none : (names : List ℕ) (P : ℕ → Type 0) → IsSet [] (λ k. Contains [] k × P k)
set_none names P = set_empty (λ k. Contains [] k × P k) (λ k h. no_member k h.0)

module _ (names out : List ℕ) (i d : ℕ) (P : ℕ → Type 0) (within : i < length names)
    (before : IsSet out (λ k. Contains (take i names) k × P k)) where
  pub set_more : IsStrictlyIncreasing names → P (get_or names i d)
      → IsSet (out ++ get_or names i d ∷ []) (λ k. Contains (take (i + 1) names) k × P k)
  set_more rises passes = record {
    ascends = rises_push out (get_or names i d) before.ascends
        (λ k h. below_next names i d k rises within ((before.members k).0 h).0);
    members = λ k. (
      λ h. ⊎_elim
          (λ o. let old = (before.members k).0 o in (take_more_left names i d k within old.0, old.1))
          (λ e. (subst (Contains (take (i + 1) names)) e (take_more_here names i d within), subst P e passes))
          (Contains-push_cases out (get_or names i d) k h),
      λ h. ⊎_elim
          (λ o. Contains-append_left out (get_or names i d ∷ []) k ((before.members k).1 (o, h.1)))
          (λ e. subst (Contains (out ++ get_or names i d ∷ [])) e (Contains-push out (get_or names i d)))
          (take_cases names i d k within h.0),
    );
  }

  pub set_less : (P (get_or names i d) → ⊥) → IsSet out (λ k. Contains (take (i + 1) names) k × P k)
  set_less fails = record {
    ascends = before.ascends;
    members = λ k. (
      λ h. let old = (before.members k).0 h in (take_more_left names i d k within old.0, old.1),
      λ h. ⊎_elim
          (λ o. (before.members k).1 (o, h.1))
          (λ e. absurd (fails (subst P (sym e) h.1)))
          (take_cases names i d k within h.0),
    );
  }

pub set_all : (names out : List ℕ) (i : ℕ) (P : ℕ → Type 0) → length names ≤ i
    → IsSet out (λ k. Contains (take i names) k × P k) → IsSet out (λ k. Contains names k × P k)
set_all names out i P past h =
    subst (λ (l : List ℕ). IsSet out (λ k. Contains l k × P k)) (take_all i names past) h

-- the same set, defined otherwise
pub set_as : (out : List ℕ) (Has Is : ℕ → Type 0) → ((k : ℕ) → Has k ↔ Is k) → IsSet out Has → IsSet out Is
set_as out Has Is same h = record {
  ascends = h.ascends;
  members = λ k. (λ m. (same k).0 ((h.members k).0 m), λ m. (h.members k).1 ((same k).1 m));
}

-- ---- a search

pub found_name : (xs : List ℕ) (x i : ℕ) → i < length xs → get_or xs i 0 ≡ x → Contains xs x
found_name xs x i within is = (i, within, get_or_default xs i x 0 within ∙ is)

pub missing_name : (xs : List ℕ) (x i : ℕ) → ((k : ℕ) → k < i → get_or xs k 0 < x)
    → ((k : ℕ) → i ≤ k → k < length xs → x < get_or xs k 0) → Contains xs x → ⊥
missing_name xs x i below above h =
    let is = get_or_default xs h.0 0 x h.1 in
    ⊎_elim
    (λ l. omega (arith, below h.0 l, h.2, is))
    (λ g. omega (arith, above h.0 g h.1, h.2, is))
    (less_or h.0 i)
  where
    less_or : (a b : ℕ) → (a < b) ⊎ (b ≤ a)
    less_or a b = grind arith

-- a name is pushed where a test passed
pub set_step : (names out out' : List ℕ) (i d : ℕ) (P : ℕ → Type 0) (test : Bool) → i < length names
    → IsStrictlyIncreasing names → IsSet out (λ k. Contains (take i names) k × P k)
    → Decides test (P (get_or names i d)) → out' ≡ pushed_if test out (get_or names i d)
    → IsSet out' (λ k. Contains (take (i + 1) names) k × P k)
set_step names out out' i d P true within rises before decides is =
    subst (λ (l : List ℕ). IsSet l (λ k. Contains (take (i + 1) names) k × P k)) (sym is)
    (set_more names out i d P within before rises (decides.0 refl))
set_step names out out' i d P false within rises before decides is =
    subst (λ (l : List ℕ). IsSet l (λ k. Contains (take (i + 1) names) k × P k)) (sym is)
    (set_less names out i d P within before (λ p. false≢true (decides.1 p)))
