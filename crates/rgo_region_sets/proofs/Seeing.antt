-- Names that are seen for the first time, and again.
use Rattle.std.proofs.Common.{◌≡◌, Decides, ⊎_elim, inl, inr, ◌≤◌, ◌||◌, ℕ, Bool, true, false, not, nat_eq, List, [], ◌∷◌, ◌++◌, Some, None, length, take, drop, refl, sym, ap, subst, ◌∙◌}
use Rattle.std.specs.Prelude.{◌↔◌}
use Rattle.std.specs.BTreeMap.{is_at}
use Rattle.std.specs.BTreeSet.{BTreeSet, contains}
use Rattle.std.specs.List.{Contains, list_any}
use Rattle.std.specs.Ordering.{nat_cmp}
use Rattle.std.proofs.lemmas.Bool.{false≢true}
use Rattle.std.proofs.lemmas.List.{take_all, at_drop_all, append-nil}
use Rattle.std.proofs.lemmas.Option.{same_Some, none-some}
use Rattle.rgo_graphs.proofs.Lists.{no_member}
use Rattle.rgo_tac.specs.declared.regions.Class.{Class}
use Rattle.rgo_tac.specs.declared.regions.Class.TheVariants.{Name}
use Rattle.rgo_code.specs.Code.{CodeFn}
use Rattle.rgo_code.specs.Names.{distinct_names}
use Rattle.rgo_region_sets.specs.Asked.{Protects, IsNeeded, AddsNeeded, AddsPassed}
use Rattle.rgo_region_sets.specs.Seen.{IsSeen}
use Rattle.rgo_region_sets.specs.Sets.{pushed_if}
use Rattle.rgo_region_sets.specs.Used.{name_of}
use Rattle.rgo_region_sets.proofs.Distinct.{distinct_none, distinct_again, distinct_first}
use Rattle.rgo_region_sets.proofs.Members.{pushed_members}
use Rattle.rgo_region_sets.proofs.Passed.{seen_more, seen_same}

pub none_seen : (seen : BTreeSet ℕ) → seen.keys ≡ [] → IsSeen seen []
none_seen seen empty k = ap (list_any (is_at (nat_cmp k))) empty

was_not : (b first : Bool) → first ≡ not b → first ≡ true → b ≡ false
was_not true first is e = absurd (false≢true (sym is ∙ e))
was_not false first is e = refl

was : (b first : Bool) → first ≡ not b → first ≡ false → b ≡ true
was true first is e = refl
was false first is e = absurd (false≢true (sym e ∙ is))

-- ---- distinct names

module _ (seen seen' : BTreeSet ℕ) (old : List Class) (class : Class) (k : ℕ) (named : name_of class ≡ Some k)
    (adds : (j : ℕ) → contains nat_cmp seen' j ≡ (contains nat_cmp seen j || nat_eq j k))
    (first : Bool) (is : first ≡ not (contains nat_cmp seen k))
    (classes : List Class) (before : IsSeen seen classes) where
  pub adds_first : first ≡ true
      → (old ++ class ∷ [] ≡ old ++ distinct_names classes (class ∷ [])) × IsSeen seen' (classes ++ class ∷ [])
  adds_first e = (
    ap (λ l. old ++ l)
        (sym (distinct_first classes class k named (sym (before k) ∙ was_not (contains nat_cmp seen k) first is e))),
    seen_more seen seen' classes class k named adds before,
  )

  pub adds_again : first ≡ false
      → (old ≡ old ++ distinct_names classes (class ∷ [])) × IsSeen seen' (classes ++ class ∷ [])
  adds_again e = (
    sym (append-nil old)
        ∙ ap (λ l. old ++ l)
        (sym (distinct_again classes class k named (sym (before k) ∙ was (contains nat_cmp seen k) first is e))),
    seen_more seen seen' classes class k named adds before,
  )

pub adds_no_name : (seen : BTreeSet ℕ) (old : List Class) (class : Class) → name_of class ≡ None
    → (classes : List Class) → IsSeen seen classes
    → (old ≡ old ++ distinct_names classes (class ∷ [])) × IsSeen seen (classes ++ class ∷ [])
adds_no_name seen old class none classes before = (
  sym (append-nil old) ∙ ap (λ l. old ++ l) (sym (distinct_none classes class none)),
  seen_same seen classes class none before,
)

pub distinct_all : (classes out : List Class) (i : ℕ) → length classes ≤ i
    → out ++ distinct_names (take i classes) (drop i classes) ≡ distinct_names [] classes
    → out ≡ distinct_names [] classes
distinct_all classes out i past h =
    sym (append-nil out)
    ∙ ap (λ l. out ++ l) (sym (at_drop_all (λ (l : List Class). distinct_names (take i classes) l) classes i past)) ∙ h

-- ---- protections

pub none_protected : (f : CodeFn) (at k : ℕ) → Contains [] k ↔ Protects f at [] k
none_protected f at k = (λ h. absurd (no_member k h), λ h. absurd (no_member (Name k) h.0))

pub all_protected : (f : CodeFn) (at : ℕ) (passes : List Class) (names : List ℕ) (i : ℕ) → length passes ≤ i
    → ((k : ℕ) → Contains names k ↔ Protects f at (take i passes) k)
    → (k : ℕ) → Contains names k ↔ Protects f at passes k
all_protected f at passes names i past h =
    subst (λ (l : List Class). (k : ℕ) → Contains names k ↔ Protects f at l k) (take_all i passes past) h

module _ (f : CodeFn) (at : ℕ) (class : Class) (old new : List ℕ) (seen seen' : BTreeSet ℕ) where
  pub passed_name : (k : ℕ) (first test : Bool) → name_of class ≡ Some k → first ≡ not (contains nat_cmp seen k)
      → ((j : ℕ) → contains nat_cmp seen' j ≡ (contains nat_cmp seen j || nat_eq j k))
      → Decides test (IsNeeded f at first k) → new ≡ pushed_if test old k → AddsPassed f at class old new seen seen'
  passed_name k first test named is sees decides pushes = record {
    other = λ none. absurd (none-some k (sym none ∙ named));
    name = λ j e. subst (λ n. AddsNeeded f at n old new seen seen') (same_Some k j (sym named ∙ e)) (record {
      names = λ i. (
        λ h. ⊎_elim
            (λ o. inl o)
            (λ s. inr (s.1, subst (λ b. IsNeeded f at b k) is (decides.0 s.0)))
            ((pushed_members old new test k pushes i).0 h),
        λ h. (pushed_members old new test k pushes i).1 (⊎_elim
            (λ o. inl o)
            (λ s. inr (decides.1 (subst (λ b. IsNeeded f at b k) (sym is) s.1), s.0))
            h),
      );
      sees = sees;
    });
  }

  pub passed_no_name : name_of class ≡ None → new ≡ old → seen' ≡ seen → AddsPassed f at class old new seen seen'
  passed_no_name none same same' = record {
    other = λ e. (same, same');
    name = λ k e. absurd (none-some k (sym none ∙ e));
  }
