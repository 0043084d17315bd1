-- Lists of names that are made from lists of classes and of spans.
use Rattle.std.proofs.Common.{◌≡◌, ◌⊎◌, ⊎_elim, inl, inr, ◌<◌, ◌≤◌, ◌+◌, min, ℕ, zero, suc, Bool, true, false, Decides, List, [], ◌∷◌, ◌++◌, Some, None, length, take, get_or, slice_get, refl, sym, ap, subst, ◌∙◌, arith}
use Rattle.std.specs.Prelude.{◌↔◌}
use Rattle.std.specs.List.{Contains}
use Rattle.std.proofs.lemmas.Bool.{false≢true}
use Rattle.std.proofs.lemmas.List.{take_all}
use Rattle.std.proofs.lemmas.List.Elements.{Contains-push, Contains-push_cases, Contains-append_left}
use Rattle.std.proofs.lemmas.Option.{same_Some, slice_get_within, slice_get-get_or}
use Rattle.rgo_graphs.proofs.Lists.{no_member, take_cases, take_more_left, take_more_here}
use Rattle.rgo_tac.specs.declared.regions.Class.{Class}
use Rattle.rgo_tac.specs.declared.regions.Class.TheVariants.{Name}
use Rattle.rgo_code.specs.Code.{Slot, CodeFn}
use Rattle.rgo_code.specs.Names.{slot_class, parameter_classes, IsOwn, Holds}
use Rattle.rgo_region_sets.specs.declared.spans.Span.{Span}
use Rattle.rgo_region_sets.specs.Asked.{IsNamePassedFor, IsMissing, EntryRemoves}
use Rattle.rgo_region_sets.specs.declared.table.LiveNames.{LiveNames}
use Rattle.rgo_region_sets.specs.Live.{AreLiveNames}
use Rattle.rgo_region_sets.specs.Sets.{IsSet, pushed_if}
use Rattle.rgo_region_sets.specs.Spans.{Spans, IsSpanned}
use Rattle.rgo_region_sets.specs.Used.{name_of}
use Rattle.rgo_region_sets.proofs.Naming.{name_is, one_name, no_name}
use Rattle.rgo_region_sets.proofs.Passed.{get_taken, taken_get}

less_or : (a b : ℕ) → (a < b) ⊎ (b ≤ a)
less_or a b = grind arith

-- a name more, if a test passed
pub pushed_members : (old new : List ℕ) (test : Bool) (j : ℕ) → new ≡ pushed_if test old j
    → (k : ℕ) → Contains new k ↔ (Contains old k ⊎ ((test ≡ true) × (k ≡ j)))
pushed_members old new true j is k = (
  λ h. ⊎_elim
      (λ o. inl o)
      (λ e. inr (refl, sym e))
      (Contains-push_cases old j k (subst (λ l. Contains l k) is h)),
  λ h. subst (λ l. Contains l k) (sym is) (⊎_elim
      (λ o. Contains-append_left old (j ∷ []) k o)
      (λ e. subst (Contains (old ++ j ∷ [])) (sym e.1) (Contains-push old j))
      h),
)
pushed_members old new false j is k = (
  λ h. inl (subst (λ l. Contains l k) is h),
  λ h. subst (λ l. Contains l k) (sym is) (⊎_elim (λ o. o) (λ e. absurd (false≢true e.0)) h),
)

-- ---- over classes

module _ (classes : List Class) (i : ℕ) (d : Class) (within : i < length classes) (P : ℕ → Type 0)
    (old : List ℕ) (before : (k : ℕ) → Contains old k ↔ (Contains (take i classes) (Name k) × P k)) where
  pub names_more : (new : List ℕ) (test : Bool) (j : ℕ) → name_of (get_or classes i d) ≡ Some j → Decides test (P j)
      → new ≡ pushed_if test old j → (k : ℕ) → Contains new k ↔ (Contains (take (i + 1) classes) (Name k) × P k)
  names_more new test j named decides is k =
      let class_is : get_or classes i d ≡ Name j = name_is (get_or classes i d) j named in (
        λ h. ⊎_elim
            (λ o. let b = (before k).0 o in (take_more_left classes i d (Name k) within b.0, b.1))
            (λ e. (
              subst (Contains (take (i + 1) classes)) (class_is ∙ ap Name (sym e.1))
                  (take_more_here classes i d within),
              subst P (sym e.1) (decides.0 e.0),
            ))
            ((pushed_members old new test j is k).0 h),
        λ h. (pushed_members old new test j is k).1 (⊎_elim
            (λ o. inl ((before k).1 (o, h.1)))
            (λ e.
            let same = one_name (get_or classes i d) j k named e in
            inr (decides.1 (subst P same h.1), same))
            (take_cases classes i d (Name k) within h.0)),
      )

  pub names_same : name_of (get_or classes i d) ≡ None
      → (k : ℕ) → Contains old k ↔ (Contains (take (i + 1) classes) (Name k) × P k)
  names_same none k = (
    λ h. let b = (before k).0 h in (take_more_left classes i d (Name k) within b.0, b.1),
    λ h. ⊎_elim
        (λ o. (before k).1 (o, h.1))
        (λ e. absurd (no_name (get_or classes i d) k none e))
        (take_cases classes i d (Name k) within h.0),
  )

pub no_names : (classes : List Class) (P : ℕ → Type 0) (k : ℕ) → Contains [] k ↔ (Contains [] (Name k) × P k)
no_names classes P k = (λ h. absurd (no_member k h), λ h. absurd (no_member (Name k) h.0))

pub all_names : (classes : List Class) (i : ℕ) (P : ℕ → Type 0) (names : List ℕ) → length classes ≤ i
    → ((k : ℕ) → Contains names k ↔ (Contains (take i classes) (Name k) × P k))
    → (k : ℕ) → Contains names k ↔ (Contains classes (Name k) × P k)
all_names classes i P names past h =
    subst (λ (l : List Class). (k : ℕ) → Contains names k ↔ (Contains l (Name k) × P k)) (take_all i classes past) h

-- ---- names that are passed for a class

module _ (regions : List Class) (class : Class) (passes : List Class) (i : ℕ) (d : Class)
    (within : i < length passes) where
  for_later : (k : ℕ) → IsNamePassedFor regions class (take i passes) k → IsNamePassedFor regions class (take (i + 1) passes) k
  for_later k h =
      let a = get_taken passes i h.at (Name k) h.passed in
      record {
        at = h.at;
        parameter = h.parameter;
        passed = taken_get passes (i + 1) h.at (Name k) (omega (arith, a.0)) a.1;
      }

  for_cases : (k : ℕ) → IsNamePassedFor regions class (take (i + 1) passes) k
      → IsNamePassedFor regions class (take i passes) k
      ⊎ ((slice_get regions i ≡ Some class) × (get_or passes i d ≡ Name k))
  for_cases k h =
      let a = get_taken passes (i + 1) h.at (Name k) h.passed in
      ⊎_elim
      (λ l. inl (record {
        at = h.at;
        parameter = h.parameter;
        passed = taken_get passes i h.at (Name k) l a.1;
      }))
      (λ g.
      let same : h.at ≡ i = omega (arith, g, a.0) in
      inr (
        ap (slice_get regions) (sym same) ∙ h.parameter,
        same_Some (get_or passes i d) (Name k)
            (sym (slice_get-get_or passes i d within) ∙ ap (slice_get passes) (sym same) ∙ a.1),
      ))
      (less_or h.at i)

  for_here : (k : ℕ) → slice_get regions i ≡ Some class → get_or passes i d ≡ Name k
      → IsNamePassedFor regions class (take (i + 1) passes) k
  for_here k parameter is = record {
    at = i;
    parameter = parameter;
    passed = taken_get passes (i + 1) i (Name k) (omega arith) (slice_get-get_or passes i d within ∙ ap Some is);
  }

  module _ (old : List ℕ) (before : (k : ℕ) → Contains old k ↔ IsNamePassedFor regions class (take i passes) k) where
    pub for_more : (new : List ℕ) (test : Bool) (j : ℕ) → name_of (get_or passes i d) ≡ Some j
        → Decides test (slice_get regions i ≡ Some class) → new ≡ pushed_if test old j
        → (k : ℕ) → Contains new k ↔ IsNamePassedFor regions class (take (i + 1) passes) k
    for_more new test j named decides is k = (
      λ h. ⊎_elim
          (λ o. for_later k ((before k).0 o))
          (λ e. for_here k (decides.0 e.0) (name_is (get_or passes i d) j named ∙ ap Name (sym e.1)))
          ((pushed_members old new test j is k).0 h),
      λ h. (pushed_members old new test j is k).1 (⊎_elim
          (λ o. inl ((before k).1 o))
          (λ e. inr (decides.1 e.0, one_name (get_or passes i d) j k named e.1))
          (for_cases k h)),
    )

    pub for_same : name_of (get_or passes i d) ≡ None
        → (k : ℕ) → Contains old k ↔ IsNamePassedFor regions class (take (i + 1) passes) k
    for_same none k = (
      λ h. for_later k ((before k).0 h),
      λ h. ⊎_elim
          (λ o. (before k).1 o)
          (λ e. absurd (no_name (get_or passes i d) k none e.1))
          (for_cases k h),
    )

pub for_none : (regions : List Class) (class : Class) (k : ℕ) → Contains [] k ↔ IsNamePassedFor regions class [] k
for_none regions class k =
    (λ h. absurd (no_member k h), λ h. absurd (omega (arith, slice_get_within [] h.at (Name k) h.passed)))

pub for_all : (regions : List Class) (class : Class) (passes : List Class) (i : ℕ) (names : List ℕ) → length passes ≤ i
    → ((k : ℕ) → Contains names k ↔ IsNamePassedFor regions class (take i passes) k)
    → (k : ℕ) → Contains names k ↔ IsNamePassedFor regions class passes k
for_all regions class passes i names past h =
    subst (λ (l : List Class). (k : ℕ) → Contains names k ↔ IsNamePassedFor regions class l k) (take_all i passes past) h

-- ---- the classes of parameters

pub classes_more : (n : ℕ) (slots : List Slot) → n < length slots
    → parameter_classes (n + 1) slots ≡ parameter_classes n slots ++ slot_class (slice_get slots n) ∷ []
classes_more n [] within = absurd (omega (arith, within))
classes_more zero (s ∷ slots) within = refl
classes_more (suc n) (s ∷ slots) within =
    let next : suc n + 1 ≡ suc (n + 1) = omega arith in
    ap (λ m. parameter_classes m (s ∷ slots)) next
    ∙ ap (λ l. s.class ∷ l) (classes_more n slots (omega (arith, within)))

pub classes_past : (n : ℕ) (slots : List Slot) → length slots ≤ n
    → parameter_classes n slots ≡ parameter_classes (length slots) slots
classes_past zero [] past = refl
classes_past (suc n) [] past = refl
classes_past zero (s ∷ slots) past = absurd (omega (arith, past))
classes_past (suc n) (s ∷ slots) past = ap (λ l. s.class ∷ l) (classes_past n slots (omega (arith, past)))

pub classes_all : (n m : ℕ) (slots : List Slot) → m ≡ min n (length slots)
    → parameter_classes m slots ≡ parameter_classes n slots
classes_all n m slots is = ⊎_elim
    (λ l. let same : m ≡ n = omega (arith, is, l) in ap (λ c. parameter_classes c slots) same)
    (λ g. let same : m ≡ length slots = omega (arith, is, g) in
    ap (λ c. parameter_classes c slots) same ∙ sym (classes_past n slots g))
    (less_or n (length slots))

-- ---- over spans

module _ (spans : List Span) (i : ℕ) (d : Span) (within : i < length spans) (k at : ℕ) where
  pub spanned_later : IsSpanned (take i spans) k at → IsSpanned (take (i + 1) spans) k at
  spanned_later h = record {
    span = h.span;
    among = take_more_left spans i d h.span within h.among;
    spans = h.spans;
  }

  pub spanned_here : Spans (get_or spans i d) k at → IsSpanned (take (i + 1) spans) k at
  spanned_here h = record { span = get_or spans i d; among = take_more_here spans i d within; spans = h }

  pub spanned_cases : IsSpanned (take (i + 1) spans) k at
      → IsSpanned (take i spans) k at ⊎ Spans (get_or spans i d) k at
  spanned_cases h = ⊎_elim
      (λ o. inl (record { span = h.span; among = o; spans = h.spans }))
      (λ e. inr (subst (λ s. Spans s k at) (sym e) h.spans))
      (take_cases spans i d h.span within h.among)

pub held_more : (f : CodeFn) (spans : List Span) (i : ℕ) (d : Span) (old new : List ℕ) (test : Bool) → i < length spans
    → ((k : ℕ) → Contains old k ↔ (IsOwn f k × IsSpanned (take i spans) k 0))
    → Decides test (((get_or spans i d).from ≡ 0) × IsOwn f (get_or spans i d).name)
    → new ≡ pushed_if test old (get_or spans i d).name
    → (k : ℕ) → Contains new k ↔ (IsOwn f k × IsSpanned (take (i + 1) spans) k 0)
held_more f spans i d old new test within before decides is k =
    let s = get_or spans i d in (
      λ h. ⊎_elim
          (λ o. let b = (before k).0 o in (b.0, spanned_later spans i d within k 0 b.1))
          (λ e.
          let p = decides.0 e.0 in
          (subst (IsOwn f) (sym e.1) p.1, spanned_here spans i d within k 0 (sym e.1, omega (arith, p.0), omega arith)))
          ((pushed_members old new test s.name is k).0 h),
      λ h. (pushed_members old new test s.name is k).1 (⊎_elim
          (λ o. inl ((before k).1 (h.0, o)))
          (λ n. inr (decides.1 (omega (arith, n.1), subst (IsOwn f) (sym n.0) h.0), sym n.0))
          (spanned_cases spans i d within k 0 h.1)),
    )

pub held_none : (f : CodeFn) (k : ℕ) → Contains [] k ↔ (IsOwn f k × IsSpanned [] k 0)
held_none f k = (λ h. absurd (no_member k h), λ h. absurd (no_member h.1.span h.1.among))

pub held_all : (live : LiveNames) (f : CodeFn) (spans : List Span) (i : ℕ) (names : List ℕ)
    → spans ≡ live.spans.items → length spans ≤ i → AreLiveNames live f
    → ((k : ℕ) → Contains names k ↔ (IsOwn f k × IsSpanned (take i spans) k 0))
    → (k : ℕ) → Contains names k ↔ Holds f k 0
held_all live f spans i names is past tables held k =
    let all = subst (λ (l : List Span). (j : ℕ) → Contains names j ↔ (IsOwn f j × IsSpanned l j 0))
    (take_all i spans past ∙ is) held in (
      λ h. let b = (all k).0 h in (b.0, (tables.names k 0).0 b.1),
      λ h. (all k).1 (h.0, (tables.names k 0).1 h.1),
    )

-- ---- names of parameters that are missing at entry

pub entry_removed : (f : CodeFn) (classes : List Class) (names : List ℕ)
    → classes ≡ parameter_classes f.params f.variables
    → ((k : ℕ) → Contains names k ↔ (Contains classes (Name k) × IsMissing f 0 k))
    → (k : ℕ) → Contains names k ↔ EntryRemoves f k
entry_removed f classes names is all k = (
  λ h. let b = (all k).0 h in (b.1.0, subst (λ (l : List Class). Contains l (Name k)) is b.0, λ held. b.1.1 held.1),
  λ h. (all k).1 (subst (λ (l : List Class). Contains l (Name k)) (sym is) h.1, (h.0, λ live. h.2 (h.0, live))),
)

-- two names for a set
pub set_with : (names : List ℕ) (A B : ℕ → Type 0) → IsSet names A → ((k : ℕ) → A k ↔ B k) → IsSet names B
set_with names A B set same = record {
  ascends = set.ascends;
  members = λ k. (λ h. (same k).0 ((set.members k).0 h), λ h. (set.members k).1 ((same k).1 h));
}
