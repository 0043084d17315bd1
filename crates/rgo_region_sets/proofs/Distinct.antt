-- The names among classes, each at its first place.
use Rattle.std.proofs.Common.{◌≡◌, ◌<◌, ◌+◌, ◌||◌, ℕ, Bool, true, false, nat_eq, List, [], ◌∷◌, ◌++◌, Some, None, length, take, drop, get_or, refl, sym, ap, ◌∙◌, arith}
use Rattle.std.specs.Prelude.{if◌then◌else◌}
use Rattle.std.specs.List.{list_any}
use Rattle.std.proofs.lemmas.Bool.{false≢true}
use Rattle.std.proofs.lemmas.Bool.Decides.{nat_tests}
use Rattle.std.proofs.lemmas.List.{take_more, at_drop_more, append_assoc}
use Rattle.std.proofs.lemmas.List.Folds.{list_any-append}
use Rattle.std.proofs.lemmas.Option.{none-some}
use Rattle.rgo_tac.specs.declared.regions.Class.{Class}
use Rattle.rgo_tac.specs.declared.regions.Class.TheVariants.{NoClass, Global, Name}
use Rattle.rgo_code.specs.Names.{is_class_named, distinct_names}
use Rattle.rgo_region_sets.specs.Used.{name_of}
use Rattle.rgo_region_sets.proofs.Naming.{name_is}

abbrev pub SameNames : List Class → List Class → Type 0
SameNames s t = (k : ℕ) → list_any (is_class_named k) s ≡ list_any (is_class_named k) t

-- what counts of the classes before is which names are among them
pub distinct_same : (s t cs : List Class) → SameNames s t → distinct_names s cs ≡ distinct_names t cs
distinct_same s t [] same = refl
distinct_same s t (NoClass ∷ cs) same = distinct_same s t cs same
distinct_same s t (Global ∷ cs) same = distinct_same s t cs same
distinct_same s t (Name k ∷ cs) same =
    ap (λ b. if b then distinct_names s cs else Name k ∷ distinct_names (Name k ∷ s) cs) (same k)
    ∙ ap (λ l. if list_any (is_class_named k) t then l else Name k ∷ distinct_names (Name k ∷ s) cs)
    (distinct_same s t cs same)
    ∙ ap (λ l. if list_any (is_class_named k) t then distinct_names t cs else Name k ∷ l)
    (distinct_same (Name k ∷ s) (Name k ∷ t) cs (λ j. ap (λ b. nat_eq j k || b) (same j)))

-- ---- one class

pub distinct_none : (s : List Class) (c : Class) → name_of c ≡ None → distinct_names s (c ∷ []) ≡ []
distinct_none s NoClass e = refl
distinct_none s Global e = refl
distinct_none s (Name k) e = absurd (none-some k (sym e))

pub distinct_again : (s : List Class) (c : Class) (k : ℕ) → name_of c ≡ Some k → list_any (is_class_named k) s ≡ true
    → distinct_names s (c ∷ []) ≡ []
distinct_again s c k e seen =
    ap (λ d. distinct_names s (d ∷ [])) (name_is c k e)
    ∙ ap (λ b. if b then [] else Name k ∷ []) seen

pub distinct_first : (s : List Class) (c : Class) (k : ℕ) → name_of c ≡ Some k → list_any (is_class_named k) s ≡ false
    → distinct_names s (c ∷ []) ≡ c ∷ []
distinct_first s c k e new =
    ap (λ d. distinct_names s (d ∷ [])) (name_is c k e)
    ∙ ap (λ b. if b then [] else Name k ∷ []) new ∙ ap (λ d. d ∷ []) (sym (name_is c k e))

-- ---- one class after the other

or_false : (b : Bool) → b || false ≡ b
or_false true = refl
or_false false = refl

or_turned : (a b : Bool) → a || b ≡ b || (a || false)
or_turned true true = refl
or_turned true false = refl
or_turned false true = refl
or_turned false false = refl

no_more : (s : List Class) (c : Class) → ((k : ℕ) → is_class_named k c ≡ false) → SameNames s (s ++ c ∷ [])
no_more s c none k =
    sym (or_false (list_any (is_class_named k) s)) ∙ ap (λ b. list_any (is_class_named k) s || (b || false)) (sym (none k))
    ∙ sym (list_any-append (is_class_named k) s (c ∷ []))

same_again : (a b : Bool) → (b ≡ true → a ≡ true) → a ≡ a || (b || false)
same_again true b h = refl
same_again false true h = absurd (false≢true (h refl))
same_again false false h = refl

again : (s : List Class) (k : ℕ) → list_any (is_class_named k) s ≡ true → SameNames s (s ++ Name k ∷ [])
again s k seen j =
    same_again (list_any (is_class_named j) s) (nat_eq j k) (λ e. ap (λ n. list_any (is_class_named n) s) (same e) ∙ seen)
    ∙ sym (list_any-append (is_class_named j) s (Name k ∷ []))
  where
    same : nat_eq j k ≡ true → j ≡ k
    same e = grind (arith, nat_tests)

turned : (s : List Class) (k : ℕ) → SameNames (Name k ∷ s) (s ++ Name k ∷ [])
turned s k j = or_turned (nat_eq j k) (list_any (is_class_named j) s) ∙ sym (list_any-append (is_class_named j) s (Name k ∷ []))

name_step : (s cs : List Class) (k : ℕ) (b : Bool) → list_any (is_class_named k) s ≡ b
    → (if b then distinct_names s cs else Name k ∷ distinct_names (Name k ∷ s) cs)
    ≡ (if b then [] else Name k ∷ []) ++ distinct_names (s ++ Name k ∷ []) cs
name_step s cs k true e = distinct_same s (s ++ Name k ∷ []) cs (again s k e)
name_step s cs k false e =
    ap (λ l. Name k ∷ l) (distinct_same (Name k ∷ s) (s ++ Name k ∷ []) cs (turned s k))

pub distinct_step : (s : List Class) (c : Class) (cs : List Class)
    → distinct_names s (c ∷ cs) ≡ distinct_names s (c ∷ []) ++ distinct_names (s ++ c ∷ []) cs
distinct_step s NoClass cs = distinct_same s (s ++ NoClass ∷ []) cs (no_more s NoClass (λ k. refl))
distinct_step s Global cs = distinct_same s (s ++ Global ∷ []) cs (no_more s Global (λ k. refl))
distinct_step s (Name k) cs = name_step s cs k (list_any (is_class_named k) s) refl

-- a loop's step
pub distinct_more : (classes out out' : List Class) (i : ℕ) (d : Class) → i < length classes
    → out ++ distinct_names (take i classes) (drop i classes) ≡ distinct_names [] classes
    → out' ≡ out ++ distinct_names (take i classes) (get_or classes i d ∷ [])
    → out' ++ distinct_names (take (i + 1) classes) (drop (i + 1) classes) ≡ distinct_names [] classes
distinct_more classes out out' i d within before step =
    ap (λ o. o ++ distinct_names (take (i + 1) classes) (drop (i + 1) classes)) step
    ∙ append_assoc out (distinct_names (take i classes) (get_or classes i d ∷ []))
    (distinct_names (take (i + 1) classes) (drop (i + 1) classes))
    ∙ ap (λ s. out
    ++ (distinct_names (take i classes) (get_or classes i d ∷ []) ++ distinct_names s (drop (i + 1) classes)))
    (take_more classes i d within)
    ∙ ap (λ l. out ++ l) (sym (distinct_step (take i classes) (get_or classes i d) (drop (i + 1) classes)))
    ∙ ap (λ l. out ++ distinct_names (take i classes) l) (sym (at_drop_more (λ (l : List Class). l) classes i d within))
    ∙ before
