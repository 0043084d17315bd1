-- What a call passes, as the code goes over its lists: from the front, where the machine recurs to the end first. For names this agrees
-- because the first of two equal ones counts; for regions that are passed twice the code goes from the back.
use Rattle.std.proofs.Common.{◌≡◌, ◌⊎◌, ℕ, zero, suc, ◌+◌, ◌<◌, ◌≤◌, Bool, true, false, not, ◌&&◌, ◌||◌, List, [], ◌∷◌, ⊎_elim, length, drop, map}
use Rattle.std.proofs.Common.{Option, Some, None, refl, sym, ap, ◌∙◌, arith, nat_eq, if◌then◌else◌}
use Rattle.std.proofs.Common.{get_or, is_some, subst, ◌-◌}
use Rattle.std.proofs.lemmas.List.{at_drop_more, get_or-map, length-map}
use Rattle.std.proofs.lemmas.Bool.{false_from_ne_true, true≢false, or_left, or_right, or_from, eqb-true, eq-eqb, ne_eqb, cases_eq}
use Rattle.std.specs.List.{list_any}
use Rattle.std.proofs.Common.{Result, Ok, Err, is_err, OnOk}
use Rattle.std.proofs.lemmas.Bool.{cases_lt}
use Rattle.std.proofs.lemmas.List.Sorted.{searched}
use Rattle.std.specs.List.Sorted.{IsBinarySearchResult, IsStrictlyIncreasing}
use Rattle.std.specs.Ordering.{nat_cmp}
use Rattle.rgo_region_sets.proofs.Tables.{rising_ascends}
use Rattle.rgo_tac.specs.declared.regions.Class.{Class}
use Rattle.rgo_tac.specs.declared.regions.Class.TheVariants.{NoClass, Global, Name}
use Rattle.rgo_region_machine.specs.declared.regions.Region.{Region}
use Rattle.rgo_region_machine.specs.declared.regions.Region.TheVariants.{Global as GlobalRegion, Numbered}
use Rattle.rgo_region_machine.specs.Owed.{passed, passed_regions, given_names, same_class, stands_in, twice}
use Rattle.rgo_region_machine.specs.Regions.{Bindings, bound, class_region, same_region}
use Rattle.rgo_region_interpreter.specs.declared.holders.Holder.{Holder}
use Rattle.rgo_region_interpreter.specs.Calls.{NamesStandFor, UnbindsAll, class_region_in, bound_except, bound_first, or_region}
use Rattle.rgo_region_interpreter.specs.Holders.{FrameNames, Same, SameElse, Unbinds, bound_in, bound_with, bound_without}
use Rattle.rgo_sound.proofs.Tests.{nat_eq_refl}

-- ---- the regions that are passed

class_same : (names : FrameNames) (bindings : Bindings) → NamesStandFor names bindings → (c : Class)
    → class_region_in names c ≡ class_region bindings c
class_same names bindings same NoClass = refl
class_same names bindings same Global = refl
class_same names bindings same (Name k) = same k

pub regions_same : (names : FrameNames) (bindings : Bindings) → NamesStandFor names bindings → (cs : List Class)
    → map (class_region_in names) cs ≡ passed_regions bindings cs
regions_same names bindings same [] = refl
regions_same names bindings same (c ∷ cs) =
    ap (λ r. r ∷ map (class_region_in names) cs) (class_same names bindings same c)
    ∙ ap (λ rs. class_region bindings c ∷ rs) (regions_same names bindings same cs)

-- the region that is passed at a place
pub region_at : (names : FrameNames) (cs : List Class) (i : ℕ) → i < length cs
    → get_or (map (class_region_in names) cs) i None ≡ class_region_in names (get_or cs i NoClass)
region_at names cs i h = get_or-map (class_region_in names) cs i NoClass None h

pub region_within : (names : FrameNames) (cs : List Class) (i : ℕ) → i < length cs → i < length (map (class_region_in names) cs)
region_within names cs i h = rw length-map h

-- ---- the names that are given

pub or_none_same : (o : Option Region) → or_region o None ≡ o
or_none_same (Some r) = refl
or_none_same None = refl

pub passed_at : (fs : List Class) (rs : List (Option Region)) (i : ℕ) (d : Class) (e : Option Region)
    → i < length fs → i < length rs
    → passed (drop i fs) (drop i rs) ≡ passed (get_or fs i d ∷ drop (i + 1) fs) (get_or rs i e ∷ drop (i + 1) rs)
passed_at fs rs i d e h h' =
    at_drop_more (λ x. passed x (drop i rs)) fs i d h
    ∙ at_drop_more (λ x. passed (get_or fs i d ∷ drop (i + 1) fs) x) rs i e h'

-- ---- the names that are given to a callee

pub given_at : (lent : Class) (fs ps : List Class) (protects : List ℕ) (i : ℕ) (d e : Class)
    → i < length fs → i < length ps
    → given_names lent (drop i fs) (drop i ps) protects
    ≡ given_names lent (get_or fs i d ∷ drop (i + 1) fs) (get_or ps i e ∷ drop (i + 1) ps) protects
given_at lent fs ps protects i d e h h' =
    at_drop_more (λ x. given_names lent x (drop i ps) protects) fs i d h
    ∙ at_drop_more (λ x. given_names lent (get_or fs i d ∷ drop (i + 1) fs) x protects) ps i e h'

-- ---- what was seen of the regions from the back

-- whether it was seen twice; None if it was not seen
abbrev pub seen_in : ℕ → List (Option Region) → Option Bool
seen_in r regions =
    if stands_in (Numbered r) regions then Some (list_any (same_region (Numbered r)) (twice regions)) else None

pub twice_at : (rs : List (Option Region)) (i : ℕ) (e : Option Region) → i < length rs
    → twice (drop i rs) ≡ twice (get_or rs i e ∷ drop (i + 1) rs)
twice_at rs i e h = at_drop_more twice rs i e h

pub seen_at : (r : ℕ) (rs : List (Option Region)) (i : ℕ) (e : Option Region) → i < length rs
    → seen_in r (drop i rs) ≡ seen_in r (get_or rs i e ∷ drop (i + 1) rs)
seen_at r rs i e h = at_drop_more (seen_in r) rs i e h

-- ---- the ends of the lists

passed_nil : (fs : List Class) → passed fs [] ≡ []
passed_nil [] = refl
passed_nil (NoClass ∷ fs) = refl
passed_nil (Global ∷ fs) = refl
passed_nil (Name k ∷ fs) = refl

pub passed_end : (fs : List Class) (rs : List (Option Region)) (i : ℕ) → (i < length fs → i < length rs → ⊥)
    → passed (drop i fs) (drop i rs) ≡ []
passed_end [] rs zero h = refl
passed_end [] rs (suc i) h = refl
passed_end (f ∷ fs) [] zero h = passed_nil (f ∷ fs)
passed_end (f ∷ fs) [] (suc i) h = passed_nil (drop i fs)
passed_end (f ∷ fs) (r ∷ rs) zero h = absurd (h (omega arith) (omega arith))
passed_end (f ∷ fs) (r ∷ rs) (suc i) h = passed_end fs rs i (λ a b. h (omega (arith, a)) (omega (arith, b)))

given_nil : (lent : Class) (fs : List Class) (protects : List ℕ) → given_names lent fs [] protects ≡ []
given_nil lent [] protects = refl
given_nil lent (f ∷ fs) protects = refl

pub given_end : (lent : Class) (fs ps : List Class) (protects : List ℕ) (i : ℕ)
    → (i < length fs → i < length ps → ⊥) → given_names lent (drop i fs) (drop i ps) protects ≡ []
given_end lent [] ps protects zero h = refl
given_end lent [] ps protects (suc i) h = refl
given_end lent (f ∷ fs) [] protects zero h = refl
given_end lent (f ∷ fs) [] protects (suc i) h = given_nil lent (drop i fs) protects
given_end lent (f ∷ fs) (p ∷ ps) protects zero h = absurd (h (omega arith) (omega arith))
given_end lent (f ∷ fs) (p ∷ ps) protects (suc i) h =
    given_end lent fs ps protects i (λ a b. h (omega (arith, a)) (omega (arith, b)))

-- ---- a name that is given

none_some : (r : Region) → None ≡ Some r → ⊥
none_some r e = true≢false (sym (ap is_some e))

-- for a name that denotes what is passed for it, or nothing if nothing is
pub first_none : (names : FrameNames) (name : ℕ) (passed : Option Region) (k : ℕ) → ((r : Region) → passed ≡ Some r → ⊥)
    → bound_in names k ≡ bound_first names name passed k
first_none names name (Some region) k none = absurd (none region refl)
first_none names name None k none = go (nat_eq name k) (bound_in names k)
  where
    go : (t : Bool) (o : Option Region) → o ≡ or_region o (if t then None else None)
    go t (Some r) = refl
    go true None = refl
    go false None = refl

-- one that denoted a region stays
pub first_kept : (names : FrameNames) (name : ℕ) (passed : Option Region) (other : Region) (k : ℕ)
    → bound_in names name ≡ Some other → bound_in names k ≡ bound_first names name passed k
first_kept names name passed other k some =
    go (nat_eq name k) (bound_in names k) (λ t. ap (bound_in names) (sym (eqb-true name k t)) ∙ some)
  where
    go : (t : Bool) (o : Option Region) → (t ≡ true → o ≡ Some other) → o ≡ or_region o (if t then passed else None)
    go t (Some r) f = refl
    go true None f = absurd (none_some other (f refl))
    go false None f = refl

-- one that denoted none is bound
pub first_new : (names after : FrameNames) (name : ℕ) (region : Region) (k : ℕ)
    → bound_in names name ≡ None → bound_in after k ≡ bound_with names name region k
    → bound_in after k ≡ bound_first names name (Some region) k
first_new names after name region k none is =
    is ∙ go (nat_eq name k) (bound_in names k) (λ t. ap (bound_in names) (sym (eqb-true name k t)) ∙ none)
  where
    go : (t : Bool) (o : Option Region) → (t ≡ true → o ≡ None)
        → (if t then Some region else o) ≡ or_region o (if t then Some region else None)
    go true (Some r) f = absurd (none_some r (sym (f refl)))
    go true None f = refl
    go false (Some r) f = refl
    go false None f = refl

given_first : (names after : FrameNames) (name : ℕ) (passed_for : Option Region) (fs : List Class) (rs : List (Option Region)) (k : ℕ)
    → bound_in after k ≡ bound_first names name passed_for k
    → or_region (bound_in after k) (bound (passed fs rs) k)
    ≡ or_region (bound_in names k) (bound (passed (Name name ∷ fs) (passed_for ∷ rs)) k)
given_first names after name None fs rs k is =
    ap (λ o. or_region o (bound (passed fs rs) k)) is ∙ go (nat_eq name k) (bound_in names k)
  where
    go : (t : Bool) (o : Option Region)
        → or_region (or_region o (if t then None else None)) (bound (passed fs rs) k) ≡ or_region o (bound (passed fs rs) k)
    go t (Some r) = refl
    go true None = refl
    go false None = refl
given_first names after name (Some region) fs rs k is =
    ap (λ o. or_region o (bound (passed fs rs) k)) is ∙ go (nat_eq name k) (bound_in names k)
  where
    go : (t : Bool) (o : Option Region)
        → or_region (or_region o (if t then Some region else None)) (bound (passed fs rs) k)
        ≡ or_region o (if t then Some region else bound (passed fs rs) k)
    go t (Some r) = refl
    go true None = refl
    go false None = refl

-- ---- names that are taken away

pub same_else_more : (a b c : Holder) → SameElse a b → SameElse b c → SameElse a c
same_else_more a b c h g =
    record {
      protections = λ r. g.protections r ∙ h.protections r;
      fills = λ r. g.fills r ∙ h.fills r;
      base = g.base ∙ h.base;
      reserved = g.reserved ∙ h.reserved;
      done = g.done ∙ h.done;
    }

pub unbinds_none : (c : Holder) (given : List ℕ) → given ≡ [] → UnbindsAll c c given
unbinds_none c given e =
    record {
      renamed = λ names frames is. (names, is, λ k. ap (λ g. bound_except g names k) (sym e));
      kept = record { protections = λ r. refl; fills = λ r. refl; base = refl; reserved = refl; done = refl };
    }

same_test : (a b : ℕ) → nat_eq a b ≡ nat_eq b a
same_test a b =
    ⊎_elim
    (λ e. eq-eqb a b e ∙ sym (eq-eqb b a (sym e)))
    (λ n. ne_eqb a b n ∙ sym (ne_eqb b a (λ e. n (sym e))))
    (cases_eq a b)

except_more : (names others : FrameNames) (name k : ℕ) (given : List ℕ)
    → bound_in others k ≡ bound_without names name k
    → bound_except given others k ≡ bound_except (name ∷ given) names k
except_more names others name k given is =
    ap (λ o. if list_any (nat_eq k) given then None else o) is
    ∙ ap (λ t. if list_any (nat_eq k) given then None else (if t then None else bound_in names k)) (same_test name k)
    ∙ go (nat_eq k name) (list_any (nat_eq k) given)
  where
    go : (s t : Bool) → (if t then None else (if s then None else bound_in names k))
        ≡ (if s || t then None else bound_in names k)
    go true true = refl
    go true false = refl
    go false true = refl
    go false false = refl

pub unbinds_more : (a b c : Holder) (name : ℕ) (given : List ℕ) → Unbinds a b name → UnbindsAll b c given
    → UnbindsAll a c (name ∷ given)
unbinds_more a b c name given h g =
    record {
      renamed = λ names frames is.
          let x = h.renamed names frames is in
          let y = g.renamed x.0 frames x.1 in
          (y.0, y.1, λ k. y.2 k ∙ except_more names x.0 name k given (x.2 k));
      kept = same_else_more a b c h.kept g.kept;
    }

pub unbinds_as : (a b : Holder) (given others : List ℕ) → given ≡ others → UnbindsAll a b given → UnbindsAll a b others
unbinds_as a b given others e h = rw (sym e) h

-- ---- which names are given

pub left_given : (lent formal : Class) (fs ps : List Class) (k : ℕ) (protects : List ℕ)
    → list_any (nat_eq k) protects ≡ false → same_class formal lent ≡ false
    → k ∷ given_names lent fs ps protects ≡ given_names lent (formal ∷ fs) (Name k ∷ ps) protects
left_given lent formal fs ps k protects a b =
    sym (ap (λ t. if t || same_class formal lent then given_names lent fs ps protects
    else k ∷ given_names lent fs ps protects) a
    ∙ ap (λ t. if t then given_names lent fs ps protects else k ∷ given_names lent fs ps protects) b)

pub left_protected : (lent formal : Class) (fs ps : List Class) (k : ℕ) (protects : List ℕ)
    → list_any (nat_eq k) protects ≡ true
    → given_names lent fs ps protects ≡ given_names lent (formal ∷ fs) (Name k ∷ ps) protects
left_protected lent formal fs ps k protects a =
    sym (ap (λ t. if t || same_class formal lent then given_names lent fs ps protects
    else k ∷ given_names lent fs ps protects) a)

pub left_lent : (lent formal : Class) (fs ps : List Class) (k : ℕ) (protects : List ℕ)
    → same_class formal lent ≡ true
    → given_names lent fs ps protects ≡ given_names lent (formal ∷ fs) (Name k ∷ ps) protects
left_lent lent formal fs ps k protects b =
    go (list_any (nat_eq k) protects)
    ∙ sym (ap (λ t. if list_any (nat_eq k) protects || t then given_names lent fs ps protects
    else k ∷ given_names lent fs ps protects) b)
  where
    go : (t : Bool) → given_names lent fs ps protects
        ≡ (if t || true then given_names lent fs ps protects else k ∷ given_names lent fs ps protects)
    go true = refl
    go false = refl

-- ---- regions from the back

any_if : (r q : Region) (rs : List Region) (t : Bool)
    → list_any (same_region r) (if t then q ∷ rs else rs)
    ≡ (if t then same_region r q || list_any (same_region r) rs else list_any (same_region r) rs)
any_if r q rs true = refl
any_if r q rs false = refl

pub twice_stands : (r : ℕ) (rs : List (Option Region)) → list_any (same_region (Numbered r)) (twice rs) ≡ true
    → stands_in (Numbered r) rs ≡ true
twice_stands r [] h = h
twice_stands r (None ∷ rs) h = twice_stands r rs h
twice_stands r (Some GlobalRegion ∷ rs) h = twice_stands r rs h
twice_stands r (Some (Numbered q) ∷ rs) h =
    go (nat_eq r q) (stands_in (Numbered q) rs && not (list_any (same_region (Numbered q)) (twice rs)))
    (sym (any_if (Numbered r) (Numbered q) (twice rs) _) ∙ h) (twice_stands r rs)
  where
    go : (s t : Bool)
        → (if t then s || list_any (same_region (Numbered r)) (twice rs)
        else list_any (same_region (Numbered r)) (twice rs)) ≡ true
        → (list_any (same_region (Numbered r)) (twice rs) ≡ true → stands_in (Numbered r) rs ≡ true)
        → (s || stands_in (Numbered r) rs) ≡ true
    go true t e f = refl
    go false true e f = f e
    go false false e f = f e

-- a region that was not seen is not among those seen twice
not_twice : (r : ℕ) (rs : List (Option Region)) → stands_in (Numbered r) rs ≡ false
    → list_any (same_region (Numbered r)) (twice rs) ≡ false
not_twice r rs missing = false_from_ne_true _ (λ e. true≢false (sym (twice_stands r rs e) ∙ missing))

-- what is seen of a region once another one is added
pub seen_other : (q r : ℕ) (rs : List (Option Region)) → nat_eq r q ≡ false
    → seen_in r rs ≡ seen_in r (Some (Numbered q) ∷ rs)
seen_other q r rs differ =
    sym (ap (λ t. if t || stands_in (Numbered r) rs then Some (list_any (same_region (Numbered r)) (twice (Some (Numbered q) ∷ rs))) else None) differ
    ∙ ap (λ b. if stands_in (Numbered r) rs then Some b else None) (any_if (Numbered r) (Numbered q) (twice rs) _ ∙ go (stands_in (Numbered q) rs && not (list_any (same_region (Numbered q)) (twice rs)))))
  where
    go : (t : Bool) → (if t then nat_eq r q || list_any (same_region (Numbered r)) (twice rs) else list_any (same_region (Numbered r)) (twice rs))
        ≡ list_any (same_region (Numbered r)) (twice rs)
    go true = ap (λ s. s || list_any (same_region (Numbered r)) (twice rs)) differ
    go false = refl

-- it is now seen, and twice if it was seen before
pub seen_here : (q : ℕ) (rs : List (Option Region)) → Some (stands_in (Numbered q) rs) ≡ seen_in q (Some (Numbered q) ∷ rs)
seen_here q rs =
    sym (ap (λ t. if t || stands_in (Numbered q) rs then Some (list_any (same_region (Numbered q)) (twice (Some (Numbered q) ∷ rs))) else None) (nat_eq_refl q)
    ∙ ap Some (any_if (Numbered q) (Numbered q) (twice rs) _
    ∙ ap (λ s. if stands_in (Numbered q) rs && not (list_any (same_region (Numbered q)) (twice rs)) then s || list_any (same_region (Numbered q)) (twice rs) else list_any (same_region (Numbered q)) (twice rs)) (nat_eq_refl q)
    ∙ go (stands_in (Numbered q) rs) (list_any (same_region (Numbered q)) (twice rs)) (not_twice q rs) (twice_stands q rs)))
  where
    go : (s t : Bool) → (s ≡ false → t ≡ false) → (t ≡ true → s ≡ true) → (if s && not t then true || t else t) ≡ s
    go true true f g = refl
    go true false f g = refl
    go false true f g = sym (g refl)
    go false false f g = refl

-- which are seen twice, by what was seen before
abbrev pub adds : Option Bool → Bool
adds (Some false) = true
adds _ = false

pub twice_more : (q : ℕ) (rs : List (Option Region)) (o : Option Bool) → o ≡ seen_in q rs
    → twice (Some (Numbered q) ∷ rs) ≡ (if adds o then Numbered q ∷ twice rs else twice rs)
twice_more q rs o is =
    go (stands_in (Numbered q) rs) (list_any (same_region (Numbered q)) (twice rs))
    ∙ ap (λ o. if adds o then Numbered q ∷ twice rs else twice rs) (sym is)
  where
    go : (s t : Bool) → (if s && not t then Numbered q ∷ twice rs else twice rs)
        ≡ (if adds (if s then Some t else None) then Numbered q ∷ twice rs else twice rs)
    go true true = refl
    go true false = refl
    go false t = refl

-- ---- one step of the loop over what is given

-- a class without a name
pub not_named : (class : Class) → ((class ≡ NoClass) ⊎ (class ≡ Global)) → (k : ℕ) → class ≡ Name k → ⊥
not_named class is k named = ⊎_elim (λ e. cc) (λ e. cc) is

pub step_first : (fs : List Class) (rs : List (Option Region)) (i : ℕ) (names after : FrameNames) (name : ℕ) (r : Option Region) (k : ℕ)
    → i < length fs → i < length rs → get_or fs i NoClass ≡ Name name → get_or rs i None ≡ r
    → bound_in after k ≡ bound_first names name r k
    → or_region (bound_in after k) (bound (passed (drop (i + 1) fs) (drop (i + 1) rs)) k)
    ≡ or_region (bound_in names k) (bound (passed (drop i fs) (drop i rs)) k)
step_first fs rs i names after name r k a b f e is =
    given_first names after name r (drop (i + 1) fs) (drop (i + 1) rs) k is
    ∙ ap (λ p. or_region (bound_in names k) (bound p k))
    (sym (passed_at fs rs i NoClass None a b
    ∙ ap (λ x. passed (x ∷ drop (i + 1) fs) (get_or rs i None ∷ drop (i + 1) rs)) f
    ∙ ap (λ x. passed (Name name ∷ drop (i + 1) fs) (x ∷ drop (i + 1) rs)) e))

nothing_named : (f : Class) (r : Option Region) (fs : List Class) (rs : List (Option Region))
    → ((k : ℕ) → f ≡ Name k → ⊥) → passed fs rs ≡ passed (f ∷ fs) (r ∷ rs)
nothing_named NoClass r fs rs other = refl
nothing_named Global r fs rs other = refl
nothing_named (Name k) r fs rs other = absurd (other k refl)

pub step_other : (fs : List Class) (rs : List (Option Region)) (i : ℕ) → i < length fs → i < length rs
    → ((k : ℕ) → get_or fs i NoClass ≡ Name k → ⊥)
    → passed (drop (i + 1) fs) (drop (i + 1) rs) ≡ passed (drop i fs) (drop i rs)
step_other fs rs i a b other =
    nothing_named (get_or fs i NoClass) (get_or rs i None) (drop (i + 1) fs) (drop (i + 1) rs) other
    ∙ sym (passed_at fs rs i NoClass None a b)

-- ---- whether a name is protected

pub any_at : (k : ℕ) (xs : List ℕ) (i : ℕ) → i < length xs → get_or xs i 0 ≡ k → list_any (nat_eq k) xs ≡ true
any_at k [] i h e = absurd (omega (arith, h))
any_at k (x ∷ xs) zero h e = or_left (nat_eq k x) (list_any (nat_eq k) xs) (eq-eqb k x (sym e))
any_at k (x ∷ xs) (suc i) h e =
    or_right (nat_eq k x) (list_any (nat_eq k) xs) (any_at k xs i (omega (arith, h)) e)

pub any_nowhere : (k : ℕ) (xs : List ℕ) → ((i : ℕ) → i < length xs → get_or xs i 0 ≡ k → ⊥)
    → list_any (nat_eq k) xs ≡ false
any_nowhere k [] h = refl
any_nowhere k (x ∷ xs) h =
    or_from (nat_eq k x) (list_any (nat_eq k) xs) (ne_eqb k x (λ e. h 0 (omega arith) (sym e)))
    (any_nowhere k xs (λ i l e. h (suc i) (omega (arith, l)) e))

-- ---- one step of the loop over what is given to a callee

left_same : (lent : Class) (formal pass : Class) (fs ps : List Class) (protects : List ℕ)
    → ((k : ℕ) → pass ≡ Name k → ⊥)
    → given_names lent fs ps protects ≡ given_names lent (formal ∷ fs) (pass ∷ ps) protects
left_same lent formal NoClass fs ps protects other = refl
left_same lent formal Global fs ps protects other = refl
left_same lent formal (Name k) fs ps protects other = absurd (other k refl)

pub left_at : (lent : Class) (fs ps : List Class) (protects : List ℕ) (i k : ℕ) → i < length fs → i < length ps
    → get_or ps i NoClass ≡ Name k
    → given_names lent (get_or fs i NoClass ∷ drop (i + 1) fs) (Name k ∷ drop (i + 1) ps) protects
    ≡ given_names lent (drop i fs) (drop i ps) protects
left_at lent fs ps protects i k a b p =
    sym (given_at lent fs ps protects i NoClass NoClass a b
    ∙ ap (λ x. given_names lent (get_or fs i NoClass ∷ drop (i + 1) fs) (x ∷ drop (i + 1) ps) protects) p)

pub left_other : (lent : Class) (fs ps : List Class) (protects : List ℕ) (i : ℕ) → i < length fs → i < length ps
    → ((k : ℕ) → get_or ps i NoClass ≡ Name k → ⊥)
    → given_names lent (drop (i + 1) fs) (drop (i + 1) ps) protects
    ≡ given_names lent (drop i fs) (drop i ps) protects
left_other lent fs ps protects i a b other =
    left_same lent (get_or fs i NoClass) (get_or ps i NoClass) (drop (i + 1) fs) (drop (i + 1) ps) protects other
    ∙ sym (given_at lent fs ps protects i NoClass NoClass a b)

-- what a search in an ascending list returned
pub any_in : (k : ℕ) (xs : List ℕ) (r : Result ℕ ℕ) → IsBinarySearchResult (λ y. nat_cmp y k) xs r
    → IsStrictlyIncreasing xs → list_any (nat_eq k) xs ≡ not (is_err r)
any_in k xs (Ok i) is rises =
    let s = searched xs k (Ok i) is (rising_ascends xs rises) in
    any_at k xs i s.0 s.1
any_in k xs (Err i) is rises =
    let s = searched xs k (Err i) is (rising_ascends xs rises) in
    any_nowhere k xs (λ j l e. absurd (⊎_elim
    (λ below. omega (arith, s.1 j below, e))
    (λ above. omega (arith, s.2 j above l, e))
    (cases_lt j i)))

pub unbinds_since : (a b d : Holder) (given : List ℕ) → Same a b → UnbindsAll b d given → UnbindsAll a d given
unbinds_since a b d given same h =
    record {
      renamed = λ names frames is. h.renamed names frames (same.0 ∙ is);
      kept = same_else_more a b d same.1 h.kept;
    }

pub unbinds_from : (a b d : Holder) (given : List ℕ) → a ≡ b → UnbindsAll a d given → UnbindsAll b d given
unbinds_from a b d given e h = subst (λ x. UnbindsAll x d given) e h

-- ---- one step of the loop from the back

pub twice_step : (rs : List (Option Region)) (j q : ℕ) (o : Option Bool) → j < length rs
    → get_or rs j None ≡ Some (Numbered q) → o ≡ seen_in q (drop (j + 1) rs)
    → twice (drop j rs) ≡ (if adds o then Numbered q ∷ twice (drop (j + 1) rs) else twice (drop (j + 1) rs))
twice_step rs j q o h is seen =
    twice_at rs j None h ∙ ap (λ x. twice (x ∷ drop (j + 1) rs)) is ∙ twice_more q (drop (j + 1) rs) o seen

pub seen_step : (rs : List (Option Region)) (j q r : ℕ) → j < length rs
    → get_or rs j None ≡ Some (Numbered q)
    → seen_in r (drop j rs)
    ≡ (if nat_eq q r then Some (stands_in (Numbered q) (drop (j + 1) rs)) else seen_in r (drop (j + 1) rs))
seen_step rs j q r h is =
    seen_at r rs j None h ∙ ap (λ x. seen_in r (x ∷ drop (j + 1) rs)) is
    ∙ ⊎_elim
    (λ e. ap (λ x. seen_in x (Some (Numbered q) ∷ drop (j + 1) rs)) (sym e)
    ∙ sym (seen_here q (drop (j + 1) rs))
    ∙ sym (ap (λ t. if t then Some (stands_in (Numbered q) (drop (j + 1) rs)) else seen_in r (drop (j + 1) rs)) (eq-eqb q r e)))
    (λ n. sym (seen_other q r (drop (j + 1) rs) (ne_eqb r q (λ e. n (sym e))))
    ∙ sym (ap (λ t. if t then Some (stands_in (Numbered q) (drop (j + 1) rs)) else seen_in r (drop (j + 1) rs)) (ne_eqb q r n)))
    (cases_eq q r)

-- the place before i
pub next_seen : (rs : List (Option Region)) (i : ℕ) → 0 < i → i ≤ length rs
    → (i - 1 < length rs) × (drop i rs ≡ drop (i - 1 + 1) rs)
next_seen rs i more within =
    (omega (arith, more, within), ap (λ n. drop n rs) (omega (arith, more)))

-- a region that was not seen is not in the rest of the list
pub stands_from_none : (q : ℕ) (rs : List (Option Region)) → None ≡ seen_in q rs → stands_in (Numbered q) rs ≡ false
stands_from_none q rs e = go (stands_in (Numbered q) rs) _ e
  where
    go : (s t : Bool) → None ≡ (if s then Some t else None) → s ≡ false
    go true t e = absurd (true≢false (sym (ap is_some e)))
    go false t e = refl

pub stands_from_some : (q : ℕ) (rs : List (Option Region)) (b : Bool) → Some b ≡ seen_in q rs
    → stands_in (Numbered q) rs ≡ true
stands_from_some q rs b e = go (stands_in (Numbered q) rs) _ e
  where
    go : (s t : Bool) → Some b ≡ (if s then Some t else None) → s ≡ true
    go true t e = refl
    go false t e = absurd (true≢false (ap is_some e))

-- what was seen twice stays so with one more place
pub seen_still : (f : ℕ → Option Bool) (rs : List (Option Region)) (j q r : ℕ) → j < length rs
    → get_or rs j None ≡ Some (Numbered q) → Some true ≡ f q → ((k : ℕ) → f k ≡ seen_in k (drop (j + 1) rs))
    → f r ≡ seen_in r (drop j rs)
seen_still f rs j q r h at got same = go (nat_eq q r) refl ∙ sym (seen_step rs j q r h at)
  where
    go : (t : Bool) → nat_eq q r ≡ t
        → f r ≡ (if t then Some (stands_in (Numbered q) (drop (j + 1) rs)) else seen_in r (drop (j + 1) rs))
    go true e =
        ap f (sym (eqb-true q r e)) ∙ sym got
        ∙ ap Some (sym (stands_from_some q (drop (j + 1) rs) true (got ∙ same q)))
    go false e = same r

-- what holds if a call succeeded, which it did
pub since_ok : {A E : Type 0} (r : Result A E) (P : Type 0) → is_err r ≡ false → OnOk r P → P
since_ok (Ok a) P e h = h
since_ok (Err x) P e h = absurd (true≢false e)

pub on_ok : {A E : Type 0} (r : Result A E) (P Q : Type 0) → (P → Q) → OnOk r P → OnOk r Q
on_ok (Ok a) P Q f h = f h
on_ok (Err x) P Q f h = h
