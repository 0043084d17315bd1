-- What the last pass of a run implies about the run, when all goroutines have left and the table is closed. Goroutines come in three lists
-- in other orders (the pass, the run queue, those that left), and the law of passes speaks of numbers: so a lack is looked up by number
-- (`first_lack`), and for the goroutine that lacks room the list begins with it, so that the look-up finds this lack.
use lib.ListN.{get_elem?}
use mathlib.Core.Option.{some, some-injective}
use Rattle.std.proofs.Common.{◌≡◌, ◌⊎◌, inl, inr, ⊎_elim, ℕ, Bool, true, false, nat_eq, if◌then◌else◌, List, [], ◌∷◌, ◌++◌, IsPermutation, Option, None, Some, map, refl, ap, sym, subst, ◌∙◌, zero, suc, arith}
use Rattle.std.specs.List.{All, AllZip, Contains}
use Rattle.std.proofs.lemmas.List.{append-nil}
use Rattle.std.proofs.lemmas.List.Elements.{All-contains}
use Rattle.std.proofs.lemmas.List.Sorted.{All-permutation, Contains-permutation, IsPermutation-sym, IsPermutation-trans}
use Rattle.rgo_core.proofs.Lists.{get_of}
use Rattle.rgo_core.specs.Core.{Setup}
use Rattle.rgo_core.specs.Records.{Record}
use Rattle.rgo_core.specs.Rule.Views.{HasRow, number_of}
use Rattle.rgo_core.specs.Rule.declared.accesses.Access.{Access}
use Rattle.rgo_core.specs.Rule.declared.accesses.View.{View}
use Rattle.rgo_core_steps.specs.Outcomes.{ClosesTable}
use Rattle.rgo_table_runs.specs.Goroutine.Acts.Runs.{Run}
use Rattle.rgo_table_runs.specs.Goroutine.Goroutines.{IsOf, record_of_goroutine}
use Rattle.rgo_table_runs.specs.Goroutine.declared.goroutine.Goroutine.{Goroutine}
use Rattle.rgo_sound.proofs.Tests.{eq_of}
use Rattle.rgo_sound.specs.Machine.declared.limits.Shortage.{Shortage}
use Rattle.rgo_table_runs.proofs.closing.Closed.{has_row}
use Rattle.rgo_table_runs.proofs.passing.Passed.{finds_deadlock, finds_shortage}
use Rattle.rgo_table_runs.specs.closing.Gathering.{numbered_rows}
use Rattle.rgo_table_runs.specs.closing.Rows.{AreAll}
use Rattle.rgo_table_runs.specs.passing.Passes.{AllPassed}
use Rattle.rgo_table_runs.specs.passing.Turns.{HasPassed, Over}
use Rattle.rgo_runtime.specs.Closing.{PassTells, PassReports}
use Rattle.rgo_runtime.specs.Crew.{Crew, HasPassedAll, IsRunCrew}
use Rattle.rgo_runtime.specs.Crews.{its_goroutine}
use Rattle.rgo_runtime.specs.Leaving.{HaveAllLeft, goroutine_row}
use Rattle.rgo_runtime.specs.Parking.{parked_values}
use Rattle.rgo_runtime.specs.Passing.{AllStoodStill, HasPassedWith, IsBehind, IsPass, PassComesTo}
use Rattle.rgo_runtime.specs.Turns.{Turn}
use Rattle.rgo_runtime.specs.declared.deadlock.Passed.{Passed}
use Rattle.rgo_runtime.specs.declared.deadlock.Passed.TheVariants.{Lacks, Moved, Still}
use Rattle.rgo_runtime.specs.declared.retiring.Left.{Left}
use Rattle.rgo_runtime.proofs.leaving.One.{In, in_cons, in_either, in_rest, in_right, none_in}

-- ---- lists

module _ {A : Type 0} where
  in_of : (xs : List A) (x : A) → Contains xs x → In xs x
  in_of [] x (k, l, e) = absurd (omega (arith, l))
  in_of (z ∷ xs) x (zero, l, e) = (0, ap some e)
  in_of (z ∷ xs) x (suc k, l, e) = let r = in_of xs x (k, omega (arith, l), e) in (suc r.0, r.1)

  contains_of : (xs : List A) (x : A) → In xs x → Contains xs x
  contains_of [] x t = absurd (none_in x t)
  contains_of (z ∷ xs) x (zero, e) = (0, omega arith, some-injective z x e)
  contains_of (z ∷ xs) x (suc i, e) = let r = contains_of xs x (i, e) in (suc r.0, omega (arith, r.1), r.2)

  -- who is in a list is in it in any order
  pub in_order : (xs ys : List A) → IsPermutation xs ys → (x : A) → In xs x → In ys x
  in_order xs ys order x t = in_of ys x (Contains-permutation xs ys x order (contains_of xs x t))

  pub in_map : {B : Type 0} (f : A → B) (xs : List A) (y : B) → In (map f xs) y → (x : A) × In xs x × (f x ≡ y)
  in_map f [] y t = absurd (none_in y t)
  in_map f (x ∷ xs) y t = ⊎_elim
      (λ (e : f x ≡ y). (x, (0, refl), e))
      (λ (s : In (map f xs) y). let r = in_map f xs y s in (r.0, in_rest x xs r.0 r.1, r.2))
      (in_cons (f x) (map f xs) y t)

  pub map_in : {B : Type 0} (f : A → B) (xs : List A) (x : A) → In xs x → In (map f xs) (f x)
  map_in f [] x t = absurd (none_in x t)
  map_in f (z ∷ xs) x t = ⊎_elim
      (λ (e : z ≡ x). subst (λ y. In (f z ∷ map f xs) (f y)) e (0, refl))
      (λ (s : In xs x). in_rest (f z) (map f xs) (f x) (map_in f xs x s))
      (in_cons z xs x t)

-- ---- what each goroutine lacks

same_number : (n : ℕ) → nat_eq n n ≡ true
same_number n = grind arith

other_number : (a b : ℕ) → nat_eq a b ≡ false → a ≡ b → ⊥
other_number a b q e = grind arith

-- what the first goroutine of this number lacks
abbrev first_lack : List Goroutine → List (Option Shortage) → ℕ → Option Shortage
first_lack [] lacks g = None
first_lack (go ∷ gos) [] g = None
first_lack (go ∷ gos) (lack ∷ lacks) g = if nat_eq go.number g then lack else first_lack gos lacks g

module _ (P : Goroutine → Option Shortage → Type 0) where
  -- one of this number has it, or there is none of this number
  abbrev Looked : List Goroutine → List (Option Shortage) → ℕ → Type 0
  Looked gos lacks g = ((go : Goroutine) × In gos go × (go.number ≡ g) × P go (first_lack gos lacks g))
      ⊎ ((first_lack gos lacks g ≡ None) × ((go : Goroutine) → In gos go → go.number ≡ g → ⊥))

  looked_up : (gos : List Goroutine) (lacks : List (Option Shortage)) → AllZip P gos lacks → (g : ℕ) → Looked gos lacks g
  looked_up [] lacks zip g = inr (refl, λ go t is. none_in go t)
  looked_up (go ∷ gos) [] zip g = absurd zip
  looked_up (go ∷ gos) (lack ∷ lacks) zip g = by (looked_up gos lacks zip.1 g) (nat_eq go.number g) refl
    where
      by : Looked gos lacks g → (b : Bool) → nat_eq go.number g ≡ b
          → ((x : Goroutine) × In (go ∷ gos) x × (x.number ≡ g) × P x (if b then lack else first_lack gos lacks g))
          ⊎ (((if b then lack else first_lack gos lacks g) ≡ None) × ((x : Goroutine) → In (go ∷ gos) x → x.number ≡ g → ⊥))
      by rest true q = inl (go, (0, refl), eq_of go.number g q, zip.0)
      by rest false q = ⊎_elim
          (λ (t : (x : Goroutine) × In gos x × (x.number ≡ g) × P x (first_lack gos lacks g)).
          inl (t.0, in_rest go gos t.0 t.1, t.2, t.3))
          (λ (t : (first_lack gos lacks g ≡ None) × ((x : Goroutine) → In gos x → x.number ≡ g → ⊥)).
          inr (
            t.0,
            λ x at is. ⊎_elim
                (λ (same : go ≡ x). absurd (other_number go.number g q (ap (λ (y : Goroutine). y.number) same ∙ is)))
                (λ (s : In gos x). t.1 x s is)
                (in_cons go gos x at),
          ))
          rest

  -- who lacks something of the list
  lacking : (gos : List Goroutine) (lacks : List (Option Shortage)) → AllZip P gos lacks → (lack : Option Shortage) → In lacks lack
      → (go : Goroutine) × In gos go × P go lack
  lacking [] [] zip lack t = absurd (none_in lack t)
  lacking [] (x ∷ lacks) zip lack t = absurd zip
  lacking (go ∷ gos) [] zip lack t = absurd zip
  lacking (go ∷ gos) (x ∷ lacks) zip lack t = ⊎_elim
      (λ (e : x ≡ lack). (go, (0, refl), subst (P go) e zip.0))
      (λ (s : In lacks lack). let r = lacking gos lacks zip.1 lack s in (r.0, in_rest go gos r.0 r.1, r.2))
      (in_cons x lacks lack t)

-- if all lack nothing, none of them lacks anything
none_lack : (gos : List Goroutine) (lacks : List (Option Shortage)) → ((lack : Option Shortage) → In lacks lack → lack ≡ None)
    → (g : ℕ) → first_lack gos lacks g ≡ None
none_lack [] lacks none g = refl
none_lack (go ∷ gos) [] none g = refl
none_lack (go ∷ gos) (lack ∷ lacks) none g = by (none_lack gos lacks (λ x t. none x (in_rest lack lacks x t)) g) (nat_eq go.number g)
  where
    by : first_lack gos lacks g ≡ None → (b : Bool) → (if b then lack else first_lack gos lacks g) ≡ None
    by rest true = none lack (0, refl)
    by rest false = rest

-- ---- at the close

module _ (before c : Crew) (passed : Passed) (left : Left) (words : List ℕ) (e : ClosesTable c.run.setup words left.seat.me.0)
    (h : HasPassedAll before c passed) (k : IsRunCrew c) (none_parked : c.parked ≡ []) (none_born : c.born ≡ []) (gone : HaveAllLeft c left)
    (whole : left.is_whole ≡ true) (all : AreAll left.seat.me.0 (numbered_rows e.recs)) where
  abbrev T : Setup
  T = c.run.setup

  abbrev v : View Record
  v = left.seat.me.0

  same_run : c.run ≡ before.run
  same_run = ap (λ (x : Crew). x.run) h.rest

  pass : IsPass c.run c.me h.before h.after passed
  pass = subst (λ (r : Run). IsPass r c.me h.before h.after passed) (sym same_run) h.pass

  rows_are : v.records ≡ c.me.0.records ++ map (goroutine_row T) gone.gone
  rows_are = gone.left.rows whole ∙ ap (λ me. me.0.records ++ map (goroutine_row T) gone.gone) gone.is.0

  -- the goroutines that were ready are all that had not retired
  all_ready : IsPermutation gone.gone (map its_goroutine c.ready)
  all_ready =
      let rest : map its_goroutine (parked_values c.parked) ++ c.born ≡ [] =
      ap (λ (p : List (ℕ × Turn)). map its_goroutine (parked_values p) ++ c.born) none_parked ∙ none_born in
      subst (λ (l : List Goroutine). IsPermutation gone.gone l)
      (ap (λ (l : List Goroutine). map its_goroutine c.ready ++ l) rest ∙ append-nil (map its_goroutine c.ready)) gone.all

  same_ones : IsPermutation h.after gone.gone
  same_ones = IsPermutation-trans h.after (map its_goroutine c.ready) gone.gone h.of_new
      (IsPermutation-sym gone.gone (map its_goroutine c.ready) all_ready)

  behind : All (IsBehind gone.begin.seat.me.0.seen) gone.gone
  behind = subst (λ me. All (IsBehind me.0.seen) gone.gone) (sym gone.is.0)
      (All-permutation (IsBehind c.me.0.seen) h.after gone.gone same_ones h.behind)

  seen_is : v.seen ≡ c.me.0.seen
  seen_is = gone.left.seen whole behind ∙ ap (λ me. me.0.seen) gone.is.0

  -- all in these lists have passed, and each lacks what the other list has at its place
  module _ (gos : List Goroutine) (lacks : List (Option Shortage)) (zip : AllZip (HasPassedWith T pass.before c.me.0.seen) gos lacks)
      (of : (go : Goroutine) → In gos go → In h.after go) (are : (go : Goroutine) → In h.after go → In gos go) where
    numbered_by : (go : Goroutine) → In gos go → go.number ≡ number_of go.actor.seat.me
    numbered_by go t = (All-contains (IsOf before.run) h.after go h.of (contains_of h.after go (of go t))).number

    in_view : (go : Goroutine) → In gos go → HasRow v.records go.number (record_of_goroutine T go)
    in_view go t =
        subst (λ rs. HasRow rs go.number (record_of_goroutine T go)) (sym rows_are)
        (in_right c.me.0.records (map (goroutine_row T) gone.gone) (go.number, record_of_goroutine T go)
        (map_in (goroutine_row T) gone.gone go (in_order h.after gone.gone same_ones go (of go t))))

    abbrev lack : ℕ → Option Shortage
    lack g = first_lack gos lacks g

    passed_of : (g : ℕ) (d : Record) → HasRow (numbered_rows e.recs) g d → (go : Goroutine) → In gos go → go.number ≡ g
        → HasPassedWith T pass.before c.me.0.seen go (lack g) → HasPassed T pass.before c.me.0.seen g d (lack g)
    passed_of g d has go t is p =
        let its : get_elem? e.recs go.number ≡ some (record_of_goroutine T go) = (e.here go.number (record_of_goroutine T go) (in_view go t)).0 in
        let that : get_elem? e.recs g ≡ some d = (e.here g d (all.here g d has)).0 in
        let same : record_of_goroutine T go ≡ d =
        some-injective (record_of_goroutine T go) d (sym its ∙ (ap (λ (n : ℕ). get_elem? e.recs n) is ∙ that)) in
        subst (λ (x : Record). HasPassed T pass.before c.me.0.seen g x (lack g)) same
        (subst (λ (n : ℕ). HasPassed T pass.before c.me.0.seen n (record_of_goroutine T go) (lack g)) (sym (numbered_by go t) ∙ is) p)

    retired_of : (g : ℕ) (d : Record) → HasRow c.me.0.records g d → lack g ≡ None → HasPassed T pass.before c.me.0.seen g d (lack g)
    retired_of g d has none = record { tidy = k.retired.tidy g d has; stands = Over none (pass.retired g d has) (k.over g d has) }

    in_rows : (g : ℕ) (d : Record) → HasRow (numbered_rows e.recs) g d → HasRow (c.me.0.records ++ map (goroutine_row T) gone.gone) g d
    in_rows g d has = subst (λ rs. HasRow rs g d) rows_are (all.here g d has)

    each : (g : ℕ) (d : Record) → HasRow (numbered_rows e.recs) g d → HasPassed T pass.before c.me.0.seen g d (lack g)
    each g d has = ⊎_elim
        (λ (t : (go : Goroutine) × In gos go × (go.number ≡ g) × HasPassedWith T pass.before c.me.0.seen go (lack g)).
        passed_of g d has t.0 t.1 t.2 t.3)
        (λ (t : (lack g ≡ None) × ((go : Goroutine) → In gos go → go.number ≡ g → ⊥)). ⊎_elim
        (λ (s : HasRow c.me.0.records g d). retired_of g d s t.0)
        (λ (s : In (map (goroutine_row T) gone.gone) (g, d)).
        let r = in_map (goroutine_row T) gone.gone (g, d) s in
        absurd (t.1 r.0 (are r.0 (in_order gone.gone h.after (IsPermutation-sym h.after gone.gone same_ones) r.0 r.1)) (ap (λ (x : ℕ × Record). x.0) r.2)))
        (in_either c.me.0.records (map (goroutine_row T) gone.gone) (g, d) (in_rows g d has)))
        (looked_up (HasPassedWith T pass.before c.me.0.seen) gos lacks zip g)

    all_passed : AllPassed T v (numbered_rows e.recs) pass.before lack
    all_passed = record {
      all = all;
      since = pass.since;
      seen = seen_is ∙ pass.is;
      each = λ g d has. subst (λ (l : List Access). HasPassed T pass.before l g d (lack g)) (sym seen_is) (each g d has);
    }

  -- it is itself
  same_list : (go : Goroutine) → In h.after go → In h.after go
  same_list go t = t

  still : AllStoodStill c.run pass.before c.me.0.seen pass.looked h.after Still → PassReports T words v e Still
  still s = finds_deadlock T words v e (numbered_rows e.recs) pass.before (first_lack h.after s.lacks)
      (all_passed h.after s.lacks s.passes same_list same_list)
      (λ g d has. none_lack h.after s.lacks (λ l t. All-contains (λ lack. lack ≡ None) s.lacks l s.are (contains_of s.lacks l t)) g)

  -- if one lacks this
  module _ (why : Shortage) (s : AllStoodStill c.run pass.before c.me.0.seen pass.looked h.after (Lacks why)) where
    one : (go : Goroutine) × In h.after go × HasPassedWith T pass.before c.me.0.seen go (Some why)
    one = lacking (HasPassedWith T pass.before c.me.0.seen) h.after s.lacks s.passes (Some why) (in_of s.lacks (Some why) s.are)

    -- it comes first, so that it is found by its number
    abbrev gos : List Goroutine
    gos = one.0 ∷ h.after

    abbrev lacks : List (Option Shortage)
    lacks = Some why ∷ s.lacks

    of : (go : Goroutine) → In gos go → In h.after go
    of go t = ⊎_elim
        (λ (e : one.0 ≡ go). subst (In h.after) e one.1)
        (λ (r : In h.after go). r)
        (in_cons one.0 h.after go t)

    are : (go : Goroutine) → In h.after go → In gos go
    are go t = in_rest one.0 h.after go t

    zip : AllZip (HasPassedWith T pass.before c.me.0.seen) gos lacks
    zip = (one.2, s.passes)

    its_row : HasRow (numbered_rows e.recs) one.0.number (record_of_goroutine T one.0)
    its_row = has_row e (numbered_rows e.recs) all one.0.number (record_of_goroutine T one.0)
        (get_of e.recs one.0.number (record_of_goroutine T one.0)
        (e.here one.0.number (record_of_goroutine T one.0) (in_view gos lacks zip of are one.0 (0, refl))).0)

    its_lack : first_lack gos lacks one.0.number ≡ Some why
    its_lack = ap (λ (b : Bool). if b then Some why else first_lack h.after s.lacks one.0.number) (same_number one.0.number)

    lacks_it : PassReports T words v e (Lacks why)
    lacks_it = finds_shortage T words v e (numbered_rows e.recs) pass.before (first_lack gos lacks) (all_passed gos lacks zip of are)
        one.0.number (record_of_goroutine T one.0) why its_row its_lack

  tells : (p : Passed) → PassComesTo c.run pass.before c.me.0.seen pass.looked h.after p → PassReports T words v e p
  tells Moved s = tt
  tells Still s = still s
  tells (Lacks why) s = lacks_it why s

pub pass_tells : PassTells
pass_tells before c passed left words e h k none_parked none_born gone whole all =
    tells before c passed left words e h k none_parked none_born gone whole all passed
    (pass before c passed left words e h k none_parked none_born gone whole all).come
