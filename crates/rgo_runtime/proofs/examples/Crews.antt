-- Examples of members that a driver keeps, of members that it loses, and of goroutines that have retired.
use Rattle.std.proofs.Common.{◌≡◌, ◌⊎◌, inl, inr, ⊎_elim, ℕ, zero, suc, ◌≤◌, Bool, false, List, [], ◌∷◌, ◌++◌, All, IsPermutation, Option, Some, None, length, map, slice_get, refl, ap, sym, subst, ◌∙◌, arith}
use Rattle.std.specs.List.{AllZip}
use Rattle.std.proofs.lemmas.List.Elements.{All-head, All-nil}
use Rattle.std.proofs.lemmas.List.Sorted.{IsPermutation-refl, length_permutation}
use Rattle.std.proofs.lemmas.Option.{same_Some}
use Rattle.rgo_table_runs.specs.Goroutine.Acts.declared.prints.Print.{Print}
use Rattle.rgo_core.specs.Records.{Record}
use Rattle.rgo_core.specs.Rule.Views.{HasRow, Rows}
use Rattle.rgo_core_steps.specs.declared.clock.Mark as clock
use Rattle.rgo_table_runs.specs.Goroutine.Goroutines.{IsOf, IsTidy}
use Rattle.rgo_table_runs.specs.Goroutine.Turns.{HasFinished}
use Rattle.rgo_table_runs.specs.Goroutine.declared.goroutine.Goroutine.{Goroutine}
use Rattle.rgo_sound.specs.RegionMachine.Counts.{Counts}
use Rattle.rgo_sched.specs.Rounds.{EachTurned}
use Rattle.rgo_sound.specs.Tally.{no_share}
use Rattle.rgo_table_runs.specs.closing.Members.{SomeHasNumber, ListHasNumber, Member, NoneIsLost, retired}
use Rattle.rgo_runtime.proofs.leaving.One.{In, in_cons, nobody_lost, nobody_then, none_in}
use Rattle.rgo_runtime.proofs.crews.Steps.{none_retired}
use Rattle.rgo_runtime.proofs.passes.Crews.{pass_length}
use Rattle.rgo_runtime.specs.Crew.{Crew, HasPassedAll, WholeCrewExamples, crew_members}
use Rattle.rgo_runtime.specs.Crews.{AreRetired, CrewExamples, IsGivenSlice, IsNewborn, IsOfCrew, DriverKeeps, KeepsMembers, NobodyIsLost, drawn, its_goroutine, main_itself, main_with_child, end_mark, member_of, members, newborn, turning}
use Rattle.rgo_runtime.specs.Parking.{parked_values}
use Rattle.rgo_runtime.specs.Passing.{IsBehind}
use Rattle.rgo_runtime.specs.Turns.{TurnIsTaken, Turn}
use Rattle.rgo_runtime.specs.declared.deadlock.Passed.{Passed}

-- a list of one
only : {A : Type 0} (a x : A) → In (a ∷ []) x → a ≡ x
only a x t = ⊎_elim (λ (e : a ≡ x). e) (λ (n : In [] x). absurd (none_in x n)) (in_cons a [] x t)

none_listed : (h i : ℕ) → None ≡ Some h → ⊥
none_listed h i e = cc e

-- `main`, which has done nothing, and no prints
alone : NoneIsLost (newborn 0 ∷ []) []
alone = record {
  main = (newborn 0, (0, refl), refl);
  children = λ m h one t.
      let z : None ≡ Some h = subst (λ (y : Member). slice_get y.its.clock.children t.0 ≡ Some h) (sym (only (newborn 0) m one)) t.1 in absurd (cc z);
  prints = λ m d one t valid.
      let z : None ≡ Some d = subst (λ (y : Member). slice_get y.its.clock.prints t.0 ≡ Some d) (sym (only (newborn 0) m one)) t.1 in absurd (cc z);
  are = λ d t. absurd (none_in d t);
}

not_kept : DriverKeeps (newborn 0 ∷ []) [] [] [] → ⊥
not_kept keeps = let k : NoneIsLost [] [] = keeps [] [] alone in none_in k.main.0 k.main.1

-- its child was not adopted
with_child : NobodyIsLost (main_with_child ∷ []) []
with_child = record {
  main = (main_with_child, (0, refl), refl);
  children = λ m h one t.
      let e = only main_with_child m one in
      inr (subst (λ (y : Member). ListHasNumber y.unborn h) e (subst (λ (y : Member). ListHasNumber y.its.clock.children h) (sym e) t));
  are = λ d t. absurd (none_in d t);
}

abbrev adopter : Member
adopter = record main_with_child { unborn = [] }

child_comes : KeepsMembers (main_with_child ∷ []) (adopter ∷ newborn 1 ∷ [])
child_comes others taken k = nobody_then main_with_child adopter [] (newborn 1 ∷ []) others taken refl refl listed
    (λ x one. sym (ap (λ (y : Member). y.its.clock) (only (newborn 1) x one))) k
  where
    listed : (h : ℕ) → ListHasNumber (1 ∷ []) h → SomeHasNumber (newborn 1 ∷ []) h ⊎ ListHasNumber [] h
    listed h (zero, e) = inl (newborn 1, (0, refl), same_Some 1 h e)
    listed h (suc i, e) = let z : None ≡ Some h = e in absurd (cc z)

not_one : SomeHasNumber (adopter ∷ []) 1 → ⊥
not_one (m, one, is) =
    let z : 0 ≡ 1 = ap (λ (y : Member). y.number) (only adopter m one) ∙ is in
    omega (arith, z)

child_lost : KeepsMembers (main_with_child ∷ []) (adopter ∷ []) → ⊥
child_lost keeps =
    let k : NobodyIsLost (adopter ∷ []) [] = keeps [] [] with_child in
    ⊎_elim
    (λ (q : SomeHasNumber (adopter ∷ []) 1). not_one q)
    (λ (q : ListHasNumber [] 1). none_listed 1 q.0 q.1)
    (k.children adopter 1 (0, refl) (0, refl))

prints_lost : (m : Member) → KeepsMembers (m ∷ []) (record m { fresh = [] } ∷ [])
prints_lost m others taken k = nobody_then m (record m { fresh = [] }) [] [] others taken refl refl
    (λ h t. inr t)
    (λ x one. absurd (none_in x one)) k

-- a row of one
module _ (c : Record) (P : ℕ → Record → Type 0) (p : P 0 c) where
  pub each_of_one : (g : ℕ) (d : Record) → HasRow ((0, c) ∷ []) g d → P g d
  each_of_one g d t = subst (λ (r : ℕ × Record). P r.0 r.1) (only (0, c) (g, d) t) p

is_counted : AreRetired ((0, main_itself) ∷ []) (main_itself.clock.share ∷ []) None
is_counted = record {
  tidy = each_of_one main_itself (λ g c. IsTidy c) (record { hold = refl; make = refl; claim = refl; give = refl });
  is_first = each_of_one main_itself (λ g c. c.clock.first ≡ None) refl;
  its = each_of_one main_itself
      (λ g c. ((d : Record) × HasRow ((0, main_itself) ∷ []) g d × (slice_get (main_itself.clock.share ∷ []) g ≡ Some d.clock.share))
      ⊎ ((1 ≤ g) × (c.clock.share ≡ no_share)))
      (inl (main_itself, (0, refl), refl));
  others = belongs;
}
  where
    belongs : (g : ℕ) (share : Counts) → slice_get (main_itself.clock.share ∷ []) g ≡ Some share
        → ((c : Record) × HasRow ((0, main_itself) ∷ []) g c × (c.clock.share ≡ share)) ⊎ (share ≡ no_share)
    belongs zero share at = inl (main_itself, (0, refl), same_Some main_itself.clock.share share at)
    belongs (suc g) share at = let z : None ≡ Some share = at in absurd (cc z)

not_counted : AreRetired ((0, main_itself) ∷ []) (no_share ∷ []) None → ⊥
not_counted k = ⊎_elim
    (λ (q : (d : Record) × HasRow ((0, main_itself) ∷ []) 0 d × (Some no_share ≡ Some d.clock.share)).
    let e : no_share ≡ main_itself.clock.share = same_Some no_share q.0.clock.share q.2
    ∙ sym (ap (λ (r : ℕ × Record). r.1.clock.share) (only (0, main_itself) (0, q.0) q.1)) in
    let z : 0 ≡ 1 = ap (λ (s : Counts). s.goroutines) e in
    absurd (omega (arith, z)))
    (λ (q : (1 ≤ 0) × (main_itself.clock.share ≡ no_share)). absurd (omega (arith, q.0)))
    (k.its 0 main_itself (0, refl))

one_had_none : (t : Turn) (given after : List Turn) (answers : List Bool) → AllZip (IsGivenSlice 5) (t ∷ []) given
    → EachTurned TurnIsTaken given after answers → after ≡ [] → ⊥
one_had_none t [] after answers gives turned none = gives
one_had_none t (x ∷ xs) [] answers gives turned none = turned
one_had_none t (x ∷ xs) (y ∷ ys) answers gives turned none = absurd (cc none)

pub crews : CrewExamples
crews = record {
  nothing_done = λ ms ds others given k. k;
  one_left = not_kept;
  weaker = nobody_lost;
  prints_lost = prints_lost;
  child_comes = child_comes;
  child_lost = child_lost;
  none_yet = record {
    tidy = λ g c t. absurd (none_in (g, c) t);
    is_first = λ g c t. absurd (none_in (g, c) t);
    its = λ g c t. absurd (none_in (g, c) t);
    others = λ g share at. let z : None ≡ Some share = at in absurd (cc z);
  };
  counted = is_counted;
  uncounted = not_counted;
  made_up = λ mark k. none_in (k.is_first.0, k.is_first.1) k.is_first.2;
  may_not_turn = λ r go many k. absurd (let l = k.few in omega (arith, l, many));
  has_place = λ t first none. record {
    run = refl;
    place = omega (arith, first);
    ended = λ turned says stop. let z : None ≡ Some turned = sym none ∙ says in absurd (cc z);
  };
  no_place = λ r t k. absurd (omega (arith, k.place));
  not_over = λ r n t turned says stop frames k. frames (k.ended turned says stop).frames;
  has_printed = λ r go some k. some k.prints;
  is_given = λ t. (refl, omega arith);
  too_many = λ t k. absurd (let l = k.1 in omega (arith, l));
  none_turns = record { given = []; after = []; went = false; gives = tt; turned = record { answers = []; turned = tt; any = refl } };
  had_none = λ t k none. one_had_none t k.given k.after k.turned.answers k.gives k.turned.turned none;
}

-- a crew has no members
nobody_left : (c : Crew) → c.ready ≡ [] → c.parked ≡ [] → c.born ≡ [] → c.me.0.records ≡ [] → crew_members c ≡ []
nobody_left c ready parked born rows =
    ap (λ (l : List Turn). turning l ++ (turning (parked_values c.parked) ++ (members c.run.setup c.born ++ map retired c.me.0.records))) ready
    ∙ (ap (λ (l : List (ℕ × Turn)). turning (parked_values l) ++ (members c.run.setup c.born ++ map retired c.me.0.records)) parked
    ∙ (ap (λ (l : List Goroutine). members c.run.setup l ++ map retired c.me.0.records) born ∙ ap (λ (rs : Rows Record). map retired rs) rows))

-- if one was ready, one has a part in the pass
before_passes : (old new : Crew) (t : Turn) (passed : Passed) (k : HasPassedAll old new passed) → old.ready ≡ t ∷ [] → length k.before ≡ 1
before_passes old new t passed k one =
    length_permutation (map its_goroutine old.ready) k.before k.of_old ∙ ap (λ (l : List Turn). length (map its_goroutine l)) one

pub whole_crews : WholeCrewExamples
whole_crews = record {
  nobody = λ c seat pages ready parked born rows shares first.
      let P = IsOfCrew c.run (length c.shares) in
      record {
        seat = seat;
        pages = pages;
        ready = subst (All P) (sym ready) (All-nil P);
        parked = subst (λ (l : List (ℕ × Turn)). All P (parked_values l)) (sym parked) (All-nil P);
        born = subst (All (IsNewborn c.run)) (sym born) (All-nil (IsNewborn c.run));
        retired = subst (λ (rs : Rows Record). AreRetired rs c.shares (end_mark c.first)) (sym rows)
            (subst (λ (f : Option clock.Mark). AreRetired [] c.shares (end_mark f)) (sym first) (none_retired c.shares 0 shares));
        over = subst (λ (rs : Rows Record). (g : ℕ) (its : Record) → HasRow rs g its → HasFinished its) (sym rows) (λ g its t. absurd (none_in (g, its) t));
      };
  no_place = λ c t ready shares k.
      let of = All-head (IsOfCrew c.run (length c.shares)) t [] (subst (All (IsOfCrew c.run (length c.shares))) ready k.ready) in
      let p = of.place in
      absurd (omega (arith, p, ap length shares));
  not_over = λ c r rows frames k. frames (k.over 0 r (subst (λ (rs : Rows Record). HasRow rs 0 r) (sym rows) (0, refl))).frames;
  lost = λ c go none ready parked born rows old members_of waiting keeps.
      let before : NoneIsLost (crew_members old ++ []) ([] ++ drawn old.waiting)
      = subst (λ (l : List Member). NoneIsLost (l ++ []) ([] ++ drawn old.waiting)) (sym members_of)
      (subst (λ (ps : List Print). NoneIsLost (member_of c.run.setup go ∷ []) (drawn ps)) (sym waiting) none) in
      let after : NoneIsLost (crew_members c ++ []) ([] ++ drawn c.waiting) = keeps [] [] before in
      let empty : NoneIsLost [] (drawn c.waiting)
      = subst (λ (l : List Member). NoneIsLost (l ++ []) (drawn c.waiting)) (nobody_left c ready parked born rows) after in
      none_in empty.main.0 empty.main.1;
  all_passed = λ c passed none pass. record {
    before = [];
    after = [];
    of_old = subst (λ (l : List Turn). IsPermutation (map its_goroutine l) []) (sym none) (IsPermutation-refl []);
    of_new = subst (λ (l : List Turn). IsPermutation [] (map its_goroutine l)) (sym none) (IsPermutation-refl []);
    pass = pass;
    of = All-nil (IsOf c.run);
    behind = All-nil (IsBehind c.me.0.seen);
    rows = refl;
    rest = refl;
  };
  left_out = λ old new t passed k one none.
      let some : length k.before ≡ 1 = before_passes old new t passed k one in
      omega (arith, some, ap length none);
  gone = λ old new t passed one none k.
      let some : length k.before ≡ 1 = before_passes old new t passed k one in
      let left = length_permutation k.after (map its_goroutine new.ready) k.of_new in
      let here : length (map its_goroutine new.ready) ≡ 0 = ap (λ (l : List Turn). length (map its_goroutine l)) none in
      let same = pass_length old.run new.me k.before k.after passed k.pass in
      omega (arith, some, left, here, same);
}
