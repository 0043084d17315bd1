-- A crew has a pass: its goroutines come out of their turns, have the pass, and come back, and nobody is lost by it. `pass_keeps` carries
-- what each of the three parts of a pass keeps through all of them. The lists come out and back with the last element first, so the order
-- is that of before.
use Rattle.std.proofs.Common.{◌≡◌, ◌<◌, ◌-◌, inl, inr, ℕ, List, [], ◌∷◌, ◌++◌, All, IsPermutation, None, Some, length, map, reverse, take, refl, ap, sym, subst, ◌∙◌, append_assoc, append-nil, arith}
use Rattle.std.proofs.lemmas.List.{map-append, map-id, reverse-append, take-append-le, take_all}
use Rattle.std.proofs.lemmas.List.Elements.{All-head, All-map, All-tail, All-weaker}
use Rattle.std.proofs.lemmas.List.Sorted.{All-permutation, IsPermutation-reverse}
use Rattle.std.proofs.lemmas.Simd.{map-map}
use Rattle.atomic_table.specs.Seated.{TableId}
use Rattle.rgo_core.specs.Memory.Words.{clock_at}
use Rattle.rgo_core.specs.Records.{Drawn, Record, steps_of}
use Rattle.rgo_core.specs.Rule.Views.{HasRow, Me, Rows, number_of}
use Rattle.rgo_core_steps.specs.Seats.{IsSeatOf}
use Rattle.rgo_table_runs.specs.Goroutine.Acts.Runs.{Run}
use Rattle.rgo_table_runs.specs.Goroutine.Goroutines.{IsOf, IsTidy, record_of_goroutine}
use Rattle.rgo_table_runs.specs.Goroutine.Turns.{HasFinished}
use Rattle.rgo_table_runs.specs.Goroutine.declared.goroutine.Goroutine.{Goroutine}
use Rattle.rgo_table_runs.specs.closing.Members.{Member, retired}
use Rattle.rgo_runtime.specs.Crew.{Crew, HasPassedAll, IsRunCrew, KeepsAll}
use Rattle.rgo_runtime.specs.Crews.{AreRetired, IsOfCrew, DriverKeeps, MayTurn, drawn, its_goroutine, its_member, end_mark, member_of, members, turning}
use Rattle.rgo_runtime.specs.Parking.{parked_values}
use Rattle.rgo_runtime.specs.Passing.{HasLookedOnce, HasMet, IsBehind, IsPass, IsTidyIn, MayHaveTurned}
use Rattle.rgo_runtime.specs.Turns.{Turn, first_turn}
use Rattle.rgo_runtime.specs.declared.deadlock.Passed.{Passed}
use Rattle.rgo_runtime.proofs.crews.Parts.{keeps_beside, keeps_moved, keeps_pass, keeps_then}
use Rattle.rgo_runtime.proofs.lists.Sweeps.{all_both, zip_keeps, zip_length}

-- ---- from one list to another, the last first

module _ {A B : Type 0} (f : A → B) (xs ys : List A) (x : A) (y : B) (done all : List B) (last : xs ≡ ys ++ x ∷ []) (is : y ≡ f x) where
  -- the next element comes after those that have come
  one_more : (rest : List B) → done ++ f x ∷ rest ≡ all → (done ++ y ∷ []) ++ rest ≡ all
  one_more rest so_far = append_assoc done (y ∷ []) rest ∙ (ap (λ (z : B). done ++ z ∷ rest) is ∙ so_far)

  pub taken_more : done ++ reverse (map f xs) ≡ all → (done ++ y ∷ []) ++ reverse (map f ys) ≡ all
  taken_more so_far =
      let first : reverse (map f xs) ≡ f x ∷ reverse (map f ys) =
      ap (λ (l : List A). reverse (map f l)) last ∙ (ap reverse (map-append f ys (x ∷ [])) ∙ reverse-append (map f ys) (f x ∷ [])) in
      one_more (reverse (map f ys)) (ap (λ (l : List B). done ++ l) (sym first) ∙ so_far)

  pub put_more : done ++ map f (reverse xs) ≡ all → (done ++ y ∷ []) ++ map f (reverse ys) ≡ all
  put_more so_far =
      let first : map f (reverse xs) ≡ f x ∷ map f (reverse ys) =
      ap (λ (l : List A). map f (reverse l)) last ∙ ap (λ (l : List A). map f l) (reverse-append ys (x ∷ [])) in
      one_more (map f (reverse ys)) (ap (λ (l : List B). done ++ l) (sym first) ∙ so_far)

-- all have come
module _ {A B : Type 0} (f : A → B) (xs : List A) (done all : List B) (none : xs ≡ []) where
  pub all_taken : done ++ reverse (map f xs) ≡ all → done ≡ all
  all_taken so_far = sym (append-nil done) ∙ (ap (λ (l : List A). done ++ reverse (map f l)) (sym none) ∙ so_far)

  pub all_put : done ++ map f (reverse xs) ≡ all → done ≡ all
  all_put so_far = sym (append-nil done) ∙ (ap (λ (l : List A). done ++ map f (reverse l)) (sym none) ∙ so_far)

-- `pop` of an empty list
pub nothing_left : {A : Type 0} (xs ys : List A) (n : ℕ) → ys ≡ take (n - 1) xs → n ≡ 0 → ys ≡ []
nothing_left xs ys n rest none = rest ∙ ap (λ (k : ℕ). take (k - 1) xs) none

-- a part of the same length has taken the place of the whole
pub written_back : {A : Type 0} (n : ℕ) (xs rest : List A) → length xs ≡ n → take n (xs ++ rest) ≡ xs
written_back n xs rest long = take-append-le n xs rest (omega (arith, long)) ∙ take_all n xs (omega (arith, long))

-- a goroutine that comes out of its turn
pub may_turn : (r : Run) (n : ℕ) (t : Turn) (go : Goroutine) → IsOfCrew r n t → IsOf t.run go → IsTidy (record_of_goroutine t.run.setup go)
    → steps_of (record_of_goroutine t.run.setup go) < 8796093022208 → MayTurn r go
may_turn r n t go is of tidy few = subst (λ (x : Run). MayTurn x go) is.run (record { of = of; tidy = tidy; few = few })

-- ---- what a pass keeps

-- it may have another turn
abbrev pub HasFew : Run → Goroutine → Type 0
HasFew r go = steps_of (record_of_goroutine r.setup go) < 8796093022208

-- the number of its seat has a place among n shares
abbrev pub HasPlace : ℕ → Goroutine → Type 0
HasPlace n go = number_of go.actor.seat.me < n

turned_few : (r : Run) (old new : Goroutine) → MayHaveTurned r old new → HasFew r old → HasFew r new
turned_few r old new (inl same) few = subst (HasFew r) (sym same) few
turned_few r old new (inr (turned, once)) few =
    let met : steps_of (record_of_goroutine r.setup once.first) ≡ steps_of (record_of_goroutine r.setup old) = ap steps_of once.met.its in
    let meets : steps_of (record_of_goroutine r.setup new) ≡ steps_of (record_of_goroutine r.setup once.last) = ap steps_of once.meets.its in
    omega (arith, met, meets, once.turns.turns.steps, once.turns.within, once.few)

turned_place : (r : Run) (n : ℕ) (old new : Goroutine) → MayHaveTurned r old new → HasPlace n old → HasPlace n new
turned_place r n old new (inl same) place = subst (HasPlace n) (sym same) place
turned_place r n old new (inr (turned, once)) place =
    let number : number_of new.actor.seat.me ≡ number_of old.actor.seat.me = once.meets.number ∙ (once.turns.turns.grew.same ∙ once.met.number) in
    subst (λ (k : ℕ). k < n) (sym number) place

module _ (r : Run) (me : Me Record) (before after : List Goroutine) (passed : Passed) (pass : IsPass r me before after passed) where
  pub pass_length : length after ≡ length before
  pass_length =
      zip_length (MayHaveTurned r) pass.looked after pass.turns
      ∙ (zip_length (HasLookedOnce r.setup) pass.met pass.looked pass.looks ∙ zip_length (HasMet r.setup) before pass.met pass.meets)

  -- what each keeps that meets, looks or turns, all keep
  pass_keeps : (P : Goroutine → Type 0) → ((x y : Goroutine) → HasMet r.setup x y → P x → P y)
      → ((x y : Goroutine) → HasLookedOnce r.setup x y → P x → P y) → ((x y : Goroutine) → MayHaveTurned r x y → P x → P y) → All P before
      → All P after
  pass_keeps P meets looks turns all =
      zip_keeps (MayHaveTurned r) P turns pass.looked after pass.turns
      (zip_keeps (HasLookedOnce r.setup) P looks pass.met pass.looked pass.looks (zip_keeps (HasMet r.setup) P meets before pass.met pass.meets all))

  pass_few : All (HasFew r) before → All (HasFew r) after
  pass_few =
      pass_keeps (HasFew r)
      (λ x y met few. subst (λ (c : Record). steps_of c < 8796093022208) (sym met.its) few)
      (λ x y looked few. subst (λ (c : Record). steps_of c < 8796093022208) (sym looked.its) few)
      (turned_few r)

  pass_places : (n : ℕ) → All (HasPlace n) before → All (HasPlace n) after
  pass_places n =
      pass_keeps (HasPlace n)
      (λ x y met place. subst (λ (k : ℕ). k < n) (sym met.number) place)
      (λ x y looked place. subst (λ (k : ℕ). k < n) (sym looked.number) place)
      (turned_place r n)

  -- all may have turns again
  pub pass_may_turn : All (IsOf r) after → (All (IsTidyIn r.setup) before → All (IsTidyIn r.setup) after) → All (MayTurn r) before
      → All (MayTurn r) after
  pass_may_turn of tidy may =
      let few = pass_few (All-weaker (MayTurn r) (HasFew r) (λ go its. its.few) before may) in
      let still = tidy (All-weaker (MayTurn r) (IsTidyIn r.setup) (λ go its. its.tidy) before may) in
      all_both (IsOf r) (λ go. IsTidyIn r.setup go × HasFew r go) (MayTurn r)
      (λ go its more. record { of = its; tidy = more.0; few = more.1 }) after of
      (all_both (IsTidyIn r.setup) (HasFew r) (λ go. IsTidyIn r.setup go × HasFew r go) (λ go one other. (one, other)) after still few)

-- ---- a crew after a pass

-- as members they are the same, in turns or not
turning_is : (r : Run) (n : ℕ) (ts : List Turn) → All (IsOfCrew r n) ts → turning ts ≡ members r.setup (map its_goroutine ts)
turning_is r n [] all = refl
turning_is r n (t ∷ ts) all =
    let run : t.run ≡ r = (All-head (IsOfCrew r n) t ts all).run in
    ap (λ (x : Run). member_of x.setup t.goroutine ∷ turning ts) run
    ∙ ap (λ (l : List Member). member_of r.setup t.goroutine ∷ l) (turning_is r n ts (All-tail (IsOfCrew r n) t ts all))

-- goroutines come into turns and out of them
in_turns : (r : Run) (gos : List Goroutine) → map its_goroutine (map (first_turn r) gos) ≡ gos
in_turns r gos = map-map its_goroutine (first_turn r) gos ∙ map-id gos

-- The goroutines of `c` came out of their turns as `before`, had a pass, and came back as `after`. Each field is a clause of one of three calls.
pub record CrewHasPassed (c : Crew) (before after : List Goroutine) (table : TableId) (me : Me Record) (ready : List Turn)
    (passed : Passed) : Type 0 where
  pub out : before ≡ reverse (map its_goroutine c.ready)
  pub may : All (MayTurn c.run) before
  pub pass : IsPass c.run me before after passed
  pub is : All (IsOf c.run) after
  pub behind : All (IsBehind me.0.seen) after
  pub same : table ≡ c.table
  pub rows : me.0.records ≡ c.me.0.records
  pub back : ready ≡ map (first_turn c.run) (reverse after)

module _ (c : Crew) (before after : List Goroutine) (table : TableId) (me : Me Record) (ready : List Turn) (passed : Passed)
    (k : CrewHasPassed c before after table me ready passed) (crew : IsRunCrew c) where
  abbrev now : Crew
  now = record c { table = table; me = me; ready = ready }

  was : All (IsOf c.run) before
  was = All-weaker (MayTurn c.run) (IsOf c.run) (λ go its. its.of) before k.may

  came_out : IsPermutation (map its_goroutine c.ready) before
  came_out = subst (IsPermutation (map its_goroutine c.ready)) (sym k.out) (IsPermutation-reverse (map its_goroutine c.ready))

  have_places : All (HasPlace (length c.shares)) before
  have_places =
      let n = length c.shares in
      let numbers = All-permutation (λ go. go.number < n) (map its_goroutine c.ready) before came_out
      (All-map (λ go. go.number < n) its_goroutine c.ready
      (All-weaker (IsOfCrew c.run n) (λ t. t.goroutine.number < n) (λ t its. its.place) c.ready crew.ready)) in
      all_both (λ go. go.number < n) (IsOf c.run) (HasPlace n) (λ go l its. subst (λ (k : ℕ). k < n) its.number l) before numbers was

  of_crew : (go : Goroutine) → HasPlace (length c.shares) go → IsOf c.run go → IsOfCrew c.run (length c.shares) (first_turn c.run go)
  of_crew go place its = record {
    run = refl;
    place = subst (λ (k : ℕ). k < length c.shares) (sym its.number) place;
    ended = λ turned says stop. let none : None ≡ Some turned = says in absurd (cc none);
  }

  came_back : All (IsOfCrew c.run (length c.shares)) ready
  came_back =
      let n = length c.shares in
      let P = λ (go : Goroutine). IsOfCrew c.run n (first_turn c.run go) in
      let all = all_both (HasPlace n) (IsOf c.run) P of_crew after (pass_places c.run me before after passed k.pass n have_places) k.is in
      subst (All (IsOfCrew c.run n)) (sym k.back)
      (All-map (IsOfCrew c.run n) (first_turn c.run) (reverse after) (All-permutation P after (reverse after) (IsPermutation-reverse after) all))

  pub crew_passed : IsRunCrew now
  crew_passed = record {
    seat = subst (λ (id : TableId). IsSeatOf id c.run.table clock_at) (sym k.same) crew.seat;
    pages = crew.pages;
    ready = came_back;
    parked = crew.parked;
    born = crew.born;
    retired = subst (λ (rs : Rows Record). AreRetired rs c.shares (end_mark c.first)) (sym k.rows) crew.retired;
    over = subst (λ (rs : Rows Record). (g : ℕ) (its : Record) → HasRow rs g its → HasFinished its) (sym k.rows) crew.over;
  }

  keeps_members : (t : List Drawn) → DriverKeeps (turning c.ready) t (turning ready) t
  keeps_members t =
      let T = c.run.setup in
      let old = map its_goroutine c.ready in
      let first : turning c.ready ≡ members T old = turning_is c.run (length c.shares) c.ready crew.ready in
      let last : turning ready ≡ members T (reverse after) =
      ap turning k.back ∙ map-map its_member (first_turn c.run) (reverse after) in
      subst (λ (l : List Member). DriverKeeps l t (turning ready) t) (sym first)
      (subst (λ (l : List Member). DriverKeeps (members T old) t l t) (sym last)
      (keeps_then (members T old) (members T before) (members T (reverse after)) t t t (keeps_moved (member_of T) old before t came_out)
      (keeps_then (members T before) (members T after) (members T (reverse after)) t t t (keeps_pass c.run me before after passed t k.pass was k.is)
      (keeps_moved (member_of T) after (reverse after) t (IsPermutation-reverse after)))))

  pub passed_kept : (old : Crew) → c ≡ old → KeepsAll old now
  passed_kept old seen =
      let t = drawn c.waiting in
      let others = λ (rs : Rows Record). turning (parked_values c.parked) ++ (members c.run.setup c.born ++ map retired rs) in
      subst (λ (x : Crew). KeepsAll x now) seen
      (subst (λ (rs : Rows Record). DriverKeeps (turning c.ready ++ others c.me.0.records) t (turning ready ++ others rs) t) (sym k.rows)
      (keeps_beside (turning c.ready) (turning ready) (others c.me.0.records) t t (keeps_members t)))

  pub all_passed : (old : Crew) → c ≡ old → HasPassedAll old now passed
  all_passed old seen =
      let put : IsPermutation after (map its_goroutine ready) =
      subst (λ (ts : List Turn). IsPermutation after (map its_goroutine ts)) (sym k.back)
      (subst (IsPermutation after) (sym (in_turns c.run (reverse after))) (IsPermutation-reverse after)) in
      subst (λ (x : Crew). HasPassedAll x now passed) seen
      (record {
        before = before;
        after = after;
        of_old = came_out;
        of_new = put;
        pass = k.pass;
        of = k.is;
        behind = k.behind;
        rows = k.rows;
        rest = ap (λ (id : TableId). record c { table = id; me = me; ready = ready }) k.same;
      })
