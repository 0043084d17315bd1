-- What the steps of a crew keep that change one goroutine after the other. `Changes` is the invariant of such a loop: only the run queue,
-- those that were born and the prints differ from the crew at the start. `one_changes` is its step, and its premises are the clauses of the
-- call.
use Rattle.std.proofs.Common.{◌≡◌, ◌⊎◌, ◌<◌, inl, inr, ℕ, zero, suc, Bool, List, [], ◌∷◌, ◌++◌, Option, Some, None, All, IfErr, IfOk, IsPermutation, Vec, drop, get_or, length, map, replicate, set, slice_get, take, refl, ap, sym, subst, ◌∙◌, append_assoc}
use Rattle.std.specs.Prelude.{Result, Ok, Err}
use Rattle.std.proofs.lemmas.List.{length-set, map-append, set-get_or, set_split}
use Rattle.std.proofs.lemmas.List.Elements.{All-cons, All-get_or, All-nil, All-set}
use Rattle.std.proofs.lemmas.Option.{same_Some}
use Rattle.std.proofs.lemmas.List.Sorted.{IsPermutation-append, IsPermutation-append_comm, IsPermutation-append_left, IsPermutation-cons, IsPermutation-middle, IsPermutation-refl, IsPermutation-sym, IsPermutation-trans}
use Rattle.rgo_table_runs.specs.Goroutine.Acts.Runs.{Run}
use Rattle.rgo_table_runs.specs.Goroutine.Acts.declared.prints.Print.{Print}
use Rattle.rgo_core.specs.runs.Opening.{first_of}
use Rattle.rgo_core.specs.Records.{Drawn, Record}
use Rattle.rgo_core.specs.Memory.Words.{clock_at}
use Rattle.rgo_core.specs.Rule.Views.{HasRow, Rows, view}
use Rattle.rgo_core_steps.specs.Seats.{IsSeatOf, mine}
use Rattle.rgo_core_steps.specs.declared.clock.Mark.{Mark}
use Rattle.rgo_table_runs.specs.Goroutine.Acts.declared.actors.Actor.{Actor}
use Rattle.rgo_table_runs.specs.Goroutine.Instructions.{TableHasPages}
use Rattle.rgo_table_runs.specs.Goroutine.Turns.{HasFinished}
use Rattle.rgo_table_runs.specs.Goroutine.declared.goroutine.Goroutine.{Goroutine}
use Rattle.rgo_sound.specs.RegionMachine.Counts.{Counts}
use Rattle.rgo_sched.specs.Rounds.{RoundOf}
use Rattle.rgo_sound.specs.Tally.{no_share}
use Rattle.rgo_table_runs.specs.closing.Members.{Member, NoneIsLost, retired}
use Rattle.rgo_runtime.specs.Crew.{Crew, IsRunCrew, KeepsAll, crew_members}
use Rattle.rgo_runtime.specs.Crews.{AreRetired, IsNewborn, IsOfCrew, DriverKeeps, drawn, its_member, end_mark, members, turning}
use Rattle.rgo_outside.specs.Pieces.{AddsOnly}
use Rattle.rgo_runtime.specs.Parking.{parked_values}
use Rattle.rgo_runtime.specs.Printing.{IsPieceOf}
use Rattle.rgo_runtime.specs.Turns.{TurnIsTaken, Turn}
use Rattle.rgo_runtime.proofs.crews.Parts.{begins, crew_round, keeps_beside, keeps_nothing, keeps_permuted, keeps_round, keeps_then}
use Rattle.rgo_runtime.proofs.leaving.One.{none_in}
use Rattle.rgo_runtime.proofs.crews.Moving.{kept_then}

-- ---- a round

-- each has had a turn, or none
abbrev pub MayHaveTurns : (before after : List Turn) → Type 0
MayHaveTurns before after = ((went : Bool) × RoundOf TurnIsTaken before after went) ⊎ (after ≡ before)

pub round_ends : {E A : Type 0} (before after : Vec Turn A) (result : Result Bool E)
    → IfOk result (λ went. RoundOf TurnIsTaken before.items after.items went) → IfErr result (λ _. after ≡ before)
    → MayHaveTurns before.items after.items
round_ends before after (Ok went) ok err = inl (went, ok)
round_ends before after (Err e) ok err = inr (ap (λ v. v.items) err)

pub round_crew : (r : Run) (n : ℕ) (before after : List Turn) → MayHaveTurns before after → All (IsOfCrew r n) before → All (IsOfCrew r n) after
round_crew r n before after (inl (went, round)) all = crew_round r n before after went round all
round_crew r n before after (inr same) all = subst (All (IsOfCrew r n)) (sym same) all

round_keeps : (before after : List Turn) (t : List Drawn) → MayHaveTurns before after → DriverKeeps (turning before) t (turning after) t
round_keeps before after t (inl (went, round)) = keeps_round before after went t round
round_keeps before after t (inr same) =
    subst (λ (l : List Turn). DriverKeeps (turning before) t (turning l) t) (sym same) (keeps_nothing (turning before) t)

pub round_kept : (c old : Crew) (ready : List Turn) → c ≡ old → MayHaveTurns c.ready ready → KeepsAll old (record c { ready = ready })
round_kept c old ready same turned =
    subst (λ (x : Crew). KeepsAll x (record c { ready = ready })) same
    (keeps_beside (turning c.ready) (turning ready)
    (turning (parked_values c.parked) ++ (members c.run.setup c.born ++ map retired c.me.0.records)) (drawn c.waiting) (drawn c.waiting)
    (round_keeps c.ready ready (drawn c.waiting) turned))

-- ---- one after the other changes

module _ {X : Type 0} where
  -- the first two parts change places
  swapped : (a b c : List X) → IsPermutation (a ++ (b ++ c)) (b ++ (a ++ c))
  swapped a b c =
      subst (λ (l : List X). IsPermutation l (b ++ (a ++ c))) (append_assoc a b c)
      (subst (IsPermutation ((a ++ b) ++ c)) (append_assoc b a c) (IsPermutation-append_left c (a ++ b) (b ++ a) (IsPermutation-append_comm a b)))

  -- one of the first part and all of the third come to the front
  to_front : (xs ys p b r : List X) (x : X) → IsPermutation ((xs ++ x ∷ ys) ++ (p ++ (b ++ r))) ((x ∷ b) ++ ((xs ++ ys) ++ (p ++ r)))
  to_front xs ys p b r x =
      IsPermutation-trans ((xs ++ x ∷ ys) ++ (p ++ (b ++ r))) ((x ∷ (xs ++ ys)) ++ (b ++ (p ++ r))) ((x ∷ b) ++ ((xs ++ ys) ++ (p ++ r)))
      (IsPermutation-append (xs ++ x ∷ ys) (x ∷ (xs ++ ys)) (p ++ (b ++ r)) (b ++ (p ++ r)) (IsPermutation-middle xs x ys) (swapped p b r))
      (IsPermutation-cons x ((xs ++ ys) ++ (b ++ (p ++ r))) (b ++ ((xs ++ ys) ++ (p ++ r))) (swapped (xs ++ ys) b (p ++ r)))

  split_at : (xs : List X) (i : ℕ) (x : X) → i < length xs → x ≡ get_or xs i x → xs ≡ take i xs ++ x ∷ drop (suc i) xs
  split_at xs i x within is = sym (sym (set_split xs i x within) ∙ ap (set xs i) is ∙ set-get_or xs i x)

one_kept : (xs ys p b c r : List Member) (m n : Member) (t u : List Drawn) → DriverKeeps (m ∷ b) t (n ∷ c) u
    → DriverKeeps ((xs ++ m ∷ ys) ++ (p ++ (b ++ r))) t ((xs ++ n ∷ ys) ++ (p ++ (c ++ r))) u
one_kept xs ys p b c r m n t u keeps =
    let rest = (xs ++ ys) ++ (p ++ r) in
    let before = (xs ++ m ∷ ys) ++ (p ++ (b ++ r)) in
    let after = (xs ++ n ∷ ys) ++ (p ++ (c ++ r)) in
    keeps_then before ((m ∷ b) ++ rest) after t t u
    (keeps_permuted before ((m ∷ b) ++ rest) t t (to_front xs ys p b r m) (IsPermutation-refl t))
    (keeps_then ((m ∷ b) ++ rest) ((n ∷ c) ++ rest) after t u u (keeps_beside (m ∷ b) (n ∷ c) rest t u keeps)
    (keeps_permuted ((n ∷ c) ++ rest) after u u (IsPermutation-sym after ((n ∷ c) ++ rest) (to_front xs ys p c r n)) (IsPermutation-refl u)))

pub place_kept : (ts : List Turn) (i : ℕ) (x y : Turn) (p b c r : List Member) (t u : List Drawn) → i < length ts → x ≡ get_or ts i x
    → DriverKeeps (its_member x ∷ b) t (its_member y ∷ c) u → DriverKeeps (turning ts ++ (p ++ (b ++ r))) t (turning (set ts i y) ++ (p ++ (c ++ r))) u
place_kept ts i x y p b c r t u within is keeps =
    let xs = take i ts in
    let ys = drop (suc i) ts in
    let was : turning ts ≡ turning xs ++ its_member x ∷ turning ys = ap turning (split_at ts i x within is) ∙ map-append its_member xs (x ∷ ys) in
    let now : turning (set ts i y) ≡ turning xs ++ its_member y ∷ turning ys =
    ap turning (set_split ts i y within) ∙ map-append its_member xs (y ∷ ys) in
    subst (λ (l : List Member). DriverKeeps (l ++ (p ++ (b ++ r))) t (turning (set ts i y) ++ (p ++ (c ++ r))) u) (sym was)
    (subst (λ (l : List Member). DriverKeeps ((turning xs ++ its_member x ∷ turning ys) ++ (p ++ (b ++ r))) t (l ++ (p ++ (c ++ r))) u) (sym now)
    (one_kept (turning xs) (turning ys) p b c r (its_member x) (its_member y) t u keeps))

-- A crew some of whose goroutines that are ready have changed, with those that were born and the prints that wait.
pub record Changes (old new : Crew) : Type 0 where
  pub rest : new ≡ record old { ready = new.ready; born = new.born; waiting = new.waiting }
  pub len : length new.ready ≡ length old.ready
  pub crew : IsRunCrew new
  pub kept : KeepsAll old new

pub changes_none : (c old : Crew) → c ≡ old → IsRunCrew c → Changes old c
changes_none c old same crew =
    subst (λ (x : Crew). Changes x c) same
    (record { rest = refl; len = refl; crew = crew; kept = keeps_nothing (crew_members c) (drawn c.waiting) })

module _ (old c : Crew) (i : ℕ) (x : Turn) (changes : Changes old c) (within : i < length c.ready) (is : x ≡ get_or c.ready i x) where
  its_crew : IsOfCrew c.run (length c.shares) x
  its_crew = subst (IsOfCrew c.run (length c.shares)) (sym is) (All-get_or (IsOfCrew c.run (length c.shares)) c.ready i x within changes.crew.ready)

  pub its_newborn : All (IsNewborn x.run) c.born
  its_newborn = subst (λ (r : Run). All (IsNewborn r) c.born) (sym its_crew.run) changes.crew.born

  module _ (y : Turn) (run : y.run ≡ x.run) (number : y.goroutine.number ≡ x.goroutine.number) (turned : y.turned ≡ x.turned)
      (actor : y.goroutine.actor ≡ x.goroutine.actor) where
    still_crew : IsOfCrew c.run (length c.shares) y
    still_crew = record {
      run = run ∙ its_crew.run;
      place = subst (λ (k : ℕ). k < length c.shares) (sym number) its_crew.place;
      ended = λ its says stop. subst HasFinished (ap (λ (a : Actor). mine c.run.setup a.seat.me) (sym actor)) (its_crew.ended its (sym turned ∙ says) stop);
    }

    pub one_changes : (born : List Goroutine) (waiting : List Print) → All (IsNewborn x.run) born
        → DriverKeeps (its_member x ∷ members x.run.setup c.born) (drawn c.waiting) (its_member y ∷ members x.run.setup born) (drawn waiting)
        → Changes old (record c { ready = set c.ready i y; born = born; waiting = waiting })
    one_changes born waiting newborn keeps =
        let now : Crew = record c { ready = set c.ready i y; born = born; waiting = waiting } in
        let its : DriverKeeps (its_member x ∷ members c.run.setup c.born) (drawn c.waiting) (its_member y ∷ members c.run.setup born) (drawn waiting) =
        subst (λ (r : Run). DriverKeeps (its_member x ∷ members r.setup c.born) (drawn c.waiting) (its_member y ∷ members r.setup born) (drawn waiting))
        its_crew.run keeps in
        record {
          rest = ap (λ (z : Crew). record z { ready = set c.ready i y; born = born; waiting = waiting }) changes.rest;
          len = length-set c.ready i y ∙ changes.len;
          crew = record {
            seat = changes.crew.seat;
            pages = changes.crew.pages;
            ready = All-set (IsOfCrew c.run (length c.shares)) c.ready i y still_crew changes.crew.ready;
            parked = changes.crew.parked;
            born = subst (λ (r : Run). All (IsNewborn r) born) its_crew.run newborn;
            retired = changes.crew.retired;
            over = changes.crew.over;
          };
          kept = kept_then old c now changes.kept
              (place_kept c.ready i x y (turning (parked_values c.parked)) (members c.run.setup c.born) (members c.run.setup born)
              (map retired c.me.0.records) (drawn c.waiting) (drawn waiting) within is its);
        }

  -- it is the same goroutine
  pub slice_changes : (y : Turn) → y ≡ record x { slice = y.slice } → Changes old (record c { ready = set c.ready i y })
  slice_changes y same =
      let its : its_member y ≡ its_member x = ap its_member same in
      let b = members x.run.setup c.born in
      one_changes y (ap (λ (z : Turn). z.run) same) (ap (λ (z : Turn). z.goroutine.number) same) (ap (λ (z : Turn). z.turned) same)
      (ap (λ (z : Turn). z.goroutine.actor) same) c.born c.waiting its_newborn
      (subst (λ (m : Member). DriverKeeps (its_member x ∷ b) (drawn c.waiting) (m ∷ b) (drawn c.waiting)) (sym its)
      (keeps_nothing (its_member x ∷ b) (drawn c.waiting)))

-- ---- what was written

pub pieces_written : (c old : Crew) (before after : Option (List (List ℕ))) → c ≡ old → AddsOnly (IsPieceOf c.waiting) before after
    → AddsOnly (IsPieceOf old.waiting) before after
pieces_written c old before after same adds = subst (λ (x : Crew). AddsOnly (IsPieceOf x.waiting) before after) same adds

-- ---- the beginning

of_replicate : {A : Type 0} (n : ℕ) (x y : A) (i : ℕ) → slice_get (replicate n x) i ≡ Some y → y ≡ x
of_replicate zero x y i e = let z : None ≡ Some y = e in absurd (cc z)
of_replicate (suc n) x y zero e = sym (same_Some x y e)
of_replicate (suc n) x y (suc i) e = of_replicate n x y i e

-- none has retired, and nothing was counted
pub none_retired : (shares : List Counts) (n : ℕ) → shares ≡ [] ++ replicate n no_share → AreRetired [] shares None
none_retired shares n is =
    subst (λ (s : List Counts). AreRetired [] s None) (sym is)
    (record {
      tidy = λ g c t. absurd (none_in (g, c) t);
      is_first = λ g c t. absurd (none_in (g, c) t);
      its = λ g c t. absurd (none_in (g, c) t);
      others = λ g share at. inr (of_replicate n no_share share g at);
    })

-- A crew of a run that begins has `main` alone.
module _ (r : Run) (go : Goroutine) (number : go.number ≡ 0) where
  abbrev main : Turn
  main = record { run = r; goroutine = go; slice = 0; turned = None }

  pub main_is_crew : (c : Crew) (n : ℕ) → c.run ≡ r → c.ready ≡ main ∷ [] → c.parked ≡ [] → c.born ≡ [] → c.me.0.records ≡ []
      → IsSeatOf c.table c.run.table clock_at → TableHasPages c.run → c.shares ≡ [] ++ replicate n no_share → 0 < length c.shares → c.first ≡ None
      → IsRunCrew c
  main_is_crew c n run ready parked born rows seat pages shares room first =
      let P = IsOfCrew c.run (length c.shares) in
      record {
        seat = seat;
        pages = pages;
        ready = subst (All P) (sym ready)
            (All-cons P main []
            (record {
              run = sym run;
              place = subst (λ (k : ℕ). k < length c.shares) (sym number) room;
              ended = λ its says stop. let none : None ≡ Some its = says in absurd (cc none);
            })
            (All-nil P));
        parked = subst (λ (l : List (ℕ × Turn)). All P (parked_values l)) (sym parked) (All-nil P);
        born = subst (All (IsNewborn c.run)) (sym born) (All-nil (IsNewborn c.run));
        retired = subst (λ (rs : Rows Record). AreRetired rs c.shares (end_mark c.first)) (sym rows)
            (subst (λ (f : Option Mark). AreRetired [] c.shares (end_mark f)) (sym first) (none_retired c.shares n shares));
        over = subst (λ (rs : Rows Record). (g : ℕ) (its : Record) → HasRow rs g its → HasFinished its) (sym rows) (λ g its t. absurd (none_in (g, its) t));
      }

  pub main_not_lost : (ready : List Turn) (parked : List (ℕ × Turn)) (born : List Goroutine) (rows : Rows Record) → ready ≡ main ∷ [] → parked ≡ []
      → born ≡ [] → rows ≡ [] → go.actor.seat.me ≡ (view ((0, first_of r.setup.code) ∷ []) [], [])
      → NoneIsLost (turning ready ++ (turning (parked_values parked) ++ (members r.setup born ++ map retired rows))) []
  main_not_lost ready parked born rows is none_parked none_born no_rows me =
      let T = r.setup in
      let m = its_member main in
      let alone : turning ready ++ (turning (parked_values parked) ++ (members T born ++ map retired rows)) ≡ m ∷ [] =
      ap (λ (l : List Turn). turning l ++ (turning (parked_values parked) ++ (members T born ++ map retired rows))) is
      ∙ (ap (λ (l : List (ℕ × Turn)). m ∷ (turning (parked_values l) ++ (members T born ++ map retired rows))) none_parked
      ∙ (ap (λ (l : List Goroutine). m ∷ (members T l ++ map retired rows)) none_born
      ∙ ap (λ (rs : Rows Record). m ∷ map retired rs) no_rows)) in
      subst (λ (l : List Member). NoneIsLost l []) (sym alone) (begins r go me number)
