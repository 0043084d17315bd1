-- From what a driver knows when it ends a run, to the run of the code that its table has made. All goroutines leave, so the rows at the
-- seat are all of the run (`Closing`), and each reason for the end gives what `TableRunEnds` asks: the mark, the last pass (`Telling`), or
-- the exact count. Want of memory and a failed write ask for nothing, so they serve all cases in which something is lost.
use Rattle.std.proofs.Common.{◌≡◌, ◌≤◌, ◌<◌, ◌+◌, ◌*◌, ⊎_elim, ℕ, Bool, true, false, cond, ◌&&◌, nat_le, nat_lt, List, [], ◌∷◌, ◌++◌, IsPermutation, Option, None, Some, length, map, refl, ap, sym, subst, ◌∙◌, arith, append_assoc}
use Rattle.std.specs.Io.KnownBytes.{Appends}
use Rattle.std.specs.List.{All, AllByRecursion}
use Rattle.std.proofs.KnownBytes.{Appends-nil}
use Rattle.std.proofs.lemmas.Bool.Decides.{nat_tests}
use Rattle.std.proofs.lemmas.List.{append-nil, map-append, take_all}
use Rattle.std.proofs.lemmas.List.Elements.{recursion_from_All}
use Rattle.std.proofs.lemmas.List.Sorted.{IsPermutation-sym}
use Rattle.rgo_core.specs.Core.{Setup}
use Rattle.rgo_core.specs.Records.{Drawn, Record}
use Rattle.rgo_core.specs.Rule.Views.{Rows}
use Rattle.rgo_core_steps.specs.Ends.{mark_of}
use Rattle.rgo_core_steps.specs.Outcomes.{ClosesTable}
use Rattle.rgo_core_steps.specs.declared.clock.Mark as clock
use Rattle.rgo_core_steps.specs.declared.clock.Mark.TheVariants as given
use Rattle.rgo_sound.specs.RegionMachine.declared.limits.Limit.TheVariants as limit
use Rattle.rgo_sound.specs.Machine.declared.ends.RunEnd.{RunEnd}
use Rattle.rgo_sound.specs.Machine.declared.ends.RunEnd.TheVariants as run_end
use Rattle.rgo_table_runs.specs.Goroutine.Acts.Runs.{Run}
use Rattle.rgo_table_runs.specs.Goroutine.Acts.declared.prints.Print.{Print}
use Rattle.rgo_table_runs.specs.Goroutine.declared.goroutine.Goroutine.{Goroutine}
use Rattle.rgo_sound.specs.Code.Code.{Code}
use Rattle.rgo_sound.specs.Machine.declared.limits.Limits.{Limits}
use Rattle.rgo_sound.specs.Machine.declared.limits.Sizes.{Sizes}
use Rattle.rgo_sound.specs.RegionMachine.Counts.{Counts}
use Rattle.rgo_sound.specs.RegionMachine.States.{Mark, RegionState}
use Rattle.rgo_table_runs.proofs.closing.Closed.{closed_claims}
use Rattle.rgo_table_runs.proofs.closing.Members.{kept_by_order}
use Rattle.rgo_sound.specs.RegionRuns.{CodeRuns}
use Rattle.rgo_table_runs.specs.closing.Ends.{TableRunEnds, GaveOut, run_end_of_mark}
use Rattle.rgo_table_runs.specs.closing.Gathering.{numbered_rows, sum_of}
use Rattle.rgo_table_runs.specs.closing.Laws.{last_state}
use Rattle.rgo_table_runs.specs.closing.Members.{AreSameMembers, Member, NoneIsLost, retired}
use Rattle.rgo_table_runs.specs.closing.Prints.{AllGiven, bytes_of}
use Rattle.rgo_table_runs.specs.closing.Rows.{all_shares}
use Rattle.rgo_runtime.specs.Closing.{AreInOrder, ClosesWith, PassReports}
use Rattle.rgo_runtime.specs.Crew.{Crew, IsRunCrew, crew_members}
use Rattle.rgo_runtime.specs.Crews.{AreRetired, IsOfCrew, NobodyIsLost, drawn, its_goroutine, end_mark, member_of, members, turning}
use Rattle.rgo_runtime.specs.Leaving.{HaveAllLeft}
use Rattle.rgo_runtime.specs.Parking.{parked_values}
use Rattle.rgo_runtime.specs.Runs.{EndsFor, FailsIf, HasGiven, HasGivenSome, NoneIsNext, end_by, is_spent, settled_end, unmarked_end}
use Rattle.rgo_sound.specs.RegionMachine.Tallies.{counts_in}
use Rattle.rgo_runtime.specs.Turns.{Turn}
use Rattle.rgo_runtime.specs.declared.deadlock.Passed.{Passed}
use Rattle.rgo_runtime.specs.declared.deadlock.Passed.TheVariants.{Lacks, Moved, Still}
use Rattle.rgo_runtime.specs.declared.retiring.Left.{Left}
use Rattle.rgo_runtime.specs.declared.runs.Why.{Why}
use Rattle.rgo_runtime.specs.declared.runs.Why.TheVariants.{Memory, Over, Steps, Stuck, Write}
use Rattle.rgo_sound.specs.RegionMachine.declared.tallies.Tally.{Tally}
use Rattle.rgo_runtime.proofs.ending.Closing.{closes_anyway, closes_whole}
use Rattle.rgo_runtime.proofs.leaving.One.{In, in_either, in_left, in_right, nobody_by_order, nobody_lost, none_in}
use Rattle.rgo_runtime.proofs.ending.Telling.{in_map, in_order, map_in, pass_tells}

-- ---- members

-- the members of turns are those of their goroutines
of_crew : (r : Run) (n : ℕ) (ts : List Turn) → AllByRecursion (IsOfCrew r n) ts → turning ts ≡ members r.setup (map its_goroutine ts)
of_crew r n [] all = refl
of_crew r n (t ∷ ts) all =
    ap (λ (x : Run). member_of x.setup t.goroutine ∷ turning ts) all.0.run
    ∙ ap (λ (ms : List Member). member_of r.setup t.goroutine ∷ ms) (of_crew r n ts all.1)

in_any_order : (T : Setup) (xs ys : List Goroutine) → IsPermutation xs ys → (m : Member) → In (members T xs) m → In (members T ys) m
in_any_order T xs ys order m t =
    let r = in_map (member_of T) xs m t in
    subst (In (members T ys)) r.2 (map_in (member_of T) ys r.0 (in_order xs ys order r.0 r.1))

four : (a b c d : List Member) → a ++ (b ++ (c ++ d)) ≡ (a ++ (b ++ c)) ++ d
four a b c d = ap (λ (l : List Member). a ++ l) (sym (append_assoc b c d)) ∙ sym (append_assoc a (b ++ c) d)

-- ---- ends

-- the limit was reached, and not passed by more than turns are long
spent_is : (made : Counts) (most : ℕ) → is_spent made most ≡ true → (most ≤ made.steps) × (made.steps < most + 1000 * made.goroutines)
spent_is made most q = by (nat_le most made.steps) (nat_lt made.steps (most + 1000 * made.goroutines)) refl refl q
  where
    by : (x y : Bool) → nat_le most made.steps ≡ x → nat_lt made.steps (most + 1000 * made.goroutines) ≡ y → (x && y) ≡ true
        → (most ≤ made.steps) × (made.steps < most + 1000 * made.goroutines)
    by true true p r both = grind (arith, nat_tests)
    by true false p r both = cc
    by false y p r both = cc

-- no mark reports that instructions were spent, or that a write failed
not_by_mark : (mark : clock.Mark) → (run_end_of_mark (mark_of mark) ≡ run_end.StepsSpent → ⊥) × (run_end_of_mark (mark_of mark) ≡ run_end.WriteFault → ⊥)
not_by_mark (given.Ended end) = (λ x. cc, λ x. cc)
not_by_mark (given.Stopped limit.Pages) = (λ x. cc, λ x. cc)
not_by_mark (given.Stopped limit.Regions) = (λ x. cc, λ x. cc)
not_by_mark (given.Stopped limit.ObjectSize) = (λ x. cc, λ x. cc)
not_by_mark (given.Stopped limit.Calls) = (λ x. cc, λ x. cc)
not_by_mark (given.Stopped limit.Goroutines) = (λ x. cc, λ x. cc)
not_by_mark (given.Stopped limit.Memory) = (λ x. cc, λ x. cc)

-- a run whose instructions were spent has passed its limit by no more than turns are long
module _ (made : Counts) (most : ℕ) where
  abbrev InTime : Type 0
  InTime = made.steps < most + 1000 * made.goroutines

  settled_in_time : (whole : Bool) (first : Option clock.Mark) (unmarked : RunEnd) → (unmarked ≡ run_end.StepsSpent → InTime)
      → settled_end whole first unmarked ≡ run_end.StepsSpent → InTime
  settled_in_time false first unmarked f x = cc
  settled_in_time true (Some mark) unmarked f x = absurd ((not_by_mark mark).0 x)
  settled_in_time true None unmarked f x = f x

  spent_in_time : (b : Bool) → is_spent made most ≡ b → cond b run_end.StepsSpent run_end.NoMemory ≡ run_end.StepsSpent → InTime
  spent_in_time true is x = (spent_is made most is).1
  spent_in_time false is x = cc

  stuck_in_time : (passed : Passed) → unmarked_end (Stuck passed) made most ≡ run_end.StepsSpent → InTime
  stuck_in_time Still x = cc
  stuck_in_time (Lacks why) x = cc
  stuck_in_time Moved x = cc

  pub ends_in_time : (why : Why) (whole : Bool) (first : Option clock.Mark) (end : RunEnd) → end ≡ end_by why whole first made most
      → end ≡ run_end.StepsSpent → InTime
  ends_in_time why whole first end is spent = by why (sym is ∙ spent)
    where
      by : (why : Why) → end_by why whole first made most ≡ run_end.StepsSpent → InTime
      by Memory x = cc
      by Write x = cc
      by Over x = settled_in_time whole first run_end.NoMemory (λ y. cc) x
      by Steps x = settled_in_time whole first (unmarked_end Steps made most) (spent_in_time (is_spent made most) refl) x
      by (Stuck passed) x = settled_in_time whole first (unmarked_end (Stuck passed) made most) (stuck_in_time passed) x

  -- and only a failed write ends it so
  settled_held : (whole : Bool) (first : Option clock.Mark) (unmarked : RunEnd) → (unmarked ≡ run_end.WriteFault → ⊥)
      → settled_end whole first unmarked ≡ run_end.WriteFault → ⊥
  settled_held false first unmarked f x = cc
  settled_held true (Some mark) unmarked f x = (not_by_mark mark).1 x
  settled_held true None unmarked f x = f x

  unmarked_held : (why : Why) → unmarked_end why made most ≡ run_end.WriteFault → ⊥
  unmarked_held Memory x = cc
  unmarked_held Write x = cc
  unmarked_held Over x = cc
  unmarked_held Steps x = by (is_spent made most) x
    where
      by : (b : Bool) → cond b run_end.StepsSpent run_end.NoMemory ≡ run_end.WriteFault → ⊥
      by true x = cc
      by false x = cc
  unmarked_held (Stuck Still) x = cc
  unmarked_held (Stuck (Lacks why)) x = cc
  unmarked_held (Stuck Moved) x = cc

  failed_by : (why : Why) (whole : Bool) (first : Option clock.Mark) → end_by why whole first made most ≡ run_end.WriteFault → why ≡ Write
  failed_by Memory whole first x = cc
  failed_by Write whole first x = refl
  failed_by Over whole first x = absurd (settled_held whole first (unmarked_end Over made most) (unmarked_held Over) x)
  failed_by Steps whole first x = absurd (settled_held whole first (unmarked_end Steps made most) (unmarked_held Steps) x)
  failed_by (Stuck passed) whole first x =
      absurd (settled_held whole first (unmarked_end (Stuck passed) made most) (unmarked_held (Stuck passed)) x)

  written_by : (why : Why) (whole : Bool) (first : Option clock.Mark) → why ≡ Write → end_by why whole first made most ≡ run_end.WriteFault
  written_by why whole first is = ap (λ w. end_by w whole first made most) is

  -- so the sink's faults show it of the end, as they show it of the reason for the end
  pub fails_so : (why : Why) (whole : Bool) (first : Option clock.Mark) (end : RunEnd) (before now : ℕ) (broken : Bool)
      → end ≡ end_by why whole first made most → FailsIf (why ≡ Write) before now broken
      → FailsIf (end ≡ run_end.WriteFault) before now broken
  fails_so why whole first end before now broken is f = record {
    fault = λ x. f.fault (failed_by why whole first (sym is ∙ x));
    broken = λ x. f.broken (failed_by why whole first (sym is ∙ x));
    held = λ n. f.held (λ w. n (is ∙ written_by why whole first w));
  }

-- a mark that was set determines the end
by_mark : (code : Code) (sizes : Sizes) (limits : Limits) (steps : ℕ) (s : RegionState) (mark : Mark) (end : RunEnd) → run_end_of_mark mark ≡ end
    → TableRunEnds code sizes limits 0 steps s (Some mark) end
by_mark code sizes limits steps s mark (run_end.Ended end) q = q
by_mark code sizes limits steps s mark run_end.Deadlock q = q
by_mark code sizes limits steps s mark run_end.CallsTooDeep q = q
by_mark code sizes limits steps s mark run_end.StepsSpent q = q
by_mark code sizes limits steps s mark run_end.GoroutinesSpent q = q
by_mark code sizes limits steps s mark (run_end.NoRoom why) q = q
by_mark code sizes limits steps s mark run_end.WriteFault q = tt
by_mark code sizes limits steps s mark run_end.NoMemory q = tt

-- all prints have gone out, however the run has ended
gave_all : (rows : Rows Record) (given : List Drawn) (end : RunEnd) (old new : Option (List ℕ)) → AllGiven rows given
    → Appends old new (bytes_of given) → GaveOut rows given end old new
gave_all rows given (run_end.Ended end) old new all out = (all, out)
gave_all rows given run_end.Deadlock old new all out = (all, out)
gave_all rows given run_end.CallsTooDeep old new all out = (all, out)
gave_all rows given run_end.StepsSpent old new all out = (all, out)
gave_all rows given run_end.GoroutinesSpent old new all out = (all, out)
gave_all rows given (run_end.NoRoom why) old new all out = (all, out)
gave_all rows given run_end.WriteFault old new all out = (
  length (bytes_of given),
  subst (Appends old new) (sym (take_all (length (bytes_of given)) (bytes_of given) (omega arith))) out,
)
gave_all rows given run_end.NoMemory old new all out = out

-- ---- when all goroutines have left

module _ (c : Crew) (left : Left) (k : IsRunCrew c) (gone : HaveAllLeft c left) where
  abbrev T : Setup
  T = c.run.setup

  abbrev all : List Goroutine
  all = map its_goroutine c.ready ++ (map its_goroutine (parked_values c.parked) ++ c.born)

  -- the members that had retired before
  abbrev before : List Member
  before = map retired gone.begin.seat.me.0.records

  abbrev left_ones : List Member
  left_ones = members T gone.gone ++ before

  crew_of : (ts : List Turn) → All (IsOfCrew c.run (length c.shares)) ts → turning ts ≡ members T (map its_goroutine ts)
  crew_of ts of = of_crew c.run (length c.shares) ts (recursion_from_All (IsOfCrew c.run (length c.shares)) ts of)

  parts : members T all ≡ members T (map its_goroutine c.ready) ++ (members T (map its_goroutine (parked_values c.parked)) ++ members T c.born)
  parts = map-append (member_of T) (map its_goroutine c.ready) (map its_goroutine (parked_values c.parked) ++ c.born)
      ∙ ap (λ (l : List Member). members T (map its_goroutine c.ready) ++ l)
      (map-append (member_of T) (map its_goroutine (parked_values c.parked)) c.born)

  all_are : crew_members c ≡ members T all ++ before
  all_are =
      ap (λ (l : List Member). l ++ (turning (parked_values c.parked) ++ (members T c.born ++ map retired c.me.0.records))) (crew_of c.ready k.ready)
      ∙ (ap (λ (l : List Member). members T (map its_goroutine c.ready) ++ (l ++ (members T c.born ++ map retired c.me.0.records)))
      (crew_of (parked_values c.parked) k.parked)
      ∙ (four (members T (map its_goroutine c.ready)) (members T (map its_goroutine (parked_values c.parked))) (members T c.born)
      (map retired c.me.0.records)
      ∙ (ap (λ (l : List Member). l ++ map retired c.me.0.records) (sym parts)
      ∙ ap (λ me. members T all ++ map retired me.0.records) (sym gone.is.0))))

  there : (m : Member) → In (members T all ++ before) m → In left_ones m
  there m t = ⊎_elim
      (λ (s : In (members T all) m).
      in_left (members T gone.gone) before m (in_any_order T all gone.gone (IsPermutation-sym gone.gone all gone.all) m s))
      (λ (s : In before m). in_right (members T gone.gone) before m s)
      (in_either (members T all) before m t)

  back : (m : Member) → In left_ones m → In (members T all ++ before) m
  back m t = ⊎_elim
      (λ (s : In (members T gone.gone) m). in_left (members T all) before m (in_any_order T gone.gone all gone.all m s))
      (λ (s : In before m). in_right (members T all) before m s)
      (in_either (members T gone.gone) before m t)

  -- they are the members of the crew
  same_ones : (taken : List Drawn) → AreSameMembers (crew_members c) (left_ones ++ []) taken taken
  same_ones taken =
      subst (λ (l : List Member). AreSameMembers (crew_members c) l taken taken) (sym (append-nil left_ones))
      (subst (λ (l : List Member). AreSameMembers l left_ones taken taken) (sym all_are)
      (record { there = there; back = back; still = λ d t. t; before = λ d t. t }))

  nobody : (taken : List Drawn) → NoneIsLost (crew_members c) taken → NobodyIsLost (map retired left.seat.me.0.records) taken
  nobody taken none =
      subst (λ (l : List Member). NobodyIsLost l taken) (append-nil (map retired left.seat.me.0.records))
      (gone.left.members [] taken
      (nobody_by_order (crew_members c) (left_ones ++ []) taken taken (nobody_lost (crew_members c) taken none) (same_ones taken)))

  -- if the driver reports that nothing of them is lost
  no_print : left.is_whole ≡ true → (taken : List Drawn) → NoneIsLost (crew_members c) taken
      → NoneIsLost (map retired left.seat.me.0.records) taken
  no_print whole taken none =
      let come : NoneIsLost (crew_members c) (taken ++ []) =
      subst (λ (ds : List Drawn). NoneIsLost (crew_members c) ds) (sym (append-nil taken)) none in
      subst (λ (ds : List Drawn). NoneIsLost (map retired left.seat.me.0.records) ds) (append-nil taken)
      (subst (λ (l : List Member). NoneIsLost l (taken ++ [])) (append-nil (map retired left.seat.me.0.records))
      (gone.left.kept whole [] taken
      (kept_by_order (crew_members c) (left_ones ++ []) (taken ++ []) (taken ++ []) come (same_ones (taken ++ [])))))

  -- and the table is closed
  module _ (words : List ℕ) (e : ClosesTable T words left.seat.me.0)
      (counted : AreRetired left.seat.me.0.records left.shares (end_mark left.first)) (was now : Option (List ℕ)) where
    abbrev rows : Rows Record
    rows = numbered_rows e.recs

    abbrev Has : List Drawn → Type 0
    Has given = ClosesWith T words left.seat.me.0 e left.shares (end_mark left.first) given

    abbrev EndsAs : Option Mark → RunEnd → Type 0
    EndsAs first end = TableRunEnds T.code T.sizes T.limits 0 (all_shares rows).steps (last_state e) first end

    abbrev RunsAs : RunEnd → Type 0
    RunsAs end = CodeRuns T.code T.sizes T.limits end (sum_of left.shares) was now

    runs_as : (given : List Drawn) (end : RunEnd) → Has given → EndsAs (end_mark left.first) end → GaveOut rows given end was now → RunsAs end
    runs_as given end has ends gave =
        subst (λ (n : Counts). CodeRuns T.code T.sizes T.limits end n was now) (sym has.sum)
        (closed_claims T words left.seat.me.0 e rows given (end_mark left.first) 0 end was now
        (record { all = has.all; order = has.order; is_first = has.is_first; ends = ends; gave = gave }))

    has_anyway : (given rest : List Drawn) → NoneIsLost (crew_members c) (given ++ rest) → AreInOrder given → Has given
    has_anyway given rest none turns =
        closes_anyway T words left.seat.me.0 e left.shares (end_mark left.first) given rest (nobody (given ++ rest) none) turns counted

    by_memory : (given : List Drawn) → HasGiven c given was now → RunsAs run_end.NoMemory
    by_memory given h = runs_as given run_end.NoMemory (has_anyway given (drawn c.waiting) h.none_lost h.turns) tt h.out

    by_fault : (given : List Drawn) → HasGivenSome c given was now → RunsAs run_end.WriteFault
    by_fault given h = runs_as given run_end.WriteFault (has_anyway given h.rest h.none_lost h.turns) tt h.out

    -- if no print that waits is the next, and nothing is lost, all prints have gone out
    module _ (given : List Drawn) (h : HasGiven c given was now) (next : NoneIsNext c) where
      has_all : left.is_whole ≡ true → Has given × AllGiven rows given
      has_all whole = closes_whole T words left.seat.me.0 e left.shares (end_mark left.first) given (drawn c.waiting)
          (no_print whole (given ++ drawn c.waiting) h.none_lost)
          (record { turns = h.turns; next = λ d at is. next d at (is ∙ sym h.next) })
          counted

      by_end : (end : RunEnd) (first : Option clock.Mark) → left.first ≡ first → left.is_whole ≡ true → (Has given → EndsAs (end_mark first) end)
          → RunsAs end
      by_end end first is whole ends =
          let has = has_all whole in
          runs_as given end has.0 (subst (λ (f : Option clock.Mark). EndsAs (end_mark f) end) (sym is) (ends has.0))
          (gave_all rows given end was now has.1 h.out)

      settled : (unmarked : RunEnd) → (left.is_whole ≡ true → Has given → EndsAs None unmarked) → (whole : Bool) → left.is_whole ≡ whole
          → (first : Option clock.Mark) → left.first ≡ first → RunsAs (settled_end whole first unmarked)
      settled unmarked ends false lost first is = by_memory given h
      settled unmarked ends true whole None is = by_end unmarked None is whole (ends whole)
      settled unmarked ends true whole (Some mark) is = by_end (run_end_of_mark (mark_of mark)) (Some mark) is whole
          (λ has. by_mark T.code T.sizes T.limits (all_shares rows).steps (last_state e) (mark_of mark) (run_end_of_mark (mark_of mark)) refl)

      -- the instructions that were executed
      spent : (made : Counts) → made ≡ sum_of left.shares → Has given → (b : Bool) → is_spent made T.limits.steps ≡ b
          → EndsAs None (cond b run_end.StepsSpent run_end.NoMemory)
      spent made is has false q = tt
      spent made is has true q =
          let total : made.steps ≡ (all_shares rows).steps = ap (λ (n : Counts). n.steps) (is ∙ has.sum) in
          (subst (λ n. T.limits.steps ≤ n) total (spent_is made T.limits.steps q).0, omega arith, omega arith)

      stuck : (passed : Passed) (made : Counts) → PassReports T words left.seat.me.0 e passed → EndsAs None (unmarked_end (Stuck passed) made T.limits.steps)
      stuck Still made t = t
      stuck (Lacks why) made t = t
      stuck Moved made t = tt

    ended_so : (why : Why) (start : Crew) → EndsFor why start was c now → HasGiven start [] was was → (made : Counts)
        → made ≡ sum_of left.shares → RunsAs (end_by why left.is_whole left.first made T.limits.steps)
    ended_so Memory start f h made is = let g = f was [] h in by_memory g.0 g.1
    ended_so Write start f h made is = let g = f was [] h in by_fault g.0 g.1
    ended_so Over start f h made is =
        let g = f.0 was [] h in
        settled g.0 g.1 f.1 run_end.NoMemory (λ whole has. tt) left.is_whole refl left.first refl
    ended_so Steps start f h made is =
        let g = f.0 was [] h in
        settled g.0 g.1 f.1 (cond (is_spent made T.limits.steps) run_end.StepsSpent run_end.NoMemory)
        (λ whole has. spent g.0 g.1 f.1 made is has (is_spent made T.limits.steps) refl)
        left.is_whole refl left.first refl
    ended_so (Stuck passed) start f h made is =
        let g = f.0 was [] h in
        settled g.0 g.1 f.1.0 (unmarked_end (Stuck passed) made T.limits.steps)
        (λ whole has. stuck g.0 g.1 f.1.0 passed made
        (pass_tells f.1.1 c passed left words e f.1.2 k f.1.3 f.1.4 gone whole has.all))
        left.is_whole refl left.first refl

-- ---- for the driver

-- nothing has gone out when a run begins
none_yet : (start : Crew) (was : Option (List ℕ)) → start.waiting ≡ [] → start.next ≡ 0 → NoneIsLost (crew_members start) []
    → HasGiven start [] was was
none_yet start was waiting next none = record {
  none_lost = subst (λ (prints : List Print). NoneIsLost (crew_members start) (drawn prints)) (sym waiting) none;
  turns = λ i d at. absurd (none_in d (i, at));
  next = next;
  out = Appends-nil was;
}

-- K is what the table was made for, and S what its run was asked for.
pub code_runs : (c : Crew) (left : Left) → IsRunCrew c → HaveAllLeft c left → (K S : Setup) → c.run.setup ≡ K → K ≡ S → (words : List ℕ)
    → ClosesTable K words left.seat.me.0 → AreRetired left.seat.me.0.records left.shares (end_mark left.first) → (was now : Option (List ℕ))
    → (why : Why) (start : Crew) → EndsFor why start was c now → start.waiting ≡ [] → start.next ≡ 0 → NoneIsLost (crew_members start) []
    → (tally : Tally) → counts_in tally ≡ sum_of left.shares → (end : RunEnd)
    → end ≡ end_by why left.is_whole left.first (counts_in tally) S.limits.steps
    → CodeRuns S.code S.sizes S.limits end (counts_in tally) was now
code_runs c left k gone K S of_table asked words e counted was now why start f waiting next none tally total end is =
    let at_close : ClosesTable c.run.setup words left.seat.me.0 =
    subst (λ (T : Setup). ClosesTable T words left.seat.me.0) (sym of_table) e in
    let ended = ended_so c left k gone words at_close counted was now why start f (none_yet start was waiting next none) (counts_in tally) total in
    subst (λ (x : RunEnd). CodeRuns S.code S.sizes S.limits x (counts_in tally) was now) (sym is)
    (subst
    (λ (n : Counts). CodeRuns S.code S.sizes S.limits (end_by why left.is_whole left.first (counts_in tally) S.limits.steps) n was now)
    (sym total)
    (subst
    (λ (T : Setup).
    CodeRuns T.code T.sizes T.limits (end_by why left.is_whole left.first (counts_in tally) T.limits.steps) (sum_of left.shares) was now)
    (of_table ∙ asked) ended))
