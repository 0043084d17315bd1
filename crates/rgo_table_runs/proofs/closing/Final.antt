-- From the run that explains a table, and why the driver says that it has ended, to the run of the program. The hard case is a run with an
-- end mark: steps after the mark are cut off, and must not have printed.
use Rattle.std.proofs.Common.{◌≡◌, ℕ, ◌+◌, ◌<◌, ◌≤◌, max, Bool, true, false, List, [], ◌∷◌, ◌++◌, Option, Some, None, length, take, refl, ap, sym, subst, ◌∙◌, arith, append_assoc}
use Rattle.std.proofs.lemmas.List.{append-nil}
use Rattle.std.proofs.lemmas.Option.{same_Some}
use Rattle.std.proofs.lemmas.Bool.Decides.{nat_tests}
use Rattle.std.proofs.lemmas.Grind.{common_steps}
use Rattle.std.specs.Io.KnownBytes.{Appends}
use Rattle.rgo_sound.specs.Code.Code.{Code}
use Rattle.rgo_sound.specs.Code.Erasure.{erased}
use Rattle.rgo_core.proofs.runs.Runs.{one_step, run_then, runs_too}
use Rattle.rgo_core.specs.runs.Causes.{IsCause, ReachesLimit}
use Rattle.rgo_core.specs.Records.{ClockRec, all_counted}
use Rattle.rgo_core.specs.runs.Runs.{Marked, Printed, limited_run, step_in_limits}
use Rattle.rgo_core.specs.runs.Story.{Story}
use Rattle.rgo_core.specs.Rule.Lists.{flattened}
use Rattle.rgo_sound.specs.Machine.Ends as driver
use Rattle.rgo_sound.specs.Machine.Ends.{AppendsSome, RunPrints}
use Rattle.rgo_sound.specs.Machine.declared.ends.RunEnd.{RunEnd}
use Rattle.rgo_sound.specs.Machine.declared.ends.RunEnd.TheVariants as run_end
use Rattle.rgo_sound.proofs.Machine.Runs.{leads_joined, leads_one, limited}
use Rattle.rgo_sound.specs.Machine.Deadlocks.{IsDeadlock}
use Rattle.rgo_sound.specs.Machine.Limits.{LeadsWithin, is_within}
use Rattle.rgo_sound.specs.Machine.declared.limits.Limits.{Limits}
use Rattle.rgo_sound.specs.Machine.declared.limits.Sizes.{Sizes}
use Rattle.rgo_sound.specs.Machine.declared.picks.End.{End}
use Rattle.rgo_sound.specs.Machine.declared.picks.Pick.{Pick}
use Rattle.rgo_sound.specs.Machine.declared.limits.Shortage.{Shortage}
use Rattle.rgo_sound.specs.RegionMachine.Counts.{Counts}
use Rattle.rgo_sound.specs.RegionMachine.Instructions.{mark_with_end, printed_if}
use Rattle.rgo_sound.specs.RegionMachine.Machine.{Acknowledge, Attend, Event, Finish, Instruct, MakeOffer, TakePage, kept_mark, region_run, region_start, region_step}
use Rattle.rgo_sound.specs.RegionMachine.Room.{LacksIn, roomy_run}
use Rattle.rgo_sound.specs.RegionMachine.States.{Ended, Mark, RegionState, Stopped, end_in, plain_at}
use Rattle.rgo_sound.specs.RegionMachine.declared.limits.Limit.{Limit}
use Rattle.rgo_sound.specs.RegionMachine.declared.limits.Limit.TheVariants as limit
use Rattle.rgo_sound.proofs.plain.Steps.{Follows}
use Rattle.rgo_sound.specs.Erasure.{event_picks, picks_of}
use Rattle.rgo_sound.specs.Tac.Tac.{TacState, tac, tac_start}
use Rattle.rgo_table_runs.specs.claims.TableRuns.{TableRun}
use Rattle.rgo_table_runs.specs.closing.Ends.{end_of_limit}
use Rattle.rgo_table_runs.proofs.claims.Counted.{counted}
use Rattle.rgo_table_runs.proofs.claims.Erased.{erases, follows, picks_then, plain_on}

-- the run without what is said of its end
record Bare (code : Code) (sizes : Sizes) (limits : Limits) (whole : List Event) (print : List ℕ) : Type 0 where
  events : List Event
  late : List Event
  state : RegionState
  run : region_run code sizes.page_words events ≡ Some state
  more : events ++ late ≡ whole
  plain : TacState
  ran : LeadsWithin (tac (erased code)) limits (tac_start (erased code)) (picks_of code sizes events) plain
  is : plain_at state plain.printed ≡ plain
  printed : state.plain.printed ≡ plain.printed
  says : plain.printed ≡ print

abbrev room_of : Shortage → RunEnd → Shortage
room_of why (run_end.NoRoom s) = s
room_of why end = why

abbrev is_room : RunEnd → Bool
is_room (run_end.NoRoom s) = true
is_room end = false

no_room : (code : Code) (sizes : Sizes) (end : RunEnd) (why : Shortage) (s : RegionState) → is_room end ≡ false → end ≡ run_end.NoRoom why
    → LacksIn code sizes why s
no_room code sizes end why s never e = absurd (let z : true ≡ false = ap is_room (sym e) ∙ never in cc z)

some_steps : (n : ℕ) → 0 < max 1 n
some_steps n = grind (arith, nat_tests, common_steps)

module _ (code : Code) (sizes : Sizes) (limits : Limits) where
  ends_by : (l : Limit) (n : ℕ) (s : RegionState) → s.plain.ended ≡ None → ReachesLimit code sizes limits l s
      → driver.RunEndsAs (tac (erased code)) limits 0 n s.plain (end_of_limit l)
  ends_by limit.Pages n s on cause = on
  ends_by limit.Regions n s on cause = on
  ends_by limit.ObjectSize n s on cause = on
  ends_by limit.Calls n s on cause = (on, cause)
  ends_by limit.Goroutines n s on cause = (on, cause)
  ends_by limit.Memory n s on cause = tt

  gives_by : (l : Limit) (print : List ℕ) (old new : Option (List ℕ)) → Appends old new print → RunPrints (end_of_limit l) print old new
  gives_by limit.Pages print old new a = a
  gives_by limit.Regions print old new a = a
  gives_by limit.ObjectSize print old new a = a
  gives_by limit.Calls print old new a = a
  gives_by limit.Goroutines print old new a = a
  gives_by limit.Memory print old new a = a

  lacks_by : (l : Limit) (why : Shortage) (s : RegionState) → end_of_limit l ≡ run_end.NoRoom why → ReachesLimit code sizes limits l s → LacksIn code sizes why s
  lacks_by limit.Pages why s e cause = subst (λ (w : Shortage). LacksIn code sizes w s) (ap (room_of why) e) cause
  lacks_by limit.Regions why s e cause = subst (λ (w : Shortage). LacksIn code sizes w s) (ap (room_of why) e) cause
  lacks_by limit.ObjectSize why s e cause = subst (λ (w : Shortage). LacksIn code sizes w s) (ap (room_of why) e) cause
  lacks_by limit.Calls why s e cause = no_room code sizes (end_of_limit limit.Calls) why s refl e
  lacks_by limit.Goroutines why s e cause = no_room code sizes (end_of_limit limit.Goroutines) why s refl e
  lacks_by limit.Memory why s e cause = no_room code sizes (end_of_limit limit.Memory) why s refl e

  -- where no end has marked the run
  abbrev at_open : (events late whole : List Event) (s : RegionState) (print : List ℕ) → events ++ late ≡ whole
      → limited_run code sizes.page_words limits events ≡ Some s → s.mark ≡ None → s.plain.printed ≡ print → Bare code sizes limits whole print
  at_open events late whole s print more leads none says = record {
    events = events;
    late = late;
    state = s;
    run = runs_too code sizes.page_words limits events (region_start code) s leads;
    more = more;
    plain = s.plain;
    ran = erases code sizes.page_words limits events (region_start code) s none leads;
    is =
        let on = plain_on code sizes.page_words limits events (region_start code) s refl leads in
        λ i. record { memory = s.plain.memory; goroutines = s.plain.goroutines; printed = s.plain.printed; ended = (ap end_in none ∙ sym on) i };
    printed = refl;
    says = says;
  }

  -- where an instruction has ended it
  at_end : (whole : List Event) (end : End) (print : List ℕ) (m : Marked code sizes.page_words limits (IsCause code sizes limits) whole (Ended end) print)
      → (b : Bare code sizes limits whole print) × (b.plain.ended ≡ Some end)
  at_end whole end print m = go m.event refl (follows code sizes.page_words limits m.state m.next m.event one.0)
    where
      one : (region_step code sizes.page_words m.state m.event ≡ Some m.next) × (is_within limits m.next.plain ≡ true)
      one = one_step code sizes.page_words limits m.state m.next m.event m.steps

      leads : limited_run code sizes.page_words limits (m.first ++ m.event ∷ []) ≡ Some m.next
      leads = run_then (step_in_limits code sizes.page_words limits) (region_start code) m.first m.state m.next m.event m.leads m.steps

      has_ended : (o : Option End) → mark_with_end None o ≡ Some (Ended end) → o ≡ Some end
      has_ended None e = absurd (cc e)
      has_ended (Some x) e = let q : Ended x ≡ Ended end = same_Some (Ended x) (Ended end) e in ap (λ (o : Mark). end_in (Some o)) q

      not_still : m.next.mark ≡ m.state.mark → ⊥
      not_still e = let q : Some (Ended end) ≡ None = sym m.marked ∙ (e ∙ m.unmarked) in absurd (cc q)

      go : (e : Event) → m.event ≡ e → Follows code sizes.page_words m.state e m.next → (b : Bare code sizes limits whole print) × (b.plain.ended ≡ Some end)
      go (Finish l) is f = let q : Some (Ended end) ≡ kept_mark None l = sym m.marked ∙ (f.1 ∙ ap (λ n. kept_mark n l) m.unmarked) in absurd (cc q)
      go (Attend g) is f = absurd (not_still f.mark)
      go (TakePage g) is f = absurd (not_still f.mark)
      go (MakeOffer g) is f = absurd (not_still f.mark)
      go (Acknowledge g) is f = absurd (not_still f.mark)
      go (Instruct pick) is f =
          let ended : f.0.ended ≡ Some end = has_ended f.0.ended (ap (λ n. mark_with_end n f.0.ended) (sym m.unmarked) ∙ (sym f.2.mark ∙ m.marked)) in
          let printed : m.next.plain.printed ≡ f.0.printed = ap (λ (p : TacState). p.printed) f.2.plain ∙ ap (λ n. printed_if n m.state.plain.printed f.0.printed) m.unmarked in
          let fits : is_within limits f.0 ≡ true = ap (is_within limits) (sym f.2.plain) ∙ one.1 in
          let picks : picks_of code sizes (m.first ++ m.event ∷ []) ≡ picks_of code sizes m.first ++ pick ∷ [] = picks_then code sizes.page_words limits m.first (region_start code) m.state m.event m.leads ∙ (λ i. picks_of code sizes m.first ++ event_picks (m.unmarked i) (is i)) in (
            record {
              events = m.first ++ m.event ∷ [];
              late = m.rest;
              state = m.next;
              run = runs_too code sizes.page_words limits (m.first ++ m.event ∷ []) (region_start code) m.next leads;
              more = append_assoc m.first (m.event ∷ []) m.rest ∙ sym m.is;
              plain = f.0;
              ran = subst (λ (l : List Pick). LeadsWithin (tac (erased code)) limits (tac_start (erased code)) l f.0) (sym picks)
                  (leads_joined (tac (erased code)) limits (tac_start (erased code)) m.state.plain f.0 (picks_of code sizes m.first) (pick ∷ [])
                  (erases code sizes.page_words limits m.first (region_start code) m.state m.unmarked m.leads)
                  (leads_one (tac (erased code)) limits m.state.plain f.0 pick (limited (tac (erased code)) limits m.state.plain f.0 pick f.1 fits)));
              is = λ i. record {
                memory = (ap (λ (p : TacState). p.memory) f.2.plain) i;
                goroutines = (ap (λ (p : TacState). p.goroutines) f.2.plain) i;
                printed = f.0.printed;
                ended = (ap end_in m.marked ∙ sym ended) i;
              };
              printed = printed;
              says = sym printed ∙ (m.still ∙ m.printed);
            },
            ended,
          )

  -- a run of the program that is the whole run, up to its end and beyond
  abbrev pub WholeRun : List Event → RegionState → RunEnd → Counts → (old new : Option (List ℕ)) → Type 0
  WholeRun events s end tally old new =
      (t : TableRun code sizes limits end tally old new) × (t.events ++ t.late ≡ events) × (t.last ≡ s)

  module _ (words : List ℕ) (recs : List ClockRec) (events : List Event) (s : RegionState) (k : Story code sizes limits words recs events s) where
    -- the whole run has no end mark
    abbrev open_whole : s.mark ≡ None → Bare code sizes limits events (flattened k.before)
    open_whole none = at_open events [] events s (flattened k.before) (append-nil events) k.leads none k.clock.print

    -- the plain machine has not ended then
    on : s.plain.ended ≡ None
    on = plain_on code sizes.page_words limits events (region_start code) s refl k.leads

    -- up to where it was stopped
    abbrev stopped : (l : Limit) → s.mark ≡ Some (Stopped l) → Bare code sizes limits events (flattened k.before)
    stopped l e = let m = k.over (Stopped l) e in at_open m.first (m.event ∷ m.rest) events m.state (flattened k.before) (sym m.is) m.leads m.unmarked m.printed

    -- the run of the program, by the bare run and what ended it
    with_end : (end : RunEnd) (old new : Option (List ℕ)) (print : List ℕ) (b : Bare code sizes limits events print) (tested : ℕ)
        → tested ≤ length (picks_of code sizes b.events) → ((end ≡ run_end.NoMemory → ⊥) → print ≡ flattened k.before)
        → driver.RunEndsAs (tac (erased code)) limits tested (length (picks_of code sizes b.events)) b.plain end → RunPrints end print old new
        → ((why : Shortage) → end ≡ run_end.NoRoom why → LacksIn code sizes why b.state) → WholeRun events s end (all_counted recs) old new
    with_end end old new print b tested early whole ends gives lacks = (
      record {
        events = b.events;
        late = b.late;
        state = b.state;
        last = s;
        run = b.run;
        more = ap (region_run code sizes.page_words) b.more ∙ runs_too code sizes.page_words limits events (region_start code) s k.leads;
        room = ap (roomy_run code sizes) b.more ∙ k.room;
        made = k.shares;
        silent = λ q. k.clock.print ∙ (sym (whole q) ∙ (sym b.says ∙ sym b.printed));
        plain = b.plain;
        ran = b.ran;
        is = b.is;
        printed = b.printed;
        tested = tested;
        early = early;
        ends = ends;
        gives = subst (λ (p : List ℕ). RunPrints end p old new) (sym b.says) gives;
        lacks = lacks;
      },
      b.more,
      refl,
    )

    pub by_limit : (l : Limit) (end : RunEnd) (old new : Option (List ℕ)) → end_of_limit l ≡ end → s.mark ≡ Some (Stopped l)
        → Appends old new (flattened k.before) → WholeRun events s end (all_counted recs) old new
    by_limit l end old new same e gave = subst (λ (x : RunEnd). WholeRun events s x (all_counted recs) old new) same (
        let m = k.over (Stopped l) e in
        let none = plain_on code sizes.page_words limits m.first (region_start code) m.state refl m.leads in
        with_end (end_of_limit l) old new (flattened k.before) (stopped l e) 0 (omega arith) (λ q. refl)
        (ends_by l (length (picks_of code sizes m.first)) m.state none m.cause) (gives_by l (flattened k.before) old new gave)
        (λ why q. lacks_by l why m.state q m.cause))

    pub by_instruction : (end : End) (old new : Option (List ℕ)) → s.mark ≡ Some (Ended end) → Appends old new (flattened k.before)
        → WholeRun events s (run_end.Ended end) (all_counted recs) old new
    by_instruction end old new e gave =
        let b = at_end events end (flattened k.before) (k.over (Ended end) e) in
        with_end (run_end.Ended end) old new (flattened k.before) b.0 0 (omega arith) (λ q. refl) b.1 gave
        (λ why q. no_room code sizes (run_end.Ended end) why b.0.state refl q)

    pub by_deadlock : (old new : Option (List ℕ)) → s.mark ≡ None → IsDeadlock (tac (erased code)) s.plain → Appends old new (flattened k.before)
        → WholeRun events s run_end.Deadlock (all_counted recs) old new
    by_deadlock old new none dead gave =
        with_end run_end.Deadlock old new (flattened k.before) (open_whole none) 0 (omega arith) (λ q. refl) dead gave
        (λ why q. no_room code sizes run_end.Deadlock why s refl q)

    pub by_steps : (old new : Option (List ℕ)) (tested : ℕ) → s.mark ≡ None → limits.steps ≤ s.steps → tested ≤ s.steps → tested < max 1 limits.steps
        → Appends old new (flattened k.before) → WholeRun events s run_end.StepsSpent (all_counted recs) old new
    by_steps old new tested none many early below gave =
        let c : length (picks_of code sizes events) + 0 ≡ s.steps = counted code sizes.page_words limits events (region_start code) s none k.leads in
        with_end run_end.StepsSpent old new (flattened k.before) (open_whole none) tested (omega (arith, c, early)) (λ q. refl)
        (on, (omega (arith, c, many)), below) gave (λ why q. no_room code sizes run_end.StepsSpent why s refl q)

    pub by_shortage : (why : Shortage) (old new : Option (List ℕ)) → s.mark ≡ None → LacksIn code sizes why s → Appends old new (flattened k.before)
        → WholeRun events s (run_end.NoRoom why) (all_counted recs) old new
    by_shortage why old new none lacks gave =
        with_end (run_end.NoRoom why) old new (flattened k.before) (open_whole none) 0 (omega arith) (λ q. refl) on gave
        (λ other q. subst (λ (w : Shortage). LacksIn code sizes w s) (ap (room_of why) q) lacks)

    -- a write has failed
    pub by_fault : (old new : Option (List ℕ)) → AppendsSome old new (flattened k.before) → (m : Option Mark) → s.mark ≡ m
        → WholeRun events s run_end.WriteFault (all_counted recs) old new
    by_fault old new gave None e = with_end run_end.WriteFault old new (flattened k.before) (open_whole e) 0 (omega arith) (λ q. refl) tt gave
        (λ why q. no_room code sizes run_end.WriteFault why s refl q)
    by_fault old new gave (Some (Ended end)) e =
        let b = at_end events end (flattened k.before) (k.over (Ended end) e) in
        with_end run_end.WriteFault old new (flattened k.before) b.0 0 (omega arith) (λ q. refl) tt gave
        (λ why q. no_room code sizes run_end.WriteFault why b.0.state refl q)
    by_fault old new gave (Some (Stopped l)) e =
        let b = stopped l e in
        with_end run_end.WriteFault old new (flattened k.before) b 0 (omega arith) (λ q. refl) tt gave
        (λ why q. no_room code sizes run_end.WriteFault why b.state refl q)

    -- memory has run out: the first n pieces of print went out
    pub by_memory : (old new : Option (List ℕ)) (n : ℕ) → n ≤ length k.before → Appends old new (flattened (take n k.before))
        → WholeRun events s run_end.NoMemory (all_counted recs) old new
    by_memory old new n small gave =
        let c : Printed code sizes.page_words limits events (flattened (take n k.before)) = k.cuts n small in
        let b = at_open c.first c.rest events c.state (flattened (take n k.before)) (sym c.is) c.leads c.unmarked c.printed in
        with_end run_end.NoMemory old new (flattened (take n k.before)) b 0 (omega arith) (λ q. absurd (q refl)) tt gave
        (λ why q. no_room code sizes run_end.NoMemory why b.state refl q)
