-- Ends of the run: the cause of each, and what setting the end mark leaves. The cause is in the record before the access, so it does not
-- matter what others do at the same time.
use Rattle.std.proofs.Common.{◌≡◌, ◌+◌, ◌<◌, ◌≤◌, ◌∙◌, ◌^◌, ◌⊎◌, inl, inr, ℕ, suc, Bool, true, false, List, [], ◌∷◌, Option, Some, ap, sym, subst, refl, arith, if◌then◌else◌, length, bit_or}
use Rattle.std.proofs.lemmas.Bool.{cases_lt}
use Rattle.std.proofs.lemmas.Bool.Decides.{nat_tests}
use Rattle.std.proofs.lemmas.Option.{slice_get-map}
use Rattle.std.specs.Option.{option_map, option_map_or}
use Rattle.std.specs.Prelude.{◌↔◌}
use Rattle.rgo_sound.specs.Code.Code as code
use Rattle.rgo_sound.specs.Code.Code.{CodeInstr}
use Rattle.rgo_sound.specs.Code.Erasure.{erased_instr}
use Rattle.rgo_core.specs.Frames.steps.Quiet.{is_exit}
use Rattle.rgo_core.specs.Frames.shown.WordFrames.{WordFrame, bare}
use Rattle.rgo_core.specs.Memory.Words.{clock_at}
use Rattle.rgo_core.specs.Rule.Views.{number_of}
use Rattle.rgo_core.specs.Rule.declared.accesses.Kind.TheVariants.{EndRun}
use Rattle.rgo_core_facts.specs.ControlCode.{HasCallee}
use Rattle.rgo_core_facts.proofs.ControlCode.{callees_exist}
use Rattle.rgo_core_facts.proofs.ControlFrames.{last_return}
use Rattle.rgo_core.specs.Core.{IsPossible, Setup}
use Rattle.rgo_core.specs.runs.Opening.{first_of}
use Rattle.rgo_core.specs.Records.{Record, accesses, has_ended, steps_of}
use Rattle.rgo_core_steps.specs.After.{Position, next_place, position_in}
use Rattle.rgo_core_steps.specs.Ends.{GoroutineEndsRun, Exits, IsFull, IsTooDeep, Trapped, InstrTraps, ending}
use Rattle.rgo_core_steps.specs.Seats.{HasPossible, HasAccessed, Settles, mine}
use Rattle.rgo_core_steps.proofs.accesses.Growing.{told_accesses, told_found, told_grew, told_record}
use Rattle.rgo_sound.specs.Machine.Limits.{deepest}
use Rattle.rgo_sound.specs.Machine.declared.picks.End.{End}
use Rattle.rgo_sound.specs.Machine.declared.picks.End.TheVariants as the_end
use Rattle.rgo_sound.specs.Memory.declared.traps.Trap.{Trap}
use Rattle.rgo_sound.specs.RegionMachine.Owed.{current}
use Rattle.rgo_sound.specs.RegionMachine.States.{Ended, Mark, Stopped}
use Rattle.rgo_sound.specs.RegionMachine.declared.limits.Limit.{Limit}
use Rattle.rgo_sound.specs.RegionMachine.declared.limits.Limit.TheVariants as limit
use Rattle.rgo_sound.specs.Tac.Code as tac
use Rattle.rgo_sound.specs.Tac.Code.{Instr}
use Rattle.rgo_sound.specs.Tac.Ops.{operation_of, place_in}
use Rattle.rgo_body.specs.Bodies.{frames_of_body}
use Rattle.rgo_body.specs.Nexts.{IsNextOf}
use Rattle.rgo_body.specs.Shows.{BodyShows}
use Rattle.rgo_body.specs.declared.bodies.Body.{Body}
use Rattle.rgo_body.specs.declared.nexts.Next.{Next}
use Rattle.rgo_body.proofs.Showing.{like_shown}
use Rattle.rgo_acts.specs.Actors.{IsActorOf, now}
use Rattle.rgo_acts.specs.Endings.{ActorHasEnded, place_of_next}
use Rattle.rgo_acts.specs.Ready.{ActorIsBefore}
use Rattle.rgo_acts.specs.Runs.{Run}
use Rattle.rgo_acts.specs.declared.actors.Actor.{Actor}
use Rattle.rgo_acts.proofs.before.Instructions.{call_of, current_is, go_of, here_as, rests, return_of}
use Rattle.rgo_acts.proofs.Standing.{now_accesses, now_at_once}

-- ---- the mark

-- the first mark is kept
first_is : (ends : Bool) (n : ℕ) (first : Option Mark) (mark : Mark) → (ends ≡ true) ↔ (n < 2 ^ 63)
    → (if has_ended n then first else Some mark) ≡ (if ends then Some mark else first)
first_is true n first mark both =
    let low = both.0 refl in
    let open_is : has_ended n ≡ false = grind (arith, nat_tests, low) in
    ap (λ (b : Bool). if b then first else Some mark) open_is
first_is false n first mark both = by (cases_lt n (2 ^ 63))
  where
    by : (n < 2 ^ 63) ⊎ (2 ^ 63 ≤ n) → (if has_ended n then first else Some mark) ≡ first
    by (inl low) = let same : false ≡ true = both.1 low in cc
    by (inr high) =
        let closed_is : has_ended n ≡ true = grind (arith, nat_tests, high) in
        ap (λ (b : Bool). if b then first else Some mark) closed_is

-- the record after an end that counts k instructions
record IsEnding (c d : Record) (k n : ℕ) (mark : Mark) : Type 0 where
  accesses_are : accesses d ≡ suc (accesses c)
  steps : steps_of d ≡ steps_of c + k
  prints : d.clock.prints ≡ c.clock.prints
  children : d.clock.children ≡ c.clock.children
  first : d.clock.first ≡ (if has_ended n then c.clock.first else Some mark)

ending_by_limit : (code : code.Code) (c : Record) (n : ℕ) (why : Limit) → IsEnding c (ending code c n (Stopped why)) 0 n (Stopped why)
ending_by_limit code c n why =
    record { accesses_are = refl; steps = omega arith; prints = refl; children = refl; first = refl }

ending_by_instruction : (code : code.Code) (c : Record) (n : ℕ) (end : End) → IsEnding c (ending code c n (Ended end)) 1 n (Ended end)
ending_by_instruction code c n end =
    record { accesses_are = refl; steps = omega arith; prints = refl; children = refl; first = refl }

-- the access that sets it
abbrev pub SetsMark : (T : Setup) (a b : Actor) → Mark → (ends : Bool) → Type 0
SetsMark T a b mark ends = (n : ℕ) × ((ends ≡ true) ↔ (n < 2 ^ 63))
    × HasAccessed T EndRun clock_at (λ n. bit_or n (2 ^ 63)) (λ n d. d ≡ ending T.code (now T a) n mark) a.seat.me n b.seat.me

module _ (r : Run) (a b : Actor) (stands : IsActorOf r a) (own : b.seat.table_id ≡ a.seat.table_id) (at_once : b.behind ≡ 0)
    (possible : HasPossible r.setup b.seat.me) (mark : Mark) (ends : Bool) (sets : SetsMark r.setup a b mark ends) where
  abbrev T : Setup
  T = r.setup

  abbrev c : Record
  c = now T a

  ended_by : (k : ℕ) → ((n : ℕ) → IsEnding c (ending T.code c n mark) k n mark)
      → ((n : ℕ) → BodyShows T r.program b.body (ending T.code c n mark)) → ActorHasEnded r a b k mark ends
  ended_by k is shows =
      let n = sets.0 in
      let left = sets.2 in
      let after : mine T b.seat.me ≡ ending T.code c n mark =
      told_record accesses (first_of T.code) a.seat.me b.seat.me EndRun clock_at n (λ n. bit_or n (2 ^ 63))
      (λ n d. d ≡ ending T.code c n mark) left in
      let e = now_at_once T b at_once in
      let grew = told_grew accesses (first_of T.code) a.seat.me b.seat.me EndRun clock_at n (λ n. bit_or n (2 ^ 63))
      (λ n d. d ≡ ending T.code c n mark) left
      (ap accesses after ∙ ((is n).accesses_are ∙ ap suc (now_accesses T a))) in
      record {
        es = told_accesses accesses (first_of T.code) a.seat.me b.seat.me EndRun clock_at n (λ n. bit_or n (2 ^ 63))
            (λ n d. d ≡ ending T.code c n mark) left;
        grew = grew;
        steps = ap steps_of (e ∙ after) ∙ (is n).steps;
        prints = ap (λ (d : Record). d.clock.prints) (e ∙ after) ∙ (is n).prints;
        children = ap (λ (d : Record). d.clock.children) (e ∙ after) ∙ (is n).children;
        first = ap (λ (d : Record). d.clock.first) (e ∙ after) ∙ (is n).first ∙ first_is ends n c.clock.first mark sets.1;
        stands = record {
          own = own ∙ stands.own;
          alone = grew.alone;
          settles = subst (λ q. Settles T q b.seat.me) (sym at_once) tt;
          possible = subst (IsPossible T (number_of b.seat.me)) (sym e) possible;
          shows = subst (BodyShows T r.program b.body) (sym (e ∙ after)) (shows n);
        };
        late = λ late. (
          n,
          high (cases_lt n (2 ^ 63)) late,
          told_found accesses (first_of T.code) a.seat.me b.seat.me EndRun clock_at n (λ n. bit_or n (2 ^ 63))
              (λ n d. d ≡ ending T.code c n mark) left,
        );
      }
    where
      high : (sets.0 < 2 ^ 63) ⊎ (2 ^ 63 ≤ sets.0) → ends ≡ false → 9223372036854775808 ≤ sets.0
      high (inl low) late = let same : false ≡ true = sym late ∙ sets.1.1 low in cc
      high (inr above) late = omega (arith, above)

-- ---- what it leaves, for the run as its fields have it, of which the contracts of lower crates speak

module _ (s r : Run) (seen_is : s ≡ r) (a b : Actor) (stands : IsActorOf r a) (own : b.seat.table_id ≡ a.seat.table_id) (at_once : b.behind ≡ 0)
    (possible : HasPossible s.setup b.seat.me) (ends : Bool) where
  stands_it : IsActorOf s a
  stands_it = subst (λ (x : Run). IsActorOf x a) (sym seen_is) stands

  pub stopped : (why : Limit) → b.body ≡ a.body → SetsMark s.setup a b (Stopped why) ends → ActorHasEnded r a b 0 (Stopped why) ends
  stopped why body sets =
      subst (λ (x : Run). ActorHasEnded x a b 0 (Stopped why) ends) seen_is
      (ended_by s a b stands_it own at_once possible (Stopped why) ends sets 0
      (λ n. ending_by_limit s.setup.code (now s.setup a) n why)
      (λ n. subst (λ (k : Body). BodyShows s.setup s.program k (ending s.setup.code (now s.setup a) n (Stopped why))) (sym body)
      (like_shown s.setup s.program a.body (now s.setup a) (ending s.setup.code (now s.setup a) n (Stopped why)) stands_it.shows
      (record {
        frame = refl;
        side = refl;
        fills = refl;
        reserved = refl;
        make = refl;
        claim = refl;
        give = refl;
        share = refl;
        owed = refl;
        prints = refl;
        refused = refl;
      }))))

  pub ended : (end : End)
      → ((n : ℕ) → BodyShows s.setup s.program b.body (ending s.setup.code (now s.setup a) n (Ended end)))
      → SetsMark s.setup a b (Ended end) ends → ActorHasEnded r a b 1 (Ended end) ends
  ended end shows sets =
      subst (λ (x : Run). ActorHasEnded x a b 1 (Ended end) ends) seen_is
      (ended_by s a b stands_it own at_once possible (Ended end) ends sets 1
      (λ n. ending_by_instruction s.setup.code (now s.setup a) n end) shows)

-- ---- causes

module _ (r : Run) (a : Actor) (next : Next) (before : ActorIsBefore r a next) where
  pub deep_ends : (to : Option ℕ) (function : ℕ) (from : List ℕ) → operation_of next.op ≡ tac.Call to function from
      → length (frames_of_body a.body) ≡ deepest → GoroutineEndsRun r.setup (number_of a.seat.me) (now r.setup a) (Stopped limit.Calls)
  deep_ends to function from is deep =
      let n = before.ready.is_next in
      let call = call_of n.instr.op to function from (n.op ∙ is) in
      let at = here_as r a next before (code.Call to function from call.0 call.1 call.2) call.3 in
      let can = subst (HasCallee r.setup.code) call.3
      (callees_exist r.setup.code n.w.function next.at next.function n.instr before.stands.possible.core.sound.checked at.in_fn n.is_instr) in
      IsTooDeep to function can.callee from call.0 call.1 call.2 at can.found (ap length before.stands.shows.frames ∙ deep) refl

  pub full_ends : (function : ℕ) (from : List ℕ) → operation_of next.op ≡ tac.Go function from → a.body.refused ≡ true
      → GoroutineEndsRun r.setup (number_of a.seat.me) (now r.setup a) (Stopped limit.Goroutines)
  full_ends function from is refused =
      let n = before.ready.is_next in
      let go = go_of n.instr.op function from (n.op ∙ is) in
      let at = here_as r a next before (code.Go function from go.0 go.1) go.2 in
      let can = subst (HasCallee r.setup.code) go.2
      (callees_exist r.setup.code n.w.function next.at next.function n.instr before.stands.possible.core.sound.checked at.in_fn n.is_instr) in
      IsFull function can.callee from go.0 go.1 at can.found (before.stands.shows.refused ∙ refused) refl

  no_callers : (w : WordFrame) (ws : List WordFrame) (frames : List WordFrame) → frames ≡ w ∷ ws → length frames ≡ 1 → ws ≡ []
  no_callers w [] frames e one = refl
  no_callers w (v ∷ vs) frames e one =
      let many = ap length e in
      absurd (omega (arith, many, one))

  pub exit_ends : (value : Option ℕ) → operation_of next.op ≡ tac.Return value → number_of a.seat.me ≡ 0
      → length (frames_of_body a.body) ≡ 1 → GoroutineEndsRun r.setup (number_of a.seat.me) (now r.setup a) (Ended the_end.Exit)
  exit_ends value is main last =
      let n = before.ready.is_next in
      let op = return_of n.instr.op value (n.op ∙ is) in
      let at = here_as r a next before (code.Return value) op in
      let e = last_return r.setup (now r.setup a) value at (no_callers n.w n.ws (frames_of_body a.body) n.are last) in
      Exits e.0 (rests r a next before) at.none e.1
      ((λ i. is_exit (main i) (e.2 i))) refl

-- ---- the place of a trap

module _ (r : Run) (a : Actor) (next : Next) (stands : IsActorOf r a) (n : IsNextOf r.program.code (frames_of_body a.body) next) where
  place_here : next_place r.setup.code (now r.setup a) ≡ n.instr.place
  place_here =
      let cur = ap (λ (k : code.Code). current k (bare n.w)) stands.shows.code ∙ current_is r.program.code (frames_of_body a.body) next n in
      ap (λ (fs : List WordFrame). option_map_or (λ (p : Position). p.instr.place) (position_in r.setup.code fs) 0) (stands.shows.frames ∙ n.are)
      ∙ ap (λ (o : Option CodeInstr). option_map_or (λ (p : Position). p.instr.place)
      (option_map (λ (instr : CodeInstr). record { w = n.w; ws = n.ws; instr = instr }) o) 0) cur

  place_there : place_of_next next ≡ n.instr.place
  place_there = ap place_in (slice_get-map erased_instr next.function.body next.at ∙ ap (option_map erased_instr) n.is_instr)

  pub trap_ends : (trap : Trap) → InstrTraps r.setup (now r.setup a) trap
      → GoroutineEndsRun r.setup (number_of a.seat.me) (now r.setup a) (Ended (the_end.Trap trap (place_of_next next)))
  trap_ends trap traps = Trapped trap traps (ap (λ p. Ended (the_end.Trap trap p)) (place_there ∙ sym place_here))
