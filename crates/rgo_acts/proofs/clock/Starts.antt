-- Starts of goroutines. The seat is split by the access, and both records come from the parent's: that of the child has its frames and
-- regions, and nothing else.
use Rattle.std.proofs.Common.{◌≡◌, ◌+◌, ◌∙◌, ℕ, false, List, [], ◌∷◌, Option, Some, None, ap, arith, refl, subst, sym}
use Rattle.std.proofs.lemmas.List.{append-nil}
use Rattle.std.proofs.lemmas.Option.{none-some, same_Some}
use Rattle.std.specs.Option.{option_map, option_map_or}
use Rattle.std.specs.Prelude.{unwrap_or}
use Rattle.rgo_sound.specs.Code.Code as code_op
use Rattle.rgo_sound.specs.Code.Code.{Code, CodeFn, CodeOp, Go}
use Rattle.rgo_core.specs.Frames.goroutines.Children.{child_records}
use Rattle.rgo_core.specs.Frames.goroutines.Opening.{no_record}
use Rattle.rgo_sound.specs.RegionMachine.Owed.{code_function}
use Rattle.rgo_core.specs.Laws.{first_in}
use Rattle.rgo_core_facts.specs.ControlCode.{CanCall, HasCallee}
use Rattle.rgo_core_facts.proofs.ControlCode.{callees_exist}
use Rattle.rgo_core.specs.Frames.Records.{FramesRec as FrameRec, after_op}
use Rattle.rgo_core.specs.Frames.shown.WordFrames.{WordFrame, word_called, word_moved, words_of}
use Rattle.rgo_core.specs.Memory.Words.{made_at}
use Rattle.rgo_core.specs.Rule.Views.{Me, number_of, view}
use Rattle.rgo_core.specs.Rule.declared.accesses.Kind.TheVariants.{DrawNumber}
use Rattle.rgo_sound.specs.RegionMachine.States.{Stopped}
use Rattle.rgo_sound.specs.RegionMachine.declared.limits.Limit.TheVariants.{Goroutines}
use Rattle.rgo_core.specs.Core.{IsPossible, Setup}
use Rattle.rgo_core.specs.Next.{IsAtOp}
use Rattle.rgo_core.specs.runs.Opening.{first_of}
use Rattle.rgo_core.specs.Records.{Record, accesses, begins_with, steps_of, with_child}
use Rattle.rgo_core_steps.specs.After.{Position, child, child_at, child_by, position, starting}
use Rattle.rgo_core_steps.specs.Ends.{GoroutineEndsRun, IsFull}
use Rattle.rgo_core_steps.specs.Seats.{HasOne, HasPossible, HasAccessed, Settles, mine, other, settled}
use Rattle.rgo_core_steps.specs.Starts.{HasDrawn, IsBeforeGo, Started, next_number, refusing}
use Rattle.rgo_core_steps.proofs.record_steps.After.{at, moving_is}
use Rattle.rgo_core_steps.proofs.accesses.Growing.{told_record}
use Rattle.rgo_core_steps.proofs.tables.Parting.{started_law}
use Rattle.rgo_body.specs.Shows.{BodyShows}
use Rattle.rgo_body.specs.Steps.{Becomes}
use Rattle.rgo_body.specs.declared.nexts.Next.{Next}
use Rattle.rgo_sound.specs.Tac.Code as tac
use Rattle.rgo_sound.specs.Tac.Ops.{operation_of}
use Rattle.rgo_acts.specs.Actors.{now}
use Rattle.rgo_acts.specs.Limits.{IsAtLimit}
use Rattle.rgo_acts.specs.Ready.{ActorIsBefore}
use Rattle.rgo_acts.specs.Runs.{Run}
use Rattle.rgo_acts.specs.Starts.{HasStarted}
use Rattle.rgo_acts.specs.declared.actors.Actor.{Actor}
use Rattle.rgo_acts.proofs.before.Instructions.{go_of, here, here_as, rests}
use Rattle.rgo_acts.proofs.Standing.{Follows, acted_one, now_at_once}

-- ---- a goroutine that begins

-- it has frames and what it has of regions, and nothing else
abbrev Begins : Record → Type 0
Begins e = (frame : FrameRec) × (e ≡ begins_with frame)

child_by_begins : (code : Code) (c : Record) (w : WordFrame) (op : CodeOp) (e : Record) → child_by code c w op ≡ Some e → Begins e
child_by_begins code c w (code_op.Go f from passes removes) e is = called (code_function code f) is
  where
    first_of_callee : CodeFn → FrameRec
    first_of_callee callee =
        first_in (child_records code c.frame.holder (Go f from passes removes) (word_called callee f (words_of w from) ∷ []))

    begun : CodeFn → Record
    begun callee = begins_with (first_of_callee callee)

    called : (o : Option CodeFn) → option_map begun o ≡ Some e → Begins e
    called None none = absurd (none-some e none)
    called (Some callee) some = (first_of_callee callee, sym (same_Some (begun callee) e some))
child_by_begins code c w (code_op.Do to action from removes) e is = absurd (none-some e is)
child_by_begins code c w (code_op.Call to n from passes protects removes) e is = absurd (none-some e is)
child_by_begins code c w (code_op.Print pieces from removes) e is = absurd (none-some e is)
child_by_begins code c w (code_op.Jump target removes) e is = absurd (none-some e is)
child_by_begins code c w (code_op.Branch test target removes other otherwise) e is = absurd (none-some e is)
child_by_begins code c w (code_op.Return value) e is = absurd (none-some e is)

begins_unless : (o : Option Record) → ((e : Record) → o ≡ Some e → Begins e) → Begins (unwrap_or o (begins_with no_record))
begins_unless None each = (no_record, refl)
begins_unless (Some e) each = each e refl

child_begins : (code : Code) (c : Record) → Begins (child code c)
child_begins code c = at_position (position code c)
  where
    at_position : (o : Option Position) → Begins (option_map_or (child_at code c) o (begins_with no_record))
    at_position None = (no_record, refl)
    at_position (Some p) = begins_unless (child_by code c p.w p.instr.op) (child_by_begins code c p.w p.instr.op)

-- ---- the seat of the starter after it was split

module _ (T : Setup) (q : ℕ) (m w : Me Record) (n : ℕ) (t : Started T q m n w) where
  -- it has made one access
  split_left : HasAccessed T DrawNumber made_at next_number (λ found d. d ≡ starting T.code (settled T q m) found) m n
      (view ((number_of w, mine T w) ∷ []) w.0.seen, [])
  split_left =
      let law = started_law T q m w n t in (
        (refl, refl),
        record {
          after = mine T w;
          between = t.between;
          tells_so = law.2;
          alone = (ap (λ g. (g, mine T w) ∷ []) law.1, refl);
          seen = t.seen;
          others = t.others;
          counts = ap accesses (law.2 ∙ sym t.tells_so.0) ∙ t.counts;
        },
      )

-- ---- before a start

module _ (r : Run) (a : Actor) (next : Next) (before : ActorIsBefore r a next) (function : ℕ) (from : List ℕ)
    (is : operation_of next.op ≡ tac.Go function from) (never : a.body.refused ≡ false) where
  pub at_start : IsBeforeGo r.setup (now r.setup a)
  at_start =
      let n = before.ready.is_next in
      let go = go_of n.instr.op function from (n.op ∙ is) in
      let can : CanCall r.setup.code None function from go.0 = subst (HasCallee r.setup.code) go.2
      (callees_exist r.setup.code n.w.function next.at next.function n.instr before.stands.possible.core.sound.checked
      (here r a next before).in_fn n.is_instr) in
      record {
        function = function;
        callee = can.callee;
        from = from;
        passes = go.0;
        removes = go.1;
        here = here_as r a next before (Go function from go.0 go.1) go.2;
        calls = can.found;
        rests = rests r a next before;
        never = before.stands.shows.refused ∙ never;
      }

  -- ---- the record after it

  abbrev after_start : ℕ → Position → Record
  after_start n p = record (now r.setup a) {
    clock = with_child (now r.setup a).clock n;
    frame = after_op r.setup.code (now r.setup a).frame.holder p.w p.ws p.instr.op (word_moved p.w (p.w.next + 1) ∷ p.ws);
  }

  starting_follows : (n : ℕ) → Follows (now r.setup a) (starting r.setup.code (now r.setup a) n) 1 [] (n ∷ [])
  starting_follows n =
      let e : starting r.setup.code (now r.setup a) n ≡ after_start n (at (here r a next before)) =
      moving_is (here r a next before) (after_start n) in
      record {
        accesses = ap (λ (c : Record). accesses c) e;
        steps = ap (λ (c : Record). steps_of c) e ∙ omega arith;
        prints = ap (λ (c : Record). c.clock.prints) e ∙ sym (append-nil (now r.setup a).clock.prints);
        children = ap (λ (c : Record). c.clock.children) e;
        first = ap (λ (c : Record). c.clock.first) e;
      }

  refusing_follows : Follows (now r.setup a) (refusing (now r.setup a)) 0 [] []
  refusing_follows = record {
    accesses = refl;
    steps = omega arith;
    prints = sym (append-nil (now r.setup a).clock.prints);
    children = refl;
    first = refl;
  }

  -- ---- it has started

  module _ (w : Me Record) (n : ℕ) (drawn : HasDrawn r.setup a.behind a.seat.me (Some n) w) (possible : HasPossible r.setup w)
      (born : IsPossible r.setup n (other r.setup w)) (b c : Actor) where
    pub has_started : b.seat.table_id ≡ a.seat.table_id → b.behind ≡ 0
        → b.seat.me ≡ (view ((number_of w, mine r.setup w) ∷ []) w.0.seen, [])
        → Becomes r.program a.body b.body (λ T d. starting T.code d n)
        → c.seat.table_id ≡ r.table → c.behind ≡ 0 → c.seat.me ≡ (view ((n, other r.setup w) ∷ []) w.0.seen, [])
        → BodyShows r.setup r.program c.body (child r.setup.code (now r.setup a)) → HasStarted r a b n c
    has_started own none me becomes child_own child_none child_me child_shows =
        let T = r.setup in
        let is : other T w ≡ child T.code (now T a) = (started_law T a.behind a.seat.me w n drawn.1).3 in
        let at_once : now T c ≡ other T w =
        now_at_once T c child_none ∙ ap (λ (u : Me Record). mine T u) child_me in
        let begins = child_begins T.code (now T a) in
        let new : now T c ≡ begins_with begins.0 = (at_once ∙ is) ∙ begins.1 in
        record {
          acted = acted_one r a b before.stands 1 [] (n ∷ []) DrawNumber made_at n next_number
              (λ found d. d ≡ starting T.code (now T a) found) (starting T.code (now T a) n) own none
              (subst (λ (u : Me Record). HasAccessed T DrawNumber made_at next_number (λ found d. d ≡ starting T.code (now T a) found) a.seat.me n u)
              (sym me) (split_left T a.behind a.seat.me w n drawn.1))
              (subst (λ (u : Me Record). HasPossible T u) (sym me) possible) (λ e. e) (starting_follows n)
              (becomes T (now T a) before.stands.shows);
          stands = record {
            own = child_own;
            alone = subst (λ (u : Me Record). HasOne T u) (sym child_me) (refl, refl);
            settles = subst (λ q. Settles T q c.seat.me) (sym child_none) tt;
            possible = subst (λ (u : Me Record). IsPossible T (number_of u) (now T c)) (sym child_me)
                (subst (IsPossible T n) (sym at_once) born);
            shows = subst (BodyShows T r.program c.body) (sym (at_once ∙ is)) child_shows;
          };
          settled = child_none;
          number = ap (λ (u : Me Record). number_of u) child_me;
          within = drawn.0;
          seen = ap (λ (u : Me Record). u.0.seen) child_me ∙ sym (ap (λ (u : Me Record). u.0.seen) me);
          begins = at_once ∙ is;
          blank = ap (λ (e : Record). e.clock) new;
          memory = ap (λ (e : Record). e.memory) new;
          rests = ap (λ (e : Record). e.side) new;
        }

  -- ---- a number was refused

  still_at : IsAtOp r.setup.code (refusing (now r.setup a)) (Go at_start.function at_start.from at_start.passes at_start.removes)
  still_at = record {
    w = at_start.here.w;
    ws = at_start.here.ws;
    frames = at_start.here.frames;
    fn = at_start.here.fn;
    in_fn = at_start.here.in_fn;
    instr = at_start.here.instr;
    cur = at_start.here.cur;
    is = at_start.here.is;
    none = at_start.here.none;
    free = at_start.here.free;
  }

  pub is_refused : (b : Actor) → b.seat.table_id ≡ a.seat.table_id → b.behind ≡ 0
      → HasDrawn r.setup a.behind a.seat.me None b.seat.me → HasPossible r.setup b.seat.me
      → Becomes r.program a.body b.body (λ T d. refusing d) → IsAtLimit r a b Goroutines
  is_refused b own none drawn possible becomes =
      let T = r.setup in
      let c = now T a in
      let e : now T b ≡ refusing c =
      now_at_once T b none
      ∙ told_record accesses (first_of T.code) a.seat.me b.seat.me DrawNumber made_at drawn.0 next_number (λ found d. d ≡ refusing c)
      drawn.2 in (
        acted_one r a b before.stands 0 [] [] DrawNumber made_at drawn.0 next_number (λ found d. d ≡ refusing c) (refusing c) own none
            drawn.2 possible (λ same. same) refusing_follows (becomes T c before.stands.shows),
        subst (λ (d : Record). GoroutineEndsRun T (number_of b.seat.me) d (Stopped Goroutines)) (sym e)
            (IsFull at_start.function at_start.callee at_start.from at_start.passes at_start.removes still_at at_start.calls refl refl),
      )
