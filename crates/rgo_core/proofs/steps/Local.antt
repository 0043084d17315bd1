-- A local instruction or duty of the record is one of the region machine, and needs no access. The law of frames has the step. It is left
-- to show that words, memory and channels stay, and what is counted.
use Rattle.std.proofs.Common.{◌≡◌, inr, ℕ, zero, suc, ◌+◌, ◌≤◌, Bool, true, false, List, [], ◌∷◌, Option, Some, None, if◌then◌else◌, option_map, option_and_then, length, map, slice_get, slice_set, slice_index, bit_or, refl, ap, sym, subst, ◌∙◌, arith}
use Rattle.std.proofs.lemmas.Option.{same_Some}
use Rattle.rgo_sound.specs.Code.Code.{Branch, Call, Code, CodeInstr, CodeOp, Do, Go, Jump, Print, Return}
use Rattle.rgo_core_channels.specs.Records.{ChannelRec as SideRec, at_rest}
use Rattle.rgo_core_frames.proofs.Before.{before_law}
use Rattle.rgo_core_frames.proofs.Leaving.{mark_stays}
use Rattle.rgo_core_frames.proofs.steps.LocalSteps.{local_law}
use Rattle.rgo_core_frames.proofs.Sound.{next_sound}
use Rattle.rgo_core_frames.specs.steps.Local.{local, local_by, local_frames, local_instr, local_op}
use Rattle.rgo_core_frames.specs.steps.LocalLaws.{end_by_frames, end_of, event_by, event_of}
use Rattle.rgo_core_frames.specs.steps.Quiet.{is_exit, quiet, unless_exit}
use Rattle.rgo_core_frames.specs.Records.{FramesRec as FrameRec, after_op}
use Rattle.rgo_core_frames.specs.steps.Bookkept.{RegionStepsTo, steps_after}
use Rattle.rgo_core_frames.specs.shown.WordFrames.{WordFrame, bare}
use Rattle.rgo_core_frames.proofs.Quiets.{no_end, acts_alone}
use Rattle.rgo_core_memory.proofs.image.Elsewhere.{ground_keeps}
use Rattle.rgo_core_memory.proofs.image.Quiets.{quiet_keeps}
use Rattle.rgo_core_memory.specs.Image.{StateImage}
use Rattle.rgo_core_memory.specs.Quiet.{IsGo}
use Rattle.rgo_sound.specs.Machine.Limits.{deepest}
use Rattle.rgo_sound.specs.Machine.declared.picks.End.TheVariants.{Exit}
use Rattle.rgo_sound.specs.Machine.declared.picks.Pick.TheVariants.{One}
use Rattle.rgo_sound.specs.RegionMachine.Counts.{counts_of}
use Rattle.rgo_sound.specs.RegionMachine.Duties.{may_go}
use Rattle.rgo_sound.specs.RegionMachine.Instructions.{mark_with_end}
use Rattle.rgo_sound.specs.RegionMachine.Machine.{Instruct, region_step}
use Rattle.rgo_sound.specs.RegionMachine.Owed.{current}
use Rattle.rgo_sound.specs.RegionMachine.Room.{has_room}
use Rattle.rgo_sound.specs.RegionMachine.States.{Duty, Ended, Holder, Mark, RegionState}
use Rattle.rgo_sound.specs.Tally.{counts_plus, no_share}
use Rattle.rgo_sound.specs.Memory.Memory.{Memory as Heap}
use Rattle.rgo_sound.specs.Tac.Frames.{TacFrame}
use Rattle.rgo_core.specs.Core.{Situation, Setup, layout}
use Rattle.rgo_core.specs.moves.Clock.{EndsRunNext, first_mark}
use Rattle.rgo_core.specs.Image.{Image}
use Rattle.rgo_core.specs.Laws.{ExitMove, LocalStill, clock_after}
use Rattle.rgo_core.specs.Records.{ClockRec, Record, counted, frame_of, instructed, memory_of, with_end, steps_of}
use Rattle.rgo_core.specs.Steps.{MakesQuietStep, SameClock}
use Rattle.rgo_core.proofs.clock.ClockLifts.{end_law}
use Rattle.rgo_core.proofs.goroutines.Counting.{instructed_counts, plus_none}
use Rattle.rgo_core.proofs.regions.Duties.{duty_ground}
use Rattle.rgo_core.proofs.steps.Lift.{many_set, quiet_law}
use Rattle.rgo_core.proofs.clock.Printing.{counts_step}
use Rattle.rgo_core.proofs.image.Standing.{frames_here, image_clock, side_at}
use Rattle.rgo_core.proofs.pages.Room.{no_creation}
use Rattle.rgo_core.proofs.steps.Staying.{image_stays}
use Rattle.rgo_core.proofs.pages.Unreserved.{adds_nothing}
use Rattle.rgo_core.proofs.accesses.Links.{Advances, CountsOne, IsElsewhere, Keeps, all_kept, as_much, has_duty, links_low, links_same, one_later, owing_none}

-- ---- the quiet step of a record

pub quiet_is : (code : Code) (g : ℕ) (c e : FrameRec) → quiet code g c ≡ Some e → (local code c ≡ Some e) × (is_exit g e.frames ≡ false)
quiet_is code g c e q = go (local code c) q
  where
    unless : (b : Bool) (d : FrameRec) → is_exit g d.frames ≡ b → (if b then None else Some d) ≡ Some e → (Some d ≡ Some e) × (is_exit g e.frames ≡ false)
    unless true d is q = cc
    unless false d is q = (q, ap (λ (y : FrameRec). is_exit g y.frames) (sym (same_Some d e q)) ∙ is)

    go : (o : Option FrameRec) → option_and_then (unless_exit g) o ≡ Some e → (o ≡ Some e) × (is_exit g e.frames ≡ false)
    go None q = cc
    go (Some d) q = unless (is_exit g d.frames) d refl q

some_end : (g : ℕ) (ws : List WordFrame) → is_exit g ws ≡ true → end_by_frames g [] ws ≡ Some Exit
some_end zero [] e = refl
some_end zero (w ∷ ws) e = cc
some_end (suc g) ws e = cc

exit_short : (g : ℕ) (ws : List WordFrame) → is_exit g ws ≡ true → length ws ≡ 0
exit_short zero [] e = refl
exit_short zero (w ∷ ws) e = cc
exit_short (suc g) ws e = cc

marked_exit : (m : Option Mark) → mark_with_end m (Some Exit) ≡ first_mark m (Ended Exit)
marked_exit None = refl
marked_exit (Some m) = refl

-- its instruction: none that starts a goroutine
pub record IsLocal (code : Code) (c : FrameRec) : Type 0 where
  pub w : WordFrame
  pub ws : List WordFrame
  pub frames : c.frames ≡ w ∷ ws
  pub instr : CodeInstr
  pub cur : current code (bare w) ≡ Some instr
  pub starts_nobody : IsGo instr.op → ⊥

no_go : (code : Code) (w : WordFrame) (ws : List WordFrame) (op : CodeOp) (next : List WordFrame) → local_op code w ws op ≡ Some next → IsGo op → ⊥
no_go code w ws (Go n from passes removes) next e go = cc
no_go code w ws (Do to action from removes) next e go = go
no_go code w ws (Call to n from passes protects removes) next e go = go
no_go code w ws (Print pieces from removes) next e go = go
no_go code w ws (Jump target removes) next e go = go
no_go code w ws (Branch test target removes other otherwise) next e go = go
no_go code w ws (Return value) next e go = go

is_local : (code : Code) (c e : FrameRec) → local code c ≡ Some e → c.holder.duties ≡ [] → IsLocal code c
is_local code c e loc none = frames c.frames refl (sym (ap (local_by code c) none) ∙ loc)
  where
    op : (w : WordFrame) (ws : List WordFrame) → c.frames ≡ w ∷ ws → (i : CodeInstr) → current code (bare w) ≡ Some i → (o : Option (List WordFrame))
        → local_op code w ws i.op ≡ o → option_map (after_op code c.holder w ws i.op) o ≡ Some e → IsLocal code c
    op w ws fs i cur None is q = cc
    op w ws fs i cur (Some next) is q = record { w = w; ws = ws; frames = fs; instr = i; cur = cur; starts_nobody = no_go code w ws i.op next is }

    instr : (w : WordFrame) (ws : List WordFrame) → c.frames ≡ w ∷ ws → (o : Option CodeInstr) → current code (bare w) ≡ o
        → option_and_then (local_instr code c.holder w ws) o ≡ Some e → IsLocal code c
    instr w ws fs None cur q = cc
    instr w ws fs (Some i) cur q = op w ws fs i cur (local_op code w ws i.op) refl q

    frames : (fs : List WordFrame) → c.frames ≡ fs → local_frames code c.holder fs ≡ Some e → IsLocal code c
    frames [] is q = cc
    frames (w ∷ ws) is q = instr w ws is (current code (bare w)) refl q

-- ---- the step of the machine

abbrev pub instructions : List Duty → ℕ
instructions [] = 1
instructions (d ∷ ds) = 0

counted_by : (g n : ℕ) (ds : List Duty) → steps_after n (event_by g ds) ≡ n + instructions ds
counted_by g n [] = refl
counted_by g n (d ∷ ds) = omega arith

record_counts : (ds : List Duty) (c : ClockRec) → counted (clock_after ds c) ≡ counts_plus (counted c) (record no_share { steps = instructions ds })
record_counts [] c = instructed_counts c
record_counts (d ∷ ds) c = sym (plus_none (counted c))

same_clock : (ds : List Duty) (c : ClockRec) → SameClock c (clock_after ds c)
same_clock [] c = record { prints = refl; first = refl; children = refl; refused = refl }
same_clock (d ∷ ds) c = record { prints = refl; first = refl; children = refl; refused = refl }

module _ {T : Setup} {g : ℕ} {c : Record} (x : Situation T g c) (rest : c.side ≡ at_rest) (e : FrameRec) (loc : local T.code c.frame ≡ Some e) where
  abbrev places : Rattle.rgo_core_memory.specs.Image.Where
  places = x.core.image.places

  -- it has no offer
  may : (h : Holder) → slice_get x.s.holders g ≡ Some h → may_go h.offer ≡ true
  may h there = ap may_go (x.core.image.channels.calm g c.side h (side_at x) there (ap (λ (r : SideRec). r.post) rest))

  shown : (ds : List Duty) → c.frame.holder.duties ≡ ds → (t : RegionState) → region_step T.code T.sizes.page_words x.s (event_by g ds) ≡ Some t
      → t.plain.memory ≡ x.s.plain.memory → t.owners ≡ x.s.owners → t.regions ≡ x.s.regions → t.global_pages ≡ x.s.global_pages
      → StateImage (layout T) x.words (map memory_of x.recs) t places
  shown [] none t step memory owners regions pages =
      quiet_keeps T.code (layout T) x.words (map memory_of x.recs) x.s t (Instruct (One g)) places x.core.image.memory step (memory, not_here)
    where
      not_here : (frame : TacFrame) (callers : List TacFrame) (instr : CodeInstr) → slice_get x.s.plain.goroutines g ≡ Some (frame ∷ callers)
          → current T.code frame ≡ Some instr → IsGo instr.op → ⊥
      not_here frame callers instr at cur go =
          let l = is_local T.code c.frame e loc none in
          let b = before_law (frames_here x) l.w l.ws l.instr l.frames l.cur none (inr may) in
          let fs : frame ∷ callers ≡ b.frame ∷ b.callers = same_Some (frame ∷ callers) (b.frame ∷ b.callers) (sym at ∙ b.at) in
          let is : instr ≡ l.instr = same_Some instr l.instr (sym cur ∙ (ap (current T.code) (heads frame b.frame callers b.callers fs) ∙ b.cur)) in
          l.starts_nobody (subst (λ (i : CodeInstr). IsGo i.op) is go)
        where
          heads : (f f2 : TacFrame) (fs fs2 : List TacFrame) → f ∷ fs ≡ f2 ∷ fs2 → f ≡ f2
          heads f f2 fs fs2 e = cc
  shown (d ∷ ds) owes t step memory owners regions pages =
      ground_keeps (layout T) x.words (map memory_of x.recs) x.s t places
      (duty_ground T.code T.sizes.page_words x.s t g step memory owners regions pages) x.core.image.memory

  abbrev ds : List Duty
  ds = c.frame.holder.duties

  -- the record after it, with this for the clock
  abbrev after : ClockRec → Record
  after clock = record c { clock = clock; frame = e }

  abbrev p : RegionStepsTo (frames_here x) (event_of g c.frame) x.s.regions (mark_with_end x.s.mark (end_of g c.frame e)) (slice_set (map frame_of x.recs) g e)
  p = local_law (frames_here x) e x.core.constants loc

  local_image : (clock : ClockRec) → Image T.code (layout T) x.words (slice_set x.recs g (after clock)) p.state
  local_image clock =
      image_stays x (event_of g c.frame) p.state p.steps (acts_alone g ds) rest p.same.memory p.same.owners p.regions_are (after clock) refl refl p.fit
      (shown ds refl p.state p.steps p.same.memory p.same.owners p.regions_are p.same.global_pages)

  local_keeps : (l : List Duty) → Keeps c (after (clock_after l c.clock))
  local_keeps [] = all_kept refl refl refl refl
  local_keeps (d ∷ l) = all_kept refl refl refl refl

  -- if it owes nothing, it makes no object
  nothing_made : region_step T.code T.sizes.page_words x.s (Instruct (One g)) ≡ Some p.state → c.memory.reserved.pages ≡ []
  nothing_made step = adds_nothing x p.state step (ap (λ (m : Heap). length m.heap) p.same.memory)

  local_advances : (l : List Duty) → c.frame.holder.duties ≡ l → region_step T.code T.sizes.page_words x.s (event_by g l) ≡ Some p.state
      → Advances T.code c (after (clock_after l c.clock))
  local_advances [] owes step = CountsOne (one_later (steps_of c)) (nothing_made step)
  local_advances (d ∷ l) owes step = IsElsewhere (as_much (steps_of c)) (has_duty T.code c d l owes) (owing_none x d l owes)

  -- it creates no region
  has_room_by : (l : List Duty) → region_step T.code T.sizes.page_words x.s (event_by g l) ≡ Some p.state → has_room T.sizes x.s (event_by g l) ≡ true
  has_room_by [] step = refl
  has_room_by (d ∷ l) step = no_creation T.code T.sizes x.s p.state g step (ap length p.regions_are)

  local_adds : counts_of p.state ≡ counts_plus (counts_of x.s) (record no_share { steps = instructions ds })
  local_adds =
      let sound = next_sound T.code T.sizes.page_words x.s p.state (event_of g c.frame) x.core.sound p.steps in
      counts_step x.s p.state (instructions ds) p.regions_are p.same.global_pages p.same.memory (many_set x x.words (after c.clock) p.state sound (local_image c.clock))
      (p.counted ∙ counted_by g x.s.steps ds)

  pub local_does : is_exit g e.frames ≡ false → length e.frames ≤ deepest → MakesQuietStep x x.words (after (clock_after ds c.clock))
  local_does stays short = record {
    goes = record {
      event = event_of g c.frame;
      next = p.state;
      steps = p.steps;
      room = has_room_by ds p.steps;
      gain = record no_share { steps = instructions ds };
      adds = local_adds;
      counted = record_counts ds c.clock;
      shallow = short;
      image = local_image (clock_after ds c.clock);
      links = links_same x (after (clock_after ds c.clock)) (local_keeps ds) (local_advances ds refl p.steps);
    };
    mark = p.mark_is ∙ (ap (mark_with_end x.s.mark) (no_end g ds e.frames stays) ∙ mark_stays x.s.mark);
    printed = p.same.printed;
    same = same_clock ds c.clock;
  }

  -- the return of `main`
  pub exit_ends : ds ≡ [] → is_exit g e.frames ≡ true → EndsRunNext x (Ended Exit) (after (with_end (instructed c.clock) (slice_index x.words 0) (Ended Exit)))
  exit_ends none exits = record {
    goes = record {
      event = event_of g c.frame;
      next = p.state;
      steps = p.steps;
      room = has_room_by ds p.steps;
      gain = record no_share { steps = instructions ds };
      adds = local_adds;
      counted = ap (λ (l : List Duty). counted (clock_after l c.clock)) (sym none) ∙ record_counts ds c.clock;
      shallow = let z = exit_short g e.frames exits in omega arith;
      image = image_clock T.code (layout T) x.words (slice_set x.recs g (after (with_end (instructed c.clock) (slice_index x.words 0) (Ended Exit)))) p.state
          (bit_or (slice_index x.words 0) 9223372036854775808) (local_image (with_end (instructed c.clock) (slice_index x.words 0) (Ended Exit)));
      links = links_low x 0 (bit_or (slice_index x.words 0) 9223372036854775808) (omega arith)
          (after (with_end (instructed c.clock) (slice_index x.words 0) (Ended Exit))) (all_kept refl refl refl refl)
          (CountsOne (one_later (steps_of c))
          (nothing_made (subst (λ (l : List Duty). region_step T.code T.sizes.page_words x.s (event_by g l) ≡ Some p.state) none p.steps)));
    };
    marked = p.mark_is ∙ (ap (λ (l : List Duty). mark_with_end x.s.mark (end_by_frames g l e.frames)) none
        ∙ (ap (mark_with_end x.s.mark) (some_end g e.frames exits) ∙ marked_exit x.s.mark));
    printed = p.same.printed;
    cause = λ q. tt;
  }

pub local_still : LocalStill
local_still T g c e rest q short =
    let l = quiet_is T.code g c.frame e q in
    quiet_law T g c (record c { clock = clock_after c.frame.holder.duties c.clock; frame = e }) (λ x. local_does x rest e l.0 l.1 short)

pub exit_move : ExitMove
exit_move T g c e rest none loc exits =
    end_law T g c (Ended Exit) (λ n. record c { clock = with_end (instructed c.clock) n (Ended Exit); frame = e })
    (λ n. record { prints = refl; first = refl; children = refl; refused = refl; accesses = refl })
    (λ x fits. exit_ends x rest e loc none exits)
