-- The region machine's step of one goroutine at a channel, computed forward. Its definition is a chain of tests, and each line of the
-- proof shows one of them to be true. No cases are needed, since what the goroutine does next is known.
use Rattle.std.proofs.Common.{◌≡◌, ℕ, ◌+◌, true, false, ◌&&◌, List, [], ◌∷◌, ◌++◌, length, Option, Some, None}
use Rattle.std.proofs.Common.{refl, ap, sym, ◌∙◌, slice_set, if◌then◌else◌, option_map, option_and_then}
use Rattle.std.proofs.lemmas.List.{append-nil}
use Rattle.rgo_sound.specs.Typed.declared.actions.Action.{Action}
use Rattle.rgo_sound.specs.Memory.declared.traps.Trap.{Trap}
use Rattle.rgo_sound.specs.Memory.declared.values.Value.{Value}
use Rattle.rgo_sound.specs.Memory.Memory.{Memory}
use Rattle.rgo_sound.specs.Machine.declared.picks.End.TheVariants as the_end
use Rattle.rgo_sound.specs.Machine.declared.picks.Pick.TheVariants.{One}
use Rattle.rgo_sound.specs.Machine.Actions.{at_channel}
use Rattle.rgo_sound.specs.Machine.Machines.{stepped, alone, picked, unless_ended, with_frames, trapped}
use Rattle.rgo_sound.specs.Tac.Frames.{TacFrame, frame_after_instr}
use Rattle.rgo_sound.specs.Tac.Steps.{tac_stand, stand_at_instr, stand_before_op}
use Rattle.rgo_sound.specs.Tac.Tac.{TacState, tac}
use Rattle.rgo_sound.specs.Code.Code.{Code, CodeOp, Do}
use Rattle.rgo_sound.specs.Code.Erasure.{erased, erased_instr, erased_op}
use Rattle.rgo_sound.specs.RegionMachine.declared.regions.Region.{Region}
use Rattle.rgo_sound.specs.RegionMachine.Duties.{may_go}
use Rattle.rgo_sound.specs.RegionMachine.Instructions.{has_none, touches, is_ready, holder_after, child_holder, last_frames}
use Rattle.rgo_sound.specs.RegionMachine.Instructions.{unless_trapped, mark_with_end, printed_if, instructed_with}
use Rattle.rgo_sound.specs.RegionMachine.Instructions.{some_instructed, instructed, instructed_at, one_instructed, instruct}
use Rattle.rgo_sound.specs.RegionMachine.Machine.{Instruct, region_step, plain_step}
use Rattle.rgo_sound.specs.RegionMachine.Objects.{makes_object, making_region, new_object, touched, touched_by, may_touch, allotted}
use Rattle.rgo_sound.specs.RegionMachine.Owed.{current, function_at}
use Rattle.rgo_sound.specs.RegionMachine.States.{Holder, Mark, RegionState, frames_in, frames_of, top_names}
use Rattle.rgo_sound.proofs.steps.OneStep.{current_erased}
use Rattle.rgo_sound.proofs.Places.{get_set_same}
use Rattle.rgo_core_memory.specs.Accesses.{Before}
use Rattle.rgo_core_channels.specs.Standing.{Next, passed_frames, passed_holder, blank_of}
use Rattle.rgo_core_channels.specs.After.{after}
use Rattle.rgo_core_channels.specs.After.{after_trap}
use Rattle.rgo_core_memory.proofs.Rows.{set_again}
use Rattle.rgo_core_channels.proofs.Lists.{none_past}

-- the frame is at this instruction
pub stands_is : (code : Code) (s : RegionState) (g : ℕ) (action : Action) (operands : List Value)
    (n : Before code s g action operands)
    → tac_stand (erased code) n.frame ≡ at_channel action (blank_of n) n.instr.place (frame_after_instr n.frame n.to) operands
stands_is code s g action operands n =
    ap (stand_at_instr (erased code) n.frame) (current_erased code n.frame ∙ ap (option_map erased_instr) n.cur)
    ∙ ap (λ (op : CodeOp). stand_before_op (erased code) n.frame (erased_op op) n.instr.place) n.is
    ∙ ap (at_channel action (blank_of n) n.instr.place (frame_after_instr n.frame n.to)) n.operands

-- the step of the three-address machine
pub plain_is : (code : Code) (s : RegionState) (g : ℕ) (action : Action) (operands : List Value)
    (n : Before code s g action operands) → s.plain.ended ≡ None
    → plain_step code s.plain (One g) ≡ stepped (tac (erased code)) s.plain g n.frame n.callers
    (at_channel action (blank_of n) n.instr.place (frame_after_instr n.frame n.to) operands)
plain_is code s g action operands n running =
    ap (λ e. unless_ended e (picked (tac (erased code)) s.plain (One g))) running
    ∙ ap (option_and_then (alone (tac (erased code)) s.plain g)) n.at
    ∙ ap (stepped (tac (erased code)) s.plain g n.frame n.callers) (stands_is code s g action operands n)

pub printed_same : (mark : Option Mark) (printed : List ℕ) → printed_if mark printed printed ≡ printed
printed_same None printed = refl
printed_same (Some mark) printed = refl

pub marked_same : (mark : Option Mark) → mark_with_end mark None ≡ mark
marked_same None = refl
marked_same (Some mark) = refl

module _ (code : Code) (page_words : ℕ) (s : RegionState) (g : ℕ) (action : Action) (operands : List Value)
    (n : Next code s g action operands) (running : s.plain.ended ≡ None) (free : may_go n.holder.offer ≡ true)
    (live : may_touch s (touched_by action operands) ≡ true) where
  abbrev h : Holder
  h = n.holder

  abbrev frame : TacFrame
  frame = n.before.frame

  abbrev callers : List TacFrame
  callers = n.before.callers

  abbrev op' : CodeOp
  op' = Do n.before.to action n.before.from n.before.removes

  pub ready : is_ready code s h (frame ∷ callers) ≡ true
  ready =
      ap (λ d. has_none d && may_go h.offer && touches s frame (current code frame)) n.none
      ∙ ap (λ b. b && touches s frame (current code frame)) free ∙ ap (touches s frame) n.before.cur
      ∙ ap (λ op. may_touch s (touched frame op)) n.before.is
      ∙ ap (λ vs. may_touch s (touched_by action vs)) n.before.operands ∙ live

  module _ (makes : makes_object action ≡ false) (next : TacState)
      (same : length next.memory.heap ≡ length s.plain.memory.heap)
      (steps : plain_step code s.plain (One g) ≡ Some next) where
    gives : allotted page_words h (making_region (function_at code frame) (top_names h.environments) n.before.instr.op)
        (new_object s.plain next) ≡ Some (h, [])
    gives = ap (allotted page_words h
        (making_region (function_at code frame) (top_names h.environments) n.before.instr.op))
        (none_past next.memory.heap (length s.plain.memory.heap) (sym same))

    pub instructs : region_step code page_words s (Instruct (One g))
        ≡ Some (instructed_with code s g frame callers n.before.instr next (h, []))
    instructs =
        ap (option_and_then (instruct code page_words s (One g))) steps
        ∙ ap (λ o. one_instructed code page_words s g o (frames_of s.plain g) next) n.there
        ∙ ap (λ f. one_instructed code page_words s g (Some h) f next) (ap frames_in n.before.at)
        ∙ ap (λ b. if b then instructed_at code page_words s g h frame callers next else None) ready
        ∙ ap (option_and_then (instructed code page_words s g h frame callers next)) n.before.cur
        ∙ ap (option_and_then (some_instructed code s g frame callers n.before.instr next)) gives

    abbrev make : TacState → List Region → List Holder → Option Mark → RegionState
    make plain owners holders mark = record s {
      plain = plain;
      owners = owners;
      holders = holders;
      steps = s.steps + 1;
      mark = mark;
    }

  -- it has a value
  pub does : makes_object action ≡ false → (m : Memory) (v : Value) → length m.heap ≡ length s.plain.memory.heap
      → stepped (tac (erased code)) s.plain g frame callers
      (at_channel action (blank_of n.before) n.before.instr.place (frame_after_instr frame n.before.to) operands)
      ≡ Some (record (with_frames s.plain g (passed_frames n v)) { memory = m })
      → region_step code page_words s (Instruct (One g)) ≡ Some (after n m v)
  does makes m v same steps =
      instructs makes next same (plain_is code s g action operands n.before running ∙ steps) ∙ ap Some is
    where
      next : TacState
      next = record (with_frames s.plain g (passed_frames n v)) { memory = m }

      frames_now : frames_of next g ≡ passed_frames n v
      frames_now = ap frames_in (get_set_same s.plain.goroutines g (frame ∷ callers) (passed_frames n v) n.before.at)

      holders_now : slice_set s.holders g (unless_trapped s.plain.ended h
          (holder_after code h frame callers n.before.instr.op (frames_of next g)))
          ++ child_holder code h n.before.instr.op (last_frames next.goroutines)
          ≡ slice_set s.holders g (passed_holder n v)
      holders_now =
          ap (λ op. slice_set s.holders g (unless_trapped s.plain.ended h
          (holder_after code h frame callers op (frames_of next g))) ++ child_holder code h op
          (last_frames next.goroutines)) n.before.is
          ∙ append-nil (slice_set s.holders g (unless_trapped s.plain.ended h
          (holder_after code h frame callers op' (frames_of next g))))
          ∙ ap (λ e. slice_set s.holders g (unless_trapped e h
          (holder_after code h frame callers op' (frames_of next g)))) running
          ∙ ap (λ f. slice_set s.holders g (holder_after code h frame callers op' f)) frames_now

      is : instructed_with code s g frame callers n.before.instr next (h, []) ≡ after n m v
      is = λ i. make makes next same (plain_is code s g action operands n.before running ∙ steps)
          (record next { printed = printed_same s.mark s.plain.printed i; ended = None })
          (append-nil s.owners i)
          (holders_now i)
          ((ap (mark_with_end s.mark) running ∙ marked_same s.mark) i)

  -- it traps
  pub traps : makes_object action ≡ false → (trap : Trap) (at : ℕ)
      → stepped (tac (erased code)) s.plain g frame callers
      (at_channel action (blank_of n.before) n.before.instr.place (frame_after_instr frame n.before.to) operands)
      ≡ Some (trapped s.plain trap at)
      → region_step code page_words s (Instruct (One g)) ≡ Some (after_trap s trap at)
  traps makes trap at steps = instructs makes next refl step ∙ ap Some is
    where
      next : TacState
      next = trapped s.plain trap at

      step : plain_step code s.plain (One g) ≡ Some next
      step = plain_is code s g action operands n.before running ∙ steps

      holders_now : slice_set s.holders g h ++ child_holder code h n.before.instr.op (last_frames next.goroutines)
          ≡ s.holders
      holders_now =
          ap (λ op. slice_set s.holders g h ++ child_holder code h op (last_frames next.goroutines)) n.before.is
          ∙ append-nil (slice_set s.holders g h) ∙ set_again s.holders g h n.there

      is : instructed_with code s g frame callers n.before.instr next (h, []) ≡ after_trap s trap at
      is = λ i. make makes next refl step
          (record next { printed = printed_same s.mark s.plain.printed i; ended = None })
          (append-nil s.owners i)
          (holders_now i)
          (mark_with_end s.mark (Some (the_end.Trap trap at)))
