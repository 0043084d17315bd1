-- A run is ended for lack of room, or by a limit. The cause is computed in the state of the access, from the record alone.
use Rattle.std.proofs.Common.{◌≡◌, nat_lt, ℕ, ◌+◌, ◌<◌, ◌^◌, true, option_map, List, ◌∷◌, Option, Some, None, length, map, slice_set, slice_index, bit_or, refl, ap, sym, subst, ◌∙◌, arith}
use Rattle.std.proofs.lemmas.Bool.Decides.{nat_tests}
use Rattle.std.proofs.lemmas.List.{length-map}
use Rattle.std.proofs.lemmas.Option.{same_Some}
use Rattle.rgo_sound.specs.Code.Code.{Call, Code, CodeFn, CodeInstr, CodeOp, Do, Go}
use Rattle.rgo_sound.specs.Code.Erasure.{erased, erased_instr, erased_op}
use Rattle.rgo_core_channels.proofs.Quiet.{finish_keeps}
use Rattle.rgo_core_frames.proofs.goroutines.Ending.{finish_law}
use Rattle.rgo_core_frames.proofs.Sound.{next_sound}
use Rattle.rgo_core_memory.proofs.image.Elsewhere.{ground_keeps}
use Rattle.rgo_core_memory.specs.Ground.{ground_of}
use Rattle.rgo_core_memory.specs.Image.{word_of_value}
use Rattle.rgo_sound.specs.Machine.Limits.{IsAtCall, IsAtStart, deepest}
use Rattle.rgo_sound.specs.Machine.Machines.{AtCall, AtStart}
use Rattle.rgo_sound.specs.Memory.Memory.{Object}
use Rattle.rgo_sound.specs.RegionMachine.Machine.{Finish, finished, kept_mark}
use Rattle.rgo_sound.specs.RegionMachine.Objects.{data_pages, is_too_large, most_data_pages}
use Rattle.rgo_sound.specs.RegionMachine.Owed.{current, code_function}
use Rattle.rgo_sound.specs.RegionMachine.States.{Mark, RegionState, Stopped}
use Rattle.rgo_sound.specs.RegionMachine.declared.limits.Limit.{Limit}
use Rattle.rgo_sound.specs.RegionMachine.declared.limits.Limit.TheVariants.{Calls, Goroutines, ObjectSize}
use Rattle.rgo_sound.proofs.steps.Acting.{after}
use Rattle.rgo_sound.proofs.steps.OneStep.{current_erased}
use Rattle.rgo_sound.specs.Tally.{no_share}
use Rattle.rgo_sound.proofs.names.Ruled.{erased_found}
use Rattle.rgo_sound.specs.Tac.Frames.{TacFrame, moved_to, operand_values}
use Rattle.rgo_sound.specs.Tac.Steps.{at_tac_function, tac_stand, stand_at_instr, stand_before_op}
use Rattle.rgo_sound.specs.Typed.declared.actions.Action.{Action}
use Rattle.rgo_sound.specs.Tac.declared.regions.Class.{Class}
use Rattle.rgo_core.specs.runs.Causes.{ReachesLimit}
use Rattle.rgo_core.specs.moves.Clock.{EndsRunNext, first_mark}
use Rattle.rgo_core.specs.Core.{Situation, Setup, layout}
use Rattle.rgo_core_channels.specs.Positions.{cell_place, place_at}
use Rattle.rgo_core.specs.Image.{Image, ChannelsIn}
use Rattle.rgo_core.specs.Laws.{CallsMove, FullMove, StopMove}
use Rattle.rgo_core.specs.moves.NewObjects.{LargeMove, ObjectOf}
use Rattle.rgo_core.specs.Next.{IsAtOp}
use Rattle.rgo_core.specs.Records.{Record, clock_of, counted, frame_of, memory_of, side_of, with_end}
use Rattle.rgo_core.proofs.clock.ClockLifts.{end_law}
use Rattle.rgo_core.proofs.goroutines.Counting.{plus_none}
use Rattle.rgo_core.proofs.steps.Lift.{as_long, clock_at, many, many_set, shallow_here}
use Rattle.rgo_core.proofs.new_objects.MakesObject.{b}
use Rattle.rgo_core.proofs.new_objects.NextObject.{done, object_there, steps_plain}
use Rattle.rgo_core.proofs.clock.Printing.{counts_step}
use Rattle.rgo_core.proofs.image.Standing.{at_instruction, frame_at, frames_here, image_clock, image_same}
use Rattle.rgo_core.proofs.accesses.Links.{Waits, all_kept, links_low}

kept_is : (m : Option Mark) (why : Limit) → kept_mark m why ≡ first_mark m (Stopped why)
kept_is None why = refl
kept_is (Some m) why = refl

module _ {T : Setup} {g : ℕ} {c : Record} (x : Situation T g c) (why : Limit) (stops : ReachesLimit T.code T.sizes T.limits why x.s) where
  abbrev d : Record
  d = record c { clock = with_end c.clock (slice_index x.words 0) (Stopped why) }

  ends : EndsRunNext x (Stopped why) d
  ends =
      let p = finish_law (frames_here x) why in
      let is : finished x.s why ≡ p.state = same_Some (finished x.s why) p.state p.steps in
      let sound = next_sound T.code T.sizes.page_words x.s p.state (Finish why) x.core.sound p.steps in
      let after : Image T.code (layout T) x.words x.recs p.state = record {
        places = x.core.image.places;
        at = x.core.image.at;
        addresses = x.core.image.addresses;
        addressed = x.core.image.addressed;
        frames = p.fit;
        memory = ground_keeps (layout T) x.words (map memory_of x.recs) x.s p.state x.core.image.places (ap ground_of (sym is)) x.core.image.memory;
        channels = subst (λ (t : RegionState). ChannelsIn T.code (layout T) x.core.image.places x.words (map side_of x.recs) t x.core.image.at) is
            (finish_keeps T.code T.sizes.page_words (word_of_value (layout T) x.core.image.places) (place_at (layout T) x.core.image.places) (cell_place (layout T) x.core.image.places) x.words (map side_of x.recs) x.s x.core.image.at why x.core.image.channels);
      } in
      let image = image_same T.code (layout T) x.words x.recs p.state after g c d x.is_c refl refl refl in
      record {
        goes = record {
          event = Finish why;
          next = p.state;
          steps = p.steps;
          room = refl;
          gain = no_share;
          adds = counts_step x.s p.state 0 p.regions_are p.same.global_pages p.same.memory (many_set x x.words d p.state sound image)
              (let n = p.counted in omega arith);
          counted = sym (plus_none (counted c.clock));
          shallow = shallow_here x g c.frame (frame_at x);
          image = image_clock T.code (layout T) x.words (slice_set x.recs g d) p.state (bit_or (slice_index x.words 0) 9223372036854775808) image;
          links = links_low x 0 (bit_or (slice_index x.words 0) 9223372036854775808) (omega arith) d (all_kept refl refl refl refl) (Waits refl refl refl);
        };
        marked = p.mark_is ∙ kept_is x.s.mark why;
        printed = p.same.printed;
        cause = λ e. stops;
      }

pub stop_move : StopMove
stop_move T g c why stops =
    end_law T g c (Stopped why) (λ n. record c { clock = with_end c.clock n (Stopped why) })
    (λ n. record { prints = refl; first = refl; children = refl; refused = refl; accesses = refl })
    (λ x fits. ends x why (stops x))

-- ---- limits that the record shows

-- a frame is at this instruction
stands : (code : Code) (frame : TacFrame) (instr : CodeInstr) → current code frame ≡ Some instr
    → tac_stand (erased code) frame ≡ stand_before_op (erased code) frame (erased_op instr.op) instr.place
stands code frame instr cur = ap (stand_at_instr (erased code) frame) (current_erased code frame ∙ ap (option_map erased_instr) cur)

module _ {T : Setup} {g : ℕ} {c : Record} (x : Situation T g c) (f : ℕ) (callee : CodeFn) (from : List ℕ) (passes : List Class) (removes : List ℕ)
    (is : code_function T.code f ≡ Some callee) where
  too_deep : (to : Option ℕ) (protects : List ℕ) → IsAtOp T.code c (Call to f from passes protects removes) → length c.frame.frames ≡ deepest
      → ReachesLimit T.code T.sizes T.limits Calls x.s
  too_deep to protects a deep =
      let b = (at_instruction x a).before in
      record {
        goroutine = g;
        frame = b.frame;
        callers = b.callers;
        frames = b.at;
        deep = as_long T.code x.core.image.places.slot x.core.image.addresses x.s (map frame_of x.recs) x.core.image.frames g c.frame (b.frame ∷ b.callers) (frame_at x) b.at ∙ deep;
        calls = subst IsAtCall
            (sym (stands T.code b.frame a.instr b.cur
            ∙ (ap (λ (op : CodeOp). stand_before_op (erased T.code) b.frame (erased_op op) a.instr.place) a.is
            ∙ ap (at_tac_function (AtCall b.frame) f (operand_values b.frame from)) (erased_found T.code f callee is)))) tt;
      }

  no_more : IsAtOp T.code c (Go f from passes removes) → c.clock.refused ≡ true → ReachesLimit T.code T.sizes T.limits Goroutines x.s
  no_more a refused =
      let b = (at_instruction x a).before in
      let k = x.core.story.numbers in
      record {
        full =
            many T.code x.core.image.places.slot x.core.image.addresses x.s (map frame_of x.recs) x.core.sound x.core.image.frames
            ∙ (length-map x.recs frame_of ∙ (sym (length-map x.recs clock_of) ∙ k.high (k.full g c.clock (clock_at x) refused)));
        goroutine = g;
        frame = b.frame;
        callers = b.callers;
        frames = b.at;
        starts = subst IsAtStart
            (sym (stands T.code b.frame a.instr b.cur
            ∙ (ap (λ (op : CodeOp). stand_before_op (erased T.code) b.frame (erased_op op) a.instr.place) a.is
            ∙ ap (at_tac_function (AtStart (moved_to b.frame (b.frame.next + 1))) f (operand_values b.frame from)) (erased_found T.code f callee is)))) tt;
      }

pub calls_move : CallsMove
calls_move T g c to f callee from passes protects removes a is deep =
    stop_move T g c Calls (λ x. too_deep x f callee from passes removes is to protects a deep)

pub full_move : FullMove
full_move T g c f callee from passes removes a is refused =
    stop_move T g c Goroutines (λ x. no_more x f callee from passes removes is a refused)

-- ---- an object of too many data pages

less_is : (m n : ℕ) → nat_lt m n ≡ true → m < n
less_is m n e = grind (arith, nat_tests)

module _ {T : Setup} {g : ℕ} {c : Record} (x : Situation T g c) (to : Option ℕ) (act : Action) (from removes : List ℕ)
    (a : IsAtOp T.code c (Do to act from removes)) (object : Object) (makes : ObjectOf (2 ^ 63) T.code a.w to act from object)
    (large : is_too_large T.sizes.page_words object ≡ true) where
  pub too_large : ReachesLimit T.code T.sizes T.limits ObjectSize x.s
  too_large = (
    g,
    after x.s.plain g (done x to act from removes a object (2 ^ 63) (omega arith) makes),
    steps_plain x to act from removes a object (2 ^ 63) (omega arith) makes,
    (
      object,
      object_there x to act from removes a object (2 ^ 63) (omega arith) makes,
      less_is (most_data_pages T.sizes.page_words) (data_pages T.sizes.page_words object) large,
    ),
  )

pub large_move : LargeMove
large_move T g c to act from removes a object makes large =
    stop_move T g c ObjectSize (λ x. too_large x to act from removes a object makes large)
