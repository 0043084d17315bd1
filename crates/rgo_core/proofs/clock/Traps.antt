-- A trap of an instruction ends the run, unless it has ended. In both cases the machine makes the step; its mark is set only in the first.
use Rattle.std.proofs.Common.{◌≡◌, ℕ, Option, Some, None, map, slice_set, slice_index, bit_or, refl, sym, subst, ◌∙◌, arith, ap, length}
use Rattle.rgo_sound.specs.Code.Code.{CodeOp}
use Rattle.rgo_sound.specs.Machine.declared.picks.End.{End}
use Rattle.rgo_sound.specs.Machine.declared.picks.End.TheVariants as the_end
use Rattle.rgo_sound.specs.Machine.declared.picks.Pick.TheVariants.{One}
use Rattle.rgo_sound.specs.Memory.declared.traps.Trap.{Trap}
use Rattle.rgo_sound.specs.Memory.Memory.{Memory as Heap}
use Rattle.rgo_sound.specs.RegionMachine.Instructions.{mark_with_end}
use Rattle.rgo_sound.specs.RegionMachine.Machine.{Instruct}
use Rattle.rgo_sound.specs.RegionMachine.States.{Ended, Mark}
use Rattle.rgo_sound.specs.Tally.{no_share}
use Rattle.rgo_core_channels.specs.Records.{at_rest}
use Rattle.rgo_core_frames.proofs.Sound.{next_sound}
use Rattle.rgo_core_frames.specs.Fits.{RecordsFit}
use Rattle.rgo_core_frames.specs.steps.Bookkept.{RegionStepsTo}
use Rattle.rgo_core_memory.proofs.image.Quiets.{quiet_keeps}
use Rattle.rgo_core_memory.proofs.Rows.{set_again}
use Rattle.rgo_core_memory.specs.Quiet.{IsGo}
use Rattle.rgo_core_memory.specs.Words.{clock_at}
use Rattle.rgo_core.specs.moves.Clock.{EndsRunNext, first_mark}
use Rattle.rgo_core.specs.Core.{Situation, Setup, layout}
use Rattle.rgo_core.specs.Image.{Image}
use Rattle.rgo_core.specs.Next.{IsAtOp}
use Rattle.rgo_core.specs.Records.{Record, frame_of, steps_of}
use Rattle.rgo_core.specs.Steps.{Moves}
use Rattle.rgo_core.specs.moves.ChannelTraps.{trapped_record}
use Rattle.rgo_core.proofs.clock.ClockLifts.{end_law}
use Rattle.rgo_core.proofs.goroutines.Counting.{instructed_counts}
use Rattle.rgo_core.proofs.steps.Lift.{many_set, shallow_here}
use Rattle.rgo_core.proofs.accesses.Links.{CountsOne, all_kept, links_low, one_later}
use Rattle.rgo_core.proofs.clock.Printing.{counts_step, not_go}
use Rattle.rgo_core.proofs.pages.Unreserved.{adds_nothing}
use Rattle.rgo_core.proofs.image.Standing.{frame_at, frames_here, image_clock}
use Rattle.rgo_core.proofs.steps.Staying.{image_stays}

marked_is : (m : Option Mark) (end : End) → mark_with_end m (Some end) ≡ first_mark m (Ended end)
marked_is None end = refl
marked_is (Some m) end = refl

module _ {T : Setup} {g : ℕ} {c : Record} (x : Situation T g c) (trap : Trap) (place : ℕ)
    (F : RegionStepsTo (frames_here x) (Instruct (One g)) x.s.regions (mark_with_end x.s.mark (Some (the_end.Trap trap place))) (map frame_of x.recs)) where
  abbrev pub d : Record
  d = trapped_record c (slice_index x.words 0) trap place

  -- by an image of the state after it
  pub trap_ends : Image T.code (layout T) x.words (slice_set x.recs g d) F.state → EndsRunNext x (Ended (the_end.Trap trap place)) d
  trap_ends image =
      let sound = next_sound T.code T.sizes.page_words x.s F.state (Instruct (One g)) x.core.sound F.steps in
      record {
        goes = record {
          event = Instruct (One g);
          next = F.state;
          steps = F.steps;
          room = refl;
          gain = record no_share { steps = 1 };
          adds = counts_step x.s F.state 1 F.regions_are F.same.global_pages F.same.memory (many_set x x.words d F.state sound image) F.counted;
          counted = instructed_counts c.clock;
          shallow = shallow_here x g c.frame (frame_at x);
          image = image_clock T.code (layout T) x.words (slice_set x.recs g d) F.state (bit_or (slice_index x.words 0) 9223372036854775808) image;
          links = links_low x 0 (bit_or (slice_index x.words 0) 9223372036854775808) (omega arith) d (all_kept refl refl refl refl)
              (CountsOne (one_later (steps_of c)) (adds_nothing x F.state F.steps (ap (λ (m : Heap). length m.heap) F.same.memory)));
        };
        marked = F.mark_is ∙ marked_is x.s.mark (the_end.Trap trap place);
        printed = F.same.printed;
        cause = λ e. tt;
      }

  -- for a goroutine that is at no channel
  pub traps_so : c.side ≡ at_rest → {op : CodeOp} (a : IsAtOp T.code c op) → (IsGo op → ⊥) → EndsRunNext x (Ended (the_end.Trap trap place)) d
  traps_so rests a no_go =
      trap_ends
      (image_stays x (Instruct (One g)) F.state F.steps refl rests F.same.memory F.same.owners F.regions_are d refl refl
      (subst (RecordsFit T.code x.core.image.places.slot x.core.image.addresses F.state)
      (sym (set_again (map frame_of x.recs) g c.frame (frame_at x))) F.fit)
      (quiet_keeps T.code (layout T) x.words _ x.s F.state (Instruct (One g)) x.core.image.places x.core.image.memory F.steps
      (F.same.memory, not_go x a no_go)))

-- from a fact about each state
pub by_ends : (T : Setup) (g : ℕ) (c : Record) (trap : Trap) (place : ℕ)
    → ((x : Situation T g c) → EndsRunNext x (Ended (the_end.Trap trap place)) (trapped_record c (slice_index x.words 0) trap place))
    → Moves T g c clock_at (λ n. bit_or n 9223372036854775808) (λ n d. d ≡ trapped_record c n trap place)
by_ends T g c trap place ends =
    end_law T g c (Ended (the_end.Trap trap place)) (λ n. trapped_record c n trap place)
    (λ n. record { prints = refl; first = refl; children = refl; refused = refl; accesses = refl })
    (λ x fits. ends x)
