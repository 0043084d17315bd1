-- A print draws a ticket, and is the instruction of the region machine. It changes neither memory nor regions, so only the clock and the
-- frame are left to show.
use Rattle.std.proofs.Common.{◌≡◌, ℕ, ◌+◌, ◌%◌, List, ◌∷◌, Some, length, slice_get, slice_set, slice_index, sum_by, count_by, refl, ap, sym, subst, ◌∙◌, arith}
use Rattle.std.proofs.lemmas.List.{append-nil}
use Rattle.std.proofs.lemmas.Option.{same_Some}
use Rattle.rgo_sound.specs.Code.Code.{CodeInstr, CodeOp, Print}
use Rattle.rgo_core_channels.specs.Records.{at_rest}
use Rattle.rgo_core_frames.proofs.Sound.{next_sound}
use Rattle.rgo_core_frames.specs.steps.Prints.{printed_values}
use Rattle.rgo_core_frames.specs.shown.WordFrames.{WordFrame}
use Rattle.rgo_core_memory.proofs.image.Quiets.{quiet_keeps}
use Rattle.rgo_core_memory.specs.Quiet.{IsGo}
use Rattle.rgo_sound.specs.Machine.Lines.{printed_line}
use Rattle.rgo_sound.specs.Machine.declared.picks.Pick.TheVariants.{One}
use Rattle.rgo_sound.specs.Memory.Memory.{Memory as Heap}
use Rattle.rgo_sound.specs.RegionMachine.Counts.{counts_of, is_removed, pages_if_removed}
use Rattle.rgo_sound.specs.RegionMachine.Machine.{Instruct}
use Rattle.rgo_sound.specs.RegionMachine.Owed.{current}
use Rattle.rgo_sound.specs.RegionMachine.Regions.{RegionInfo}
use Rattle.rgo_sound.specs.RegionMachine.States.{RegionState}
use Rattle.rgo_sound.specs.Tally.{counts_plus, no_share}
use Rattle.rgo_sound.specs.Tac.Frames.{TacFrame}
use Rattle.rgo_sound.specs.Typed.declared.statements.Piece.{Piece}
use Rattle.rgo_core_frames.proofs.steps.ActionSteps.{print_law as frames_print}
use Rattle.rgo_core.specs.moves.Clock.{Prints}
use Rattle.rgo_core.specs.Core.{Situation, Setup, layout}
use Rattle.rgo_core.specs.Laws.{PrintMove, printed_by}
use Rattle.rgo_core.specs.Next.{IsAtOp}
use Rattle.rgo_core.specs.Records.{Record, steps_of}
use Rattle.rgo_core.proofs.clock.ClockLifts.{ticket_law}
use Rattle.rgo_core.proofs.steps.Lift.{many_set, shallow_here}
use Rattle.rgo_core.proofs.pages.Unreserved.{adds_nothing}
use Rattle.rgo_core.proofs.image.Standing.{at_instruction, frame_at, image_clock}
use Rattle.rgo_core.proofs.steps.Staying.{image_stays}
use Rattle.rgo_core.proofs.accesses.Links.{CountsOne, all_kept, links_low, one_later}
use Rattle.rgo_core.proofs.goroutines.Counting.{instructed_counts, plus_zero}

-- a step that leaves regions, pages, and the number of goroutines, and makes no object
pub counts_step : (s t : RegionState) (n : ℕ) → t.regions ≡ s.regions → t.global_pages ≡ s.global_pages → t.plain.memory ≡ s.plain.memory
    → length t.plain.goroutines ≡ length s.plain.goroutines → t.steps ≡ s.steps + n → counts_of t ≡ counts_plus (counts_of s) (record no_share { steps = n })
counts_step s t n regions pages memory many steps = λ i. record {
  made = plus_zero (length t.regions) (length s.regions) (ap length regions) i;
  removed = plus_zero (count_by is_removed t.regions) (count_by is_removed s.regions) (ap (count_by is_removed) regions) i;
  taken = plus_zero (counts_of t).taken (counts_of s).taken
      (ap (λ k. k + sum_by (λ (info : RegionInfo). info.pages) t.regions) pages
      ∙ ap (λ l. s.global_pages + sum_by (λ (info : RegionInfo). info.pages) l) regions) i;
  returned = plus_zero (sum_by pages_if_removed t.regions) (sum_by pages_if_removed s.regions) (ap (sum_by pages_if_removed) regions) i;
  steps = steps i;
  objects = plus_zero (length t.plain.memory.heap) (length s.plain.memory.heap) (ap (λ (m : Heap). length m.heap) memory) i;
  goroutines = plus_zero (length t.plain.goroutines) (length s.plain.goroutines) many i;
}

-- the instruction of a record is the machine's
pub not_go : {T : Setup} {g : ℕ} {c : Record} {op : CodeOp} (x : Situation T g c) (a : IsAtOp T.code c op) → (IsGo op → ⊥) → (frame : TacFrame) (callers : List TacFrame)
    (instr : CodeInstr) → slice_get x.s.plain.goroutines g ≡ Some (frame ∷ callers) → current T.code frame ≡ Some instr → IsGo instr.op → ⊥
not_go {T} {op = op} x a none frame callers instr at cur go =
    let b = (at_instruction x a).before in
    let frames : frame ∷ callers ≡ b.frame ∷ b.callers = same_Some (frame ∷ callers) (b.frame ∷ b.callers) (sym at ∙ b.at) in
    let instrs : instr ≡ a.instr = same_Some instr a.instr (sym cur ∙ (ap (current T.code) (heads frame b.frame callers b.callers frames) ∙ b.cur)) in
    none (subst IsGo (ap (λ (i : CodeInstr). i.op) instrs ∙ a.is) go)
  where
    heads : (f f2 : TacFrame) (fs fs2 : List TacFrame) → f ∷ fs ≡ f2 ∷ fs2 → f ≡ f2
    heads f f2 fs fs2 e = cc

module _ {T : Setup} {g : ℕ} {c : Record} (x : Situation T g c) (pieces : List Piece) (from removes : List ℕ) (a : IsAtOp T.code c (Print pieces from removes))
    (rest : c.side ≡ at_rest) where
  abbrev bytes : List ℕ
  bytes = printed_line pieces (printed_values a.fn a.w from)

  abbrev d : Record
  d = printed_by T c a bytes (slice_index x.words 0)

  abbrev v : ℕ
  v = (slice_index x.words 0 + 1) % 18446744073709551616

  prints : Prints x bytes d
  prints =
      let p = frames_print (at_instruction x a) a.fn pieces from removes a.is a.in_fn in
      let owners : p.state.owners ≡ x.s.owners = p.owners ∙ append-nil x.s.owners in
      let sound = next_sound T.code T.sizes.page_words x.s p.state (Instruct (One g)) x.core.sound p.steps in
      let shown = quiet_keeps T.code (layout T) x.words _ x.s p.state (Instruct (One g)) x.core.image.places x.core.image.memory p.steps
      (p.memory_is, not_go x a (λ z. z)) in
      let image = image_stays x (Instruct (One g)) p.state p.steps refl rest p.memory_is owners p.regions d refl refl p.fit shown in
      record {
        goes = record {
          event = Instruct (One g);
          next = p.state;
          steps = p.steps;
          room = refl;
          gain = record no_share { steps = 1 };
          adds = counts_step x.s p.state 1 p.regions p.global_pages p.memory_is (many_set x x.words d p.state sound image) p.counted;
          counted = instructed_counts c.clock;
          shallow = let s = shallow_here x g c.frame (frame_at x) in let l = ap (λ (fs : List WordFrame). length fs) a.frames in omega arith;
          image = image_clock T.code (layout T) x.words (slice_set x.recs g d) p.state v image;
          links = links_low x 0 v (omega arith) d (all_kept refl refl refl refl) (CountsOne (one_later (steps_of c))
              (adds_nothing x p.state p.steps (ap (λ (m : Heap). length m.heap) p.memory_is)));
        };
        mark = p.mark;
        printed = p.printed;
      }

pub print_move : PrintMove
print_move T g c pieces from removes a rest short =
    ticket_law T g c (printed_line pieces (printed_values a.fn a.w from)) (printed_by T c a (printed_line pieces (printed_values a.fn a.w from))) short (λ n. refl)
    (λ x fits. prints x pieces from removes a rest)
