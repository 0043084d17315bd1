-- In a run of checked code, whatever an instruction touches is kept: a step over what the code keeps of a state is the step of the
-- state, and what it leads to shows the state to which the region machine's step leads. Here region safety is used in place of a test
-- at run time.
use Rattle.std.proofs.Common.{◌≡◌, ℕ, List, [], ◌++◌, Option, Some, None, refl, sym, ap, ◌∙◌, subst, arith}
use Rattle.std.proofs.Common.{append_assoc, slice_get}
use Rattle.rgo_machine.specs.declared.picks.End.{End}
use Rattle.rgo_machine.specs.declared.picks.Pick.{Pick}
use Rattle.rgo_tac.specs.Tac.{TacState, tac_step}
use Rattle.rgo_code.specs.Checked.{IsChecked}
use Rattle.rgo_code.specs.Code.{Code}
use Rattle.rgo_code.specs.Erasure.{erased}
use Rattle.rgo_region_machine.specs.declared.regions.Region.{Region}
use Rattle.rgo_region_machine.specs.Instructions.{mark_with_end, plain_after, printed_if}
use Rattle.rgo_region_machine.specs.Machine.{plain_step}
use Rattle.rgo_region_machine.specs.States.{Mark, RegionState, end_in, plain_at}
use Rattle.rgo_sound.specs.Good.{AllGood}
use Rattle.rgo_region_interpreter.specs.declared.worlds.World.{World}
use Rattle.rgo_region_interpreter.specs.Tables.{MemoryShows, kept_memory}
use Rattle.rgo_region_interpreter.specs.Worlds.{Shown}
use Rattle.rgo_region_interpreter.proofs.lifting.Steps.{GoesAlike, Keeps, StepsAlike, TouchesKept, keeps_more, none_of_whole, step_of_kept}
use Rattle.rgo_region_interpreter.proofs.lifting.Steps.{step_of_whole, steps_alike, toucher, touches_live}
use Rattle.rgo_region_interpreter.proofs.lifting.Memory.{IsSafe, NoneGone, Steady}
use Rattle.rgo_region_interpreter.proofs.stepping.Targets.{next_live}

-- what the world's state of the three-address machine shows
pub record StateShows (state : TacState) (s : RegionState) : Type 0 where
  pub goroutines : state.goroutines ≡ s.plain.goroutines
  pub memory : MemoryShows state.memory s.regions s.owners s.plain.memory
  pub before : List ℕ
  pub printed : s.plain.printed ≡ before ++ state.printed
  pub ended : state.ended ≡ end_in s.mark
  pub goes_on : s.plain.ended ≡ None

pub state_shows : (w : World) (s : RegionState) → Shown w s → StateShows w.state s
state_shows w s x = record {
  goroutines = x.goroutines;
  memory = x.memory;
  before = x.before;
  printed = x.printed;
  ended = x.ended;
  goes_on = x.goes_on;
}

nothing_safe : (o : ℕ) → IsSafe [] [] o
nothing_safe o r at = cc

end_of_mark : (mark : Option Mark) → mark ≡ None → (e : Option End) → end_in (mark_with_end mark e) ≡ e
end_of_mark mark m e = ap (λ x. end_in (mark_with_end x e)) m ∙ go e
  where
    go : (e : Option End) → end_in (mark_with_end None e) ≡ e
    go None = refl
    go (Some end) = refl

-- a step of the state leads to `next`, and from what the code keeps of the state to v
pub record StepShows (code : Code) (s : RegionState) (state : TacState) (pick : Pick) (v : TacState) : Type 0 where
  pub next : TacState
  pub step : plain_step code s.plain pick ≡ Some next
  pub goroutines : v.goroutines ≡ next.goroutines
  pub memory : MemoryShows v.memory s.regions s.owners next.memory
  pub ended : v.ended ≡ next.ended
  pub bytes : List ℕ
  pub prints : next.printed ≡ s.plain.printed ++ bytes
  pub prints_kept : v.printed ≡ state.printed ++ bytes
  pub steady : Steady s.regions s.owners s.plain.memory next.memory
  -- with the print that the code keeps
  pub step_at : tac_step (erased code) (plain_at s state.printed) pick ≡ Some (record next { printed = v.printed })

module _ (code : Code) (s : RegionState) (checked : IsChecked code) (all : AllGood code s) where
  -- what the next instruction of any goroutine touches is kept, whatever the goroutine owes before it
  pub good_touches : (whole : TacState) (g : ℕ) → whole.goroutines ≡ s.plain.goroutines
      → TouchesKept code s.regions s.owners whole g
  good_touches whole g same = touches_live code s whole g (λ frame callers instr at cur.
      next_live code s g checked all frame callers instr (ap (λ gs. slice_get gs g) (sym same) ∙ at) cur)

  module _ (state : TacState) (shows : StateShows state s) where
    abbrev whole : TacState
    whole = plain_at s state.printed

    pub shown_keeps : Keeps s.regions s.owners (plain_at s state.printed) state
    shown_keeps = record { memory = shows.memory; goroutines = shows.goroutines; ended = shows.ended }

    pub shown_steps_alike : (pick : Pick) → StepsAlike s.regions s.owners (plain_at s state.printed) state
        (tac_step (erased code) (plain_at s state.printed) pick) (tac_step (erased code) state pick)
    shown_steps_alike pick =
        steps_alike code s.regions s.owners whole state pick shown_keeps
        (let e = all.good.values.memory.owned in omega (arith, e)) (good_touches whole (toucher pick) refl)

    pub shown_none : (pick : Pick) → tac_step (erased code) state pick ≡ None
        → tac_step (erased code) (plain_at s state.printed) pick ≡ None
    shown_none pick e =
        none_of_whole s.regions s.owners whole state (tac_step (erased code) whole pick)
        (tac_step (erased code) state pick) (shown_steps_alike pick) e

    module _ (running : s.mark ≡ None) where
      -- the print does not matter to a step
      same_keeps : Keeps [] [] (plain_at s state.printed) s.plain
      same_keeps = record { memory = refl; goroutines = refl; ended = shows.goes_on ∙ sym (ap end_in running) }

      same_touches : (g : ℕ) → TouchesKept code [] [] (plain_at s state.printed) g
      same_touches g = record { safe = λ frame callers instr o at cur t. nothing_safe o }

      pub shown_step : (pick : Pick) (v : TacState) → tac_step (erased code) state pick ≡ Some v
          → StepShows code s state pick v
      shown_step pick v e = record {
        next = x.0;
        step = x.1;
        goroutines = n.2.keeps.goroutines ∙ sym x.2.keeps.goroutines;
        memory = n.2.keeps.memory ∙ ap (kept_memory s.regions s.owners) (sym x.2.keeps.memory);
        ended = n.2.keeps.ended ∙ sym x.2.keeps.ended;
        bytes = x.2.bytes;
        prints = x.2.prints_kept;
        prints_kept = print ∙ x.2.prints;
        steady = subst (Steady s.regions s.owners s.plain.memory) (sym x.2.keeps.memory) n.2.steady;
        step_at = n.1 ∙ ap Some same;
      }
        where
          n : (next : TacState) × (tac_step (erased code) (plain_at s state.printed) pick ≡ Some next)
              × GoesAlike s.regions s.owners (plain_at s state.printed) state next v
          n = step_of_whole s.regions s.owners whole state (tac_step (erased code) whole pick)
              (tac_step (erased code) state pick) v (shown_steps_alike pick) e

          x : (next : TacState) × (tac_step (erased code) s.plain pick ≡ Some next)
              × GoesAlike [] [] (plain_at s state.printed) s.plain n.0 next
          x = step_of_kept [] [] whole s.plain (tac_step (erased code) whole pick)
              (tac_step (erased code) s.plain pick) n.0
              (steps_alike code [] [] whole s.plain pick same_keeps (omega arith) (same_touches (toucher pick))) n.1

          print : v.printed ≡ n.0.printed
          print = n.2.prints_kept ∙ sym n.2.prints

          same : ◌≡◌ {A = TacState} n.0 (record x.0 { printed = v.printed })
          same = λ i. record {
            memory = sym x.2.keeps.memory i;
            goroutines = sym x.2.keeps.goroutines i;
            printed = sym print i;
            ended = sym x.2.keeps.ended i;
          }

      -- the state to which the region machine comes by it, with the owners of new objects
      module _ (pick : Pick) (v : TacState) (x : StepShows code s state pick v) (t : RegionState)
          (plain : t.plain ≡ plain_after s x.next) (mark : t.mark ≡ mark_with_end s.mark x.next.ended) where
        ended_there : end_in t.mark ≡ x.next.ended
        ended_there = ap end_in mark ∙ end_of_mark s.mark running x.next.ended

        pub shown_after : (more : List Region) → NoneGone s.regions more → t.regions ≡ s.regions
            → t.owners ≡ s.owners ++ more → StateShows v t
        shown_after more none regions owners = record {
          goroutines = x.goroutines ∙ sym (ap (λ (p : TacState). p.goroutines) plain);
          memory = k.memory
              ∙ (λ i. kept_memory (sym regions i) (sym owners i) (sym (ap (λ (p : TacState). p.memory) plain) i));
          before = shows.before;
          printed = ap (λ (p : TacState). p.printed) plain
              ∙ ap (λ m. printed_if m s.plain.printed x.next.printed) running
              ∙ x.prints
              ∙ ap (λ bytes. bytes ++ x.bytes) shows.printed
              ∙ append_assoc shows.before state.printed x.bytes
              ∙ ap (λ bytes. shows.before ++ bytes) (sym x.prints_kept);
          ended = x.ended ∙ sym ended_there;
          goes_on = ap (λ (p : TacState). p.ended) plain;
        }
          where
            k : Keeps s.regions (s.owners ++ more) x.next v
            k = keeps_more s.regions s.owners x.next v more none
                (record { memory = x.memory; goroutines = x.goroutines; ended = x.ended })

        pub plain_at_after : ◌≡◌ {A = TacState} (record x.next { printed = v.printed }) (plain_at t v.printed)
        plain_at_after = λ i. record {
          memory = sym (ap (λ (p : TacState). p.memory) plain) i;
          goroutines = sym (ap (λ (p : TacState). p.goroutines) plain) i;
          printed = v.printed;
          ended = sym ended_there i;
        }
