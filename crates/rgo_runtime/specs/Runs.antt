-- What a driver knows from round to round, and why it ends a run.
use Rattle.std.specs.Io.KnownBytes.{Appends}
use Rattle.std.specs.Prelude.{◌≡◌, ℕ, ◌+◌, ◌*◌, Bool, false, true, cond, ◌&&◌, nat_le, nat_lt, List, [], ◌∷◌, ◌++◌, Option, None, Some, length, ⊤}
use Rattle.rgo_core.specs.Memory.declared.layout.TableSizes.{TableSizes}
use Rattle.rgo_core.specs.Records.{Drawn}
use Rattle.rgo_core_steps.specs.Ends.{mark_of}
use Rattle.rgo_core_steps.specs.declared.clock.Mark.{Mark}
use Rattle.rgo_core_steps.specs.declared.clock.Mark.TheVariants as clock
use Rattle.rgo_sound.specs.Machine.Ends.{AppendsSome}
use Rattle.rgo_outside.specs.Causes.{Rose}
use Rattle.rgo_sound.specs.RegionMachine.Counts.{Counts}
use Rattle.rgo_sound.specs.Tally.{no_share}
use Rattle.rgo_sound.specs.Machine.declared.ends.RunEnd.{RunEnd}
use Rattle.rgo_sound.specs.Machine.declared.ends.RunEnd.TheVariants as run_end
use Rattle.rgo_table_runs.specs.Goroutine.Acts.declared.prints.Print.{Print}
use Rattle.rgo_sound.specs.Machine.declared.limits.Sizes.{Sizes}
use Rattle.rgo_sound.specs.Machine.declared.picks.End.TheVariants.{Exit}
use Rattle.rgo_table_runs.specs.closing.Ends.{run_end_of_mark}
use Rattle.rgo_table_runs.specs.closing.Gathering.{IsDrawnIn}
use Rattle.rgo_table_runs.specs.closing.Members.{NoneIsLost}
use Rattle.rgo_table_runs.specs.closing.Prints.{bytes_of}
use Rattle.rgo_runtime.specs.Closing.{AreInOrder}
use Rattle.rgo_runtime.specs.Crew.{Crew, HasPassedAll, crew_members}
use Rattle.rgo_runtime.specs.Crews.{drawn}
use Rattle.rgo_runtime.specs.declared.deadlock.Passed.TheVariants.{Lacks, Moved, Still}
use Rattle.rgo_runtime.specs.declared.runs.Why.{Why}
use Rattle.rgo_runtime.specs.declared.runs.Why.TheVariants.{Memory, Over, Steps, Stuck, Write}

-- the sizes of a table for code with this many package variables
abbrev pub sizes_with : Sizes → ℕ → TableSizes
sizes_with sizes variables = record {
  pages = sizes.pages;
  page_words = sizes.page_words;
  slots = sizes.regions;
  variables = variables;
}

-- These prints have gone out since the sink held `old`, whole and in order; the others wait, and none is lost. This is the invariant
-- between rounds; `next` lets a flush continue where the last one stopped.
pub record HasGiven (c : Crew) (given : List Drawn) (old now : Option (List ℕ)) : Type 0 where
  pub none_lost : NoneIsLost (crew_members c) (given ++ drawn c.waiting)
  pub turns : AreInOrder given
  pub next : c.next ≡ length given
  pub out : Appends old now (bytes_of given)

-- The first bytes of these prints, which come in order, have gone out, some or all. None of them and of the rest is lost. It is what is
-- left of `HasGiven` after a failed write, after which nothing more is written.
pub record HasGivenSome (c : Crew) (given : List Drawn) (old now : Option (List ℕ)) : Type 0 where
  pub rest : List Drawn
  pub none_lost : NoneIsLost (crew_members c) (given ++ rest)
  pub turns : AreInOrder given
  pub out : AppendsSome old now (bytes_of given)

-- Whatever had gone out before, the invariant holds after it. It is a statement on every past, so that steps can be composed.
abbrev pub CrewContinues : (before : Crew) (was : Option (List ℕ)) (after : Crew) (now : Option (List ℕ)) → Type 0
CrewContinues before was after now = (old : Option (List ℕ)) (given : List Drawn) → HasGiven before given old was
    → (more : List Drawn) × HasGiven after more old now

-- No print that waits could go out. True just after a flush; at the end of a run it implies, with `NoneIsLost`, that all prints have gone
-- out.
abbrev pub NoneIsNext : Crew → Type 0
NoneIsNext c = (d : Drawn) → IsDrawnIn (drawn c.waiting) d → d.ticket ≡ c.next → ⊥

-- What the driver knows when it ends a run for this reason. Want of memory and a failed write need nothing: their ends claim nothing more.
abbrev pub DriverKnows : Crew → Why → Type 0
DriverKnows c Memory = ⊤
DriverKnows c Write = ⊤
DriverKnows c Over = NoneIsNext c
DriverKnows c Steps = NoneIsNext c
DriverKnows c (Stuck passed) = NoneIsNext c × (before : Crew) × HasPassedAll before c passed × (c.parked ≡ []) × (c.born ≡ [])

-- Whatever had gone out before, the run has ended for this reason, and the driver knows what the reason needs.
abbrev pub EndsFor : Why → (before : Crew) (was : Option (List ℕ)) (after : Crew) (now : Option (List ℕ)) → Type 0
EndsFor Write before was after now = (old : Option (List ℕ)) (given : List Drawn) → HasGiven before given old was
    → (more : List Drawn) × HasGivenSome after more old now
EndsFor Memory before was after now = CrewContinues before was after now
EndsFor Over before was after now = CrewContinues before was after now × DriverKnows after Over
EndsFor Steps before was after now = CrewContinues before was after now × DriverKnows after Steps
EndsFor (Stuck passed) before was after now = CrewContinues before was after now × DriverKnows after (Stuck passed)

-- A write failed exactly if this is so, by the faults of the sink before and now, and nothing was written after it. `held` is the other
-- direction: a run that does not report a fault has met none.
pub record FailsIf (is_so : Type 0) (before now : ℕ) (is_broken : Bool) : Type 0 where
  pub fault : is_so → Rose before now
  pub broken : is_so → is_broken ≡ true
  pub held : (is_so → ⊥) → now ≡ before

-- how many instructions each goroutine may execute after the limit of them was reached; the claim says 1,000, too
abbrev pub overrun : ℕ
overrun = 1000

-- whether the limit of instructions was reached, and passed by fewer than `overrun` for each goroutine
abbrev pub is_spent : (made : Counts) (most : ℕ) → Bool
is_spent made most = nat_le most made.steps && nat_lt made.steps (most + overrun * made.goroutines)

-- How a run has ended that no goroutine has ended, by why its driver ended it, by what it has made, and by the instructions that may be
-- executed. The other cases do not arise, and no proof needs that: they end for want of memory, which claims nothing.
abbrev pub unmarked_end : Why → (made : Counts) → (most : ℕ) → RunEnd
unmarked_end (Stuck Still) made most = run_end.Deadlock
unmarked_end (Stuck (Lacks why)) made most = run_end.NoRoom why
unmarked_end (Stuck Moved) made most = run_end.NoMemory
unmarked_end Steps made most = cond (is_spent made most) run_end.StepsSpent run_end.NoMemory
unmarked_end Over made most = run_end.NoMemory
unmarked_end Memory made most = run_end.NoMemory
unmarked_end Write made most = run_end.NoMemory

-- the same by the mark that a goroutine has set, if nothing is lost of the goroutines; or else memory was refused
abbrev pub settled_end : (whole : Bool) → Option Mark → (unmarked : RunEnd) → RunEnd
settled_end false first unmarked = run_end.NoMemory
settled_end true (Some mark) unmarked = run_end_of_mark (mark_of mark)
settled_end true None unmarked = unmarked

-- how a run has ended
abbrev pub end_by : Why → (whole : Bool) → Option Mark → (made : Counts) → (most : ℕ) → RunEnd
end_by Memory whole first made most = run_end.NoMemory
end_by Write whole first made most = run_end.WriteFault
end_by Over whole first made most = settled_end whole first (unmarked_end Over made most)
end_by Steps whole first made most = settled_end whole first (unmarked_end Steps made most)
end_by (Stuck passed) whole first made most = settled_end whole first (unmarked_end (Stuck passed) made most)

-- ---- examples

-- one goroutine has executed this many instructions
abbrev pub counts_of_one : ℕ → Counts
counts_of_one steps = record no_share { steps = steps; goroutines = 1 }

pub record RunExamples : Type 0 where
  pub begins : (c : Crew) (old : Option (List ℕ)) → NoneIsLost (crew_members c) [] → c.waiting ≡ [] → c.next ≡ 0 → HasGiven c [] old old
  -- a print has gone out that the driver has not counted
  pub uncounted : (c : Crew) (d : Drawn) (old now : Option (List ℕ)) → c.next ≡ 0 → HasGiven c (d ∷ []) old now → ⊥
  -- the second print has gone out before the first
  pub out_of_order : (c : Crew) (d : Drawn) (old now : Option (List ℕ)) → d.ticket ≡ 1 → HasGiven c (d ∷ []) old now → ⊥
  pub some_out_of_order : (c : Crew) (d : Drawn) (old now : Option (List ℕ)) → d.ticket ≡ 1 → HasGivenSome c (d ∷ []) old now → ⊥
  pub nothing_done : (c : Crew) (now : Option (List ℕ)) → CrewContinues c now c now
  pub none_waits : (c : Crew) → c.waiting ≡ [] → NoneIsNext c
  -- the first that waits could go out
  pub one_waits : (c : Crew) (print : Print) → c.waiting ≡ print ∷ [] → print.ticket ≡ c.next → NoneIsNext c → ⊥
  pub deadlock : end_by (Stuck Still) true None (counts_of_one 5) 9 ≡ run_end.Deadlock
  -- memory was refused when goroutines left
  pub lost : end_by (Stuck Still) false None (counts_of_one 5) 9 ≡ run_end.NoMemory
  -- the mark of a goroutine goes before what the driver has found
  pub exited : end_by (Stuck Still) true (Some (clock.Ended Exit)) (counts_of_one 5) 9 ≡ run_end.Ended Exit
  pub spent : end_by Steps true None (counts_of_one 1008) 9 ≡ run_end.StepsSpent
  pub unspent : end_by Steps true None (counts_of_one 8) 9 ≡ run_end.StepsSpent → ⊥
  -- too many instructions were executed after the limit
  pub overspent : end_by Steps true None (counts_of_one 1009) 9 ≡ run_end.StepsSpent → ⊥
  -- a failed write goes before all
  pub failed : end_by Write true (Some (clock.Ended Exit)) (counts_of_one 9) 9 ≡ run_end.WriteFault
  pub broke : FailsIf ⊤ 0 1 true
  -- a write failed, but the run does not say so
  pub hidden : FailsIf ⊥ 0 1 true → ⊥
  -- more was written after it
  pub went_on : FailsIf ⊤ 0 1 false → ⊥
