-- What a run comes to that a test drives. These definitions leave out what a test cannot list: words of the table, and places of the text.
use Rattle.std.specs.Prelude.{◌≡◌, ◌+◌, ◌%◌, ◌^◌, ◌++◌, ◌∷◌, ℕ, [], List, None, Option, Some, slice_get}
use Rattle.rgo_goroutine.specs.Acts.declared.prints.Print.{Print}
use Rattle.rgo_core_steps.specs.declared.clock.Mark.{Mark}
use Rattle.rgo_core_steps.specs.declared.clock.Mark.TheVariants.{Ended, Stopped}
use Rattle.rgo_crew.specs.declared.over.CrewEnd.{CrewEnd}
use Rattle.rgo_crew.specs.declared.over.CrewEnd.TheVariants as ending
use Rattle.rgo_crew.specs.declared.over.Tally.{Tally}
use Rattle.rgo_crew.specs.declared.over.Why.{Why}
use Rattle.rgo_crew.specs.declared.over.Why.TheVariants as why
use Rattle.rgo_goroutine.specs.declared.goroutine.Goroutine.{Goroutine}
use Rattle.rgo_goroutine.specs.declared.turning.TableTurnEnd.{TableTurnEnd}
use Rattle.rgo_goroutine.specs.declared.turning.TableTurnEnd.TheVariants as stop
use Rattle.rgo_sound.specs.Machine.declared.picks.End.TheVariants.{Exit, Trap}
use Rattle.rgo_sound.specs.RegionMachine.Counts.{Counts}

-- how a mark ends the run; the place of a trap is left out, so that a test need not count columns
abbrev pub crew_end_of : Mark → CrewEnd
crew_end_of (Ended Exit) = ending.Exit
crew_end_of (Ended (Trap trap at)) = ending.Trap trap
crew_end_of (Stopped limit) = ending.Limit limit

-- why a turn was over: whatever ends the run is one variant, which says how
abbrev pub why_of : TableTurnEnd → Why
why_of stop.Went = why.Went
why_of (stop.Blocked at operation) = why.Blocked
why_of (stop.Lost at) = why.Lost
why_of stop.Ended = why.Ended
why_of (stop.Stopped mark) = why.Over (crew_end_of mark)
why_of (stop.Short shortage) = why.Over (ending.Short shortage)
why_of stop.NoMemory = why.Over ending.NoMemory

-- the tally from which sums begin
abbrev pub no_tally : Tally
no_tally = record { made = 0; removed = 0; taken = 0; returned = 0; steps = 0; objects = 0; goroutines = 0 }

-- what a goroutine has made and done, by the counts that its record keeps
abbrev pub tally_of : Counts → Tally
tally_of c = record {
  made = c.made;
  removed = c.removed;
  taken = c.taken;
  returned = c.returned;
  steps = c.steps;
  objects = c.objects;
  goroutines = c.goroutines;
}

-- The sum of two, number by number. Each is a remainder by 2^64, since the code adds `u64`s that wrap, and no clause bounds them.
abbrev pub tally_sum : Tally → Tally → Tally
tally_sum a b = record {
  made = (a.made + b.made) % 2 ^ 64;
  removed = (a.removed + b.removed) % 2 ^ 64;
  taken = (a.taken + b.taken) % 2 ^ 64;
  returned = (a.returned + b.returned) % 2 ^ 64;
  steps = (a.steps + b.steps) % 2 ^ 64;
  objects = (a.objects + b.objects) % 2 ^ 64;
  goroutines = (a.goroutines + b.goroutines) % 2 ^ 64;
}

-- the number of the goroutine, and how it has ended the run, if it has; a list, since a run has at most one such goroutine
abbrev pub ended_as : ℕ → Option Mark → List (ℕ × CrewEnd)
ended_as number None = []
ended_as number (Some mark) = (number, crew_end_of mark) ∷ []

abbrev pub ended_by : Goroutine → List (ℕ × CrewEnd)
ended_by go = ended_as go.number go.first

-- The tickets of the prints are the numbers from 0 on, in order: none is missing, and none comes twice.
abbrev pub AreTicketsNumbered : List Print → Type 0
AreTicketsNumbered prints = (k : ℕ) (print : Print) → slice_get prints k ≡ Some print → print.ticket ≡ k

-- the bytes of one print after another: what the run has written, if the prints are in the order of their tickets
abbrev pub joined_prints : List Print → List ℕ
joined_prints [] = []
joined_prints (print ∷ prints) = print.bytes.items ++ joined_prints prints
