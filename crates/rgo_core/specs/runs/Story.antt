-- The run that explains a table's words: which state it leads to, and how the clock, the number of goroutines and the counts of
-- all records relate to it. The image is about the state alone; this part is about how the run came there.
use Rattle.std.specs.Prelude.{◌≡◌, ◌≤◌, ℕ, true, List, length, take, Some, slice_index}
use Rattle.rgo_sound.specs.Code.Code.{Code}
use Rattle.rgo_core_memory.specs.Words.{made_at}
use Rattle.rgo_core_rule.specs.Lists.{flattened}
use Rattle.rgo_sound.specs.Machine.Limits.{is_within, most_goroutines}
use Rattle.rgo_sound.specs.Machine.declared.limits.Limits.{Limits}
use Rattle.rgo_sound.specs.Machine.declared.limits.Sizes.{Sizes}
use Rattle.rgo_sound.specs.RegionMachine.Counts.{counts_of}
use Rattle.rgo_sound.specs.RegionMachine.Machine.{Event}
use Rattle.rgo_sound.specs.RegionMachine.Room.{roomy_run}
use Rattle.rgo_sound.specs.RegionMachine.States.{Mark, RegionState}
use Rattle.rgo_core.specs.runs.Causes.{IsCause}
use Rattle.rgo_core.specs.ties.Clock.{Clock}
use Rattle.rgo_core.specs.ties.Numbers.{Numbers}
use Rattle.rgo_core.specs.Records.{ClockRec, all_counted}
use Rattle.rgo_core.specs.runs.Runs.{Marked, Printed, limited_run}

module _ (code : Code) (sizes : Sizes) (limits : Limits) where
  pub record Story (words : List ℕ) (recs : List ClockRec) (events : List Event) (s : RegionState) : Type 0 where
    pub leads : limited_run code sizes.page_words limits events ≡ Some s
    -- each of its steps had room: without this a lack of pages could not be told from a run that took too many
    pub room : roomy_run code sizes events ≡ Some s
    -- the claim about a run is about states within the limits
    pub within : is_within limits s.plain ≡ true
    pub before : List (List ℕ)
    pub late : List (List ℕ)
    pub clock : Clock words recs s before late
    -- Each beginning of the print is what some beginning of the run has printed. If memory runs out in the driver, what it has written by
    -- then is such a beginning.
    pub cuts : (k : ℕ) → k ≤ length before
        → Printed code sizes.page_words limits events (flattened (take k before))
    -- why the run ended, in the state before the end: later states may no longer show it
    pub over : (mark : Mark) → s.mark ≡ Some mark
        → Marked code sizes.page_words limits (IsCause code sizes limits) events mark (flattened before)
    pub numbers : Numbers (most_goroutines limits) (slice_index words made_at) recs
    -- no word counts pages, regions or instructions: the shares of all records are the counts
    pub shares : counts_of s ≡ all_counted recs
