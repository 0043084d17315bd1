-- How a driver comes to have what it must have at the close: the rows of all goroutines, what they have counted, and all that they
-- have printed.
use Rattle.std.specs.Prelude.{◌≡◌, ◌≤◌, ◌⊎◌, ℕ, suc, false, List, [], ◌∷◌, length, Some, slice_get}
use mathlib.Core.Option.{some}
use lib.ListN.{get_elem?}
use Rattle.rgo_core.specs.Core.{Setup}
use Rattle.rgo_core.specs.Records.{Drawn, Record}
use Rattle.rgo_core.specs.Memory.Records.{Calm}
use Rattle.rgo_core.specs.Rule.Views.{HasRow, Rows}
use Rattle.rgo_core.specs.Rule.declared.accesses.View.{View}
use Rattle.rgo_core_steps.specs.Outcomes.{ClosesTable, HasFamily}
use Rattle.rgo_sound.specs.RegionMachine.Counts.{Counts}
use Rattle.rgo_sound.specs.Tally.{counts_plus, no_share}
use Rattle.rgo_table_runs.specs.closing.Prints.{AllGiven, TicketsInOrder, SomePrinted}
use Rattle.rgo_table_runs.specs.closing.Rows.{AreAll, all_shares}

-- ---- rows

-- records by their numbers, from n on
abbrev pub numbered_from : ℕ → List Record → Rows Record
numbered_from n [] = []
numbered_from n (c ∷ cs) = (n, c) ∷ numbered_from (suc n) cs

abbrev pub numbered_rows : List Record → Rows Record
numbered_rows recs = numbered_from 0 recs

-- If the view of the seat with which a table was closed has the record of `main`, and with each record those of the goroutines that it
-- has started, and if none of these has a chain to give back, then it has the rows of all goroutines.
abbrev pub FamilyIsAll : Type 0
FamilyIsAll = (T : Setup) (words : List ℕ) (v : View Record) (e : ClosesTable T words v) → HasFamily v
    → ((g : ℕ) (c : Record) → HasRow v.records g c → c.memory.give ≡ Calm) → AreAll v (numbered_rows e.recs)

-- ---- what they have counted

abbrev pub sum_of : List Counts → Counts
sum_of [] = no_share
sum_of (c ∷ cs) = counts_plus c (sum_of cs)

-- The share of each goroutine of the view is at the place of its number, and at each other place is nothing. A goroutine that has counted
-- nothing may have no place.
pub record HasShares (v : View Record) (shares : List Counts) : Type 0 where
  pub its : (g : ℕ) (c : Record) → HasRow v.records g c
      → (slice_get shares g ≡ Some c.clock.share) ⊎ ((length shares ≤ g) × (c.clock.share ≡ no_share))
  pub others : (g : ℕ) (share : Counts) → slice_get shares g ≡ Some share
      → ((c : Record) × HasRow v.records g c) ⊎ (share ≡ no_share)

-- Their sum is what all goroutines have counted.
abbrev pub SharesAreAll : Type 0
SharesAreAll = (T : Setup) (words : List ℕ) (v : View Record) (e : ClosesTable T words v) (rows : Rows Record) (shares : List Counts)
    → AreAll v rows → HasShares v shares → sum_of shares ≡ all_shares rows

-- ---- what they have printed

abbrev pub IsDrawnIn : List Drawn → Drawn → Type 0
IsDrawnIn ds d = (i : ℕ) × (get_elem? ds i ≡ some d)

-- Each print that is not void was given out, or waits for the one before it; the next one is none of those that wait.
pub record AreGathered (rows : Rows Record) (given waiting : List Drawn) : Type 0 where
  pub each : (d : Drawn) → SomePrinted rows d → d.is_void ≡ false → IsDrawnIn given d ⊎ IsDrawnIn waiting d
  pub next : (d : Drawn) → IsDrawnIn waiting d → (d.ticket ≡ length given → ⊥)

-- Then none waits: all were given out.
abbrev pub GatheredAreGiven : Type 0
GatheredAreGiven = (T : Setup) (words : List ℕ) (v : View Record) (e : ClosesTable T words v) (rows : Rows Record) (given waiting : List Drawn)
    → AreAll v rows → TicketsInOrder rows given → AreGathered rows given waiting → AllGiven rows given
