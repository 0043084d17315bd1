-- Who returns the pages of a region, and when: what holds at each moment of a table.
use Rattle.std.specs.Prelude.{◌≡◌, ◌≢◌, ◌⊎◌, ◌<◌, ℕ, suc, List, Some, slice_get, slice_index}
use Rattle.rgo_sound.specs.Code.Code.{Code}
use Rattle.rgo_sound.specs.RegionMachine.Machine.{Event}
use Rattle.rgo_sound.specs.RegionMachine.States.{Mark}
use Rattle.rgo_core.specs.Channels.Records.{ChannelRec as SideRec}
use Rattle.rgo_core.specs.Memory.Records.{Calm, PageClaim, ClosesSlot, Owes, Past, with_claim}
use Rattle.rgo_core.specs.Memory.Words.{count_at, state_at}
use Rattle.rgo_core.specs.moves.Cells.{locates, measures}
use Rattle.rgo_core.specs.ties.AtChannels.{knows}
use Rattle.rgo_core.specs.moves.Chains.{remembers}
use Rattle.rgo_core.specs.moves.Commits.{offers}
use Rattle.rgo_core.specs.Core.{Core, Setup, layout}
use Rattle.rgo_core.specs.Records.{Record, looked}
use Rattle.rgo_core_steps.specs.After.{acknowledging, acting, child, committing, printing, starting}
use Rattle.rgo_core_steps.specs.Counts.{Leaving, shared_record, tries_slot}
use Rattle.rgo_core_steps.specs.Ends.{ending}
use Rattle.rgo_core_steps.specs.Making.{filling, filling_apart}
use Rattle.rgo_core_steps.specs.Pages.{tries_page}
use Rattle.rgo_core_steps.specs.Seats.{settled_by}
use Rattle.rgo_core_steps.specs.Starts.{refusing}

-- P holds of a table that a run explains, and of the record c of its goroutine g
abbrev pub AtEach : ((T : Setup) → (words : List ℕ) → (recs : List Record) → (g : ℕ) → (c : Record) → Type 0) → Type 0
AtEach P = (T : Setup) (words : List ℕ) (recs : List Record) (events : List Event) (g : ℕ) (c : Record)
    → Core T words recs events → slice_get recs g ≡ Some c → P T words recs g c

pub record ReleaseLaw : Type 0 where
  -- at most one goroutine returns the chain of a slot
  pub one : AtEach (λ T words recs g c. (h : ℕ) (d : Record) (slot : ℕ) → slice_get recs h ≡ Some d → ClosesSlot c.memory.give slot
      → ClosesSlot d.memory.give slot → g ≡ h)
  -- while it does, the region of the slot has no stake, and the slot is not free
  pub none : AtEach (λ T words recs g c. (slot : ℕ) → ClosesSlot c.memory.give slot
      → (slot < T.sizes.regions) × (slice_index words (count_at (layout T) slot) ≡ 1))
  -- a page that it is about to free is claimed for that slot
  pub its : AtEach (λ T words recs g c. (slot page next : ℕ) → c.memory.give ≡ Past slot (suc page) next
      → (page < T.sizes.pages) × (slice_index words (state_at (layout T) page) ≡ suc slot))

-- ---- how a record comes to return a chain

-- the chain that it returns is the same
abbrev pub GivesTheSame : Record → Record → Type 0
GivesTheSame c d = d.memory.give ≡ c.memory.give

-- The records after the accesses of goroutines, except those to a chain that is being returned, and after local steps.
pub record GiveLaw : Type 0 where
  -- a leave that has found the last stake begins it
  pub leave : (c d : Record) (slot n : ℕ) → Leaving c slot n d
      → ((n ≡ 2) × (d.memory.give ≡ Owes slot)) ⊎ ((n ≢ 2) × GivesTheSame c d)
  -- no other access does
  pub create : (c : Record) (slot n : ℕ) → GivesTheSame c (tries_slot c slot n)
  pub share : (c : Record) → GivesTheSame c (shared_record c)
  pub claim : (T : Setup) (c : Record) (page slot n : ℕ) → GivesTheSame c (tries_page T c page slot n)
  pub hook : (c : Record) (claim : PageClaim) → GivesTheSame c (remembers c (with_claim c.memory claim))
  pub look : (c : Record) → GivesTheSame c (looked c)
  pub act : (code : Code) (c : Record) (word : ℕ) → GivesTheSame c (acting code c word)
  pub measure : (c : Record) (address elements : ℕ) → GivesTheSame c (measures c address elements)
  pub locate : (c : Record) (address cell page : ℕ) → GivesTheSame c (locates c address cell page)
  pub fill : (T : Setup) (c : Record) (i : ℕ) → GivesTheSame c (filling T c i)
  pub fill_apart : (T : Setup) (c : Record) (i : ℕ) → GivesTheSame c (filling_apart T c i)
  pub print : (code : Code) (c : Record) (n : ℕ) → GivesTheSame c (printing code c n)
  pub start : (code : Code) (c : Record) (n : ℕ) → GivesTheSame c (starting code c n)
  pub refuse : (c : Record) → GivesTheSame c (refusing c)
  pub end : (code : Code) (c : Record) (n : ℕ) (mark : Mark) → GivesTheSame c (ending code c n mark)
  pub channel : (c : Record) (side : SideRec) → GivesTheSame c (knows c side)
  pub commit : (code : Code) (c : Record) (word : ℕ) → GivesTheSame c (committing code c word)
  pub offer : (c : Record) (at : ℕ) → GivesTheSame c (offers c at)
  pub acknowledge : (code : Code) (c : Record) → GivesTheSame c (acknowledging code c)
  pub local : (T : Setup) (g q : ℕ) (c : Record) → GivesTheSame c (settled_by T g q c)
  -- a goroutine that starts returns no chain
  pub child : (code : Code) (c : Record) → (child code c).memory.give ≡ Calm
