-- What a search for a free slot leaves. A search in vain must leave a trace for each slot: with these the driver shows that no slot was
-- free, before it ends a run for the lack of one.
use Rattle.std.specs.Prelude.{◌≡◌, ◌≢◌, ◌<◌, ◌≤◌, ◌-◌, ℕ, List, Option, Some, None}
use Rattle.rgo_core.specs.Rule.Histories.{accesses_by}
use Rattle.rgo_core.specs.Rule.Passes.{ChangesNothingBy}
use Rattle.rgo_core.specs.Rule.Views.{Me, number_of}
use Rattle.rgo_core.specs.Rule.declared.accesses.Access.{Access}
use Rattle.rgo_core.specs.Rule.declared.accesses.Kind.TheVariants.{CreateRegion}
use Rattle.rgo_core.specs.Memory.Pages.{occurrences}
use Rattle.rgo_core.specs.Memory.Words.{count_at}
use Rattle.rgo_core.specs.Memory.declared.layout.TableSizes.{TableSizes}
use Rattle.rgo_core.specs.Core.{Setup}
use Rattle.rgo_core.specs.runs.Opening.{first_of}
use Rattle.rgo_core.specs.Records.{Record, accesses}
use Rattle.rgo_core_steps.specs.Counts.{created_in_slot, tried_slot}
use Rattle.rgo_core_steps.specs.Grown.{Found, SeatGrew}
use Rattle.rgo_core_steps.specs.Searches.{TookFreePlace, TookOne, Tried, TriedAll, upward}
use Rattle.rgo_core_steps.specs.Seats.{mine}

-- The goroutine of seat m, whose record is c after its local steps, has exchanged the counts of slots, each at most once: it found
-- that of this slot 0, and left 2 there, and all before it in use.
abbrev pub SlotTaken : Setup → TableSizes → (c : Record) → (slot : ℕ) → (m w : Me Record) → Type 0
SlotTaken T z c s m w =
    (s < z.slots) × TookOne accesses (first_of T.code) CreateRegion (count_at z) tried_slot c z.slots s 2 (λ d. created_in_slot d s) m w

-- it has exchanged the count of each slot once, and found each in use
abbrev pub AllSlotsTried : Setup → TableSizes → (c : Record) → (m w : Me Record) → Type 0
AllSlotsTried T z c m w = TriedAll accesses (first_of T.code) CreateRegion (count_at z) tried_slot c z.slots m w

-- one of both, by what the search returns
abbrev pub SlotOrNone : Setup → TableSizes → (c : Record) → Option ℕ → (m w : Me Record) → Type 0
SlotOrNone T z c None m w = AllSlotsTried T z c m w
SlotOrNone T z c (Some s) m w = SlotTaken T z c s m w

-- it has exchanged the counts from `first` to `end`, until it found one 0; stated for a part of the slots, since the search goes around
abbrev pub SlotsTried : Setup → TableSizes → (first end : ℕ) → (c : Record) → Option ℕ → (m w : Me Record) → Type 0
SlotsTried T z first end c None m w =
    Tried accesses (first_of T.code) CreateRegion (count_at z) tried_slot c (upward first (end - first)) m w
SlotsTried T z first end c (Some s) m w = (first ≤ s) × (s < end)
    × TookFreePlace accesses (first_of T.code) CreateRegion (count_at z) tried_slot c (upward first (s - first)) s 2 (λ d. created_in_slot d s) m w

-- A search in vain made one exchange for each slot, and changed no word. Each slot was found in use, and the record remembers it.
pub record FullSlots (T : Setup) (z : TableSizes) (c : Record) (m w : Me Record) : Type 0 where
  pub es : List Access
  pub grew : SeatGrew accesses (first_of T.code) m es w
  pub made : accesses_by (number_of m) es ≡ z.slots
  pub still : ChangesNothingBy (number_of m) es
  pub found : (s : ℕ) → s < z.slots → (n : ℕ) × (n ≢ 0) × Found (number_of m) es CreateRegion (count_at z s) n
  pub remembered : (s : ℕ) → s < z.slots → 0 < occurrences s (mine T w).memory.tried_slots

abbrev pub FullSlotsLaw : Type 0
FullSlotsLaw = (T : Setup) (z : TableSizes) (c : Record) (m w : Me Record) → AllSlotsTried T z c m w → FullSlots T z c m w
