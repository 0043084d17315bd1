-- Accesses to the counts of regions: a region is created, a stake is taken for a goroutine that is about to start, and a stake ends. Each
-- is one access to one word, so any number of goroutines may make them at once. By what it finds a goroutine knows which was first.
use Rattle.std.specs.Prelude.{◌≡◌, ◌≢◌, ◌⊎◌, ◌+◌, ◌-◌, ◌%◌, ◌^◌, ◌<◌, ◌==◌, ℕ, suc, false, List, ◌∷◌, Some, if◌then◌else◌}
use Rattle.rgo_sound.specs.RegionMachine.States.{Create, Duty, Holder}
use Rattle.rgo_sound.specs.Stakes.{is_in}
use Rattle.rgo_core_channels.specs.Records.{at_rest}
use Rattle.rgo_core_frames.specs.regions.Creations.{created_in}
use Rattle.rgo_core_frames.specs.regions.Stakes.{stake_ended, stake_shared}
use Rattle.rgo_core_memory.specs.Events.{IsFreeOf}
use Rattle.rgo_core_memory.specs.Records.{Calm, Owes, with_give, with_tried_slot, without_slot}
use Rattle.rgo_core_memory.specs.Words.{count_at}
use Rattle.rgo_core.specs.moves.Chains.{remembers}
use Rattle.rgo_core.specs.Core.{Setup, layout}
use Rattle.rgo_core.specs.Records.{Record, accessed}
use Rattle.rgo_core.specs.Steps.{Moves}

-- the record after it has created a region in this slot, by this name
abbrev pub creates : Record → (name : ℕ) → List Duty → (slot : ℕ) → Record
creates c k ds p = record c {
  clock = record (accessed c.clock) { share = record c.clock.share { made = suc c.clock.share.made } };
  frame = created_in c.frame k ds p;
}

-- A slot that is free is taken for a new region, and the goroutine has no stake in a region of it; one that is not free is remembered. A
-- slot whose chain is being returned has count 1, so it is not free.
abbrev pub CreateMove : Type 0
CreateMove = (T : Setup) (g : ℕ) (c : Record) (k p : ℕ) (ds : List Duty) → c.side ≡ at_rest
    → c.frame.holder.duties ≡ Create k ∷ ds → p < T.sizes.regions
    → Moves T g c (count_at (layout T) p) (λ n. if n == 0 then 2 else n)
    (λ n d. (d ≡ (if n == 0 then creates c k ds p else remembers c (with_tried_slot c.memory p)))
    × (n ≡ 0 → is_in p c.frame.holder.stakes ≡ false))

-- the record with another holder after an access
abbrev pub with_holder : Record → Holder → Record
with_holder c k = record c { clock = accessed c.clock; frame = record c.frame { holder = k } }

-- A stake is taken. The goroutine has one there itself, so the region cannot go before this access.
abbrev pub ShareMove : Type 0
ShareMove = (T : Setup) (g : ℕ) (c : Record) (d : Duty) (ds : List Duty) (p : ℕ) (k : Holder) → c.side ≡ at_rest
    → c.frame.holder.duties ≡ d ∷ ds → stake_shared (record c.frame.holder { duties = ds }) d ≡ Some (p, k)
    → Moves T g c (count_at (layout T) p) (λ n. (n + 1) % 2 ^ 64) (λ n e. e ≡ with_holder c k)

-- the record after the end of a stake that was not the last
abbrev pub left_stake : Record → Holder → (slot : ℕ) → Record
left_stake c k p = record (with_holder c k) { memory = without_slot c.memory p }

-- And of the last one, in a region of this many pages, which the record now has to free. Nobody has counted them in a word; the number is
-- that of the claimed page states.
abbrev pub leaves_last : Record → Holder → (slot pages : ℕ) → Record
leaves_last c k p pages = record (with_holder c k) {
  clock = record (accessed c.clock) {
    share = record c.clock.share { removed = suc c.clock.share.removed };
    owed = pages;
  };
  memory = with_give (without_slot c.memory p) (Owes p);
}

-- The record after the end of a stake, by the count that was found. A record that is about to free the pages of a region has no others to
-- free.
abbrev pub HasLeft : Record → Holder → (slot : ℕ) → (found : ℕ) → Record → Type 0
HasLeft c k p n e =
    ((n ≢ 2) × (e ≡ left_stake c k p)) ⊎ ((n ≡ 2) × (c.clock.owed ≡ 0) × (pages : ℕ) × (e ≡ leaves_last c k p pages))

-- A stake ends; if it was the last, the region is removed. The record must be free of pages that are being claimed there and of half-made
-- objects: after this access another goroutine may return the chain.
abbrev pub LeaveMove : Type 0
LeaveMove = (T : Setup) (g : ℕ) (c : Record) (d : Duty) (ds : List Duty) (p : ℕ) (k : Holder) → c.side ≡ at_rest
    → c.frame.holder.duties ≡ d ∷ ds → stake_ended (record c.frame.holder { duties = ds }) d ≡ Some (p, k)
    → IsFreeOf c.memory p → c.memory.give ≡ Calm
    → Moves T g c (count_at (layout T) p) (λ n. (n + (2 ^ 64 - 1)) % 2 ^ 64) (HasLeft c k p)
