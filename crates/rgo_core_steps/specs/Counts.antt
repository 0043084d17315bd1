-- Accesses to the counts of regions, each the first duty of a goroutine, and the record after each of them. Duties come before the next
-- instruction, so nothing else of the goroutine can be pending.
use Rattle.std.specs.Option.{option_map_or}
use Rattle.std.specs.Prelude.{◌≡◌, ◌==◌, ℕ, List, [], ◌∷◌, Option, Some, None, if◌then◌else◌}
use Rattle.rgo_sound.specs.RegionMachine.States.{Create, Duty, EndBase, Holder, Protect, Remove, Share, Unprotect}
use Rattle.rgo_core.specs.Frames.regions.Stakes.{stake_ended, stake_shared}
use Rattle.rgo_core.specs.Memory.Events.{IsFreeOf}
use Rattle.rgo_core.specs.Memory.Records.{Calm, with_tried_slot}
use Rattle.rgo_core.specs.moves.Chains.{remembers}
use Rattle.rgo_core.specs.Records.{Record}
use Rattle.rgo_core.specs.moves.Regions.{HasLeft, creates, with_holder}

-- ---- a region is created

-- the first duty creates a region
abbrev pub IsCreating : Record → Type 0
IsCreating c = (name : ℕ) × (ds : List Duty) × (c.frame.holder.duties ≡ Create name ∷ ds)

abbrev pub created_by : Record → (slot : ℕ) → Duty → List Duty → Record
created_by c p (Create name) ds = creates c name ds p
created_by c p (Share name) ds = c
created_by c p (Protect name) ds = c
created_by c p (Unprotect name) ds = c
created_by c p (Remove name) ds = c
created_by c p (EndBase r) ds = c

abbrev pub created_with : Record → (slot : ℕ) → List Duty → Record
created_with c p [] = c
created_with c p (d ∷ ds) = created_by c p d ds

-- the record after its first duty has created a region in this slot
abbrev pub created_in_slot : Record → (slot : ℕ) → Record
created_in_slot c p = created_with c p c.frame.holder.duties

-- the record after it has found a count that was not 0
abbrev pub tried_slot : Record → (slot : ℕ) → Record
tried_slot c p = remembers c (with_tried_slot c.memory p)

-- the record after an exchange of a count that was n: 0 is a free slot
abbrev pub tries_slot : Record → (slot n : ℕ) → Record
tries_slot c p n = if n == 0 then created_in_slot c p else tried_slot c p

-- ---- stakes

-- what a rule of duties does with the first duty: the slot whose count changes, and the holder after it
abbrev pub by_first : (Holder → Duty → Option (ℕ × Holder)) → Holder → List Duty → Option (ℕ × Holder)
by_first by h [] = None
by_first by h (d ∷ ds) = by (record h { duties = ds }) d

-- the first duty is a stake for a goroutine that is about to start
abbrev pub sharing : Record → Option (ℕ × Holder)
sharing c = by_first stake_shared c.frame.holder c.frame.holder.duties

-- the first duty ends a stake
abbrev pub ending : Record → Option (ℕ × Holder)
ending c = by_first stake_ended c.frame.holder c.frame.holder.duties

-- the first duty takes a stake in the region of this slot
abbrev pub IsSharing : Record → (slot : ℕ) → Type 0
IsSharing c p = (k : Holder) × (sharing c ≡ Some (p, k))

-- the record after it has taken that stake
abbrev pub shared_record : Record → Record
shared_record c = option_map_or (λ (t : ℕ × Holder). with_holder c t.1) (sharing c) c

-- The first duty ends the stake in the region of this slot. Each page claimed for it is linked, no object is half made there, and no
-- chain is being returned. Otherwise the goroutine could write to a page that another one has freed.
pub record IsLeaving (c : Record) (slot : ℕ) : Type 0 where
  pub holder : Holder
  pub is : ending c ≡ Some (slot, holder)
  -- nothing of the goroutine's own work in the slot is left half done
  pub free : IsFreeOf c.memory slot
  -- a record has room for one chain that is being returned
  pub calm : c.memory.give ≡ Calm

-- the record is d after that, if the count was n: with 2 the stake was the last
abbrev pub Leaving : Record → (slot n : ℕ) → Record → Type 0
Leaving c p n d = (k : Holder) × (ending c ≡ Some (p, k)) × HasLeft c k p n d
