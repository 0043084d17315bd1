-- Blocks of objects, by what each slot has.
use Rattle.std.specs.Prelude.{◌≡◌, ℕ, Option, Some, None, slice_index_or}
use Rattle.rgo_interpreter.specs.declared.objects.Object.{Object}
use Rattle.rgo_interpreter.specs.declared.blocks.Block.{Block}

-- what that slot of a block has
abbrev pub slot_of_block : Block → ℕ → Option Object
slot_of_block block slot = slice_index_or block.slots.items slot None

-- the same of a block that may not exist
abbrev pub slot_in_block : Option Block → ℕ → Option Object
slot_in_block (Some block) slot = slot_of_block block slot
slot_in_block None slot = None

-- The block ends with this in that slot; the other slots have what they had. It is stated by slots, since a list of slots that ends early
-- and one with empty slots hold the same objects.
abbrev pub PutsIn : Option Block → ℕ → Option Object → Option Block → Type 0
PutsIn before slot object after =
    (slot_in_block after slot ≡ object) × ((k : ℕ) → (k ≡ slot → ⊥) → slot_in_block after k ≡ slot_in_block before k)

abbrev pub Puts : Block → ℕ → Option Object → Block → Type 0
Puts before slot object after = PutsIn (Some before) slot object (Some after)
