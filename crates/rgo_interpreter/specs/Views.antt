-- The views: the plain data that contracts see of the code's objects and memory, and how a result of the code is related to an outcome of
-- a definition. The relation is equality of both the value and what was changed, so a wrong change is as visible as a wrong value.
use Rattle.std.specs.Prelude.{◌≡◌, ℕ, ◌/◌, ◌%◌, [], map, Option, Some, None, Result, Ok, Err, nat_eq, slice_get}
use Rattle.indexmap.specs.IndexMap.{get}
use Rattle.std.specs.List.{range_with_len}
use Rattle.std.specs.declared.alloc.AllocError.{AllocError}
use Rattle.rgo_memory.specs.declared.values.Value.{Value}
use Rattle.rgo_memory.specs.declared.traps.Trap.{Trap}
use Rattle.rgo_interpreter.specs.declared.objects.Channel.{Channel as CodeChannel}
use Rattle.rgo_interpreter.specs.declared.objects.Object.{Object as CodeObject}
use Rattle.rgo_interpreter.specs.declared.objects.Object.TheVariants as code
use Rattle.rgo_interpreter.specs.declared.blocks.Block.{Block}
use Rattle.rgo_interpreter.specs.declared.memory.Memory.{Memory as CodeMemory}
use Rattle.rgo_interpreter.specs.declared.effects.Effect.{Effect as CodeEffect}
use Rattle.rgo_interpreter.specs.declared.effects.Effect.TheVariants as effect
use Rattle.rgo_interpreter.specs.Blocks.{slot_in_block}
use Rattle.rgo_memory.specs.Memory.{Object, StructObject, SliceObject, Channel, Memory}
use Rattle.rgo_memory.specs.Effects.{Outcome, Does, Traps}

-- a channel, as an object
abbrev pub channel_of : CodeChannel → Object
channel_of c = Channel c.capacity c.queue.items c.closed

abbrev pub object_view : CodeObject → Object
object_view (code.Struct cells) = StructObject cells.items
object_view (code.Slice cells) = SliceObject cells.items
object_view (code.Channel c) = channel_of c.value

-- An entry as an object: a struct without fields if there is none, as an object that was emptied is. So an object that was taken away reads
-- as one that was emptied, and its block may be dropped.
abbrev pub object_view_or_empty : Option CodeObject → Object
object_view_or_empty (Some object) = object_view object
object_view_or_empty None = StructObject []

-- the block of that number
abbrev pub block_of : CodeMemory → ℕ → Option Block
block_of m b = get nat_eq m.blocks b

-- that block is at this index of the blocks
abbrev pub IsBlockAt : CodeMemory → ℕ → ℕ → Type 0
IsBlockAt m index b = (block : Block) × (slice_get m.blocks.entries index ≡ Some (b, block))

-- the entry of that number, as an object: a slot of its block
abbrev pub object_view_at : CodeMemory → ℕ → Object
object_view_at m n = object_view_or_empty (slot_in_block (block_of m (n / 16)) (n % 16))

-- The objects that were made, in the order of making. Entries of other numbers are not seen, so code may put an object first and count it
-- then.
abbrev pub memory_view : CodeMemory → Memory
memory_view m = record { heap = map (object_view_at m) (range_with_len 0 m.made); variables = m.variables.items }

-- the effect of what only reads
abbrev pub effect_of : Result Value Trap → CodeEffect
effect_of (Ok v) = effect.Gives v
effect_of (Err trap) = effect.Traps trap

-- the result, and what it leaves of what was before, are that outcome; after a trap nothing changed
abbrev pub LeavesOutcome : {S : Type 0} → CodeEffect → S → S → Outcome S → Type 0
LeavesOutcome (effect.Gives v) before after outcome = outcome ≡ Does after v
LeavesOutcome (effect.Traps trap) before after outcome = (outcome ≡ Traps trap) × (after ≡ before)

-- the same; on allocation failure nothing changed
abbrev pub Performs : {S : Type 0} → Result CodeEffect AllocError → S → S → Outcome S → Type 0
Performs (Ok answer) before after outcome = LeavesOutcome answer before after outcome
Performs (Err e) before after outcome = after ≡ before

-- the same for an operation on a channel that may not be ready; then nothing changed, and it can be tried again
abbrev pub LeavesIfReady : {S : Type 0} → Option CodeEffect → S → S → Option (Outcome S) → Type 0
LeavesIfReady None before after outcome = (outcome ≡ None) × (after ≡ before)
LeavesIfReady (Some (effect.Gives v)) before after outcome = outcome ≡ Some (Does after v)
LeavesIfReady (Some (effect.Traps trap)) before after outcome = (outcome ≡ Some (Traps trap)) × (after ≡ before)

abbrev pub PerformsIfReady : {S : Type 0} → Result (Option CodeEffect) AllocError → S → S → Option (Outcome S) → Type 0
PerformsIfReady (Ok answer) before after outcome = LeavesIfReady answer before after outcome
PerformsIfReady (Err e) before after outcome = after ≡ before
