-- What an action can do: to the memory, or to one object.
use Rattle.std.specs.Prelude.{ℕ, Option, Some, None, Result, Ok, Err, slice_get}
use Rattle.rgo_memory.specs.declared.values.Value.{Value}
use Rattle.rgo_memory.specs.declared.values.Value.TheVariants.{Nil}
use Rattle.rgo_memory.specs.declared.traps.Trap.{Trap}
use Rattle.rgo_memory.specs.Memory.{Object, Memory, with_object}

-- It leaves this and returns a value, nil if it returns none; or it traps. S is the memory, or one object: what is done to an object
-- is defined by the object alone, and `at_object` makes it an effect on the memory.
pub data Outcome (S : Type 0) : Type 0 where
  Does : (after : S) (value : Value) → Outcome S
  Traps : (trap : Trap) → Outcome S

-- the outcome of an action on the whole memory
abbrev pub Effect : Type 0
Effect = Outcome Memory

-- The outcome of what no typed program does: nil, and nothing changes. With it every definition here is total, so that machines need
-- no types when they run and no proof that code is well-formed.
abbrev pub nothing : {S : Type 0} → S → Outcome S
nothing s = Does s Nil

-- what only reads
abbrev pub answered : {S : Type 0} → S → Result Value Trap → Outcome S
answered s (Ok v) = Does s v
answered s (Err trap) = Traps trap

-- what is done to one object, as done to the memory
abbrev pub in_memory : Memory → ℕ → Outcome Object → Effect
in_memory m n (Does object v) = Does (with_object m n object) v
in_memory m n (Traps trap) = Traps trap

-- f is done to the object that was looked up at number n; without one nothing happens, but no typed program refers to such a number
abbrev pub to_object : Memory → ℕ → (Object → Outcome Object) → Option Object → Effect
to_object m n f None = nothing m
to_object m n f (Some object) = in_memory m n (f object)

-- to the object of that number
abbrev pub at_object : Memory → ℕ → (Object → Outcome Object) → Effect
at_object m n f = to_object m n f (slice_get m.heap n)

-- the same if the object may not be ready for it: none if the operation has to wait; a trap does not wait
abbrev pub in_memory_if_ready : Memory → ℕ → Option (Outcome Object) → Option Effect
in_memory_if_ready m n None = None
in_memory_if_ready m n (Some outcome) = Some (in_memory m n outcome)

-- `to_object` for an f that may have to wait; where there is no object, nothing happens and nobody waits
abbrev pub to_object_if_ready : Memory → ℕ → (Object → Option (Outcome Object)) → Option Object → Option Effect
to_object_if_ready m n f None = Some (nothing m)
to_object_if_ready m n f (Some object) = in_memory_if_ready m n (f object)

-- the same for the object of number n
abbrev pub at_object_if_ready : Memory → ℕ → (Object → Option (Outcome Object)) → Option Effect
at_object_if_ready m n f = to_object_if_ready m n f (slice_get m.heap n)
