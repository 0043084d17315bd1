-- What actions do to the frames of any machine: the frame continues with a value, traps, or is before an operation on a
-- channel; and which way a branch goes.
use Rattle.std.specs.Prelude.{ℕ, Bool, false, List, [], ◌∷◌}
use Rattle.rgo_typed.specs.declared.actions.Action.{Action}
use Rattle.rgo_typed.specs.declared.actions.Action.TheVariants as action
use Rattle.rgo_typed.specs.declared.types.Base.TheVariants.{Int}
use Rattle.rgo_typed.specs.declared.types.Type.{«Type»}
use Rattle.rgo_memory.specs.declared.values.Value.{Value}
use Rattle.rgo_memory.specs.declared.values.Value.TheVariants as value
use Rattle.rgo_memory.specs.Effects.{Effect, Does}
use Rattle.rgo_memory.specs.Effects as effect
use Rattle.rgo_machine.specs.Machines.{Act, Moves, Traps, Stand, AtReceive, AtSend, AtClose, Elsewhere}

-- the type of an action that returns no value
abbrev pub no_type : «Type»
no_type = record { layers = []; base = Int }

-- a value that is not a bool counts as false; in a typed program only a bool decides
abbrev pub is_true : Value → Bool
is_true (value.Bool b) = b
is_true _ = false

module _ {F : Type 0} where
  -- a frame continues with the value that an action returns, or traps there
  abbrev pub effected : (Value → F) → (place : ℕ) → Effect → Act F
  effected next place (Does m v) = Moves m (next v)
  effected next place (effect.Traps trap) = Traps trap place

  -- before an action on these values, if it is an operation on a channel; a wrong number of values is elsewhere, where nothing is done
  abbrev pub at_channel : Action → (blank : Value) → (place : ℕ) → (Value → F) → List Value → Stand F
  at_channel action.Recv blank place go_on (channel ∷ []) = AtReceive channel blank go_on
  at_channel action.Send blank place go_on (channel ∷ v ∷ []) = AtSend channel v place (go_on value.Nil)
  at_channel action.Close blank place go_on (channel ∷ []) = AtClose channel place (go_on value.Nil)
  at_channel (action.Int k) blank place go_on values = Elsewhere
  at_channel (action.Bool b) blank place go_on values = Elsewhere
  at_channel action.Nil blank place go_on values = Elsewhere
  at_channel action.Copy blank place go_on values = Elsewhere
  at_channel (action.Binary op) blank place go_on values = Elsewhere
  at_channel action.Neg blank place go_on values = Elsewhere
  at_channel action.Not blank place go_on values = Elsewhere
  at_channel action.IsNil blank place go_on values = Elsewhere
  at_channel action.Len blank place go_on values = Elsewhere
  at_channel (action.Load k) blank place go_on values = Elsewhere
  at_channel (action.Store k) blank place go_on values = Elsewhere
  at_channel action.At blank place go_on values = Elsewhere
  at_channel action.Put blank place go_on values = Elsewhere
  at_channel (action.New s) blank place go_on values = Elsewhere
  at_channel action.Slice blank place go_on values = Elsewhere
  at_channel action.Chan blank place go_on values = Elsewhere
  at_channel action.Recv blank place go_on values = Elsewhere
  at_channel action.Send blank place go_on values = Elsewhere
  at_channel action.Close blank place go_on values = Elsewhere
  at_channel (action.Get n) blank place go_on values = Elsewhere
  at_channel (action.Set n) blank place go_on values = Elsewhere
