-- What follows from a goroutine's next operation, and from its offer: the object is a channel, in a live region. By region safety a
-- goroutine has a stake in the region of what it uses, so no other goroutine can remove it.
use Rattle.std.specs.Prelude.{◌≡◌, ℕ, true, List, ◌∷◌, Some, slice_get}
use Rattle.rgo_sound.specs.Typed.declared.actions.Action.{Action}
use Rattle.rgo_sound.specs.Memory.declared.values.Value.{Value}
use Rattle.rgo_sound.specs.Memory.declared.values.Value.TheVariants as value
use Rattle.rgo_sound.specs.Code.Checked.{IsChecked}
use Rattle.rgo_sound.specs.Code.Code.{Code}
use Rattle.rgo_sound.specs.RegionMachine.Objects.{may_touch}
use Rattle.rgo_sound.specs.RegionMachine.States.{Holder, Taken, RegionState}
use Rattle.rgo_sound.specs.Good.{AllGood}
use Rattle.rgo_core_channels.specs.Channels.{Chan, On}
use Rattle.rgo_core_channels.specs.Standing.{IsOfChannel, Next}

-- The object of an operation is a channel in a live region. Without this the words there could be those of anything.
abbrev pub OperandIsLive : Type 0
OperandIsLive = (code : Code) (s : RegionState) (g : ℕ) (action : Action) (o : ℕ) (vs : List Value) → IsChecked code
    → AllGood code s → IsOfChannel action → Next code s g action (value.Object o ∷ vs) → (k : Chan) × On s o k

-- so is the region of a channel at which the goroutine's offer was taken
abbrev pub TakenIsLive : Type 0
TakenIsLive = (code : Code) (s : RegionState) (g o : ℕ) (h : Holder) → AllGood code s → slice_get s.holders g ≡ Some h
    → h.offer ≡ Taken o → may_touch s (Some o) ≡ true
