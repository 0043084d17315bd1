-- A goroutine that is about to perform an action and owes nothing before it. No other goroutine can change this, except a receiver that
-- takes its offer.
use Rattle.std.specs.Prelude.{◌≡◌, ◌⊎◌, ℕ, List, [], ◌∷◌, ◌++◌, map, Some, slice_get}
use Rattle.rgo_sound.specs.Typed.declared.actions.Action.{Action}
use Rattle.rgo_sound.specs.Typed.declared.actions.Action.TheVariants.{Recv, Send, Close}
use Rattle.rgo_sound.specs.Memory.Values.{zero_of}
use Rattle.rgo_sound.specs.Memory.declared.values.Value.{Value}
use Rattle.rgo_sound.specs.Memory.declared.values.Value.TheVariants as value
use Rattle.rgo_sound.specs.Tac.Frames.{TacFrame, frame_after_instr}
use Rattle.rgo_sound.specs.Tac.Steps.{destination_type}
use Rattle.rgo_sound.specs.Code.Code.{Code}
use Rattle.rgo_sound.specs.Code.Erasure.{erased}
use Rattle.rgo_sound.specs.RegionMachine.Owed.{next_duties}
use Rattle.rgo_sound.specs.RegionMachine.States.{Holder, RegionState, Remove}
use Rattle.rgo_core_memory.specs.Accesses.{Before}
use Rattle.rgo_core_channels.specs.Records.{Post, Nowhere, Offering}

pub record Next (code : Code) (s : RegionState) (g : ℕ) (action : Action) (operands : List Value) : Type 0 where
  pub before : Before code s g action operands
  pub holder : Holder
  pub there : slice_get s.holders g ≡ Some holder
  pub none : holder.duties ≡ []

abbrev pub IsOfChannel : Action → Type 0
IsOfChannel action = (action ≡ Recv) ⊎ ((action ≡ Send) ⊎ (action ≡ Close))

-- it is about to perform an operation on channel o
abbrev pub OperatesOn : Code → RegionState → ℕ → ℕ → Type 0
OperatesOn code s g o =
    (action : Action) × IsOfChannel action × (vs : List Value) × Next code s g action (value.Object o ∷ vs)

-- A goroutine is at the channel of that word: it is about to perform an operation on it; or, by its record, its offer is there or
-- was taken there. A sender whose offer was taken is past its send in the state, but not in its record.
abbrev pub IsAt : (code : Code) (place : ℕ → ℕ) → RegionState → ℕ → Post → ℕ → Type 0
IsAt code place s g post a =
    ((post ≡ Nowhere) × (o : ℕ) × (place o ≡ a) × OperatesOn code s g o) ⊎ (post ≡ Offering a)

-- ---- what the instruction leaves

-- the zero of the type of its value
abbrev pub blank_of : {code : Code} {s : RegionState} {g : ℕ} {action : Action} {operands : List Value}
    → Before code s g action operands → Value
blank_of {code} b = zero_of (destination_type (erased code) b.frame b.to)

module _ {code : Code} {s : RegionState} {g : ℕ} {action : Action} {operands : List Value} where
  -- the goroutine's frames after an instruction with this value
  abbrev pub passed_frames : Next code s g action operands → Value → List TacFrame
  passed_frames n v = frame_after_instr n.before.frame n.before.to v ∷ n.before.callers

  -- what it then has of regions
  abbrev pub passed_holder : Next code s g action operands → Value → Holder
  passed_holder n v = record n.holder {
    duties = map Remove n.before.removes ++ next_duties code (passed_frames n v);
  }
