-- Accesses to elements that trap: the slice is nil, or the index is not within the length that was read. The trap is an access to the
-- clock. That the length was read earlier does not matter: it is still the slice's.
use Rattle.std.specs.Prelude.{◌≡◌, ◌⊎◌, ◌^◌, ◌≤◌, ℕ, bit_or, suc, List, [], ◌∷◌, Some, None}
use Rattle.rgo_sound.specs.Code.Code.{Do}
use Rattle.rgo_core_channels.specs.Records.{at_rest}
use Rattle.rgo_core_frames.specs.shown.WordFrames.{WordFrame, frame_word}
use Rattle.rgo_core_memory.specs.Records.{Measured}
use Rattle.rgo_core_memory.specs.Words.{clock_at}
use Rattle.rgo_sound.specs.Memory.declared.traps.Trap.TheVariants.{IndexRange}
use Rattle.rgo_sound.specs.Typed.declared.actions.Action.TheVariants as action
use Rattle.rgo_core.specs.Core.{Setup}
use Rattle.rgo_core.specs.Next.{IsAtOp}
use Rattle.rgo_core.specs.Records.{Record, steps_of}
use Rattle.rgo_core.specs.Steps.{Moves}
use Rattle.rgo_core.specs.moves.ChannelTraps.{trapped_record}

-- the length of the slice at this address is known, and the index is not that of an element
pub record IsOutside (c : Record) (address index : ℕ) : Type 0 where
  pub measured : Measured
  pub read : c.memory.measured ≡ Some measured
  pub now : measured.steps ≡ steps_of c
  pub its : measured.address ≡ address
  pub beyond : measured.elements ≤ index

-- variable p is nil, or has a slice of which variable q is not an index
abbrev pub HasNoElement : Record → WordFrame → (p q : ℕ) → Type 0
HasNoElement c w p q = (frame_word w p ≡ 0) ⊎ ((address : ℕ) × (frame_word w p ≡ suc address) × IsOutside c address (frame_word w q))

-- a load of an element that does not exist
abbrev pub AtTrapMove : Type 0
AtTrapMove = (T : Setup) (g : ℕ) (c : Record) (d p q : ℕ) (removes : List ℕ)
    (a : IsAtOp T.code c (Do (Some d) action.At (p ∷ q ∷ []) removes)) → c.side ≡ at_rest → HasNoElement c a.w p q
    → Moves T g c clock_at (λ n. bit_or n (2 ^ 63)) (λ n e. e ≡ trapped_record c n IndexRange a.instr.place)

-- a store of one
abbrev pub PutTrapMove : Type 0
PutTrapMove = (T : Setup) (g : ℕ) (c : Record) (p q r : ℕ) (removes : List ℕ)
    (a : IsAtOp T.code c (Do None action.Put (p ∷ q ∷ r ∷ []) removes)) → c.side ≡ at_rest → HasNoElement c a.w p q
    → Moves T g c clock_at (λ n. bit_or n (2 ^ 63)) (λ n e. e ≡ trapped_record c n IndexRange a.instr.place)
