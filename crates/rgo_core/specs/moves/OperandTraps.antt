-- Traps that follow from the operands of an instruction: a field of nil, a division by zero, a negative size. The operands are words of
-- the goroutine's own frame, so nothing can change before the access to the clock.
use Rattle.std.specs.Prelude.{◌≡◌, ◌⊎◌, ◌^◌, ◌≤◌, ℕ, bit_or, List, [], ◌∷◌, Some, None}
use Rattle.rgo_sound.specs.Ast.declared.ops.BinaryOp.{BinaryOp}
use Rattle.rgo_sound.specs.Ast.declared.ops.BinaryOp.TheVariants.{Div, Rem}
use Rattle.rgo_sound.specs.Code.Code.{Do}
use Rattle.rgo_sound.specs.Memory.declared.traps.Trap.TheVariants.{BadSize, DivideZero, NilPointer}
use Rattle.rgo_sound.specs.Typed.declared.actions.Action.{Action}
use Rattle.rgo_sound.specs.Typed.declared.actions.Action.TheVariants as action
use Rattle.rgo_core_channels.specs.Records.{at_rest}
use Rattle.rgo_core_frames.specs.shown.WordFrames.{frame_word}
use Rattle.rgo_core_memory.specs.Words.{clock_at}
use Rattle.rgo_core.specs.Core.{Setup}
use Rattle.rgo_core.specs.Next.{IsAtOp}
use Rattle.rgo_core.specs.Records.{Record}
use Rattle.rgo_core.specs.Steps.{Moves}
use Rattle.rgo_core.specs.moves.ChannelTraps.{trapped_record}

-- a load of a field of nil
abbrev pub LoadTrapMove : Type 0
LoadTrapMove = (T : Setup) (g : ℕ) (c : Record) (d k p : ℕ) (removes : List ℕ)
    (a : IsAtOp T.code c (Do (Some d) (action.Load k) (p ∷ []) removes)) → c.side ≡ at_rest → frame_word a.w p ≡ 0
    → Moves T g c clock_at (λ n. bit_or n (2 ^ 63)) (λ n e. e ≡ trapped_record c n NilPointer a.instr.place)

-- a store of one
abbrev pub StoreTrapMove : Type 0
StoreTrapMove = (T : Setup) (g : ℕ) (c : Record) (k p q : ℕ) (removes : List ℕ)
    (a : IsAtOp T.code c (Do None (action.Store k) (p ∷ q ∷ []) removes)) → c.side ≡ at_rest → frame_word a.w p ≡ 0
    → Moves T g c clock_at (λ n. bit_or n (2 ^ 63)) (λ n e. e ≡ trapped_record c n NilPointer a.instr.place)

-- a quotient or a remainder by zero
abbrev pub DivideTrapMove : Type 0
DivideTrapMove = (T : Setup) (g : ℕ) (c : Record) (op : BinaryOp) (d p q : ℕ) (removes : List ℕ)
    (a : IsAtOp T.code c (Do (Some d) (action.Binary op) (p ∷ q ∷ []) removes)) → (op ≡ Div) ⊎ (op ≡ Rem) → c.side ≡ at_rest
    → frame_word a.w q ≡ 0
    → Moves T g c clock_at (λ n. bit_or n (2 ^ 63)) (λ n e. e ≡ trapped_record c n DivideZero a.instr.place)

-- a new slice or channel of a negative size
abbrev pub SizeTrapMove : Type 0
SizeTrapMove = (T : Setup) (g : ℕ) (c : Record) (act : Action) (d p : ℕ) (removes : List ℕ)
    (a : IsAtOp T.code c (Do (Some d) act (p ∷ []) removes)) → (act ≡ action.Slice) ⊎ (act ≡ action.Chan) → c.side ≡ at_rest
    → 2 ^ 63 ≤ frame_word a.w p
    → Moves T g c clock_at (λ n. bit_or n (2 ^ 63)) (λ n e. e ≡ trapped_record c n BadSize a.instr.place)
