-- Traps at channels: what a goroutine has found of a channel makes its operation end the run. What it has found stays true, so the access
-- to the clock may come any time later.
use Rattle.std.specs.Prelude.{◌≡◌, ◌^◌, ℕ, bit_or, List, [], ◌∷◌, Option}
use Rattle.rgo_sound.specs.Code.Code.{Do}
use Rattle.rgo_core_channels.specs.Records.{Shut, Stranded}
use Rattle.rgo_core_frames.specs.shown.WordFrames.{frame_word}
use Rattle.rgo_core_memory.specs.Words.{clock_at}
use Rattle.rgo_sound.specs.Machine.declared.picks.End.TheVariants as the_end
use Rattle.rgo_sound.specs.Memory.declared.traps.Trap.TheVariants.{CloseClosed, CloseNil, SendClosed}
use Rattle.rgo_sound.specs.Memory.declared.traps.Trap.{Trap}
use Rattle.rgo_sound.specs.RegionMachine.States.{Ended}
use Rattle.rgo_sound.specs.Typed.declared.actions.Action.TheVariants.{Close, Send}
use Rattle.rgo_core.specs.ties.AtChannels.{Operates}
use Rattle.rgo_core.specs.moves.Commits.{IsAtSend}
use Rattle.rgo_core.specs.Core.{Setup}
use Rattle.rgo_core.specs.Next.{IsAtOp}
use Rattle.rgo_core.specs.Records.{Record, instructed, with_end}
use Rattle.rgo_core.specs.Steps.{Moves}

-- The record after a trap of the instruction at that place, for which the clock was n: the instruction is counted, and the goroutine
-- stays at it.
abbrev pub trapped_record : Record → (n : ℕ) → Trap → (place : ℕ) → Record
trapped_record c n trap place = record c { clock = with_end (instructed c.clock) n (Ended (the_end.Trap trap place)) }

-- a send on a channel that was found closed
abbrev pub SendTrapMove : Type 0
SendTrapMove = (T : Setup) (g : ℕ) (c : Record) (to : Option ℕ) (sent at : ℕ) (a : Operates T c to Send (sent ∷ []) at)
    → c.side.saw ≡ Shut at
    → Moves T g c clock_at (λ n. bit_or n (2 ^ 63)) (λ n d. d ≡ trapped_record c n SendClosed a.here.instr.place)

-- a close of one
abbrev pub CloseTrapMove : Type 0
CloseTrapMove = (T : Setup) (g : ℕ) (c : Record) (to : Option ℕ) (at : ℕ) (a : Operates T c to Close [] at)
    → c.side.saw ≡ Shut at
    → Moves T g c clock_at (λ n. bit_or n (2 ^ 63)) (λ n d. d ≡ trapped_record c n CloseClosed a.here.instr.place)

-- a close of nil
abbrev pub CloseNilMove : Type 0
CloseNilMove = (T : Setup) (g : ℕ) (c : Record) (to : Option ℕ) (channel : ℕ) (removes : List ℕ)
    (a : IsAtOp T.code c (Do to Close (channel ∷ []) removes)) → frame_word a.w channel ≡ 0
    → Moves T g c clock_at (λ n. bit_or n (2 ^ 63)) (λ n d. d ≡ trapped_record c n CloseNil a.instr.place)

-- A send whose offer is at a channel that was found closed. If it had been taken before the close, the sender would have found phase 2.
abbrev pub StrandedMove : Type 0
StrandedMove = (T : Setup) (g : ℕ) (c : Record) (at : ℕ) (a : IsAtSend T c) → c.side.saw ≡ Stranded at
    → Moves T g c clock_at (λ n. bit_or n (2 ^ 63)) (λ n d. d ≡ trapped_record c n SendClosed a.instr.place)
