-- Goroutines that cannot continue at a channel, and some that can.
use Rattle.std.specs.Prelude.{◌≡◌, ◌+◌, ℕ, [], ◌∷◌, None, Some}
use Rattle.rgo_chan.specs.Answers.{loads_control, looks}
use Rattle.rgo_chan.specs.Examples.{before_a_send, on_nil}
use Rattle.rgo_core.specs.examples.Channels.{offered_record, sending}
use Rattle.rgo_core.specs.Core.{Setup, layout}
use Rattle.rgo_core.specs.Records.{Record}
use Rattle.rgo_core.specs.Memory.Words.{base}
use Rattle.rgo_sound.specs.Machine.declared.limits.Limits.{Limits}
use Rattle.rgo_sound.specs.Machine.declared.limits.Sizes.{Sizes}
use Rattle.rgo_sound.specs.Memory.declared.traps.Trap.TheVariants.{CloseNil, SendClosed}
use Rattle.rgo_body.specs.declared.bodies.Side.TheVariants.{Offering}
use Rattle.rgo_body.specs.declared.nexts.Next.{Next}
use Rattle.rgo_sound.specs.Tac.Code.{Do, Jump}
use Rattle.rgo_sound.specs.Typed.declared.actions.Action.TheVariants.{Send}
use Rattle.rgo_acts.specs.Resting.{IsTalk}
use Rattle.rgo_acts.specs.Runs.{Run}
use Rattle.rgo_acts.specs.Talks.{CanTry, IsNumbered, OfClose, OfReceive}
use Rattle.rgo_acts.specs.Waits.{Loses, WaitsAtChannel}
use Rattle.rgo_acts.specs.declared.actors.Actor.{Actor}
use Rattle.rgo_acts.specs.declared.channels.Talked.TheVariants as talked

-- the word of the control of the channel on which `before_a_send` sends
abbrev pub place : Sizes → Limits → ℕ
place sizes limits = base (layout (sending sizes limits)) + 5

pub record WaitExamples : Type 0 where
  -- the buffer has two cells and two values
  pub full : (sizes : Sizes) (limits : Limits)
      → WaitsAtChannel (sending sizes limits) 0 before_a_send (looks (place sizes limits) 2 8 0) (Some (place sizes limits))
  pub send_on_nil : (sizes : Sizes) (limits : Limits) → WaitsAtChannel (sending sizes limits) 0 on_nil [] None
  -- it has looked at no channel
  pub unseen : (T : Setup) (c : Record) (at : ℕ) → WaitsAtChannel T 0 c [] (Some at) → ⊥
  -- the control was 5 where its offer is
  pub locked : (T : Setup) → Loses T 0 offered_record (loads_control 700 5 0 ∷ []) 700
  -- it was 4
  pub unlocked : (T : Setup) → Loses T 0 offered_record (loads_control 700 4 0 ∷ []) 700 → ⊥
  -- nobody tries another operation while its offer is at a channel
  pub offering : (r : Run) (a : Actor) (next : Next) (at : ℕ) → a.body.side ≡ Offering at → CanTry r a next → ⊥
  pub trap : IsNumbered 5 SendClosed
  pub no_trap : IsNumbered 5 CloseNil → ⊥
  pub receive : (at : ℕ) → OfReceive (talked.Offered at) → ⊥
  pub close : (at : ℕ) → OfClose (talked.Waits (Some at)) → ⊥
  pub talk : IsTalk (Do None Send (0 ∷ 1 ∷ []))
  pub no_talk : IsTalk (Jump 3) → ⊥
