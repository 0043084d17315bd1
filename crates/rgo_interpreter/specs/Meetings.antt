-- Who meets: a receiver and a sender at one open channel without a buffer. The code finds them by the numbers of channels; here it is
-- stated by the steps of the machine, so that a deadlock needs no other notion.
use Rattle.std.specs.Prelude.{◌≡◌, ◌<◌, ℕ, Option, Some, None, option_and_then}
use Rattle.std.specs.Option.{option_map}
use Rattle.rgo_memory.specs.declared.values.Value.{Value}
use Rattle.rgo_memory.specs.declared.values.Value.TheVariants as value
use Rattle.rgo_machine.specs.declared.picks.Pick.TheVariants.{Meet}
use Rattle.rgo_interpreter.specs.Acting.{standing}
use Rattle.rgo_interpreter.specs.Alone.{receives_at, sends_at}
use Rattle.rgo_machine.specs.Machines.{Machine, State, step_by}

-- the number of the channel, unless it is nil
abbrev pub channel_number : Value → Option ℕ
channel_number (value.Object n) = Some n
channel_number _ = None

module _ {F : Type 0} (machine : Machine F) where
  -- the channel from which a goroutine receives next, and that to which it sends
  abbrev pub receiver_at : State F → ℕ → Option ℕ
  receiver_at s g = option_and_then channel_number (receives_at (standing machine s g))

  abbrev pub sender_at : State F → ℕ → Option ℕ
  sender_at s g = option_and_then channel_number (option_map (λ send. send.0) (sends_at (standing machine s g)))

  -- no goroutine meets this sender
  abbrev pub IsUnmet : State F → ℕ → Type 0
  IsUnmet s sender = (receiver : ℕ) → step_by machine s (Meet receiver sender) ≡ None

  -- this one does
  abbrev pub CanMeet : State F → (receiver sender : ℕ) → Type 0
  CanMeet s receiver sender = step_by machine s (Meet receiver sender) ≡ None → ⊥

  -- Among the first `count` goroutines, one that receives at each channel at which one does. Which one does not matter: whether it meets a
  -- sender depends on the channel. `complete` is what a report of a deadlock rests on.
  pub record FindsReceivers (s : State F) (count : ℕ) (found : ℕ → Option ℕ) : Type 0 where
    pub sound : (channel receiver : ℕ) → found channel ≡ Some receiver → receiver_at s receiver ≡ Some channel
    pub complete : (channel receiver : ℕ) → receiver < count → receiver_at s receiver ≡ Some channel
        → found channel ≡ None → ⊥

  -- a receiver that meets this sender; none only if no goroutine does
  abbrev pub FindsPartner : State F → (sender : ℕ) → Option ℕ → Type 0
  FindsPartner s sender None = IsUnmet s sender
  FindsPartner s sender (Some receiver) = CanMeet s receiver sender

  -- a receiver and a sender that meet; none only if no two do
  abbrev pub FindsMeeting : State F → Option (ℕ × ℕ) → Type 0
  FindsMeeting s None = (sender : ℕ) → IsUnmet s sender
  FindsMeeting s (Some met) = CanMeet s met.0 met.1
