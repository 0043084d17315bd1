-- Starts of goroutines: before one, and what the draw of a number leaves. The draw is the start: with it the new goroutine exists, with its
-- record on the seat of the one that started it.
use Rattle.std.specs.Prelude.{◌≡◌, ◌≤◌, ◌<◌, ◌+◌, ◌%◌, ℕ, false, List, Option, Some, None}
use Rattle.rgo_sound.specs.Code.Code.{CodeFn, Go}
use Rattle.rgo_core.specs.Channels.Records.{at_rest}
use Rattle.rgo_core.specs.Memory.Words.{made_at}
use Rattle.rgo_core.specs.Rule.Steps.{ToldChild}
use Rattle.rgo_core.specs.Rule.Views.{Me, number_of}
use Rattle.rgo_core.specs.Rule.declared.accesses.Kind.TheVariants.{DrawNumber}
use Rattle.rgo_sound.specs.Machine.Limits.{most_goroutines}
use Rattle.rgo_sound.specs.RegionMachine.Owed.{code_function}
use Rattle.rgo_sound.specs.Tac.declared.regions.Class.{Class}
use Rattle.rgo_core.specs.Core.{Setup}
use Rattle.rgo_core.specs.Next.{IsAtOp}
use Rattle.rgo_core.specs.Records.{Record, accesses, with_refusal}
use Rattle.rgo_core_steps.specs.After.{child, starting}
use Rattle.rgo_core_steps.specs.Seats.{HasTwo, HasAccessed, mine, other, settled}

-- The next instruction starts a goroutine, nothing is pending at a channel, and no number was refused before. After a refusal the
-- goroutine ends the run, and must not draw again: the word has to stay small.
pub record IsBeforeGo (T : Setup) (c : Record) : Type 0 where
  pub function : ℕ
  pub callee : CodeFn
  pub from : List ℕ
  pub passes : List Class
  pub removes : List ℕ
  pub here : IsAtOp T.code c (Go function from passes removes)
  pub calls : code_function T.code function ≡ Some callee
  -- an operation on a channel, once begun, is ended before the next instruction
  pub rests : c.side ≡ at_rest
  -- a goroutine draws one number too many at most, so the word stays small
  pub never : c.clock.refused ≡ false

-- the word of numbers becomes one more
abbrev pub next_number : ℕ → ℕ
next_number n = (n + 1) % 18446744073709551616

-- the record after a number was refused
abbrev pub refusing : Record → Record
refusing c = record c { clock = with_refusal c.clock }

-- The goroutine of seat m, after q local steps, has started goroutine n. Seat w has the record of that, too.
abbrev pub Started : Setup → (q : ℕ) → (m : Me Record) → (n : ℕ) → (w : Me Record) → Type 0
Started T q m n w = ToldChild accesses (number_of m) DrawNumber made_at next_number
    (λ n d e. (d ≡ starting T.code (settled T q m) n) × (e ≡ child T.code (settled T q m))) m n w

-- It has drawn a number. Below the limit that is the number of a new goroutine. At the limit and above none has started.
abbrev pub HasDrawn : Setup → (q : ℕ) → (m : Me Record) → Option ℕ → (w : Me Record) → Type 0
HasDrawn T q m (Some n) w = (n < most_goroutines T.limits) × Started T q m n w
HasDrawn T q m None w =
    (n : ℕ) × (most_goroutines T.limits ≤ n) × HasAccessed T DrawNumber made_at next_number (λ found d. d ≡ refusing (settled T q m)) m n w

-- After a start the seat has both records, and may be split.
abbrev pub StartedLaw : Type 0
StartedLaw = (T : Setup) (q : ℕ) (m w : Me Record) (n : ℕ) → Started T q m n w
    → HasTwo T w n × (number_of w ≡ number_of m) × (mine T w ≡ starting T.code (settled T q m) n) × (other T w ≡ child T.code (settled T q m))
