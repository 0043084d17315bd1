-- Goroutines none of which can continue, by their records and the words. It is about one state: that each goroutine found its words at
-- another moment is a matter of passes (rgo_core_rule).
use Rattle.std.specs.Prelude.{◌≡◌, ◌≢◌, ℕ, ◌+◌, ◌%◌, ◌<◌, [], ◌∷◌, Some, slice_get, slice_index}
use Rattle.rgo_sound.specs.Typed.declared.actions.Action.TheVariants.{Recv, Send}
use Rattle.rgo_sound.specs.Memory.declared.values.Value.{Value}
use Rattle.rgo_sound.specs.Memory.declared.values.Value.TheVariants as value
use Rattle.rgo_sound.specs.Machine.Deadlocks.{IsDeadlock}
use Rattle.rgo_sound.specs.Tac.Tac.{tac}
use Rattle.rgo_sound.specs.Code.Erasure.{erased}
use Rattle.rgo_core_memory.specs.Accesses.{Before}
use Rattle.rgo_core_channels.specs.Controls.{closed_of, count_of}
use Rattle.rgo_core_channels.specs.Moments.{Moment}
use Rattle.rgo_core_channels.specs.Records.{ChannelRec, Free, Nowhere, Offering}
use Rattle.rgo_core_channels.specs.Standing.{IsAt, Next}

-- the words of channel o
abbrev pub control_at : Moment → ℕ → ℕ
control_at T o = slice_index T.words (T.place o)

abbrev pub capacity_at : Moment → ℕ → ℕ
capacity_at T o = slice_index T.words (T.place o + 1)

-- Why goroutine g, whose record is c, does nothing: it has returned; its operation is on nil; the channel is full, or has an
-- offer already; it is empty, or has no offer that could be taken; the goroutine's own offer is not taken; or the control is
-- locked. A locked control counts as blocked, since the goroutine that found it has changed nothing. The law excludes it: if no record
-- has a lock, no control is locked.
pub data Blocked (T : Moment) (g : ℕ) (c : ChannelRec) : Type 0 where
  Returned : c.post ≡ Nowhere → slice_get T.state.plain.goroutines g ≡ Some [] → Blocked T g c
  SendsOnNil : (v : Value) → c.post ≡ Nowhere → Before T.code T.state g Send (value.Nil ∷ v ∷ []) → Blocked T g c
  ReceivesOnNil : c.post ≡ Nowhere → Before T.code T.state g Recv (value.Nil ∷ []) → Blocked T g c
  IsFull : (o : ℕ) (v : Value) → c.post ≡ Nowhere → Next T.code T.state g Send (value.Object o ∷ v ∷ [])
      → closed_of (control_at T o) ≡ 0 → 0 < capacity_at T o → count_of (control_at T o) ≡ capacity_at T o → Blocked T g c
  IsOffered : (o : ℕ) (v : Value) → c.post ≡ Nowhere → Next T.code T.state g Send (value.Object o ∷ v ∷ [])
      → closed_of (control_at T o) ≡ 0 → capacity_at T o ≡ 0 → count_of (control_at T o) ≢ 0 → Blocked T g c
  IsEmpty : (o : ℕ) → c.post ≡ Nowhere → Next T.code T.state g Recv (value.Object o ∷ [])
      → closed_of (control_at T o) ≡ 0 → 0 < capacity_at T o → count_of (control_at T o) ≡ 0 → Blocked T g c
  IsNotOffered : (o : ℕ) → c.post ≡ Nowhere → Next T.code T.state g Recv (value.Object o ∷ [])
      → closed_of (control_at T o) ≡ 0 → capacity_at T o ≡ 0 → count_of (control_at T o) ≢ 1 → Blocked T g c
  IsWaiting : (a : ℕ) → c.post ≡ Offering a → closed_of (slice_index T.words a) ≡ 0
      → count_of (slice_index T.words a) ≡ 1 → Blocked T g c
  IsLocked : (a : ℕ) → IsAt T.code T.place T.state g c.post a → slice_index T.words a % 2 ≡ 1 → Blocked T g c

-- If each goroutine is blocked and none has locked a channel, the state is a deadlock. That all this was so at one moment follows from
-- the rule of the table: no access of a pass has changed a word.
abbrev pub DeadlockLaw : Type 0
DeadlockLaw = (T : Moment)
    → ((g : ℕ) (c : ChannelRec) → slice_get T.recs g ≡ Some c → (c.hold ≡ Free) × Blocked T g c)
    → IsDeadlock (tac (erased T.code)) T.state.plain
