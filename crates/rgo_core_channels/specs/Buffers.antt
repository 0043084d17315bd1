-- The store to a control that makes an operation of one goroutine take effect, and unlocks the channel: a send into a buffer, a
-- receive from one, a receive from a closed channel, a close. Each is an instruction of the region machine. The control that was
-- found when the channel was locked decides which one, since nobody has changed it under the lock.
use Rattle.std.specs.Prelude.{◌≡◌, ◌⊎◌, ℕ, ◌+◌, ◌-◌, ◌%◌, ◌<◌, List, [], ◌∷◌, Some}
use Rattle.rgo_sound.specs.Typed.declared.actions.Action.TheVariants.{Recv, Send, Close}
use Rattle.rgo_sound.specs.Memory.Channels.{close, receive, send}
use Rattle.rgo_sound.specs.Memory.Effects.{Does}
use Rattle.rgo_sound.specs.Memory.Memory.{with_object}
use Rattle.rgo_sound.specs.Memory.declared.values.Value.{Value}
use Rattle.rgo_sound.specs.Memory.declared.values.Value.TheVariants as value
use Rattle.rgo_sound.specs.Machine.declared.picks.Pick.TheVariants.{One}
use Rattle.rgo_sound.specs.RegionMachine.Machine.{Instruct}
use Rattle.rgo_core_channels.specs.After.{after, closed_now, popped, pushed}
use Rattle.rgo_core_channels.specs.Channels.{Chan, On, channel}
use Rattle.rgo_core_channels.specs.Controls.{control, closed_of, count_of, head_of}
use Rattle.rgo_core_channels.specs.Moments.{Gains, Law}
use Rattle.rgo_core_channels.specs.Records.{Locked, Nowhere, Read, Sized, Wrote, at_rest}
use Rattle.rgo_core_channels.specs.Standing.{Next, blank_of}

-- A send into a buffer that has room, after the value was stored in the first cell that is free. In this order a receiver that finds the
-- higher count also finds the value.
abbrev pub SendLaw : Type 0
SendLaw = Law (λ T g c. (o n i x size : ℕ) (v : Value) (next : Next T.code T.state g Send (value.Object o ∷ v ∷ []))
    → c.hold ≡ Wrote (T.place o) n i x → T.encode v ≡ x → c.post ≡ Nowhere → c.size ≡ Sized (T.place o) size
    → closed_of n ≡ 0 → count_of n < size → i ≡ (head_of n + count_of n) % size
    → (k : Chan) × On T.state o k
    × (send T.state.plain.memory (value.Object o) v
    ≡ Some (Does (with_object T.state.plain.memory o (channel (pushed v k))) value.Nil))
    × Gains T g (T.place o) (n + 4) at_rest (Instruct (One g))
    (after next (with_object T.state.plain.memory o (channel (pushed v k))) value.Nil))

-- a receive of the oldest value, which is the word that was loaded under the lock
abbrev pub ReceiveLaw : Type 0
ReceiveLaw = Law (λ T g c. (o n i x size : ℕ) (next : Next T.code T.state g Recv (value.Object o ∷ []))
    → c.hold ≡ Read (T.place o) n i x → c.post ≡ Nowhere → c.size ≡ Sized (T.place o) size → 0 < count_of n
    → 0 < size → i ≡ head_of n
    → (k : Chan) × On T.state o k × (v : Value) × (queue : List Value) × (k.queue ≡ v ∷ queue) × (T.encode v ≡ x)
    × (receive T.state.plain.memory (value.Object o) (blank_of next.before)
    ≡ Some (Does (with_object T.state.plain.memory o (channel (popped k queue))) v))
    × Gains T g (T.place o) (control (closed_of n) (count_of n - 1) ((head_of n + 1) % size)) at_rest
    (Instruct (One g)) (after next (with_object T.state.plain.memory o (channel (popped k queue))) v))

-- A receive from a closed channel in which nothing is left: its value is the zero of the type. The control is stored as it was, which
-- only unlocks.
abbrev pub ZeroLaw : Type 0
ZeroLaw = Law (λ T g c. (o n size : ℕ) (next : Next T.code T.state g Recv (value.Object o ∷ []))
    → c.hold ≡ Locked (T.place o) n → c.post ≡ Nowhere → c.size ≡ Sized (T.place o) size → closed_of n ≡ 1
    → (size ≡ 0) ⊎ (count_of n ≡ 0)
    → (k : Chan) × On T.state o k
    × (receive T.state.plain.memory (value.Object o) (blank_of next.before)
    ≡ Some (Does (with_object T.state.plain.memory o (channel k)) (blank_of next.before)))
    × Gains T g (T.place o) n at_rest (Instruct (One g))
    (after next (with_object T.state.plain.memory o (channel k)) (blank_of next.before)))

abbrev pub CloseLaw : Type 0
CloseLaw = Law (λ T g c. (o n : ℕ) (next : Next T.code T.state g Close (value.Object o ∷ []))
    → c.hold ≡ Locked (T.place o) n → c.post ≡ Nowhere → closed_of n ≡ 0
    → (k : Chan) × On T.state o k
    × (close T.state.plain.memory (value.Object o)
    ≡ Does (with_object T.state.plain.memory o (channel (closed_now k))) value.Nil)
    × Gains T g (T.place o) (n + 2) at_rest (Instruct (One g))
    (after next (with_object T.state.plain.memory o (channel (closed_now k))) value.Nil))
