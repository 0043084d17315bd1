-- Channels without a buffer: a value is offered, a receiver takes it, and the sender acknowledges that it was taken. Three stores are
-- needed, because each goroutine changes only its own record: a receiver cannot make the sender continue.
use Rattle.std.specs.List.{list_any}
use Rattle.std.specs.Prelude.{◌≡◌, ◌≢◌, ℕ, ◌+◌, ◌-◌, true, false, [], ◌∷◌, Some, slice_get}
use Rattle.rgo_sound.specs.Typed.declared.actions.Action.TheVariants.{Recv, Send}
use Rattle.rgo_sound.specs.Memory.Channels.{is_meeting_at}
use Rattle.rgo_sound.specs.Memory.declared.values.Value.{Value}
use Rattle.rgo_sound.specs.Memory.declared.values.Value.TheVariants as value
use Rattle.rgo_sound.specs.Machine.declared.picks.Pick.TheVariants.{Meet}
use Rattle.rgo_sound.specs.RegionMachine.Duties.{attended}
use Rattle.rgo_sound.specs.RegionMachine.Machine.{Acknowledge, Instruct, MakeOffer}
use Rattle.rgo_sound.specs.RegionMachine.Offers.{offers_on}
use Rattle.rgo_sound.specs.RegionMachine.States.{Holder, NoOffer, Standing, Taken}
use Rattle.rgo_core_channels.specs.After.{after_meeting}
use Rattle.rgo_core_channels.specs.Controls.{closed_of, count_of}
use Rattle.rgo_core_channels.specs.Moments.{Gains, Law}
use Rattle.rgo_core_channels.specs.Records.{ChannelRec, Locked, Nowhere, Offering, Read, Sized, Wrote, at_rest, offering_record}
use Rattle.rgo_core_channels.specs.Standing.{Next}

-- An offer: the goroutine and its record stay at the send. The cell was stored before, so a receiver that finds phase 1 finds the value.
abbrev pub ChannelOfferLaw : Type 0
ChannelOfferLaw = Law (λ T g c. (o n x : ℕ) (v : Value) (next : Next T.code T.state g Send (value.Object o ∷ v ∷ []))
    → c.hold ≡ Wrote (T.place o) n 0 x → T.encode v ≡ x → c.post ≡ Nowhere → c.size ≡ Sized (T.place o) 0
    → closed_of n ≡ 0 → count_of n ≡ 0
    → (is_meeting_at (slice_get T.state.plain.memory.heap o) ≡ true)
    × (list_any (λ (h : Holder). offers_on o h.offer) T.state.holders ≡ false)
    × Gains T g (T.place o) (n + 4) (offering_record (T.place o)) (MakeOffer g)
    (attended T.state g (record next.holder { offer = Standing o })))

-- A meeting, by the receiver. Goroutine t, whose offer is there, continues in the state, and its record stays at its send. Which
-- goroutine that is, the receiver does not know: no word has it.
abbrev pub ChannelMeetLaw : Type 0
ChannelMeetLaw = Law (λ T g c. (o n x : ℕ) (next : Next T.code T.state g Recv (value.Object o ∷ []))
    → c.hold ≡ Read (T.place o) n 0 x → c.post ≡ Nowhere → c.size ≡ Sized (T.place o) 0 → closed_of n ≡ 0
    → count_of n ≡ 1
    → (t : ℕ) × (v : Value) × (sends : Next T.code T.state t Send (value.Object o ∷ v ∷ [])) × (g ≢ t)
    × (sends.holder.offer ≡ Standing o) × (T.encode v ≡ x)
    × (y : ChannelRec) × (slice_get T.recs t ≡ Some y) × (y.post ≡ Offering (T.place o))
    × (is_meeting_at (slice_get T.state.plain.memory.heap o) ≡ true)
    × Gains T g (T.place o) (n + 4) at_rest (Instruct (Meet g t)) (after_meeting o next sends v))

-- An acknowledgement: the sender's record continues, and the channel is free for another offer. A closed channel allows it, too: the
-- meeting was before the close.
abbrev pub ChannelAcknowledgeLaw : Type 0
ChannelAcknowledgeLaw = Law (λ T g c. (a n : ℕ) → c.post ≡ Offering a → c.hold ≡ Locked a n → count_of n ≡ 2
    → (o : ℕ) × (h : Holder) × (T.place o ≡ a) × (slice_get T.state.holders g ≡ Some h) × (h.offer ≡ Taken o)
    × Gains T g a (n - 8) at_rest (Acknowledge g) (attended T.state g (record h { offer = NoOffer })))
