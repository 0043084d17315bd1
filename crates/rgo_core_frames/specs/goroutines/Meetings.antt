-- Offers on channels without a buffer: made, taken by a receiver, and acknowledged. Which channel it is, only the image of channels
-- knows. Hence a record has the same offer for all channels.
use Rattle.rgo_sound.specs.Code.Code.{CodeInstr, Do}
use Rattle.rgo_sound.specs.Machine.declared.picks.Pick.TheVariants.{Meet}
use Rattle.rgo_sound.specs.Memory.Channels.{is_meeting_at}
use Rattle.rgo_sound.specs.Memory.declared.values.Value.TheVariants as value
use Rattle.rgo_sound.specs.RegionMachine.Machine.{Acknowledge, Instruct, MakeOffer}
use Rattle.rgo_sound.specs.RegionMachine.Offers.{offers_on}
use Rattle.rgo_sound.specs.RegionMachine.Owed.{current}
use Rattle.rgo_sound.specs.RegionMachine.States.{Holder, NoOffer, Standing, Taken}
use Rattle.rgo_sound.specs.Offers.{StandsAtSend}
use Rattle.rgo_sound.specs.Tac.Frames.{value_at}
use Rattle.rgo_sound.specs.Typed.declared.actions.Action.TheVariants.{Recv, Send}
use Rattle.std.specs.List.{list_any}
use Rattle.std.specs.Prelude.{List, Option, Some, [], false, slice_get, slice_set, true, ℕ, ◌∷◌, ◌≡◌}
use Rattle.rgo_core_frames.specs.steps.Actions.{acted_records, after_action}
use Rattle.rgo_core_frames.specs.Records.{FramesRec}
use Rattle.rgo_core_frames.specs.States.{AtInstruction, Here}
use Rattle.rgo_core_frames.specs.steps.Bookkept.{RegionStepsTo}
use Rattle.rgo_core_frames.specs.shown.WordFrames.{WordFrame, bare, frame_word}
use Rattle.rgo_core_frames.specs.shown.Words.{Shows}

-- the record of a goroutine that offers, and of one that has acknowledged
abbrev pub offering : FramesRec → FramesRec
offering c = record c { holder = record c.holder { offer = Standing 0 } }

abbrev pub acknowledged : FramesRec → FramesRec
acknowledged c = record c { holder = record c.holder { offer = NoOffer } }

-- A send on an open channel without a buffer that has no offer. The words of the channel have to show this, since the machine tests the
-- offers of all goroutines.
abbrev pub FrameOfferLaw : Type 0
FrameOfferLaw =
    (x : AtInstruction) (to : Option ℕ) (channel sent : ℕ) (removes : List ℕ) (o : ℕ)
    → x.instr.op ≡ Do to Send (channel ∷ sent ∷ []) removes → value_at x.before.frame channel ≡ value.Object o
    → is_meeting_at (slice_get x.here.s.plain.memory.heap o) ≡ true
    → list_any (λ (k : Holder). offers_on o k.offer) x.here.s.holders ≡ false
    → RegionStepsTo x.here (MakeOffer x.here.g) x.here.s.regions x.here.s.mark
    (slice_set x.here.records x.here.g (offering x.here.c))

-- A receiver takes the offer of goroutine t, which is at its channel; the sender's record stays. The word that it receives has to
-- show what is sent: it comes from the cell, in which the sender has stored it.
abbrev pub FrameMeetLaw : Type 0
FrameMeetLaw =
    (x : AtInstruction) (t : ℕ) (to : Option ℕ) (channel : ℕ) (removes : List ℕ) (o word : ℕ) (k : Holder)
    → x.here.c.holder.offer ≡ NoOffer → x.instr.op ≡ Do to Recv (channel ∷ []) removes
    → value_at x.before.frame channel ≡ value.Object o
    → is_meeting_at (slice_get x.here.s.plain.memory.heap o) ≡ true → slice_get x.here.s.holders t ≡ Some k
    → k.offer ≡ Standing o
    → ((y : StandsAtSend x.here.code x.here.s.plain t o) → Shows x.here.addresses (value_at y.frame y.sent) word)
    → RegionStepsTo x.here (Instruct (Meet x.here.g t)) x.here.s.regions x.here.s.mark (acted_records x to word)

-- the word that a sender's record sends shows what the sender sends
abbrev pub SentLaw : Type 0
SentLaw =
    (x : AtInstruction) (to : Option ℕ) (channel sent : ℕ) (removes : List ℕ) (o : ℕ)
    → x.instr.op ≡ Do to Send (channel ∷ sent ∷ []) removes → (y : StandsAtSend x.here.code x.here.s.plain x.here.g o)
    → Shows x.here.addresses (value_at y.frame y.sent) (frame_word x.w sent)

-- A sender whose offer was taken continues; the words of the channel show that it was taken. The value of a send is nil, hence the word 0.
abbrev pub FrameAcknowledgeLaw : Type 0
FrameAcknowledgeLaw =
    (x : Here) (w : WordFrame) (ws : List WordFrame) (instr : CodeInstr) (to : Option ℕ) (from removes : List ℕ)
    (o : ℕ) (h : Holder) → slice_get x.s.holders x.g ≡ Some h → h.offer ≡ Taken o → x.c.frames ≡ w ∷ ws
    → current x.code (bare w) ≡ Some instr → instr.op ≡ Do to Send from removes
    → RegionStepsTo x (Acknowledge x.g) x.s.regions x.s.mark
    (slice_set x.records x.g (acknowledged (after_action x.code x.c w ws instr to 0)))
