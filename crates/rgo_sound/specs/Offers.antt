-- The invariant about offers. An acknowledgement touches a channel without naming it: the sender's variable may be gone from the
-- code by then. So what keeps the channel live has to be remembered from the meeting on.
use Rattle.std.specs.Prelude.{List, None, Option, Some, [], slice_get, true, ℕ, ◌∷◌, ◌≡◌}
use Rattle.rgo_code.specs.Code.{Code, CodeInstr, Do}
use Rattle.rgo_memory.specs.Memory.{Channel, Memory, Object, SliceObject, StructObject}
use Rattle.rgo_region_machine.specs.Owed.{current}
use Rattle.rgo_region_machine.specs.States.{Holder, NoOffer, Offer, RegionState, Standing, Taken, frames_of}
use Rattle.rgo_region_machine.specs.declared.regions.Region.{Region}
use Rattle.rgo_region_machine.specs.declared.regions.Region.TheVariants.{Numbered}
use Rattle.rgo_sound.specs.Stakes.{is_in}
use Rattle.rgo_tac.specs.Frames.{TacFrame, value_at}
use Rattle.rgo_tac.specs.Tac.{TacState}
use Rattle.rgo_typed.specs.declared.actions.Action.TheVariants.{Send}
use Rattle.rgo_memory.specs.declared.values.Value.TheVariants as value

abbrev pub channel_capacity : Object → Option ℕ
channel_capacity (StructObject cells) = None
channel_capacity (SliceObject cells) = None
channel_capacity (Channel capacity queue closed) = Some capacity

-- the object is a channel without a buffer; no step makes it anything else
abbrev pub IsUnbuffered : Memory → ℕ → Type 0
IsUnbuffered m o = (object : Object) × (slice_get m.heap o ≡ Some object) × (channel_capacity object ≡ Some 0)

-- the goroutine's next instruction is a send on this channel
pub record StandsAtSend (code : Code) (p : TacState) (g o : ℕ) : Type 0 where
  pub frame : TacFrame
  pub callers : List TacFrame
  pub at : frames_of p g ≡ frame ∷ callers
  pub instr : CodeInstr
  pub cur : current code frame ≡ Some instr
  pub to : Option ℕ
  pub channel : ℕ
  pub sent : ℕ
  pub removes : List ℕ
  pub is : instr.op ≡ Do to Send (channel ∷ sent ∷ []) removes
  pub channel_is : value_at frame channel ≡ value.Object o

-- An open offer belongs to the send that is its goroutine's next instruction, and the goroutine owes nothing: so a meeting finds the
-- sender ready. The channel of an offer that was taken is in Global or in a region in which the goroutine has a stake; the sender
-- does nothing before its acknowledgement, so the stake is still there.
abbrev pub OfferFits : Code → RegionState → ℕ → Holder → Offer → Type 0
OfferFits code s g h NoOffer = Unit {0}
OfferFits code s g h (Standing o) = (h.duties ≡ []) × IsUnbuffered s.plain.memory o × StandsAtSend code s.plain g o
OfferFits code s g h (Taken o) = (r : Region) × (slice_get s.owners o ≡ Some r)
    × ((q : ℕ) → r ≡ Numbered q → is_in q h.stakes ≡ true)

-- each offer fits
pub record OffersFit (code : Code) (s : RegionState) : Type 0 where
  pub fits : (g : ℕ) (h : Holder) → slice_get s.holders g ≡ Some h → OfferFits code s g h h.offer
