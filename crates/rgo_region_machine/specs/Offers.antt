-- Offers: a send on an open channel without a buffer offers its value, a receiver takes the offer, and the sender acknowledges that.
-- A channel has at most one offer, from the offer to its acknowledgement: it has one cell for the value, and what a receiver has
-- taken still counts as the sender's until the sender has gone on.
use Rattle.std.specs.Prelude.{ℕ, Bool, false, List, [], ◌∷◌, Option, Some, None}
use Rattle.std.specs.Prelude.{slice_get, nat_eq, option_and_then, if◌then◌else◌}
use Rattle.std.specs.List.{list_any}
use Rattle.rgo_typed.specs.declared.actions.Action.TheVariants as action
use Rattle.rgo_memory.specs.declared.values.Value.{Value}
use Rattle.rgo_memory.specs.declared.values.Value.TheVariants as value
use Rattle.rgo_memory.specs.Channels.{is_meeting_at}
use Rattle.rgo_tac.specs.Frames.{TacFrame, operand_values}
use Rattle.rgo_code.specs.Code.{CodeOp, CodeInstr, Code, Do, Call, Go, Print, Jump, Branch, Return}
use Rattle.rgo_region_machine.specs.Duties.{attended}
use Rattle.rgo_region_machine.specs.Instructions.{is_ready}
use Rattle.rgo_region_machine.specs.Objects.{may_touch}
use Rattle.rgo_region_machine.specs.Owed.{current}
use Rattle.rgo_region_machine.specs.States.{Offer, NoOffer, Standing, Taken, Holder, RegionState}

-- the channel to which a goroutine sends with these operands, if it is open and has no buffer; no other send needs a receiver
abbrev pub open_channel : RegionState → List Value → Option ℕ
open_channel s (value.Object o ∷ v ∷ []) = if is_meeting_at (slice_get s.plain.memory.heap o) then Some o else None
open_channel s _ = None

-- the channel on which a frame with this instruction can make an offer; only a send makes one
abbrev pub offered_channel : RegionState → TacFrame → CodeOp → Option ℕ
offered_channel s frame (Do to action.Send from removes) = open_channel s (operand_values frame from)
offered_channel s frame (Do to (action.Int k) from removes) = None
offered_channel s frame (Do to (action.Bool b) from removes) = None
offered_channel s frame (Do to action.Nil from removes) = None
offered_channel s frame (Do to action.Copy from removes) = None
offered_channel s frame (Do to (action.Binary op) from removes) = None
offered_channel s frame (Do to action.Neg from removes) = None
offered_channel s frame (Do to action.Not from removes) = None
offered_channel s frame (Do to action.IsNil from removes) = None
offered_channel s frame (Do to action.Len from removes) = None
offered_channel s frame (Do to (action.Load k) from removes) = None
offered_channel s frame (Do to (action.Store k) from removes) = None
offered_channel s frame (Do to action.At from removes) = None
offered_channel s frame (Do to action.Put from removes) = None
offered_channel s frame (Do to (action.New n) from removes) = None
offered_channel s frame (Do to action.Slice from removes) = None
offered_channel s frame (Do to action.Chan from removes) = None
offered_channel s frame (Do to action.Recv from removes) = None
offered_channel s frame (Do to action.Close from removes) = None
offered_channel s frame (Do to (action.Get n) from removes) = None
offered_channel s frame (Do to (action.Set n) from removes) = None
offered_channel s frame (Call to n from passes protects removes) = None
offered_channel s frame (Go n from passes removes) = None
offered_channel s frame (Print pieces from removes) = None
offered_channel s frame (Jump target removes) = None
offered_channel s frame (Branch test target removes other otherwise) = None
offered_channel s frame (Return value) = None

-- whether there is an offer on channel o, open or taken
abbrev pub offers_on : ℕ → Offer → Bool
offers_on o NoOffer = false
offers_on o (Standing p) = nat_eq o p
offers_on o (Taken p) = nat_eq o p

-- an offer on a channel that has none; one that was taken and not acknowledged still counts
abbrev pub offered : RegionState → ℕ → Holder → ℕ → Option RegionState
offered s g h o =
    if list_any (λ (k : Holder). offers_on o k.offer) s.holders
    then None else Some (attended s g (record h { offer = Standing o }))

-- the state after the frame's offer for instruction i; none if that makes no offer, or the channel already has one
abbrev pub offer_for : RegionState → ℕ → Holder → TacFrame → CodeInstr → Option RegionState
offer_for s g h frame i = option_and_then (offered s g h) (offered_channel s frame i.op)

-- the same for the instruction at which the frame is
abbrev pub offer_at : Code → RegionState → ℕ → Holder → TacFrame → Option RegionState
offer_at code s g h frame = option_and_then (offer_for s g h frame) (current code frame)

-- an offer needs all that the send needs: nothing is owed, and the channel is live
abbrev pub make_offer : Code → RegionState → ℕ → Holder → List TacFrame → Option RegionState
make_offer code s g h [] = None
make_offer code s g h (frame ∷ callers) =
    if is_ready code s h (frame ∷ callers) then offer_at code s g h frame else None

-- the channel must be live even now: the acknowledgement frees its cell for the next offer
abbrev pub acknowledge : RegionState → ℕ → Holder → Offer → Option RegionState
acknowledge s g h (Taken o) =
    if may_touch s (Some o) then Some (attended s g (record h { offer = NoOffer })) else None
acknowledge s g h NoOffer = None
acknowledge s g h (Standing o) = None
