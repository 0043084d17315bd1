-- The channels of a table: which state of the region machine its words, and what records have of channels, represent. Words show a
-- channel between operations. During one, the record of the goroutine that has the lock shows the rest.
use Rattle.std.specs.Prelude.{◌≡◌, ℕ, zero, suc, ◌+◌, ◌%◌, ◌<◌, ◌≤◌, Bool, false, true, List, [], ◌∷◌, length}
use Rattle.std.specs.Prelude.{Some, slice_get, slice_index}
use Rattle.rgo_sound.specs.Typed.declared.actions.Action.TheVariants.{Send}
use Rattle.rgo_sound.specs.Memory.Memory.{Object, Channel, Memory}
use Rattle.rgo_sound.specs.Memory.declared.values.Value.{Value}
use Rattle.rgo_sound.specs.Memory.declared.values.Value.TheVariants as value
use Rattle.rgo_sound.specs.Code.Code.{Code}
use Rattle.rgo_sound.specs.RegionMachine.States.{Holder, Offer, NoOffer, Standing, Taken, RegionState}
use Rattle.rgo_sound.specs.RegionMachine.Objects.{may_touch}
use Rattle.rgo_core_channels.specs.Controls.{bit, control, extent, tail_words, spreads}
use Rattle.rgo_core_channels.specs.Records.{ChannelRec, HoldsAt, InCell, KnowsOf, Reached, Sized, Nowhere, Offering, Shut, Stranded}
use Rattle.rgo_core_channels.specs.Standing.{IsAt, Next}

pub record Chan : Type 0 where
  pub capacity : ℕ
  pub queue : List Value
  pub closed : Bool

abbrev pub channel : Chan → Object
channel k = Channel k.capacity k.queue k.closed

-- the object with this number is this channel
abbrev pub IsChan : Memory → ℕ → Chan → Type 0
IsChan m o k = slice_get m.heap o ≡ Some (channel k)

-- And its region is live. A channel whose region was removed stays in the heap of the state, but its words serve other objects.
abbrev pub On : RegionState → ℕ → Chan → Type 0
On s o k = IsChan s.plain.memory o k × (may_touch s (Some o) ≡ true)

-- The offer at a channel: none; one of this goroutine; one of this goroutine, which was taken and is not yet acknowledged. Since it is
-- one value, a channel has at most one offer.
pub data Phase : Type 0 where
  Calm : Phase
  Offered : (sender : ℕ) → Phase
  Accepted : (sender : ℕ) → Phase

abbrev pub phase_number : Phase → ℕ
phase_number Calm = 0
phase_number (Offered g) = 1
phase_number (Accepted g) = 2

-- the offer is this goroutine's
abbrev pub OfferOf : Phase → ℕ → Type 0
OfferOf Calm g = ⊥
OfferOf (Offered h) g = h ≡ g
OfferOf (Accepted h) g = h ≡ g

-- what the holder of that goroutine has, by the channel's number
abbrev pub holder_offer : ℕ → Phase → Offer
holder_offer o Calm = NoOffer
holder_offer o (Offered h) = Standing o
holder_offer o (Accepted h) = Taken o

pub data Lock : Type 0 where
  Unlocked : Lock
  LockedBy : (goroutine : ℕ) → Lock

abbrev pub lock_bit : Lock → ℕ
lock_bit Unlocked = 0
lock_bit (LockedBy g) = 1

-- What the words do not show of each channel, by its number: the cell of its oldest value, which goroutine has locked it, and whose its
-- offer is. A control has only a bit for the lock and a number for the phase.
pub record Places : Type 0 where
  pub head : ℕ → ℕ
  pub lock : ℕ → Lock
  pub phase : ℕ → Phase

-- the number of values, or the phase
abbrev pub count : Chan → Phase → ℕ
count k p = length k.queue + phase_number p

-- the cell of value i of the queue
abbrev pub cell_of : Chan → (head : ℕ) → ℕ → ℕ
cell_of k head i = (head + i) % k.capacity

-- word i of channel o: the control, the capacity, or a cell
abbrev pub word_of_channel : (place : ℕ → ℕ) (cell : ℕ → ℕ → ℕ) → (o i : ℕ) → ℕ
word_of_channel place cell o zero = place o
word_of_channel place cell o (suc zero) = place o + 1
word_of_channel place cell o (suc (suc i)) = cell o i

-- `place` is the first word of each object, and `cell` the word of each cell of a channel; `encode` is the word of each value
module _ (code : Code) (page_words : ℕ) (encode : Value → ℕ) (place : ℕ → ℕ) (cell : ℕ → ℕ → ℕ) where
  pub record Channels (words : List ℕ) (recs : List ChannelRec) (s : RegionState) (at : Places) : Type 0 where
    -- what words hold
    pub controls : (o : ℕ) (k : Chan) → On s o k
        → slice_index words (place o) ≡ lock_bit (at.lock o) + control (bit k.closed) (count k (at.phase o)) (at.head o)
    pub capacities : (o : ℕ) (k : Chan) → On s o k → slice_index words (place o + 1) ≡ k.capacity
    pub cells : (o i : ℕ) (v : Value) (k : Chan) → On s o k → slice_get k.queue i ≡ Some v
        → slice_index words (cell o (cell_of k (at.head o) i)) ≡ encode v
    -- a buffer has no offers, and its head is a cell: what an operation computes from a control needs no test
    pub buffered : (o : ℕ) (k : Chan) → On s o k → 0 < k.capacity
        → (at.phase o ≡ Calm) × (length k.queue ≤ k.capacity) × (at.head o < k.capacity)
    pub unbuffered : (o : ℕ) (k : Chan) → On s o k → k.capacity ≡ 0 → (k.queue ≡ []) × (at.head o ≡ 0)
    -- 30 bits of the control count the values
    pub small : (o : ℕ) (k : Chan) → On s o k → k.capacity < 1073741820
    -- Where words are: in the table, the cells after the capacity unless the channel is spread, and no two words at one position. By
    -- `apart` an access to one channel leaves all others.
    pub inside : (o : ℕ) (k : Chan) → On s o k → place o + 2 + tail_words page_words k.capacity ≤ length words
    pub cells_inside : (o i : ℕ) (k : Chan) → On s o k → i < extent k.capacity → cell o i < length words
    pub row : (o i : ℕ) (k : Chan) → On s o k → spreads page_words k.capacity ≡ false → i < extent k.capacity
        → cell o i ≡ place o + 2 + i
    pub apart : (o p i j : ℕ) (k l : Chan) → On s o k → On s p l → i < 2 + extent k.capacity → j < 2 + extent l.capacity
        → word_of_channel place cell o i ≡ word_of_channel place cell p j → (o ≡ p) × (i ≡ j)
    -- A control is locked exactly if one goroutine has locked it. So the goroutine that has the lock may store without looking again, and a
    -- locked control is a reason to wait only as long as some goroutine is in the middle of an operation.
    pub lockers : (o g : ℕ) (k : Chan) → On s o k → at.lock o ≡ LockedBy g
        → (c : ChannelRec) × (n : ℕ) × (slice_get recs g ≡ Some c) × HoldsAt c.hold (place o) n
    pub locks : (g a n : ℕ) (c : ChannelRec) → slice_get recs g ≡ Some c → HoldsAt c.hold a n
        → (o : ℕ) × (k : Chan) × On s o k × (place o ≡ a) × (at.lock o ≡ LockedBy g)
        × (slice_index words a ≡ suc n)
    -- What was stored or loaded under the lock is in the cell; the capacity that was read is the channel's; the word that was found is
    -- the cell's; a channel that was found closed is closed. Each of these stays true whatever others do, and so a record may rely on
    -- it at its next access.
    pub in_cells : (g a i x : ℕ) (c : ChannelRec) → slice_get recs g ≡ Some c → InCell c.hold a i x
        → (o : ℕ) × (k : Chan) × On s o k × (place o ≡ a) × (i < extent k.capacity)
        × (slice_index words (cell o i) ≡ x)
    pub sizes : (g a n : ℕ) (c : ChannelRec) → slice_get recs g ≡ Some c → c.size ≡ Sized a n
        → (o : ℕ) × (k : Chan) × On s o k × (place o ≡ a) × (k.capacity ≡ n)
    pub reaches : (g a i w : ℕ) (c : ChannelRec) → slice_get recs g ≡ Some c → c.reach ≡ Reached a i w
        → (o : ℕ) × (k : Chan) × On s o k × (place o ≡ a) × (i < extent k.capacity) × (cell o i ≡ w)
    pub saws : (g a : ℕ) (c : ChannelRec) → slice_get recs g ≡ Some c → c.saw ≡ Shut a
        → (o : ℕ) × (k : Chan) × On s o k × (place o ≡ a) × (k.closed ≡ true)
    pub strands : (g a : ℕ) (c : ChannelRec) → slice_get recs g ≡ Some c → c.saw ≡ Stranded a
        → (o : ℕ) × (k : Chan) × On s o k × (place o ≡ a) × (k.closed ≡ true) × (at.phase o ≡ Offered g)
    -- A record that knows of a channel is at that channel. So its region cannot be removed meanwhile, and no other law needs a premise
    -- about channels of which others know.
    pub knows : (g a : ℕ) (c : ChannelRec) → slice_get recs g ≡ Some c → KnowsOf c a → IsAt code place s g c.post a
    -- An offer is that of one goroutine, whose record is at the channel. In the state it is at its send only as long as the offer was not
    -- taken (`waits`). Its record follows with the acknowledgement.
    -- a record for each goroutine
    pub as_many : length recs ≡ length s.holders
    pub calm : (g : ℕ) (c : ChannelRec) (h : Holder) → slice_get recs g ≡ Some c → slice_get s.holders g ≡ Some h
        → c.post ≡ Nowhere → h.offer ≡ NoOffer
    pub posts : (g a : ℕ) (c : ChannelRec) → slice_get recs g ≡ Some c → c.post ≡ Offering a
        → (o : ℕ) × (k : Chan) × On s o k × (place o ≡ a) × OfferOf (at.phase o) g
    pub offers : (o g : ℕ) (k : Chan) → On s o k → OfferOf (at.phase o) g
        → (c : ChannelRec) × (h : Holder) × (slice_get recs g ≡ Some c) × (slice_get s.holders g ≡ Some h)
        × (c.post ≡ Offering (place o)) × (h.offer ≡ holder_offer o (at.phase o))
    pub waits : (o g : ℕ) (k : Chan) → On s o k → at.phase o ≡ Offered g
        → (v : Value) × Next code s g Send (value.Object o ∷ v ∷ []) × (slice_index words (cell o 0) ≡ encode v)
