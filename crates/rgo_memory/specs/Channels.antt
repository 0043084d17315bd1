-- Channels: receive, send, close, and where a receiver and a sender meet. A channel that is nil is never ready. Nothing here says who
-- waits: a goroutine waits if its operation has no outcome in the present state, so no list of waiting goroutines can be wrong.
use Rattle.std.specs.Prelude.{◌≡◌, ℕ, Bool, true, false, not, ◌&&◌, List, [], ◌∷◌, ◌++◌, length, Option, Some, None}
use Rattle.std.specs.Prelude.{nat_lt, ◌==◌, slice_get, if◌then◌else◌}
use Rattle.rgo_memory.specs.declared.values.Value.{Value}
use Rattle.rgo_memory.specs.declared.values.Value.TheVariants as value
use Rattle.rgo_memory.specs.declared.traps.Trap.TheVariants.{SendClosed, CloseClosed, CloseNil}
use Rattle.rgo_memory.specs.Memory.{Object, StructObject, SliceObject, Channel, Memory}
use Rattle.rgo_memory.specs.Effects.{Outcome, Does, Traps, Effect, nothing, at_object, at_object_if_ready}

-- The oldest value, also of a closed channel; `blank` if it is closed and has none; none if it is open and has none. A channel without
-- a buffer never has one: while it is open, its receivers only meet senders.
abbrev pub received : Value → Object → Option (Outcome Object)
received blank (Channel capacity (v ∷ queue) closed) = Some (Does (Channel capacity queue closed) v)
received blank (Channel capacity [] true) = Some (Does (Channel capacity [] true) blank)
received blank (Channel capacity [] false) = None
received blank (StructObject cells) = Some (nothing (StructObject cells))
received blank (SliceObject cells) = Some (nothing (SliceObject cells))

-- none if the receiver has to wait
abbrev pub receive : Memory → Value → (blank : Value) → Option Effect
receive m value.Nil blank = None
receive m (value.Object n) blank = at_object_if_ready m n (received blank)
receive m (value.Int n) blank = Some (nothing m)
receive m (value.Bool b) blank = Some (nothing m)

-- To an open channel, and only if its buffer is not full; a closed one traps even if it is full. With capacity 0 the buffer is always
-- full, so a sender only meets a receiver.
abbrev pub sent : Value → Object → Option (Outcome Object)
sent v (Channel capacity queue true) = Some (Traps SendClosed)
sent v (Channel capacity queue false) =
    if nat_lt (length queue) capacity then Some (Does (Channel capacity (queue ++ v ∷ []) false) value.Nil) else None
sent v (StructObject cells) = Some (nothing (StructObject cells))
sent v (SliceObject cells) = Some (nothing (SliceObject cells))

-- none if the sender has to wait
abbrev pub send : Memory → Value → Value → Option Effect
send m value.Nil v = None
send m (value.Object n) v = at_object_if_ready m n (sent v)
send m (value.Int n) v = Some (nothing m)
send m (value.Bool b) v = Some (nothing m)

-- a close never waits, and leaves the queue to receivers
abbrev pub shut : Object → Outcome Object
shut (Channel capacity queue true) = Traps CloseClosed
shut (Channel capacity queue false) = Does (Channel capacity queue true) value.Nil
shut (StructObject cells) = nothing (StructObject cells)
shut (SliceObject cells) = nothing (SliceObject cells)

-- A close of nil traps, where a send and a receive wait. A close of any other value that is not a channel changes nothing.
abbrev pub close : Memory → Value → Effect
close m value.Nil = Traps CloseNil
close m (value.Object n) = at_object m n shut
close m (value.Int n) = nothing m
close m (value.Bool b) = nothing m

-- Open, and without a buffer. A closed channel is not a meeting place: its senders trap, and its receivers continue alone.
abbrev pub is_meeting_place : Object → Bool
is_meeting_place (Channel capacity queue closed) = not closed && capacity == 0
is_meeting_place (StructObject cells) = false
is_meeting_place (SliceObject cells) = false

-- the same for what was looked up in the heap; false if nothing is there
abbrev pub is_meeting_at : Option Object → Bool
is_meeting_at (Some object) = is_meeting_place object
is_meeting_at None = false

-- whether a receiver at the first value and a sender at the second meet
abbrev pub meets_at : Memory → Value → Value → Bool
meets_at m (value.Object n) (value.Object k) = if n == k then is_meeting_at (slice_get m.heap n) else false
meets_at m _ _ = false

-- the channel that an object is: its capacity, its queue, and whether it is closed
abbrev pub channel_in : Option Object → Option (ℕ × List Value × Bool)
channel_in (Some (Channel capacity queue closed)) = Some (capacity, queue, closed)
channel_in _ = None

-- the channel of that number
abbrev pub channel_at : Memory → ℕ → Option (ℕ × List Value × Bool)
channel_at m n = channel_in (slice_get m.heap n)

-- Every channel is as it was; there may be new ones. So a goroutine that waited at one still waits, and a driver need not ask it again.
abbrev pub SameChannels : Memory → Memory → Type 0
SameChannels before after =
    (n : ℕ) → (channel : ℕ × List Value × Bool) → channel_at before n ≡ Some channel → channel_at after n ≡ Some channel

-- the same, but for the channel of that number
abbrev pub SameChannelsBut : ℕ → Memory → Memory → Type 0
SameChannelsBut k before after =
    (n : ℕ) → (n ≡ k → ⊥) → (channel : ℕ × List Value × Bool) → channel_at before n ≡ Some channel
    → channel_at after n ≡ Some channel
