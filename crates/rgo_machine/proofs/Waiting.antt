-- Who has no step alone: a goroutine that has returned, or waits at a channel. It still waits where its channel is the
-- same.
use Rattle.std.proofs.Common.{◌≡◌, ℕ, Bool, true, false, List, [], ◌∷◌, ◌++◌, Option, Some, None}
use Rattle.std.proofs.Common.{slice_get, option_map, refl, ap, sym, ◌∙◌}
use Rattle.std.specs.Prelude.{option_and_then, nat_lt, length, if◌then◌else◌}
use Rattle.rgo_memory.specs.declared.values.Value.{Value}
use Rattle.rgo_memory.specs.declared.values.Value.TheVariants as value
use Rattle.rgo_memory.specs.Channels.{receive, received, send, sent, channel_in, channel_at}
use Rattle.rgo_memory.specs.Effects.{Outcome, Does, in_memory_if_ready, to_object_if_ready}
use Rattle.rgo_memory.specs.Memory.{Object, StructObject, SliceObject, Channel, Memory}
use Rattle.rgo_machine.specs.declared.picks.End.{End}
use Rattle.rgo_machine.specs.declared.picks.Pick.TheVariants.{One}
use Rattle.rgo_machine.specs.Deadlocks.{WaitsAt, HasReturnedOrWaits, DeadlocksWait}
use Rattle.rgo_machine.specs.Machines.{Stand, AtReceive, AtSend, AtClose, AtCall, AtStart, Elsewhere}
use Rattle.rgo_machine.specs.Machines.{Machine, State, stepped, alone, picked, unless_ended, step_by}

-- ---- by the state

none_of : {A B : Type 0} (f : A → B) (o : Option A) → option_map f o ≡ None → o ≡ None
none_of f None e = refl
none_of f (Some x) e = cc

module _ {F : Type 0} where
  pub waits_stepped : (machine : Machine F) (s : State F) (g : ℕ) (f : F) (callers : List F) (stand : Stand F)
      → stepped machine s g f callers stand ≡ None → WaitsAt s.memory stand
  waits_stepped machine s g f callers (AtReceive channel blank go_on) e = none_of _ (receive s.memory channel blank) e
  waits_stepped machine s g f callers (AtSend channel v place next) e = none_of _ (send s.memory channel v) e
  waits_stepped machine s g f callers (AtClose channel place next) e = cc
  waits_stepped machine s g f callers (AtCall next callee) e = cc
  waits_stepped machine s g f callers (AtStart next child) e = cc
  waits_stepped machine s g f callers Elsewhere e = cc

  pub stepped_waits : (machine : Machine F) (s : State F) (g : ℕ) (f : F) (callers : List F) (stand : Stand F)
      → WaitsAt s.memory stand → stepped machine s g f callers stand ≡ None
  stepped_waits machine s g f callers (AtReceive channel blank go_on) e = ap (option_map _) e
  stepped_waits machine s g f callers (AtSend channel v place next) e = ap (option_map _) e
  stepped_waits machine s g f callers (AtClose channel place next) e = absurd e
  stepped_waits machine s g f callers (AtCall next callee) e = absurd e
  stepped_waits machine s g f callers (AtStart next child) e = absurd e
  stepped_waits machine s g f callers Elsewhere e = absurd e

  waits_alone : (machine : Machine F) (s : State F) (g : ℕ) (frames : List F) → alone machine s g frames ≡ None
      → HasReturnedOrWaits machine s.memory frames
  waits_alone machine s g [] e = tt
  waits_alone machine s g (f ∷ callers) e = waits_stepped machine s g f callers (machine.stand f) e

  alone_waits : (machine : Machine F) (s : State F) (g : ℕ) (frames : List F)
      → HasReturnedOrWaits machine s.memory frames
      → alone machine s g frames ≡ None
  alone_waits machine s g [] e = refl
  alone_waits machine s g (f ∷ callers) e = stepped_waits machine s g f callers (machine.stand f) e

  unless_over : (ended : Option End) (o : Option (State F)) → o ≡ None → unless_ended ended o ≡ None
  unless_over None o e = e
  unless_over (Some end) o e = refl

  -- who has returned or waits has no step alone
  pub no_step : (machine : Machine F) (s : State F) (g : ℕ) (frames : List F) → slice_get s.goroutines g ≡ Some frames
      → HasReturnedOrWaits machine s.memory frames → step_by machine s (One g) ≡ None
  no_step machine s g frames there waits =
      unless_over s.ended (picked machine s (One g))
      (ap (option_and_then (alone machine s g)) there ∙ alone_waits machine s g frames waits)

  -- who has no step alone has returned or waits
  pub has_none : (machine : Machine F) (s : State F) (g : ℕ) (frames : List F) → s.ended ≡ None
      → slice_get s.goroutines g ≡ Some frames → step_by machine s (One g) ≡ None
      → HasReturnedOrWaits machine s.memory frames
  has_none machine s g frames running there e =
      waits_alone machine s g frames
      (ap (option_and_then (alone machine s g)) (sym there)
      ∙ ap (λ ended. unless_ended ended (picked machine s (One g))) (sym running) ∙ e)

  pub deadlocks_wait : (machine : Machine F) → DeadlocksWait machine
  deadlocks_wait machine s deadlock g frames there =
      has_none machine s g frames deadlock.0 there (deadlock.1 (One g))

-- ---- by the channel

-- the channel of that number is the same in both
abbrev pub SameChannelAt : ℕ → Memory → Memory → Type 0
SameChannelAt k m n = (channel : ℕ × List Value × Bool) → channel_at m k ≡ Some channel → channel_at n k ≡ Some channel

abbrev pub SameAt : Value → Memory → Memory → Type 0
SameAt (value.Object k) m n = SameChannelAt k m n
SameAt _ m n = Unit {0}

abbrev made : Option (ℕ × List Value × Bool) → Option Object
made None = None
made (Some channel) = Some (Channel channel.0 channel.1 channel.2)

-- an object that is this channel
as_channel : (o : Option Object) (capacity : ℕ) (queue : List Value) (closed : Bool)
    → channel_in o ≡ Some (capacity, queue, closed) → o ≡ Some (Channel capacity queue closed)
as_channel None capacity queue closed e = cc
as_channel (Some (StructObject cells)) capacity queue closed e = cc
as_channel (Some (SliceObject cells)) capacity queue closed e = cc
as_channel (Some (Channel c q b)) capacity queue closed e = ap made e

still_receives : (n : Memory) (k : ℕ) (blank : Value) (o p : Option Object)
    → ((channel : ℕ × List Value × Bool) → channel_in o ≡ Some channel → channel_in p ≡ Some channel)
    → (m : Memory) → to_object_if_ready m k (received blank) o ≡ None → to_object_if_ready n k (received blank) p ≡ None
still_receives n k blank None p same m e = cc
still_receives n k blank (Some (StructObject cells)) p same m e = cc
still_receives n k blank (Some (SliceObject cells)) p same m e = cc
still_receives n k blank (Some (Channel c (v ∷ q) b)) p same m e = cc
still_receives n k blank (Some (Channel c [] true)) p same m e = cc
still_receives n k blank (Some (Channel c [] false)) p same m e =
    ap (to_object_if_ready n k (received blank)) (as_channel p c [] false (same (c, [], false) refl))

full : (m : Memory) (k : ℕ) (b : Bool) (outcome : Outcome Object)
    → in_memory_if_ready m k (if b then Some outcome else None) ≡ None → b ≡ false
full m k true outcome e = cc
full m k false outcome e = refl

still_sends : (n : Memory) (k : ℕ) (v : Value) (o p : Option Object)
    → ((channel : ℕ × List Value × Bool) → channel_in o ≡ Some channel → channel_in p ≡ Some channel)
    → (m : Memory) → to_object_if_ready m k (sent v) o ≡ None → to_object_if_ready n k (sent v) p ≡ None
still_sends n k v None p same m e = cc
still_sends n k v (Some (StructObject cells)) p same m e = cc
still_sends n k v (Some (SliceObject cells)) p same m e = cc
still_sends n k v (Some (Channel c q true)) p same m e = cc
still_sends n k v (Some (Channel c q false)) p same m e =
    ap (to_object_if_ready n k (sent v)) (as_channel p c q false (same (c, q, false) refl))
    ∙ ap (λ b. in_memory_if_ready n k (if b then Some (Does (Channel c (q ++ v ∷ []) false) value.Nil) else None))
    (full m k (nat_lt (length q) c) (Does (Channel c (q ++ v ∷ []) false) value.Nil) e)

receive_still : (m n : Memory) (c blank : Value) → SameAt c m n → receive m c blank ≡ None → receive n c blank ≡ None
receive_still m n value.Nil blank same e = refl
receive_still m n (value.Object k) blank same e =
    still_receives n k blank (slice_get m.heap k) (slice_get n.heap k) same m e
receive_still m n (value.Int z) blank same e = cc
receive_still m n (value.Bool b) blank same e = cc

send_still : (m n : Memory) (c v : Value) → SameAt c m n → send m c v ≡ None → send n c v ≡ None
send_still m n value.Nil v same e = refl
send_still m n (value.Object k) v same e = still_sends n k v (slice_get m.heap k) (slice_get n.heap k) same m e
send_still m n (value.Int z) v same e = cc
send_still m n (value.Bool b) v same e = cc

module _ {F : Type 0} where
  -- the channel at which a frame waits; nil where it waits at none
  abbrev pub channel_of : Stand F → Value
  channel_of (AtReceive channel blank go_on) = channel
  channel_of (AtSend channel v place next) = channel
  channel_of _ = value.Nil

  -- who waits at a channel still waits where it is the same
  pub still_waits : (m n : Memory) (stand : Stand F) → SameAt (channel_of stand) m n → WaitsAt m stand → WaitsAt n stand
  still_waits m n (AtReceive c blank go_on) same e = receive_still m n c blank same e
  still_waits m n (AtSend c v place next) same e = send_still m n c v same e
  still_waits m n (AtClose c place next) same e = e
  still_waits m n (AtCall next callee) same e = e
  still_waits m n (AtStart next child) same e = e
  still_waits m n Elsewhere same e = e
