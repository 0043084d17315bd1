-- An operation on a channel changes no other channel.
use Rattle.std.specs.Prelude.{Option, Some, None, slice_get, slice_set}
use Rattle.std.proofs.Common.{◌≡◌, ℕ, zero, suc, List, [], ◌∷◌, refl, ap, sym, ◌∙◌, subst}
use Rattle.rgo_interpreter.specs.declared.effects.Effect.{Effect as CodeEffect}
use Rattle.rgo_interpreter.specs.declared.effects.Effect.TheVariants as effect
use Rattle.rgo_memory.specs.declared.values.Value.{Value}
use Rattle.rgo_memory.specs.declared.values.Value.TheVariants as value
use Rattle.rgo_memory.specs.Memory.{Object, Memory}
use Rattle.rgo_memory.specs.Effects.{Outcome, Does, Traps, Effect, in_memory, to_object}
use Rattle.rgo_memory.specs.Effects.{in_memory_if_ready, to_object_if_ready}
use Rattle.rgo_memory.specs.Channels.{channel_in, receive, received, send, sent, close, shut, SameChannels}
use Rattle.rgo_memory.specs.Channels.{SameChannelsBut}
use Rattle.rgo_interpreter.specs.Views.{LeavesOutcome, LeavesIfReady}

other_item : {X : Type 0} (l : List X) (k n : ℕ) (x : X) → (n ≡ k → ⊥) → slice_get (slice_set l k x) n ≡ slice_get l n
other_item [] k n x differ = refl
other_item (y ∷ l) zero zero x differ = absurd (differ refl)
other_item (y ∷ l) zero (suc n) x differ = refl
other_item (y ∷ l) (suc k) zero x differ = refl
other_item (y ∷ l) (suc k) (suc n) x differ = other_item l k n x (λ e. differ (ap suc e))

-- at most the channel that the value is has changed
abbrev pub ChangesOnly : Value → Memory → Memory → Type 0
ChangesOnly (value.Object k) before after = SameChannelsBut k before after
ChangesOnly _ before after = SameChannels before after

same_but : (k : ℕ) (m : Memory) → SameChannelsBut k m m
same_but k m n differ channel e = e

same : (m : Memory) → SameChannels m m
same m n channel e = e

pub unchanged : (c : Value) (m : Memory) → ChangesOnly c m m
unchanged (value.Object k) m = same_but k m
unchanged (value.Int z) m = same m
unchanged (value.Bool b) m = same m
unchanged value.Nil m = same m

-- ---- by effects

abbrev OnlyAt : Value → Memory → Effect → Type 0
OnlyAt c m (Does n v) = ChangesOnly c m n
OnlyAt c m (Traps trap) = Unit {0}

abbrev OnlyAtIfReady : Value → Memory → Option Effect → Type 0
OnlyAtIfReady c m None = Unit {0}
OnlyAtIfReady c m (Some outcome) = OnlyAt c m outcome

of_object : (m : Memory) (k : ℕ) (outcome : Outcome Object) → OnlyAt (value.Object k) m (in_memory m k outcome)
of_object m k (Does p v) = λ n differ channel e. ap channel_in (other_item m.heap k n p differ) ∙ e
of_object m k (Traps trap) = tt

of_found : (m : Memory) (k : ℕ) (f : Object → Outcome Object) (found : Option Object)
    → OnlyAt (value.Object k) m (to_object m k f found)
of_found m k f None = same_but k m
of_found m k f (Some o) = of_object m k (f o)

if_ready : (m : Memory) (k : ℕ) (outcome : Option (Outcome Object))
    → OnlyAtIfReady (value.Object k) m (in_memory_if_ready m k outcome)
if_ready m k None = tt
if_ready m k (Some outcome) = of_object m k outcome

of_found_if_ready : (m : Memory) (k : ℕ) (f : Object → Option (Outcome Object)) (found : Option Object)
    → OnlyAtIfReady (value.Object k) m (to_object_if_ready m k f found)
of_found_if_ready m k f None = same_but k m
of_found_if_ready m k f (Some o) = if_ready m k (f o)

receive_only : (m : Memory) (c blank : Value) → OnlyAtIfReady c m (receive m c blank)
receive_only m value.Nil blank = tt
receive_only m (value.Object k) blank = of_found_if_ready m k (received blank) (slice_get m.heap k)
receive_only m (value.Int z) blank = same m
receive_only m (value.Bool b) blank = same m

send_only : (m : Memory) (c v : Value) → OnlyAtIfReady c m (send m c v)
send_only m value.Nil v = tt
send_only m (value.Object k) v = of_found_if_ready m k (sent v) (slice_get m.heap k)
send_only m (value.Int z) v = same m
send_only m (value.Bool b) v = same m

close_only : (m : Memory) (c : Value) → OnlyAt c m (close m c)
close_only m value.Nil = tt
close_only m (value.Object k) = of_found m k shut (slice_get m.heap k)
close_only m (value.Int z) = same m
close_only m (value.Bool b) = same m

-- ---- what the code's answers say

left : (answer : CodeEffect) (c : Value) (m n : Memory) (outcome : Effect) → LeavesOutcome answer m n outcome
    → OnlyAt c m outcome
    → ChangesOnly c m n
left (effect.Gives v) c m n outcome leaves only = let P = OnlyAt c m in subst P leaves only
left (effect.Traps trap) c m n outcome leaves only =
    let P : Memory → Type 0 = ChangesOnly c m in subst P (sym leaves.1) (unchanged c m)

left_if_ready : (answer : Option CodeEffect) (c : Value) (m n : Memory) (outcome : Option Effect)
    → LeavesIfReady answer m n outcome → OnlyAtIfReady c m outcome → ChangesOnly c m n
left_if_ready None c m n outcome leaves only =
    let P : Memory → Type 0 = ChangesOnly c m in subst P (sym leaves.1) (unchanged c m)
left_if_ready (Some (effect.Gives v)) c m n outcome leaves only = let P = OnlyAtIfReady c m in subst P leaves only
left_if_ready (Some (effect.Traps trap)) c m n outcome leaves only =
    let P : Memory → Type 0 = ChangesOnly c m in subst P (sym leaves.1) (unchanged c m)

pub received_only : (answer : Option CodeEffect) (m n : Memory) (c blank : Value)
    → LeavesIfReady answer m n (receive m c blank) → ChangesOnly c m n
received_only answer m n c blank leaves = left_if_ready answer c m n (receive m c blank) leaves (receive_only m c blank)

pub sent_only : (answer : Option CodeEffect) (m n : Memory) (c v : Value)
    → LeavesIfReady answer m n (send m c v) → ChangesOnly c m n
sent_only answer m n c v leaves = left_if_ready answer c m n (send m c v) leaves (send_only m c v)

pub closed_only : (answer : CodeEffect) (m n : Memory) (c : Value) → LeavesOutcome answer m n (close m c) → ChangesOnly c m n
closed_only answer m n c leaves = left answer c m n (close m c) leaves (close_only m c)
