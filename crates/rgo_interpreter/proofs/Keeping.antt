-- A write to a struct or a slice leaves every channel alone.
use Rattle.std.specs.Prelude.{Bool, Option, Some, None, Result, Ok, Err, slice_get, slice_set, pos, negsuc, nat_lt}
use Rattle.std.specs.Prelude.{if◌then◌else◌}
use Rattle.std.proofs.Common.{◌≡◌, ℕ, zero, suc, true, false, List, [], ◌∷◌, length, refl, ap, sym, ◌∙◌, subst}
use Rattle.rgo_typed.specs.declared.actions.Action.{Action}
use Rattle.rgo_typed.specs.declared.actions.Action.TheVariants as action
use Rattle.rgo_interpreter.specs.declared.effects.Effect.{Effect as CodeEffect}
use Rattle.rgo_interpreter.specs.declared.effects.Effect.TheVariants as effect
use Rattle.rgo_memory.specs.declared.values.Value.{Value}
use Rattle.rgo_memory.specs.declared.values.Value.TheVariants as value
use Rattle.rgo_memory.specs.declared.traps.Trap.{Trap}
use Rattle.rgo_memory.specs.Memory.{Object, StructObject, SliceObject, Channel, Memory}
use Rattle.rgo_memory.specs.Effects.{Outcome, Does, Traps, Effect, answered, in_memory, to_object, at_object}
use Rattle.rgo_memory.specs.Channels.{channel_in, SameChannels}
use Rattle.rgo_memory.specs.Elements.{element_at, put, put_in}
use Rattle.rgo_memory.specs.Fields.{store, store_outcome}
use Rattle.rgo_memory.specs.Operators.{binary_of}
use Rattle.rgo_memory.specs.Perform.{on_two, on_three}
use Rattle.rgo_interpreter.specs.Views.{LeavesOutcome}

-- ---- lists of objects

-- an object becomes one that is the same channel, or no channel either
replaced : (heap : List Object) (k n : ℕ) (old new : Object) (channel : ℕ × List Value × Bool)
    → slice_get heap k ≡ Some old → channel_in (Some new) ≡ channel_in (Some old)
    → channel_in (slice_get heap n) ≡ Some channel → channel_in (slice_get (slice_set heap k new) n) ≡ Some channel
replaced [] k n old new channel there same e = e
replaced (o ∷ heap) zero zero old new channel there same e = same ∙ ap channel_in (sym there) ∙ e
replaced (o ∷ heap) zero (suc n) old new channel there same e = e
replaced (o ∷ heap) (suc k) zero old new channel there same e = e
replaced (o ∷ heap) (suc k) (suc n) old new channel there same e = replaced heap k n old new channel there same e

-- ---- effects

-- an effect that leaves every channel alone
abbrev pub Keeps : Memory → Effect → Type 0
Keeps m (Does n v) = SameChannels m n
Keeps m (Traps trap) = Unit {0}

-- what leaves an object the same channel, or no channel either
abbrev KeepsObject : Object → Outcome Object → Type 0
KeepsObject o (Does p v) = channel_in (Some p) ≡ channel_in (Some o)
KeepsObject o (Traps trap) = Unit {0}

as_it_was : (m : Memory) → SameChannels m m
as_it_was m n channel e = e

of_object : (m : Memory) (k : ℕ) (o : Object) (outcome : Outcome Object) → slice_get m.heap k ≡ Some o
    → KeepsObject o outcome → Keeps m (in_memory m k outcome)
of_object m k o (Does p v) there same = λ n channel e. replaced m.heap k n o p channel there same e
of_object m k o (Traps trap) there same = tt

of_found : (m : Memory) (k : ℕ) (f : Object → Outcome Object) (found : Option Object) → slice_get m.heap k ≡ found
    → ((o : Object) → KeepsObject o (f o)) → Keeps m (to_object m k f found)
of_found m k f None there keeps = as_it_was m
of_found m k f (Some o) there keeps = of_object m k o (f o) there (keeps o)

at_object_keeps : (m : Memory) (k : ℕ) (f : Object → Outcome Object) → ((o : Object) → KeepsObject o (f o))
    → Keeps m (at_object m k f)
at_object_keeps m k f keeps = of_found m k f (slice_get m.heap k) refl keeps

-- ---- the actions

answered_keeps : (m : Memory) (answer : Result Value Trap) → Keeps m (answered m answer)
answered_keeps m (Ok v) = as_it_was m
answered_keeps m (Err trap) = tt

stored_keeps : (k : ℕ) (v : Value) (o : Object) → KeepsObject o (store_outcome k v o)
stored_keeps k v (StructObject cells) = refl
stored_keeps k v (SliceObject cells) = refl
stored_keeps k v (Channel capacity queue closed) = refl

store_keeps : (m : Memory) (u : Value) (k : ℕ) (v : Value) → Keeps m (store m u k v)
store_keeps m value.Nil k v = tt
store_keeps m (value.Object n) k v = at_object_keeps m n (store_outcome k v) (stored_keeps k v)
store_keeps m (value.Int z) k v = as_it_was m
store_keeps m (value.Bool b) k v = as_it_was m

put_if : (b : Bool) (cells new : List Value) (v : Value) (trap : Trap)
    → KeepsObject (SliceObject cells) (if b then Does (SliceObject new) v else Traps trap)
put_if true cells new v trap = refl
put_if false cells new v trap = tt

put_in_keeps : (i : _) (v : Value) (o : Object) → KeepsObject o (put_in i v o)
put_in_keeps i v (StructObject cells) = refl
put_in_keeps (pos i) v (SliceObject cells) = put_if (nat_lt i (length cells)) cells _ _ _
put_in_keeps (negsuc n) v (SliceObject cells) = tt
put_in_keeps i v (Channel capacity queue closed) = refl

put_keeps : (m : Memory) (u i v : Value) → Keeps m (put m u i v)
put_keeps m value.Nil (value.Int i) v = tt
put_keeps m value.Nil (value.Bool b) v = as_it_was m
put_keeps m value.Nil value.Nil v = as_it_was m
put_keeps m value.Nil (value.Object k) v = as_it_was m
put_keeps m (value.Object n) (value.Int i) v = at_object_keeps m n (put_in i v) (put_in_keeps i v)
put_keeps m (value.Object n) (value.Bool b) v = as_it_was m
put_keeps m (value.Object n) value.Nil v = as_it_was m
put_keeps m (value.Object n) (value.Object k) v = as_it_was m
put_keeps m (value.Int z) i v = as_it_was m
put_keeps m (value.Bool b) i v = as_it_was m

on_two_keeps : (a : Action) (v w : Value) (m : Memory) → Keeps m (on_two a v w m)
on_two_keeps (action.Int k) v w m = as_it_was m
on_two_keeps (action.Bool b) v w m = as_it_was m
on_two_keeps action.Nil v w m = as_it_was m
on_two_keeps action.Copy v w m = as_it_was m
on_two_keeps (action.Binary op) v w m = answered_keeps m (binary_of op v w)
on_two_keeps action.Neg v w m = as_it_was m
on_two_keeps action.Not v w m = as_it_was m
on_two_keeps action.IsNil v w m = as_it_was m
on_two_keeps action.Len v w m = as_it_was m
on_two_keeps (action.Load k) v w m = as_it_was m
on_two_keeps (action.Store k) v w m = store_keeps m v k w
on_two_keeps action.At v w m = answered_keeps m (element_at m v w)
on_two_keeps action.Put v w m = as_it_was m
on_two_keeps (action.New k) v w m = as_it_was m
on_two_keeps action.Slice v w m = as_it_was m
on_two_keeps action.Chan v w m = as_it_was m
on_two_keeps action.Recv v w m = as_it_was m
on_two_keeps action.Send v w m = as_it_was m
on_two_keeps action.Close v w m = as_it_was m
on_two_keeps (action.Get k) v w m = as_it_was m
on_two_keeps (action.Set k) v w m = as_it_was m

on_three_keeps : (a : Action) (u v w : Value) (m : Memory) → Keeps m (on_three a u v w m)
on_three_keeps (action.Int k) u v w m = as_it_was m
on_three_keeps (action.Bool b) u v w m = as_it_was m
on_three_keeps action.Nil u v w m = as_it_was m
on_three_keeps action.Copy u v w m = as_it_was m
on_three_keeps (action.Binary op) u v w m = as_it_was m
on_three_keeps action.Neg u v w m = as_it_was m
on_three_keeps action.Not u v w m = as_it_was m
on_three_keeps action.IsNil u v w m = as_it_was m
on_three_keeps action.Len u v w m = as_it_was m
on_three_keeps (action.Load k) u v w m = as_it_was m
on_three_keeps (action.Store k) u v w m = as_it_was m
on_three_keeps action.At u v w m = as_it_was m
on_three_keeps action.Put u v w m = put_keeps m u v w
on_three_keeps (action.New k) u v w m = as_it_was m
on_three_keeps action.Slice u v w m = as_it_was m
on_three_keeps action.Chan u v w m = as_it_was m
on_three_keeps action.Recv u v w m = as_it_was m
on_three_keeps action.Send u v w m = as_it_was m
on_three_keeps action.Close u v w m = as_it_was m
on_three_keeps (action.Get k) u v w m = as_it_was m
on_three_keeps (action.Set k) u v w m = as_it_was m

-- ---- what the code's answers say

left : (answer : CodeEffect) (m n : Memory) (outcome : Effect) → LeavesOutcome answer m n outcome → Keeps m outcome
    → SameChannels m n
left (effect.Gives v) m n outcome leaves keeps = let P = Keeps m in subst P leaves keeps
left (effect.Traps trap) m n outcome leaves keeps =
    let P : Memory → Type 0 = SameChannels m in subst P (sym leaves.1) (as_it_was m)

pub kept_by_two : (answer : CodeEffect) (m n : Memory) (a : Action) (v w : Value)
    → LeavesOutcome answer m n (on_two a v w m) → SameChannels m n
kept_by_two answer m n a v w leaves = left answer m n (on_two a v w m) leaves (on_two_keeps a v w m)

pub kept_by_three : (answer : CodeEffect) (m n : Memory) (a : Action) (u v w : Value)
    → LeavesOutcome answer m n (on_three a u v w m) → SameChannels m n
kept_by_three answer m n a u v w leaves = left answer m n (on_three a u v w m) leaves (on_three_keeps a u v w m)
