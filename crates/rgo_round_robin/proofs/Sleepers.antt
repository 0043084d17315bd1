-- A goroutine that sleeps still does after a step of others that leaves its channel as it is: whether it has a step alone depends on its
-- frames and that channel only.
use Rattle.std.proofs.Common.{◌≡◌, ℕ, List, [], ◌∷◌, Contains, Option, Some, None}
use Rattle.std.proofs.Common.{refl, ap, sym, ◌∙◌}
use Rattle.std.specs.Prelude.{option_and_then, slice_get}
use Rattle.rgo_memory.specs.declared.values.Value.{Value}
use Rattle.rgo_memory.specs.declared.values.Value.TheVariants as value
use Rattle.rgo_memory.specs.declared.values.Value.TheVariants.{Nil}
use Rattle.rgo_memory.specs.Memory.{Memory}
use Rattle.rgo_machine.specs.declared.picks.End.{End}
use Rattle.rgo_machine.specs.declared.picks.Pick.TheVariants.{One}
use Rattle.rgo_interpreter.specs.Acting.{stand_of, newest_stand}
use Rattle.rgo_machine.specs.Machines.{Machine, State, Stand, AtReceive, AtSend, AtClose, AtCall, AtStart, Elsewhere}
use Rattle.rgo_machine.specs.Machines.{stepped, alone, picked, unless_ended}
use Rattle.rgo_machine.proofs.Waiting.{SameChannelAt, still_waits, waits_stepped, stepped_waits}
use Rattle.rgo_machine.proofs.Waiting.{SameAt as SameValueAt, channel_of as frame_waits_at}
use Rattle.rgo_round_robin.specs.Sleeping.{waits_at, next_channel_of, Sleeps}

-- the channel of that number is as it was, if there was one
abbrev pub SameAt : Memory → Memory → ℕ → Type 0
SameAt m k n = SameChannelAt n m k

module _ (m k : Memory) where
  same_object : (c : Value) → ((n : ℕ) → c ≡ value.Object n → SameAt m k n) → SameValueAt c m k
  same_object (value.Object n) same = same n refl
  same_object (value.Int n) same = tt
  same_object (value.Bool b) same = tt
  same_object value.Nil same = tt

  -- at the channel at which a frame waits
  same_there : {F : Type 0} (stand : Stand F) → ((n : ℕ) → waits_at (stand_of stand) ≡ Some n → SameAt m k n)
      → SameValueAt (frame_waits_at stand) m k
  same_there (AtReceive c blank go_on) same =
      same_object c (λ n is. same n (ap (λ c. waits_at (stand_of (AtReceive c blank go_on))) is))
  same_there (AtSend c v place next) same =
      same_object c (λ n is. same n (ap (λ c. waits_at (stand_of (AtSend c v place next))) is))
  same_there (AtClose c place next) same = tt
  same_there (AtCall next callee) same = tt
  same_there (AtStart next child) same = tt
  same_there Elsewhere same = tt

-- ---- goroutines

module _ {F : Type 0} (machine : Machine F) (s t : State F) (h : ℕ) where
  stands : (f : F) (callers : List F) (stand : Stand F)
      → ((n : ℕ) → waits_at (stand_of stand) ≡ Some n → SameAt s.memory t.memory n)
      → stepped machine s h f callers stand ≡ None → stepped machine t h f callers stand ≡ None
  stands f callers stand same e =
      stepped_waits machine t h f callers stand
      (still_waits s.memory t.memory stand (same_there s.memory t.memory stand same)
      (waits_stepped machine s h f callers stand e))

  is_still : (o : Option (List F))
      → ((n : ℕ) → option_and_then waits_at (option_and_then (newest_stand machine) o) ≡ Some n
      → SameAt s.memory t.memory n)
      → option_and_then (alone machine s h) o ≡ None → option_and_then (alone machine t h) o ≡ None
  is_still None same e = refl
  is_still (Some []) same e = refl
  is_still (Some (f ∷ callers)) same e = stands f callers (machine.stand f) same e

  unless_over : (e : Option End) (o : Option (State F)) → o ≡ None → unless_ended e o ≡ None
  unless_over None o q = q
  unless_over (Some e) o q = refl

  -- where its frames are as they were, and its channel and its place in the list there
  pub sleeps_on : (v w : ℕ → List ℕ) → s.ended ≡ None → slice_get t.goroutines h ≡ slice_get s.goroutines h
      → ((n : ℕ) → next_channel_of machine s h ≡ Some n → SameAt s.memory t.memory n)
      → ((n : ℕ) → next_channel_of machine s h ≡ Some n → Contains (v n) h → Contains (w n) h)
      → Sleeps machine s v h → Sleeps machine t w h
  sleeps_on v w running frames same lists sleeps =
      let was : option_and_then (alone machine s h) (slice_get s.goroutines h) ≡ None =
      ap (λ e. unless_ended e (picked machine s (One h))) (sym running) ∙ sleeps.still in
      record {
        still = unless_over t.ended _ (ap (option_and_then (alone machine t h)) frames
            ∙ is_still (slice_get s.goroutines h) same was);
        listed = λ n is.
            let before : next_channel_of machine s h ≡ Some n =
            ap (λ o. option_and_then waits_at (option_and_then (newest_stand machine) o)) (sym frames) ∙ is in
            lists n before (sleeps.listed n before);
      }
