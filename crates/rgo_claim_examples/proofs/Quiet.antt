-- What goroutines do depends on neither what was printed nor the end: a run that forgets both has the same steps. So the steps after an
-- end, which a region run may have, are steps of this machine, too.
use Rattle.std.proofs.Common.{◌≡◌, ℕ, ◌==◌, Bool, true, false, List, [], ◌∷◌, Option, Some, None, refl, ap, ◌∙◌}
use Rattle.std.proofs.Common.{slice_get, if◌then◌else◌}
use Rattle.std.specs.Prelude.{option_and_then}
use Rattle.std.specs.Option.{option_map}
use Rattle.rgo_memory.specs.declared.values.Value.{Value}
use Rattle.rgo_memory.specs.Channels.{receive, send, close, meets_at}
use Rattle.rgo_memory.specs.Effects.{Effect, Does, Traps}
use Rattle.rgo_machine.specs.declared.limits.Limits.{Limits}
use Rattle.rgo_machine.specs.declared.picks.End.{End}
use Rattle.rgo_machine.specs.declared.picks.Pick.{Pick}
use Rattle.rgo_machine.specs.declared.picks.Pick.TheVariants.{One, Meet}
use Rattle.rgo_machine.specs.Limits.{if_within, is_within, limited_step}
use Rattle.rgo_machine.specs.Machines as machine
use Rattle.rgo_machine.specs.Machines.{Act, Machine, Stand, State, AtReceive, AtSend, AtClose, AtCall, AtStart, Elsewhere}
use Rattle.rgo_machine.specs.Machines.{met, operated, picked, step_by, unless_ended}
use Rattle.rgo_machine.specs.Runs.{run}

module _ {F : Type 0} where
  -- the state without its print and its end
  abbrev pub quiet : State F → State F
  quiet s = record { memory = s.memory; goroutines = s.goroutines; printed = []; ended = None }

  -- a step of a machine that never prints and never ends
  abbrev pub quiet_step : Machine F → State F → Pick → Option (State F)
  quiet_step m s pick = option_map quiet (picked m s pick)

  module _ (m : Machine F) (s : State F) where
    -- both do the same
    abbrev AreSame : Option (State F) → Option (State F) → Type 0
    AreSame a b = option_map quiet a ≡ option_map quiet b

    operates : (g : ℕ) (callers : List F) (go_on : Value → F) (place : ℕ) (o : Option Effect)
        → AreSame (option_map (operated (quiet s) g callers go_on place) o)
        (option_map (operated s g callers go_on place) o)
    operates g callers go_on place None = refl
    operates g callers go_on place (Some (Does n v)) = refl
    operates g callers go_on place (Some (Traps trap)) = refl

    acts : (g : ℕ) (callers : List F) (act : Act F)
        → AreSame (Some (machine.acted m (quiet s) g callers act)) (Some (machine.acted m s g callers act))
    acts g callers (machine.Moves n f) = refl
    acts g [] (machine.Returns value) = refl
    acts g (caller ∷ callers) (machine.Returns value) = refl
    acts g callers (machine.Prints f bytes) = refl
    acts g callers (machine.Traps trap place) = refl

    stands : (g : ℕ) (f : F) (callers : List F) (stand : Stand F)
        → AreSame (machine.stepped m (quiet s) g f callers stand) (machine.stepped m s g f callers stand)
    stands g f callers (AtReceive c blank go_on) = operates g callers go_on 0 (receive s.memory c blank)
    stands g f callers (AtSend c v place next) = operates g callers (λ _. next) place (send s.memory c v)
    stands g f callers (AtClose c place next) = operates g callers (λ _. next) place (Some (close s.memory c))
    stands g f callers (AtCall next callee) = refl
    stands g f callers (AtStart next child) = refl
    stands g f callers Elsewhere = acts g callers (m.act s.memory f)

    one : (g : ℕ) (o : Option (List F))
        → AreSame (option_and_then (machine.alone m (quiet s) g) o) (option_and_then (machine.alone m s g) o)
    one g None = refl
    one g (Some []) = refl
    one g (Some (f ∷ callers)) = stands g f callers (m.stand f)

    meets_if : (r t : ℕ) (a b : List F) (c d : Value) (go_on : Value → F) (v : Value) (place : ℕ) (next : F) (x : Bool)
        → AreSame
        (if x then Some (machine.with_frames (machine.with_frames (quiet s) r (go_on v ∷ a)) t (next ∷ b)) else None)
        (if x then Some (machine.with_frames (machine.with_frames s r (go_on v ∷ a)) t (next ∷ b)) else None)
    meets_if r t a b c d go_on v place next true = refl
    meets_if r t a b c d go_on v place next false = refl

    meets : (r t : ℕ) (a b : List F) (x y : Stand F) → AreSame (met (quiet s) r t a b x y) (met s r t a b x y)
    meets r t a b (AtReceive c blank go_on) (AtSend d v place next) =
        meets_if r t a b c d go_on v place next (meets_at s.memory c d)
    meets r t a b (AtReceive c blank go_on) (AtReceive d other last) = refl
    meets r t a b (AtReceive c blank go_on) (AtClose d place next) = refl
    meets r t a b (AtReceive c blank go_on) (AtCall next callee) = refl
    meets r t a b (AtReceive c blank go_on) (AtStart next child) = refl
    meets r t a b (AtReceive c blank go_on) Elsewhere = refl
    meets r t a b (AtSend c v place next) y = refl
    meets r t a b (AtClose c place next) y = refl
    meets r t a b (AtCall next callee) y = refl
    meets r t a b (AtStart next child) y = refl
    meets r t a b Elsewhere y = refl

    both : (r t : ℕ) (f h : List F) → AreSame (machine.met_by m (quiet s) r t f h) (machine.met_by m s r t f h)
    both r t [] senders = refl
    both r t (f ∷ receivers) [] = refl
    both r t (f ∷ receivers) (h ∷ senders) = meets r t receivers senders (m.stand f) (m.stand h)

    two : (r t : ℕ) (o p : Option (List F))
        → AreSame (option_and_then (λ f. option_and_then (machine.met_by m (quiet s) r t f) p) o)
        (option_and_then (λ f. option_and_then (machine.met_by m s r t f) p) o)
    two r t None p = refl
    two r t (Some f) None = refl
    two r t (Some f) (Some h) = both r t f h

    two_if : (r t : ℕ) (x : Bool)
        → AreSame (if x then None else machine.meet m (quiet s) r t) (if x then None else machine.meet m s r t)
    two_if r t true = refl
    two_if r t false = two r t (slice_get s.goroutines r) (slice_get s.goroutines t)

    pub same_quiet : (pick : Pick) → quiet_step m (quiet s) pick ≡ quiet_step m s pick
    same_quiet (One g) = one g (slice_get s.goroutines g)
    same_quiet (Meet r t) = two_if r t (r == t)

    by_end : (o : Option End) (pick : Pick) (u : State F) → unless_ended o (picked m s pick) ≡ Some u
        → picked m s pick ≡ Some u
    by_end None pick u e = e
    by_end (Some end) pick u e = absurd cc

    -- a step, without print and end
    pub quiet_of : (pick : Pick) (u : State F) → step_by m s pick ≡ Some u → quiet_step m (quiet s) pick ≡ Some (quiet u)
    quiet_of pick u e = same_quiet pick ∙ ap (option_map quiet) (by_end s.ended pick u e)

  -- a step within the limits is a step
  limited : (m : Machine F) (limits : Limits) (s u : State F) (pick : Pick)
      → limited_step m limits s pick ≡ Some u → step_by m s pick ≡ Some u
  limited m limits s u pick e = by (step_by m s pick) e
    where
      kept : (v : State F) (x : Bool) → (if x then Some v else None) ≡ Some u → Some v ≡ Some u
      kept v true e = e
      kept v false e = absurd cc

      by : (o : Option (State F)) → option_and_then (if_within limits) o ≡ Some u → o ≡ Some u
      by None e = absurd cc
      by (Some v) e = kept v (is_within limits v) e

  -- a run within the limits, without print and end
  pub quiet_run : (m : Machine F) (limits : Limits) (picks : List Pick) (s t : State F)
      → run (limited_step m limits) s picks ≡ Some t → run (quiet_step m) (quiet s) picks ≡ Some (quiet t)
  quiet_run m limits [] s t e = ap (option_map quiet) e
  quiet_run m limits (pick ∷ picks) s t e =
      by (limited_step m limits s pick) refl e (λ u. quiet_run m limits picks u t)
    where
      by : (o : Option (State F)) → limited_step m limits s pick ≡ o
          → option_and_then (λ u. run (limited_step m limits) u picks) o ≡ Some t
          → ((u : State F) → run (limited_step m limits) u picks ≡ Some t
          → run (quiet_step m) (quiet u) picks ≡ Some (quiet t))
          → run (quiet_step m) (quiet s) (pick ∷ picks) ≡ Some (quiet t)
      by None is e next = absurd cc
      by (Some u) is e next =
          ap (option_and_then (λ v. run (quiet_step m) v picks)) (quiet_of m s pick u (limited m limits s u pick is))
          ∙ next u e

  pub quiet_is_of : (m : Machine F) (s t : State F) (pick : Pick) → quiet_step m s pick ≡ Some t
      → (u : State F) × (picked m s pick ≡ Some u)
  quiet_is_of m s t pick e = by (picked m s pick) e
    where
      by : (o : Option (State F)) → option_map quiet o ≡ Some t → (u : State F) × (o ≡ Some u)
      by None e = absurd cc
      by (Some u) e = (u, refl)

  pub limited_is_of : (m : Machine F) (limits : Limits) (s t : State F) (pick : Pick)
      → limited_step m limits s pick ≡ Some t → (u : State F) × (picked m s pick ≡ Some u)
  limited_is_of m limits s t pick e = (t, by_end m s s.ended pick t (limited m limits s t pick e))
