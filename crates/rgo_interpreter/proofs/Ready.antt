-- Whether a goroutine has a step alone, by where it stands.
use Rattle.std.proofs.Common.{◌≡◌, ◌<◌, ◌≤◌, ◌+◌, ◌⊎◌, inl, inr, ℕ, true, false, List, [], ◌∷◌, length}
use Rattle.std.proofs.Common.{Option, Some, None, slice_get, option_map, refl, ap, sym, subst, ◌∙◌, arith}
use Rattle.std.proofs.lemmas.Bool.{cases_lt}
use Rattle.std.proofs.lemmas.Option.{slice_get_past}
use Rattle.std.specs.Option.{is_some}
use Rattle.std.specs.Prelude.{option_and_then}
use Rattle.rgo_memory.specs.Channels.{receive, send}
use Rattle.rgo_interpreter.specs.declared.machines.Stand.{Stand as CodeStand}
use Rattle.rgo_machine.specs.declared.picks.Pick.TheVariants.{One, Meet}
use Rattle.rgo_interpreter.specs.Acting.{stand_of, newest_stand, standing}
use Rattle.rgo_interpreter.specs.Reports.{has_step_alone, ReportsWaiting}
use Rattle.rgo_machine.specs.Deadlocks.{IsDeadlock}
use Rattle.rgo_machine.specs.Machines.{Stand, AtReceive, AtSend, AtClose, AtCall, AtStart, Elsewhere}
use Rattle.rgo_machine.specs.Machines.{Machine, State, stepped, alone, picked, unless_ended, step_by}
use Rattle.rgo_interpreter.specs.Meetings.{IsUnmet, CanMeet}
use Rattle.rgo_machine.specs.Runs.{IsBlocked}

some_mapped : {X Y : Type 0} (f : X → Y) (o : Option X) → is_some (option_map f o) ≡ is_some o
some_mapped f None = refl
some_mapped f (Some x) = refl

same_stand : (a b : CodeStand) → Some a ≡ Some b → a ≡ b
same_stand a b e = cc

module _ {F : Type 0} (machine : Machine F) (s : State F) where
  module _ (g : ℕ) where
    stepped_so : (f : F) (callers : List F) (stand : Stand F)
        → is_some (stepped machine s g f callers stand) ≡ has_step_alone s.memory (stand_of stand)
    stepped_so f callers (AtReceive channel blank go_on) = some_mapped _ (receive s.memory channel blank)
    stepped_so f callers (AtSend channel v place next) = some_mapped _ (send s.memory channel v)
    stepped_so f callers (AtClose channel place next) = refl
    stepped_so f callers (AtCall next callee) = refl
    stepped_so f callers (AtStart next child) = refl
    stepped_so f callers Elsewhere = refl

    ready_so : (o : Option (List F)) (stand : CodeStand) → option_and_then (newest_stand machine) o ≡ Some stand
        → is_some (option_and_then (alone machine s g) o) ≡ has_step_alone s.memory stand
    ready_so None stand is = cc
    ready_so (Some []) stand is = cc
    ready_so (Some (f ∷ callers)) stand is =
        stepped_so f callers (machine.stand f)
        ∙ ap (has_step_alone s.memory) (same_stand (stand_of (machine.stand f)) stand is)

    nowhere_so : (o : Option (List F)) → option_and_then (newest_stand machine) o ≡ None
        → is_some (option_and_then (alone machine s g) o) ≡ false
    nowhere_so None is = refl
    nowhere_so (Some []) is = refl
    nowhere_so (Some (f ∷ callers)) is = cc

    as_picked : s.ended ≡ None → step_by machine s (One g) ≡ picked machine s (One g)
    as_picked running = ap (λ ended. unless_ended ended (picked machine s (One g))) running

    -- who stands there
    pub steps_so : (stand : CodeStand) → s.ended ≡ None → standing machine s g ≡ Some stand
        → has_step_alone s.memory stand ≡ is_some (step_by machine s (One g))
    steps_so stand running is =
        sym (ap is_some (as_picked running) ∙ ready_so (slice_get s.goroutines g) stand is)

    -- who stands nowhere
    pub has_no_step : s.ended ≡ None → standing machine s g ≡ None → false ≡ is_some (step_by machine s (One g))
    has_no_step running is = sym (ap is_some (as_picked running) ∙ nowhere_so (slice_get s.goroutines g) is)

  -- ---- all of them

  abbrev Waits : ℕ → Type 0
  Waits g = step_by machine s (One g) ≡ None

  is_none : (o : Option (State F)) → false ≡ is_some o → o ≡ None
  is_none None e = refl
  is_none (Some t) e = cc

  is_not_none : (o : Option (State F)) → true ≡ is_some o → o ≡ None → ⊥
  is_not_none None e none = cc
  is_not_none (Some t) e none = cc

  pub one_waits_more : (i : ℕ) → ((g : ℕ) → g < i → Waits g) → false ≡ is_some (step_by machine s (One i))
      → (g : ℕ) → g < i + 1 → Waits g
  one_waits_more i before here g lt = by_cases (cases_lt g i) where
    by_cases : (g < i) ⊎ (i ≤ g) → Waits g
    by_cases (inl less) = before g less
    by_cases (inr behind) = subst Waits (omega (arith, lt, behind)) (is_none (step_by machine s (One i)) here)

  -- one does not
  pub one_steps : (i : ℕ) → true ≡ is_some (step_by machine s (One i)) → ReportsWaiting machine s false
  one_steps i here = (i, is_not_none (step_by machine s (One i)) here)

  -- a goroutine that does not exist has no step
  pub all_wait : (n : ℕ) → length s.goroutines ≤ n → s.ended ≡ None → ((g : ℕ) → g < n → Waits g) → (g : ℕ) → Waits g
  all_wait n all running h g = by_cases (cases_lt g n) where
    by_cases : (g < n) ⊎ (n ≤ g) → Waits g
    by_cases (inl before) = h g before
    by_cases (inr behind) =
        as_picked g running
        ∙ ap (option_and_then (alone machine s g)) (slice_get_past s.goroutines g (omega (arith, all, behind)))

  -- ---- deadlocks

  pub no_pick : s.ended ≡ None → ((g : ℕ) → Waits g) → ((g : ℕ) → IsUnmet machine s g) → IsDeadlock machine s
  no_pick running waits apart = (running, blocked) where
    blocked : IsBlocked (step_by machine) s
    blocked (One g) = waits g
    blocked (Meet r t) = apart t r

  pub some_pick : (r t : ℕ) → CanMeet machine s r t → IsDeadlock machine s → ⊥
  some_pick r t can deadlock = can (deadlock.1 (Meet r t))

  pub some_step : ReportsWaiting machine s false → IsDeadlock machine s → ⊥
  some_step steps deadlock = steps.1 (deadlock.1 (One steps.0))
