-- Simulation: each run of one machine is, to an observer, a run of the other.
use Rattle.std.specs.Prelude.{◌≡◌, List, ℕ, [], ◌∷◌, true}
use Rattle.rgo_machine.specs.declared.limits.Limits.{Limits}
use Rattle.rgo_machine.specs.declared.picks.Pick.{Pick}
use Rattle.rgo_machine.specs.Deadlocks.{IsDeadlock}
use Rattle.rgo_machine.specs.Limits.{is_within, LeadsWithin}
use Rattle.rgo_machine.specs.Machines.{Machine, State, step_by}
use Rattle.rgo_machine.specs.Runs.{Leads}
use Rattle.rgo_simulation.specs.Follows.{Follows}

-- An observer sees the same of both states: the print, how the run ended, and a deadlock of the first in the second. Steps are not seen:
-- the machines take different numbers of them.
pub record IsSeenAs {F G : Type 0} (high : Machine F) (low : Machine G) (s : State F) (t : State G) : Type 0 where
  pub printed : t.printed ≡ s.printed
  pub ended : t.ended ≡ s.ended
  pub deadlock : IsDeadlock high s → IsDeadlock low t

-- some run of a machine, seen as a state of another
abbrev pub RunsAs : {F G : Type 0} → Machine F → State F → Machine G → State G → Type 0
RunsAs {F} high s low t0 =
    (t : State _) × (picks : List Pick) × Leads (step_by low) t0 picks t × IsSeenAs high low s t

-- the same within limits
abbrev pub RunsWithinAs : {F G : Type 0} → Limits → Machine F → State F → Machine G → State G → Type 0
RunsWithinAs limits high s low t0 =
    (t : State _) × (picks : List Pick) × LeadsWithin low limits t0 picks t × IsSeenAs high low s t

-- Both machines have the same runs to an observer, from these two states on. `forward` says that no behaviour is lost, `backward` that none
-- is added; and each holds within limits, too, which does not follow, since a run within them needs one within them on the other side.
pub record Simulates {F G : Type 0} (high : Machine F) (low : Machine G) (s0 : State F) (t0 : State G) : Type 0 where
  pub forward : (picks : List Pick) (s : State F) → Leads (step_by high) s0 picks s → RunsAs high s low t0
  pub backward : (picks : List Pick) (t : State G) → Leads (step_by low) t0 picks t → RunsAs low t high s0
  pub forward_within : (limits : Limits) (picks : List Pick) (s : State F)
      → LeadsWithin high limits s0 picks s → RunsWithinAs limits high s low t0
  pub backward_within : (limits : Limits) (picks : List Pick) (t : State G)
      → LeadsWithin low limits t0 picks t → RunsWithinAs limits low t high s0

module _ {F G : Type 0} (high : Machine F) (low : Machine G) (Matched : List F → List G → Type 0) where
  -- the goroutines match one by one
  abbrev pub AllMatched : List (List F) → List (List G) → Type 0
  AllMatched [] [] = Unit {0}
  AllMatched (fs ∷ more) (gs ∷ others) = Matched fs gs × AllMatched more others
  AllMatched _ _ = ⊥

  pub record SameStates (s : State F) (t : State G) : Type 0 where
    pub memory : t.memory ≡ s.memory
    pub printed : t.printed ≡ s.printed
    pub ended : t.ended ≡ s.ended
    pub goroutines : AllMatched s.goroutines t.goroutines

  -- A machine that follows another simulates it, from a state on that is within all limits. (Outside of them `high`
  -- could not take the steps that it takes by itself.)
  abbrev pub FollowingSimulates : Type 0
  FollowingSimulates =
      (size : F → ℕ) → Follows high low Matched size → (s0 : State F) (t0 : State G) → SameStates s0 t0
      → ((limits : Limits) → is_within limits s0 ≡ true) → Simulates high low s0 t0
