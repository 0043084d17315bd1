-- Runs of a machine: lists of picks, each of which has a step in its turn.
use Rattle.std.specs.Prelude.{◌≡◌, List, [], ◌∷◌, Option, Some, None, option_and_then}

module _ {S E : Type 0} where
  -- The state after these events, if each has a step in its turn. The events are all that is left open: which of them come is not said, so
  -- a law about all runs is about every schedule.
  abbrev pub run : (S → E → Option S) → S → List E → Option S
  run step s [] = Some s
  run step s (e ∷ es) = option_and_then (λ t. run step t es) (step s e)

  -- they lead from the one state to the other
  abbrev pub Leads : (S → E → Option S) → S → List E → S → Type 0
  Leads step s es t = run step s es ≡ Some t

  -- no event has a step
  abbrev pub IsBlocked : (S → E → Option S) → S → Type 0
  IsBlocked step s = (e : E) → step s e ≡ None
