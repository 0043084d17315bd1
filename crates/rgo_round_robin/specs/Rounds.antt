-- Rounds: in each, every goroutine that can step has a turn of up to 1,000 steps.
use Rattle.std.specs.Prelude.{◌≡◌, ◌≤◌, ◌⊎◌, ℕ, List, [], ◌∷◌, ◌++◌, length, Contains, None, All}
use Rattle.rgo_machine.specs.declared.limits.Limits.{Limits}
use Rattle.rgo_machine.specs.declared.picks.Pick.{Pick}
use Rattle.rgo_machine.specs.declared.picks.Pick.TheVariants.{One, Meet}
use Rattle.rgo_machine.specs.Limits.{LeadsWithin}
use Rattle.rgo_machine.specs.Machines.{Machine, State, step_by}

-- the most steps of a turn, so that each goroutine has one again after a bounded number of steps of the others
abbrev pub longest_turn : ℕ
longest_turn = 1000

-- a step of the goroutine, alone or with another
abbrev pub IsPickOf : ℕ → Pick → Type 0
IsPickOf g (One h) = h ≡ g
IsPickOf g (Meet receiver sender) = (receiver ≡ g) ⊎ (sender ≡ g)

-- the steps of rounds, one after the other
abbrev pub all_of : List (List Pick) → List Pick
all_of [] = []
all_of (picks ∷ rounds) = picks ++ all_of rounds

module _ {F : Type 0} (machine : Machine F) (limits : Limits) where
  -- these steps are of one goroutine, and at most as many as a turn has
  pub record FitsTurn (s : State F) (g : ℕ) (picks : List Pick) (t : State F) : Type 0 where
    pub leads : LeadsWithin machine limits s picks t
    pub short : length picks ≤ longest_turn
    pub own : All (IsPickOf g) picks

  -- A turn: without steps only if the goroutine has none alone. Otherwise a round could be fair without anyone stepping.
  pub record IsTurn (s : State F) (g : ℕ) (picks : List Pick) (t : State F) : Type 0 where
    pub fits : FitsTurn s g picks t
    pub plays : picks ≡ [] → step_by machine s (One g) ≡ None

  -- the turns of these goroutines, one after the other
  abbrev pub AreTurns : State F → (order : List ℕ) → List Pick → State F → Type 0
  AreTurns s [] picks t = (picks ≡ []) × (t ≡ s)
  AreTurns s (g ∷ order) picks t =
      (first rest : List Pick) × (u : State F)
      × (picks ≡ first ++ rest) × IsTurn s g first u × AreTurns u order rest t

  -- A round: every goroutine that can step alone as it begins has a turn in it, in any order. The others may have one, too.
  pub record IsRound (s : State F) (picks : List Pick) (t : State F) : Type 0 where
    pub order : List ℕ
    pub turns : AreTurns s order picks t
    pub fair : (g : ℕ) → (step_by machine s (One g) ≡ None → ⊥) → Contains order g

  -- A round up to some point: turns, and the beginning of one more. A run ends in the middle of a round.
  pub record IsBegunRound (s : State F) (picks : List Pick) (t : State F) : Type 0 where
    pub order : List ℕ
    pub whole : List Pick
    pub part : List Pick
    pub turning : State F
    pub goroutine : ℕ
    pub picked : picks ≡ whole ++ part
    pub turns : AreTurns s order whole turning
    pub begun : FitsTurn turning goroutine part t

  -- rounds, one after the other, by the steps of each
  abbrev pub AreRounds : State F → List (List Pick) → State F → Type 0
  AreRounds s [] t = t ≡ s
  AreRounds s (picks ∷ rounds) t = (u : State F) × IsRound s picks u × AreRounds u rounds t
