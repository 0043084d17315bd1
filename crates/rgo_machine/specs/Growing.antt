-- The law that a run's print only grows: what was written early was not written too early.
use Rattle.std.specs.Prelude.{◌≡◌, ℕ, List, ◌++◌}
use Rattle.rgo_machine.specs.declared.picks.Pick.{Pick}
use Rattle.rgo_machine.specs.Machines.{Machine, State, step_by}
use Rattle.rgo_machine.specs.Runs.{Leads}

abbrev pub PrintGrows : {F : Type 0} → Machine F → Type 0
PrintGrows {F} machine =
    (picks : List Pick) (s t : State F) → Leads (step_by machine) s picks t
    → (bytes : List ℕ) × (t.printed ≡ s.printed ++ bytes)
