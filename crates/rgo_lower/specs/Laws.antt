-- What holds of lowered code: it does what the program does, and there is only one.
use Rattle.std.specs.Prelude.{◌≡◌}
use Rattle.rgo_typed.specs.Tree.{Typed}
use Rattle.rgo_meaning.specs.Source.{source, source_start}
use Rattle.rgo_simulation.specs.Simulations.{Simulates}
use Rattle.rgo_tac.specs.Code.{Tac}
use Rattle.rgo_tac.specs.Tac.{tac, tac_start}
use Rattle.rgo_lower.specs.Lowered.{IsLowered}

-- Each run of a program has a run of its code with the same print and end, a deadlock where it is one, and vice versa; also
-- within any limits on goroutines and frames.
abbrev pub LoweringSimulates : Type 0
LoweringSimulates =
    (program : Typed) (code : Tac) → IsLowered program code
    → Simulates (source program) (tac code) (source_start program) (tac_start code)

-- A program has one code.
abbrev pub LoweringIsDetermined : Type 0
LoweringIsDetermined =
    (program : Typed) (code other : Tac) → IsLowered program code → IsLowered program other → other ≡ code
