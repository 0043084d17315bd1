use Rattle.std.proofs.Common.{List, ◌++◌, map, drop}
use Rattle.rgo_typed.specs.Views.{typed_function_of}
use Rattle.rgo_tac.specs.Code.{TacFn}
use Rattle.rgo_lower.specs.Lowered.{AreLowered}
use Rattle.rgo_lower.proofs.programs.emit.Given as goal

-- the code of the rest makes the code of all
abbrev pub invariant-loop-function : goal.invariant-loop-function
invariant-loop-function l =
    (rest : List TacFn)
    → AreLowered (map typed_function_of l.program.functions.items)
    (map typed_function_of (drop l.function-index l.program.functions.items)) rest
    → AreLowered (map typed_function_of l.program.functions.items) (map typed_function_of l.program.functions.items)
    (l.functions.items ++ rest)
