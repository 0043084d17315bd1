use Rattle.std.proofs.Common.{◌≡◌, map, drop, codes}
use Rattle.rgo_typed.specs.Views.{typed_function_of}
use Rattle.rgo_meaning.specs.Source.{function_named}
use Rattle.rgo_source_interpreter.proofs.machine.main_frame.Given as goal

abbrev pub invariant-loop-function : goal.invariant-loop-function
invariant-loop-function l =
    function_named (codes "main") (map typed_function_of (drop l.function-index l.functions))
    ≡ function_named (codes "main") (map typed_function_of l.functions)
