use Rattle.std.proofs.Common.{◌≡◌, take}
use Rattle.rgo_tac.proofs.copying.copy_functions.Given as goal

abbrev pub invariant-loop-function : goal.invariant-loop-function
invariant-loop-function l = l.items.items ≡ take l.function-index l.functions
