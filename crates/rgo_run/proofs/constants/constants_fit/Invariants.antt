use Rattle.std.proofs.Common.{take, All}
use Rattle.rgo_run.specs.Constants.{TacFnFits}
use Rattle.rgo_run.proofs.constants.constants_fit.Given as goal

abbrev pub invariant-loop-n : goal.invariant-loop-n
invariant-loop-n l = All TacFnFits (take l.n l.code.functions)
