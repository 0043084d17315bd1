use Rattle.std.proofs.Common.{take, All}
use Rattle.rgo_run.specs.Constants.{TacInstrFits}
use Rattle.rgo_run.proofs.constants.function_fits.Given as goal

abbrev pub invariant-loop-n : goal.invariant-loop-n
invariant-loop-n l = All TacInstrFits (take l.n l.f.body)
