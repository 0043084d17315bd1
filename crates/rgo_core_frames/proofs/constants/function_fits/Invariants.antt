use Rattle.std.proofs.Common.{take, All}
use Rattle.rgo_core_frames.specs.shown.Constants.{InstrFits}
use Rattle.rgo_core_frames.proofs.constants.function_fits.Given as goal

abbrev pub invariant-loop-n : goal.invariant-loop-n
invariant-loop-n l = All InstrFits (take l.n l.f.body)
