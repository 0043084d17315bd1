use Rattle.std.proofs.Common.{take, All}
use Rattle.rgo_sound.specs.Code.Erasure.{erased}
use Rattle.rgo_core_frames.specs.shown.Constants.{FnFits}
use Rattle.rgo_core_frames.proofs.constants.constants_fit.Given as goal

abbrev pub invariant-loop-n : goal.invariant-loop-n
invariant-loop-n l = All FnFits (take l.n (erased l.code).functions)
