use Rattle.std.proofs.Common.{All, subst, arith}
use Rattle.std.proofs.lemmas.List.{take_all}
use Rattle.rgo_core_frames.specs.shown.Constants.{InstrFits}
use Rattle.rgo_core_frames.proofs.shown.ConstantLemmas.{one_more}
use Rattle.rgo_core_frames.proofs.constants.function_fits.Goals as goal

pub loop-n-preserved : goal.loop-n-preserved
loop-n-preserved c =
    one_more InstrFits c.args.f.now.body c.loop-n.n (omega (arith, c.loop-n-test.true, c.len-n-end.ensures))
    c.loop-n.invariant c.instr_fits.ensures

pub returns : goal.returns
returns c =
    subst (All InstrFits)
    (take_all c.loop-n.n c.args.f.now.body (omega (arith, c.loop-n-test.false, c.len-n-end.ensures))) c.loop-n.invariant
