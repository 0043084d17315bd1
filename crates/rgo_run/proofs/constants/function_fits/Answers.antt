use Rattle.std.proofs.Common.{All, refl, subst, arith}
use Rattle.std.proofs.lemmas.List.{take_all}
use Rattle.rgo_run.specs.Constants.{TacInstrFits}
use Rattle.rgo_run.proofs.ConstantLemmas.{one_more}
use Rattle.rgo_run.proofs.constants.function_fits.Goals as goal

pub loop-n-preserved : goal.loop-n-preserved
loop-n-preserved c =
    one_more TacInstrFits c.args.f.now.body c.loop-n.n (omega (arith, c.loop-n-test.true, c.len-n-end.ensures))
    c.loop-n.invariant (c.instr_fits.ensures.0 c.if-not-instr_fits.false)

pub returns : goal.returns
returns c =
    let whole = take_all c.loop-n.n c.args.f.now.body (omega (arith, c.loop-n-test.false, c.len-n-end.ensures)) in
    (λ e. subst (All TacInstrFits) whole c.loop-n.invariant, λ h. refl)
