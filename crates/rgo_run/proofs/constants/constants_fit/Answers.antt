use Rattle.std.proofs.Common.{All, refl, subst, arith, length, ap}
use Rattle.std.proofs.lemmas.List.{take_all}
use Rattle.std.proofs.lemmas.List.Elements.{All-more}
use Rattle.rgo_run.specs.Constants.{TacFnFits}
use Rattle.rgo_run.proofs.constants.constants_fit.Goals as goal

pub loop-n-preserved : goal.loop-n-preserved
loop-n-preserved c =
    let long = ap length c.functions-functions.ensures in
    All-more TacFnFits c.args.code.now.functions c.loop-n.n c.index-functions-n.result
    (omega (arith, c.loop-n-test.true, long)) c.loop-n.invariant
    (subst TacFnFits (rw c.functions-functions.ensures at c.index-functions-n.is)
    (c.function_fits.ensures.0 c.if-not-function_fits.false))

pub returns : goal.returns
returns c =
    let long = ap length c.functions-functions.ensures in
    let whole = take_all c.loop-n.n c.args.code.now.functions (omega (arith, c.loop-n-test.false, long)) in
    (λ e. subst (All TacFnFits) whole c.loop-n.invariant, λ h. refl)
