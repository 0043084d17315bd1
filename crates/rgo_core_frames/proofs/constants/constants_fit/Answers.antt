use Rattle.std.proofs.Common.{All, subst, arith, length, ap, ◌∙◌}
use Rattle.std.proofs.lemmas.List.{take_all}
use Rattle.std.proofs.lemmas.List.Elements.{All-more}
use Rattle.rgo_sound.specs.Code.Erasure.{erased}
use Rattle.rgo_sound.specs.Tac.Code.{Tac}
use Rattle.rgo_core_frames.specs.shown.Constants.{FnFits}
use Rattle.rgo_core_frames.proofs.shown.ConstantLemmas.{constants_of_erased}
use Rattle.rgo_core_frames.proofs.constants.constants_fit.Goals as goal

pub loop-n-preserved : goal.loop-n-preserved
loop-n-preserved c =
    let same = c.functions-functions.ensures ∙ ap (λ (t : Tac). t.functions) c.tac.ensures in
    let long = ap length same in
    All-more FnFits (erased c.args.code.now).functions c.loop-n.n c.index-functions-n.result
    (omega (arith, c.loop-n-test.true, long)) c.loop-n.invariant
    (subst FnFits (rw same at c.index-functions-n.is) c.function_fits.ensures)

pub returns : goal.returns
returns c =
    let same = c.functions-functions.ensures ∙ ap (λ (t : Tac). t.functions) c.tac.ensures in
    let long = ap length same in
    constants_of_erased c.args.code.now (subst (All FnFits)
    (take_all c.loop-n.n (erased c.args.code.now).functions (omega (arith, c.loop-n-test.false, long)))
    c.loop-n.invariant)
