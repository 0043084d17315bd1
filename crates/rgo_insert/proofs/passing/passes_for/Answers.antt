use Rattle.std.proofs.Common.{map, ◌∙◌, ap, sym, subst, arith}
use Rattle.std.proofs.lemmas.List.{take_all}
use Rattle.rgo_insert.specs.Passing.{passed_by, AreClassesPassed}
use Rattle.rgo_insert.proofs.PassedBy.{all_passed}
use Rattle.rgo_insert.proofs.passing.passes_for.Goals as goal

pub returns : goal.returns
returns c =
    let found = c.in_ok-found.found in
    let all = c.loop-region.invariant
    ∙ ap (map (passed_by found))
    (take_all c.loop-region.region-index c.args.regions.now (omega (arith, c.loop-region-test.false))) in
    subst (AreClassesPassed c.args.formals.now c.args.actuals.now c.args.regions.now) (sym all)
    (all_passed found c.args.formals.now c.args.actuals.now c.args.regions.now c.in_ok-found.ensures)
