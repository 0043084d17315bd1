use Rattle.std.proofs.Common.{◌+◌, ⊎_elim, ℕ, List, get_or, sym, subst, arith}
use Rattle.std.specs.List.{Contains}
use Rattle.std.proofs.lemmas.List.{take_all}
use Rattle.std.proofs.Math.Nat.{le-max_left, le-max_right}
use Rattle.rgo_graphs.proofs.Lists.{take_cases}
use Rattle.rgo_flow.proofs.graphs.row_width.Goals as goal

pub loop-x-preserved : goal.loop-x-preserved
loop-x-preserved c = λ x h.
    let next = get_or c.args.row.now c.loop-x.x-index 0 + 1 in
    ⊎_elim
    (λ o. omega (arith, c.loop-x.invariant x o, c.max-width.ensures, le-max_left c.loop-x.width next))
    (λ e. omega (arith, e, c.max-width.ensures, le-max_right c.loop-x.width next))
    (take_cases c.args.row.now c.loop-x.x-index 0 x c.loop-x-test.true h)

pub returns : goal.returns
returns c = λ x h. c.loop-x.invariant x
    (subst (λ (l : List ℕ). Contains l x) (sym (take_all c.loop-x.x-index c.args.row.now c.loop-x-test.false)) h)
