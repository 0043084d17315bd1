use Rattle.std.proofs.Common.{List, refl, sym, subst, arith}
use Rattle.rgo_flow.specs.declared.ranges.Range.{Range}
use Rattle.rgo_flow.specs.Ranges.{AddsPoints, IsBetween}
use Rattle.rgo_flow.proofs.Covering.{adds_range, adds_nothing}
use Rattle.rgo_flow.proofs.ranges.add.Goals as goal

pub returns-in_ok-push : goal.returns-in_ok-push
returns-in_ok-push c =
    let a = c.args in
    subst (λ (l : List Range). AddsPoints a.ranges.now.items l (IsBetween a.writers.now a.first a.end a.to))
    (sym c.in_ok-push.ensures.items)
    (adds_range a.ranges.now.items a.writers.now a.first a.end a.to c.start_of-from.result c.start_of-from.ensures _ refl)

pub returns-else-from-to : goal.returns-else-from-to
returns-else-from-to c =
    let a = c.args in
    adds_nothing a.ranges.now.items a.writers.now a.first a.end a.to c.start_of-from.result c.start_of-from.ensures
    (omega (arith, c.if-from-to.false))
