use Rattle.std.proofs.Common.{◌≡◌, length, arith}
use Rattle.rgo_region_sets.proofs.Merges.{continued_added}
use Rattle.rgo_region_sets.proofs.merging.append.Goals as goal

pub returns-then-continues : goal.returns-then-continues
returns-then-continues c =
    let counted : c.len-count.result ≡ length c.args.spans.now.items = omega (arith, c.len-count.ensures) in
    continued_added c.args.spans.now.items c.len-count.result c.index-last.result.now c.args.next c.max.result counted
    c.if-count-eq0.false c.index-last.ensures c.max.ensures c.if-continues.ensures
