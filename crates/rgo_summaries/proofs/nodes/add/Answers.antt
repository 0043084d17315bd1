use Rattle.std.proofs.Common.{Bool, ◌+◌, sym, ap, arith, rules}
use Rattle.std.specs.Prelude.{if◌then◌else◌}
use Rattle.rgo_summaries.proofs.Joining.{grown_is}
use Rattle.rgo_summaries.proofs.nodes.add.Goals as goal

pub returns-then-is_seen-clause-is : goal.returns-then-is_seen-clause-is
returns-then-is_seen-clause-is c =
    let w = c.args.nodes.now.width in
    grown_is c.args.nodes.now _ c.args.is_seen c.in_ok-row_of.field-0 c.requires.is c.requires.seen
    (record { labels = search rules; width = ap (λ (b : Bool). if b then w + 1 else w) (sym c.if-is_seen.true) })
    (search rules) (search rules) (search rules) (omega arith)

pub returns-else-is_seen-clause-is : goal.returns-else-is_seen-clause-is
returns-else-is_seen-clause-is c =
    let w = c.args.nodes.now.width in
    grown_is c.args.nodes.now _ c.args.is_seen c.in_ok-row_of.field-0 c.requires.is c.requires.seen
    (record { labels = search rules; width = ap (λ (b : Bool). if b then w + 1 else w) (sym c.if-is_seen.false) })
    (search rules) (search rules) (search rules) (omega arith)
