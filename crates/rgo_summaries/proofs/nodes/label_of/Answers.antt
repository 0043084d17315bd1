use Rattle.std.proofs.Common.{arith}
use Rattle.std.proofs.lemmas.List.{get_or_read}
use Rattle.rgo_summaries.proofs.Joining.{label_has_row}
use Rattle.rgo_summaries.proofs.nodes.label_of.Goals as goal

pub returns-clause-below : goal.returns-clause-below
returns-clause-below c =
    let e = get_or_read c.args.nodes.now.labels.items _ _ c.requires.inside c.index.ensures 0 in
    omega (arith, e, (label_has_row c.args.nodes.now c.args.node c.requires.is c.requires.inside).0)

pub returns-clause-row : goal.returns-clause-row
returns-clause-row c =
    let e = get_or_read c.args.nodes.now.labels.items _ _ c.requires.inside c.index.ensures 0 in
    omega (arith, e, (label_has_row c.args.nodes.now c.args.node c.requires.is c.requires.inside).1)
