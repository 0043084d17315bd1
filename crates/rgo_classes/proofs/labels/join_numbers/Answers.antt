use Rattle.std.proofs.Common.{sym}
use Rattle.std.proofs.lemmas.Result.{on_ok_weaker}
use Rattle.rgo_classes.proofs.Moving.{merges_moved, merges_same, merges_turned}
use Rattle.rgo_classes.proofs.labels.join_numbers.Goals as goal

pub returns-then-from-to-clause-merged : goal.returns-then-from-to-clause-merged
returns-then-from-to-clause-merged c = merges_same c.args.labels.now c.args.a c.args.b c.if-from-to.true

pub returns-then-len-clause-merged : goal.returns-then-len-clause-merged
returns-then-len-clause-merged c =
    on_ok_weaker c.merge.result
    (λ m. merges_moved c.args.labels.now c.merge.new.labels c.args.a c.args.b c.requires.a c.requires.b
    c.if-from-to.false m)
    c.merge.ensures.merged

pub returns-else-len-clause-merged : goal.returns-else-len-clause-merged
returns-else-len-clause-merged c =
    on_ok_weaker c.merge-else-len.result
    (λ m. merges_turned c.args.labels.now c.merge-else-len.new.labels c.args.a c.args.b
    (merges_moved c.args.labels.now c.merge-else-len.new.labels c.args.b c.args.a c.requires.b c.requires.a
    (λ e. c.if-from-to.false (sym e)) m))
    c.merge-else-len.ensures.merged
