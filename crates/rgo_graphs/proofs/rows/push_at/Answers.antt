use Rattle.std.proofs.Common.{arith}
use Rattle.rgo_graphs.proofs.Pushed.{pushed, ascending_pushed}
use Rattle.rgo_graphs.proofs.rows.push_at.Goals as goal

pub returns-clause-added : goal.returns-clause-added
returns-clause-added c =
    pushed c.args.rows.now.items c.args.at c.args.item c.index_mut.result.now c.push.new.self
    (omega arith) c.index_mut.ensures.value c.in_ok-push.ensures.items

pub returns-clause-ascending : goal.returns-clause-ascending
returns-clause-ascending c =
    λ asc most. ascending_pushed c.args.rows.now.items c.args.at c.args.item c.index_mut.result.now c.push.new.self
    (omega arith) c.index_mut.ensures.value c.in_ok-push.ensures.items asc most
