use Rattle.rgo_core_rule.specs.Views.{number_of, record_of}
use Rattle.rgo_core_rule.proofs.Occurring.{also, told, told_occurs}
use Rattle.rgo_core_rule.proofs.steps.load.Goals as goal

pub load-requires-clause-asks : goal.load-requires-clause-asks
load-requires-clause-asks g c =
    let key = c.args.table.now.shared.key in
    let me = c.args.seat.now.me in (
      c.requires.asks.0,
      also g.X.Explanation.accesses (g.X.Explanation.explains key) (number_of me) (record_of (g.X.Explanation.first key) me) c.args.word (λ n. n) g.T.Step.tells
          c.requires.asks.1,
    )

pub returns-clause-leaves : goal.returns-clause-leaves
returns-clause-leaves g c =
    let key = c.args.table.now.shared.key in
    let me = c.args.seat.now.me in (
      c.load.ensures.leaves.0,
      told g.X.Explanation.accesses (g.X.Explanation.explains key) (number_of me) g.T.Step.kind c.args.word (λ n. n) me c.load.result c.load.new.seat.me
          g.T.Step.tells c.load.ensures.leaves.1,
    )

pub returns-clause-possible : goal.returns-clause-possible
returns-clause-possible g c =
    let key = c.args.table.now.shared.key in
    let me = c.args.seat.now.me in
    told_occurs g.X.Explanation.accesses (g.X.Explanation.explains key) (number_of me) g.T.Step.kind c.args.word (λ n. n) me c.load.result c.load.new.seat.me
    (g.X.Explanation.first key) g.T.Step.tells c.load.ensures.leaves.1
