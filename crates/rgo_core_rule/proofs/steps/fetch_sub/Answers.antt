use Rattle.std.proofs.Common.{◌+◌, ◌-◌, ◌%◌, ◌^◌}
use Rattle.rgo_core_rule.specs.Views.{number_of, record_of}
use Rattle.rgo_core_rule.proofs.Occurring.{also, told, told_occurs}
use Rattle.rgo_core_rule.proofs.steps.fetch_sub.Goals as goal

pub fetch_sub-requires-clause-asks : goal.fetch_sub-requires-clause-asks
fetch_sub-requires-clause-asks g c =
    let key = c.args.table.now.shared.key in
    let me = c.args.seat.now.me in (
      c.requires.asks.0,
      also g.X.Explanation.accesses (g.X.Explanation.explains key) (number_of me) (record_of (g.X.Explanation.first key) me) c.args.word (λ n. (n + (2 ^ 64 - c.args.k)) % 2 ^ 64) g.T.Step.tells
          c.requires.asks.1,
    )

pub returns-clause-leaves : goal.returns-clause-leaves
returns-clause-leaves g c =
    let key = c.args.table.now.shared.key in
    let me = c.args.seat.now.me in (
      c.fetch_sub.ensures.leaves.0,
      told g.X.Explanation.accesses (g.X.Explanation.explains key) (number_of me) g.T.Step.kind c.args.word (λ n. (n + (2 ^ 64 - c.args.k)) % 2 ^ 64) me c.fetch_sub.result c.fetch_sub.new.seat.me
          g.T.Step.tells c.fetch_sub.ensures.leaves.1,
    )

pub returns-clause-possible : goal.returns-clause-possible
returns-clause-possible g c =
    let key = c.args.table.now.shared.key in
    let me = c.args.seat.now.me in
    told_occurs g.X.Explanation.accesses (g.X.Explanation.explains key) (number_of me) g.T.Step.kind c.args.word (λ n. (n + (2 ^ 64 - c.args.k)) % 2 ^ 64) me c.fetch_sub.result c.fetch_sub.new.seat.me
    (g.X.Explanation.first key) g.T.Step.tells c.fetch_sub.ensures.leaves.1
