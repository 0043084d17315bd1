use Rattle.std.proofs.Common.{◌+◌, ◌%◌, ◌^◌}
use Rattle.rgo_core_rule.specs.Views.{number_of, record_of}
use Rattle.rgo_core_rule.proofs.Occurring.{also_either, either_occurs, either_told}
use Rattle.rgo_core_rule.proofs.steps.fetch_add_start.Goals as goal

pub fetch_add_start-requires-clause-asks : goal.fetch_add_start-requires-clause-asks
fetch_add_start-requires-clause-asks g c =
    let key = c.args.table.now.shared.key in
    let me = c.args.seat.now.me in (
      c.requires.asks.0,
      also_either g.X.Explanation.accesses (g.X.Explanation.explains key) (number_of me) (record_of (g.X.Explanation.first key) me) c.args.word
          (λ n. (n + c.args.k) % 2 ^ 64) g.T.Start.tells g.T.Start.tells_child c.requires.asks.1,
    )

pub returns-clause-told : goal.returns-clause-told
returns-clause-told g c =
    let key = c.args.table.now.shared.key in
    let me = c.args.seat.now.me in
    either_told g.X.Explanation.accesses (g.X.Explanation.explains key) (number_of me) g.T.Start.kind c.args.word (λ n. (n + c.args.k) % 2 ^ 64) me c.fetch_add_start.result c.fetch_add_start.new.seat.me
    g.T.Start.tells g.T.Start.tells_child c.fetch_add_start.ensures.told

pub returns-clause-possible : goal.returns-clause-possible
returns-clause-possible g c =
    let key = c.args.table.now.shared.key in
    let me = c.args.seat.now.me in
    either_occurs g.X.Explanation.accesses (g.X.Explanation.explains key) (number_of me) g.T.Start.kind c.args.word (λ n. (n + c.args.k) % 2 ^ 64) me c.fetch_add_start.result c.fetch_add_start.new.seat.me
    g.T.Start.tells g.T.Start.tells_child c.fetch_add_start.ensures.told
