use Rattle.std.proofs.Common.{◌+◌, ◌%◌, ◌^◌}
use Rattle.rgo_core_rule.specs.Views.{number_of, record_of}
use Rattle.rgo_core_rule.proofs.Lift.{lifts}
use Rattle.rgo_core_rule.proofs.told.fetch_add.Goals as goal

pub fetch_add-requires : goal.fetch_add-requires
fetch_add-requires g c =
    let key = c.args.table.now.shared.key in
    let me = c.args.seat.now.me in
    (c.requires.own.0, c.requires.own.1, lifts g.X.Explanation.accesses (g.X.Explanation.explains key) (g.X.Explanation.opening key) _ _ (number_of me) (record_of (g.X.Explanation.first key) me) me c.args.word (λ n. (n + c.args.k) % 2 ^ 64) g.T.Step.tells g.T.Step.kind c.requires.asks.0 c.requires.asks.1)
