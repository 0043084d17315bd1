use Rattle.rgo_core_rule.specs.Views.{number_of, record_of}
use Rattle.rgo_core_rule.proofs.Lift.{lifts}
use Rattle.rgo_core_rule.proofs.told.swap.Goals as goal

pub swap-requires : goal.swap-requires
swap-requires g c =
    let key = c.args.table.now.shared.key in
    let me = c.args.seat.now.me in
    (c.requires.own.0, c.requires.own.1, lifts g.X.Explanation.accesses (g.X.Explanation.explains key) (g.X.Explanation.opening key) _ _ (number_of me) (record_of (g.X.Explanation.first key) me) me c.args.word (λ n. c.args.new) g.T.Step.tells g.T.Step.kind c.requires.asks.0 c.requires.asks.1)
