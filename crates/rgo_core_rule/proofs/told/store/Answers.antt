use Rattle.rgo_core_rule.specs.Views.{number_of, record_of}
use Rattle.rgo_core_rule.proofs.Lift.{untold}
use Rattle.rgo_core_rule.proofs.told.store.Goals as goal

pub store-requires : goal.store-requires
store-requires g c =
    let key = c.args.table.now.shared.key in
    let me = c.args.seat.now.me in
    (c.requires.own.0, c.requires.own.1, untold g.X.Explanation.accesses (g.X.Explanation.explains key) (g.X.Explanation.opening key) _ _ (number_of me) (record_of (g.X.Explanation.first key) me) me c.args.word (λ n. c.args.new) g.T.Step.tells g.T.Step.kind c.requires.asks.0 c.requires.asks.1)
