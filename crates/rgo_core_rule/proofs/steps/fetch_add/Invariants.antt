use Rattle.rgo_core_rule.specs.Views.{number_of}
use Rattle.rgo_core_rule.proofs.Occurring.{Also}
use Rattle.rgo_core_rule.proofs.steps.fetch_add.Given as goal

abbrev pub ghosts-fetch_add : goal.ghosts-fetch_add
ghosts-fetch_add g a =
    let accesses = g.X.Explanation.accesses in
    let Explains = g.X.Explanation.explains a.table.now.shared.key in
    record {
      kind = g.T.Step.kind;
      tells = Also accesses Explains (number_of a.seat.now.me) g.T.Step.tells;
    }
