use Rattle.rgo_core_rule.specs.Views.{number_of}
use Rattle.rgo_core_rule.proofs.Occurring.{Also}
use Rattle.rgo_core_rule.proofs.steps.load.Given as goal

abbrev pub ghosts-load : goal.ghosts-load
ghosts-load g a =
    let accesses = g.X.Explanation.accesses in
    let Explains = g.X.Explanation.explains a.table.now.shared.key in
    record {
      kind = g.T.Step.kind;
      tells = Also accesses Explains (number_of a.seat.now.me) g.T.Step.tells;
    }
