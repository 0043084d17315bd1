use Rattle.rgo_core_rule.specs.Views.{number_of}
use Rattle.rgo_core_rule.proofs.Occurring.{Also, AlsoBoth}
use Rattle.rgo_core_rule.proofs.steps.fetch_add_start.Given as goal

abbrev pub ghosts-fetch_add_start : goal.ghosts-fetch_add_start
ghosts-fetch_add_start g a =
    let accesses = g.X.Explanation.accesses in
    let Explains = g.X.Explanation.explains a.table.now.shared.key in
    record {
      kind = g.T.Start.kind;
      tells = Also accesses Explains (number_of a.seat.now.me) g.T.Start.tells;
      tells_child = AlsoBoth accesses Explains (number_of a.seat.now.me) g.T.Start.tells_child;
    }
