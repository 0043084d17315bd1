use Rattle.rgo_core_rule.specs.Views.{view, rows_for, rows_but}
use Rattle.rgo_core_rule.proofs.seats.part.Given as goal

abbrev pub ghosts-cut_as : goal.ghosts-cut_as
ghosts-cut_as g a = record {
  left = λ v. view (rows_but a._about.now v.records) v.seen;
  right = λ v. view (rows_for a._about.now v.records) v.seen;
}
