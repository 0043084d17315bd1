use Rattle.std.proofs.Common.{[]}
use Rattle.rgo_core_rule.specs.Views.{view}
use Rattle.rgo_core_rule.proofs.seats.note.Given as goal

abbrev pub ghosts-cut_as : goal.ghosts-cut_as
ghosts-cut_as g a = record { left = λ v. v; right = λ v. view [] v.seen }
