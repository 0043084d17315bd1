use Rattle.std.proofs.Common.{◌≡◌, drop}
use Rattle.rgo_typing_packages.specs.Numbering.{with_variables}
use Rattle.rgo_typing_packages.specs.Views.{numbering_of}
use Rattle.rgo_typing_packages.proofs.numbering.Numbering.number_variables.Given as goal

abbrev pub invariant-loop-x : goal.invariant-loop-x
invariant-loop-x l = with_variables (numbering_of l.self) (drop l.x-index l.names) ≡ with_variables (numbering_of l.initial.self) l.names
