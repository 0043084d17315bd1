use Rattle.std.proofs.Common.{◌≡◌, map, drop}
use Rattle.rgo_ast.specs.Views.{binding_of}
use Rattle.rgo_typing_packages.specs.Numbering.{with_bindings}
use Rattle.rgo_typing_packages.specs.Views.{numbering_of}
use Rattle.rgo_typing_packages.proofs.numbering.Numbering.number_bindings.Given as goal

abbrev pub invariant-loop-binding : goal.invariant-loop-binding
invariant-loop-binding l = with_bindings (numbering_of l.self) (map binding_of (drop l.binding-index l.vars)) ≡ with_bindings (numbering_of l.initial.self) (map binding_of l.vars)
