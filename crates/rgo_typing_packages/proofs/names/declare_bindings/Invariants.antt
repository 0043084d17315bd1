use Rattle.std.proofs.Common.{map, drop}
use Rattle.rgo_ast.specs.Views.{binding_of}
use Rattle.rgo_typing_packages.specs.Names.{bindings_sites, with_bindings}
use Rattle.rgo_typing_packages.proofs.Turns.{Loop}
use Rattle.rgo_typing_packages.proofs.names.declare_bindings.Given as goal

abbrev pub invariant-loop-binding : goal.invariant-loop-binding
invariant-loop-binding l =
    Loop (bindings_sites l.top) (with_bindings l.top) l.initial.scope (map binding_of l.bindings)
    l.scope (map binding_of (drop l.binding-index l.bindings))
