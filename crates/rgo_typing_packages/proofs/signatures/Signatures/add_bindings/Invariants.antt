use Rattle.std.proofs.Common.{map, drop}
use Rattle.rgo_ast.specs.Views.{binding_of}
use Rattle.rgo_typing_packages.specs.Signatures.{vars_sites, with_vars}
use Rattle.rgo_typing_packages.specs.Views.{signatures_of}
use Rattle.rgo_typing_packages.proofs.Turns.{Loop}
use Rattle.rgo_typing_packages.proofs.signatures.Signatures.add_bindings.Given as goal

abbrev pub invariant-loop-binding : goal.invariant-loop-binding
invariant-loop-binding l =
    Loop (vars_sites l.top) (with_vars l.top) (signatures_of l.initial.self) (map binding_of l.vars)
    (signatures_of l.self) (map binding_of (drop l.binding-index l.vars))
