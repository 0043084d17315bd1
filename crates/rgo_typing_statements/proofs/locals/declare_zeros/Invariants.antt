use Rattle.std.proofs.Common.{map, drop}
use Rattle.rgo_typed.specs.Views.{stmt_of}
use Rattle.rgo_typing_rules.specs.Views.{type_of_kind}
use Rattle.rgo_typing_statements.specs.Outcomes.{zeros_outcome}
use Rattle.rgo_typing_statements.proofs.Turns.{Appending}
use Rattle.rgo_typing_statements.proofs.locals.declare_zeros.Given as goal

abbrev pub invariant-loop-x : goal.invariant-loop-x
invariant-loop-x l =
    Appending (λ c names. zeros_outcome c (type_of_kind l.kind) names) l.initial.checker l.names (map stmt_of l.initial.out.items)
    l.checker (drop l.x-index l.names) (map stmt_of l.out.items)
