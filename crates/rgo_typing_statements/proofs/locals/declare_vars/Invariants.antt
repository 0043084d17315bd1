use Rattle.std.proofs.Common.{map, drop}
use Rattle.rgo_ast.specs.Views.{local_var_of}
use Rattle.rgo_typed.specs.Views.{stmt_of}
use Rattle.rgo_typing_statements.specs.Outcomes.{vars_outcome}
use Rattle.rgo_typing_statements.proofs.Turns.{Appending}
use Rattle.rgo_typing_statements.proofs.locals.declare_vars.Given as goal

abbrev pub invariant-loop-var : goal.invariant-loop-var
invariant-loop-var l =
    Appending vars_outcome l.initial.checker (map local_var_of l.vars) (map stmt_of l.initial.out.items)
    l.checker (map local_var_of (drop l.var-index l.vars)) (map stmt_of l.out.items)
