use Rattle.std.proofs.Common.{◌∙◌, ◌∷◌, [], ◌++◌, ℕ, List, ap, sym, arith}
use Rattle.std.proofs.lemmas.Option.{none-some, slice_get-get_or}
use Rattle.rgo_tac.specs.Flow.{variables_of}
use Rattle.rgo_flow.proofs.Variables.{took}
use Rattle.rgo_flow.proofs.graphs.variable_row.Goals as goal
use Rattle.rgo_flow.proofs.graphs.variable_row.Goals.{in-Some+in_ok-push, in_default}

pub loop-n-preserved : goal.loop-n-preserved
loop-n-preserved c =
    let variables = variables_of c.args.variables in
    elim c.match-get.branch [
      | in-Some+in_ok-push w ↦ ap (λ r. r.items) w.row-is ∙ w.in_ok-push.ensures.items
          ∙ ap (λ (l : List ℕ). l ++ w.in-Some.variable ∷ []) c.loop-n.invariant
          ∙ took variables c.loop-n.n w.in-Some.variable (sym c.get.ensures ∙ w.in-Some.is)
      | in_default w ↦ absurd (none-some _ (sym w.in_default.is ∙ c.get.ensures
          ∙ slice_get-get_or variables c.loop-n.n 0 (omega (arith, c.loop-n-test.true, c.len-n-end.ensures))))
    ]
