use Rattle.std.proofs.Common.{◌∙◌, ◌∷◌, [], ◌++◌, ℕ, List, ap}
use Rattle.rgo_flow.proofs.Variables.{one_written, none_written, either_way}
use Rattle.rgo_flow.proofs.graphs.write_row.Goals as goal
use Rattle.rgo_flow.proofs.graphs.write_row.Goals.{in-Some+in_ok-push, in_default}

pub returns : goal.returns
returns c =
    let row = c.match-written_at.row.items in
    let none = c.new-row.ensures.items in
    elim c.match-written_at.branch [
      | in-Some+in_ok-push w ↦ λ v. either_way
          (one_written row w.in-Some.variable c.written_at.result
          (ap (λ r. r.items) w.row-is ∙ w.in_ok-push.ensures.items
          ∙ ap (λ (l : List ℕ). l ++ w.in-Some.variable ∷ []) none) w.in-Some.is v)
          (c.written_at.ensures v)
      | in_default w ↦ λ v. either_way
          (none_written row c.written_at.result (ap (λ r. r.items) w.row-is ∙ none) w.in_default.is v)
          (c.written_at.ensures v)
    ]
