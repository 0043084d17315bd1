use Rattle.std.proofs.Common.{◌≡◌, ◌∙◌, sym, ap}
use Rattle.rgo_graphs.specs.Rows.{rows_of}
use Rattle.rgo_tac.specs.Code.{TacFn}
use Rattle.rgo_code.specs.Erasure.{erased_fn}
use Rattle.rgo_region_sets.specs.Asked.{AreCandidates}
use Rattle.rgo_region_sets.specs.Branches.{branch_at}
use Rattle.rgo_region_sets.proofs.Numbered.{from_branch, from_other}
use Rattle.rgo_region_sets.proofs.Removing.{same_candidates}
use Rattle.rgo_region_sets.proofs.removed.may_die.Goals as goal
use Rattle.rgo_region_sets.proofs.removed.may_die.Goals.{then-is_some+in_ok-add_dying, else-is_some}

pub returns-clause-names : goal.returns-clause-names
returns-clause-names c = λ next way.
    let f = c.args.f.now in
    let live = c.args.live.now in
    let rows = rows_of c.args.rows.now in
    let used = c.in_ok-names.names.items in
    let found : c.branch_at.result ≡ branch_at (erased_fn f) c.args.at =
    c.branch_at.ensures ∙ ap (λ (t : TacFn). branch_at t c.args.at) c.tac.ensures in
    let candidates : AreCandidates f c.args.at next c.if-is_some.names.items = elim c.if-is_some.branch [
      | then-is_some+in_ok-add_dying w ↦ rw w.names-is (from_branch live f c.requires.live rows c.args.at next way used
          w.add_dying.new.names.items c.in_ok-names.ensures.members c.branch_at.result found
          (sym c.is_some.ensures ∙ w.if-is_some.true) w.in_ok-add_dying.ensures)
      | else-is_some w ↦ from_other live f c.requires.live rows c.args.at next way used c.if-is_some.names.items
          c.in_ok-names.ensures.members c.branch_at.result found (sym c.is_some.ensures ∙ w.if-is_some.false)
          (ap (λ v. v.items) w.names-is)
    ] in
    same_candidates f c.args.at next c.if-is_some.names.items c.set_of.result.items c.set_of.ensures.members candidates

pub returns-clause-ascends : goal.returns-clause-ascends
returns-clause-ascends c =
    c.set_of.ensures.ascends
