use Rattle.std.proofs.Common.{length, sym, subst}
use Rattle.rgo_graphs.specs.Rows.{IsAscending, rows_of}
use Rattle.rgo_tac.specs.Code.{TacFn}
use Rattle.rgo_region_sets.specs.Branches.{AreBranches}
use Rattle.rgo_region_sets.proofs.Tables.{rising_ascends, every_branch, dying_names}
use Rattle.rgo_region_sets.proofs.liveness.live_names.Goals as goal

pub dying-requires-clause-points : goal.dying-requires-clause-points
dying-requires-clause-points c =
    subst IsAscending (sym c.deref-2.ensures.value)
    (rising_ascends c.in_ok-branches.branches.points.items c.in_ok-branches.ensures.branches.rising)

pub dying-requires-2-clause-points : goal.dying-requires-2-clause-points
dying-requires-2-clause-points c =
    subst IsAscending (sym c.deref-5.ensures.value)
    (rising_ascends c.in_ok-branches.branches.points.items c.in_ok-branches.ensures.branches.rising)

pub returns : goal.returns
returns c =
    let spans = c.in_ok-spans.spans.items in
    let b = c.in_ok-branches.branches in
    let all = subst (λ (t : TacFn). AreBranches t b.points.items b.targets.items b.others.items (length t.body))
    c.tac.ensures c.in_ok-branches.ensures.branches in
    let taken = rw (c.deref.ensures.value, c.deref-2.ensures.value, c.deref-3.ensures.value)
    at c.in_ok-taken.ensures.rows in
    let passed = rw (c.deref-4.ensures.value, c.deref-5.ensures.value, c.deref-6.ensures.value)
    at c.in_ok-passed.ensures.rows in
    record {
      names = c.in_ok-spans.ensures.live;
      branches = λ at ways is.
          let found = every_branch _ b.points.items b.targets.items b.others.items all at ways is in (
            found.0,
            record {
              point = found.1.point;
              taken = dying_names spans b.points.items b.targets.items (rows_of c.in_ok-taken.taken.items) taken found.0
                  at ways.0 found.1.point found.1.target;
              passed = dying_names spans b.points.items b.others.items (rows_of c.in_ok-passed.passed.items) passed
                  found.0 at ways.1 found.1.point found.1.other;
            },
          );
    }
