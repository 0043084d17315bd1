use Rattle.std.proofs.Common.{◌≡◌, ⊎_elim, arith, ℕ, List, sym, subst, ◌∙◌, Vec, length}
use Rattle.std.specs.Global.{Global}
use Rattle.std.specs.List.{Contains}
use Rattle.rgo_graphs.specs.Rows.{rows_of, row_at, IsAscending, AllAscending}
use Rattle.rgo_graphs.proofs.Pushed.{row_is}
use Rattle.rgo_flow.specs.Solved.{Solves}
use Rattle.rgo_flow.proofs.Exits.{row_left, row_right, ascending_more}
use Rattle.rgo_flow.proofs.Runs.{less_or}
use Rattle.rgo_flow.proofs.solving.solve_all.Goals as goal

pub solve-requires-clause-read : goal.solve-requires-clause-read
solve-requires-clause-read c =
    let e = row_is c.args.readers.now c.loop-v.v c.index-readers-v.result (omega arith) c.index-readers-v.is in
    subst (λ (l : List ℕ). IsAscending l) (e ∙ sym c.deref.ensures.value) (c.requires.read_up c.loop-v.v)

pub solve-requires-clause-written : goal.solve-requires-clause-written
solve-requires-clause-written c =
    let e = row_is c.args.writers.now c.loop-v.v c.index-writers-v.result (omega arith) c.index-writers-v.is in
    subst (λ (l : List ℕ). IsAscending l) (e ∙ sym c.deref-in-loop-v.ensures.value)
    (c.requires.written_up c.loop-v.v)

pub solve-requires-clause-read_in : goal.solve-requires-clause-read_in
solve-requires-clause-read_in c = λ p h.
    let e = row_is c.args.readers.now c.loop-v.v c.index-readers-v.result (omega arith) c.index-readers-v.is in
    c.requires.read_in c.loop-v.v p (subst (λ (l : List ℕ). Contains l p) (c.deref.ensures.value ∙ sym e) h)

pub solve-requires-clause-written_in : goal.solve-requires-clause-written_in
solve-requires-clause-written_in c = λ p h.
    let e = row_is c.args.writers.now c.loop-v.v c.index-writers-v.result (omega arith) c.index-writers-v.is in
    c.requires.written_in c.loop-v.v p (subst (λ (l : List ℕ). Contains l p)
    (c.deref-in-loop-v.ensures.value ∙ sym e) h)

pub loop-v-preserved : goal.loop-v-preserved
loop-v-preserved c =
    let long : length c.loop-v.solved.items ≡ c.loop-v.v = omega (arith, c.loop-v.invariant.len) in
    let er = row_is c.args.readers.now c.loop-v.v c.index-readers-v.result (omega arith) c.index-readers-v.is in
    let ew = row_is c.args.writers.now c.loop-v.v c.index-writers-v.result (omega arith) c.index-writers-v.is in
    let here : Solves (rows_of c.args.before.now) c.args.first.now c.args.last.now
    (row_at (rows_of c.args.readers.now) c.loop-v.v)
    (row_at (rows_of c.args.writers.now) c.loop-v.v) c.in_ok-row.row.items =
    rw (er ∙ sym c.deref.ensures.value, ew ∙ sym c.deref-in-loop-v.ensures.value) c.in_ok-row.ensures.solved in
    record {
      len = omega (arith, c.in_ok-push.ensures.len, c.loop-v.invariant.len);
      size = omega (arith, c.solve.ensures.len, c.loop-v.invariant.size);
      marks = c.solve.ensures.marks;
      ascending = subst (λ (l : List (Vec ℕ Global)). AllAscending (rows_of l))
          (sym c.in_ok-push.ensures.items)
          (ascending_more c.loop-v.solved.items c.in_ok-row.row c.loop-v.invariant.ascending
          c.in_ok-row.ensures.ascending);
      solved = λ v l. subst (λ (r : List (Vec ℕ Global)). Solves
          (rows_of c.args.before.now) c.args.first.now c.args.last.now (row_at (rows_of c.args.readers.now) v)
          (row_at (rows_of c.args.writers.now) v) (row_at (rows_of r) v)) (sym c.in_ok-push.ensures.items)
          (⊎_elim
          (λ m. subst (λ (r : List ℕ). Solves (rows_of c.args.before.now) c.args.first.now c.args.last.now
          (row_at (rows_of c.args.readers.now) v) (row_at (rows_of c.args.writers.now) v) r)
          (sym (row_left c.loop-v.solved.items c.in_ok-row.row v (omega arith)))
          (c.loop-v.invariant.solved v m))
          (λ m.
          let e : v ≡ c.loop-v.v = omega arith in
          let g = subst (λ k. Solves (rows_of c.args.before.now) c.args.first.now c.args.last.now
          (row_at (rows_of c.args.readers.now) k)
          (row_at (rows_of c.args.writers.now) k) c.in_ok-row.row.items) (sym e) here in
          subst (λ (r : List ℕ). Solves (rows_of c.args.before.now) c.args.first.now c.args.last.now
          (row_at (rows_of c.args.readers.now) v) (row_at (rows_of c.args.writers.now) v) r)
          (sym (row_right c.loop-v.solved.items c.in_ok-row.row v (e ∙ sym long))) g)
          (less_or v c.loop-v.v));
    }

pub returns-clause-solved : goal.returns-clause-solved
returns-clause-solved c = λ v l. c.loop-v.invariant.solved v (omega (arith, c.loop-v-test.false))
