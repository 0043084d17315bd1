use Rattle.std.proofs.Common.{◌≡◌, ◌∙◌, ℕ, List, Vec, arith, sym, subst}
use Rattle.std.specs.Global.{Global}
use Rattle.std.specs.List.{Contains}
use Rattle.rgo_flow.specs.declared.ranges.Range.{Range}
use Rattle.rgo_flow.specs.Ranges.{AddsPoints, ForSome, IsKeptFor, IsKeptOut}
use Rattle.rgo_graphs.specs.Rows.{rows_of, row_at, IsAscending, Relates}
use Rattle.rgo_graphs.proofs.Pushed.{row_is, rows_long}
use Rattle.rgo_flow.proofs.Reaching.{ranges_live, transposed_tests}
use Rattle.rgo_flow.proofs.table.Liveness.ranges.Goals as goal

pub add_readers-requires-clause-ascending : goal.add_readers-requires-clause-ascending
add_readers-requires-clause-ascending c =
    let s = c.args.self.now in
    let w = row_is s.writers.items c.args.variable c.index-2.result.now (omega (
      arith,
      s.table.written,
      rows_long s.writers.items,
      rows_long s.readers.items,
    )) c.index-2.ensures in
    subst (λ (l : List ℕ). IsAscending l) (w ∙ sym c.deref-3.ensures.value) (s.table.writers_up c.args.variable)

pub add_readers-requires-clause-inside : goal.add_readers-requires-clause-inside
add_readers-requires-clause-inside c = λ r m.
    let s = c.args.self.now in
    let d = row_is s.readers.items c.args.variable c.index.result.now (omega arith) c.index.ensures in
    omega (
      arith,
      c.deref.ensures.len,
      s.runs.read c.args.variable r (subst (λ (l : List ℕ). Contains l r) (c.deref-2.ensures.value ∙ sym d) m),
    )

pub add_exits-requires-clause-ascending : goal.add_exits-requires-clause-ascending
add_exits-requires-clause-ascending c =
    let s = c.args.self.now in
    let w = row_is s.writers.items c.args.variable c.index-2.result.now (omega (
      arith,
      s.table.written,
      rows_long s.writers.items,
      rows_long s.readers.items,
    )) c.index-2.ensures in
    subst (λ (l : List ℕ). IsAscending l) (w ∙ sym c.deref-7.ensures.value) (s.table.writers_up c.args.variable)

pub add_exits-requires-clause-inside : goal.add_exits-requires-clause-inside
add_exits-requires-clause-inside c = λ b h m.
    let s = c.args.self.now in
    let r = subst (λ (q : List (Vec ℕ Global)). Relates (rows_of q) b h) c.deref-4.ensures.value m in
    let exit = (transposed_tests (rows_of s.exits.items) (rows_of s.before.items) s.runs.transposed h b).1 r in
    omega (arith, c.deref-5.ensures.len, s.table.lasts, (s.runs.heads h b exit).0)

pub add_exits-requires-clause-rows : goal.add_exits-requires-clause-rows
add_exits-requires-clause-rows c = λ b m.
    let s = c.args.self.now in
    let o = row_is s.solved.items c.args.variable c.index-3.result.now (omega (
      arith,
      s.table.solved_long,
      rows_long s.solved.items,
      rows_long s.readers.items,
    )) c.index-3.ensures in
    omega (
      arith,
      c.deref-4.ensures.len,
      rows_long s.before.items,
      s.runs.into c.args.variable b (subst (λ (l : List ℕ). Contains l b) (c.deref-6.ensures.value ∙ sym o) m),
    )

pub returns : goal.returns
returns c =
    let s = c.args.self.now in
    let d = row_is s.readers.items c.args.variable c.index.result.now (omega arith) c.index.ensures in
    let w = row_is s.writers.items c.args.variable c.index-2.result.now (omega (
      arith,
      s.table.written,
      rows_long s.writers.items,
      rows_long s.readers.items,
    )) c.index-2.ensures in
    let o = row_is s.solved.items c.args.variable c.index-3.result.now (omega (
      arith,
      s.table.solved_long,
      rows_long s.solved.items,
      rows_long s.readers.items,
    )) c.index-3.ensures in
    let same : c.deref-7.result.now ≡ c.deref-3.result.now =
    c.deref-7.ensures.value ∙ sym c.deref-3.ensures.value in
    ranges_live s c.args.variable (omega (arith, c.if-v-len.false, c.len.ensures)) c.deref.result.now c.deref-5.result.now
    c.deref-2.result.now c.deref-3.result.now c.deref-6.result.now c.deref-4.result.now c.deref.ensures.value
    c.deref-5.ensures.value (c.deref-2.ensures.value ∙ sym d) (c.deref-3.ensures.value ∙ sym w)
    (c.deref-6.ensures.value ∙ sym o) c.deref-4.ensures.value c.add_readers.new.ranges.items
    c.add_exits.new.ranges.items
    (subst (λ (l : List Range). AddsPoints l c.add_readers.new.ranges.items
    (λ at. ForSome c.deref-2.result.now (λ r. IsKeptFor c.deref.result.now c.deref-3.result.now r at)))
    c.new-ranges.ensures.items c.in_ok-add_readers.ensures)
    (subst (λ (x : List ℕ). AddsPoints c.add_readers.new.ranges.items c.add_exits.new.ranges.items
    (λ at. ForSome c.deref-6.result.now (λ b. ForSome (row_at (rows_of c.deref-4.result.now) b)
    (λ h. IsKeptOut c.deref-5.result.now x h at)))) same c.in_ok-add_exits.ensures)
