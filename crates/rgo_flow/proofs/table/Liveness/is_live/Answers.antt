use Rattle.std.proofs.Common.{◌≡◌, ℕ, List, Vec, arith, sym, subst, ◌∙◌, get_or}
use Rattle.std.specs.Global.{Global}
use Rattle.std.proofs.lemmas.List.{get_or_default}
use Rattle.rgo_graphs.specs.Rows.{rows_of, row_at, IsAscending}
use Rattle.rgo_graphs.proofs.Pushed.{row_is, rows_long}
use Rattle.rgo_flow.specs.Solved.{IsLiveFrom}
use Rattle.rgo_flow.proofs.table.Liveness.is_live.Goals as goal

pub live_by-requires-clause-exits : goal.live_by-requires-clause-exits
live_by-requires-clause-exits c = rw c.deref.ensures.value c.args.self.now.table.exits_in

pub live_by-requires-clause-readers : goal.live_by-requires-clause-readers
live_by-requires-clause-readers c =
    let s = c.args.self.now in
    let e = row_is s.readers.items c.args.variable c.index-3.result.now (omega arith) c.index-3.ensures in
    subst (λ (l : List ℕ). IsAscending l) (e ∙ sym c.deref-2.ensures.value) (s.table.readers_up c.args.variable)

pub live_by-requires-clause-writers : goal.live_by-requires-clause-writers
live_by-requires-clause-writers c =
    let s = c.args.self.now in
    let e = row_is s.writers.items c.args.variable c.index-4.result.now
    (omega (
      arith,
      s.table.written,
      rows_long s.writers.items,
      rows_long s.readers.items,
    )) c.index-4.ensures in
    subst (λ (l : List ℕ). IsAscending l) (e ∙ sym c.deref-3.ensures.value) (s.table.writers_up c.args.variable)

pub live_by-requires-clause-solved : goal.live_by-requires-clause-solved
live_by-requires-clause-solved c =
    let s = c.args.self.now in
    let e = row_is s.solved.items c.args.variable c.index-5.result.now
    (omega (
      arith,
      s.table.solved_long,
      rows_long s.solved.items,
      rows_long s.readers.items,
    )) c.index-5.ensures in
    subst (λ (l : List ℕ). IsAscending l) (e ∙ sym c.deref-4.ensures.value) (s.table.solved_up c.args.variable)

pub returns-clause-no : goal.returns-clause-no
returns-clause-no c = λ h.
    let s = c.args.self.now in
    let r = row_is s.readers.items c.args.variable c.index-3.result.now (omega arith) c.index-3.ensures
    ∙ sym c.deref-2.ensures.value in
    let w = row_is s.writers.items c.args.variable c.index-4.result.now
    (omega (
      arith,
      s.table.written,
      rows_long s.writers.items,
      rows_long s.readers.items,
    )) c.index-4.ensures ∙ sym c.deref-3.ensures.value in
    let o = row_is s.solved.items c.args.variable c.index-5.result.now
    (omega (
      arith,
      s.table.solved_long,
      rows_long s.solved.items,
      rows_long s.readers.items,
    )) c.index-5.ensures ∙ sym c.deref-4.ensures.value in
    let f : get_or s.first.items c.args.point 0 ≡ c.index.result.now =
    sym (c.index.ensures ∙ get_or_default s.first.items c.args.point c.index.result.now 0 (omega arith)) in
    let l : get_or s.last.items c.args.point 0 ≡ c.index-2.result.now =
    sym (c.index-2.ensures ∙ get_or_default s.last.items c.args.point c.index-2.result.now 0
    (omega (arith, s.table.lasts))) in
    c.live_by.ensures.no
    (subst (λ (q : List (Vec ℕ Global)). IsLiveFrom
    (rows_of q) c.index.result.now c.index-2.result.now c.deref-2.result.now c.deref-3.result.now c.deref-4.result.now
    c.args.point) (sym c.deref.ensures.value)
    (subst (λ (q : ℕ). IsLiveFrom
    (rows_of s.exits.items) q c.index-2.result.now c.deref-2.result.now c.deref-3.result.now c.deref-4.result.now
    c.args.point) f
    (subst (λ (q : ℕ). IsLiveFrom (rows_of s.exits.items)
    (get_or s.first.items c.args.point 0) q c.deref-2.result.now c.deref-3.result.now c.deref-4.result.now
    c.args.point) l
    (subst (λ (q : List ℕ). IsLiveFrom (rows_of s.exits.items) (get_or s.first.items c.args.point 0)
    (get_or s.last.items c.args.point 0) q c.deref-3.result.now c.deref-4.result.now c.args.point) r
    (subst (λ (q : List ℕ). IsLiveFrom (rows_of s.exits.items) (get_or s.first.items c.args.point 0)
    (get_or s.last.items c.args.point 0) (row_at
    (rows_of s.readers.items) c.args.variable) q c.deref-4.result.now c.args.point) w
    (subst (λ (q : List ℕ). IsLiveFrom (rows_of s.exits.items) (get_or s.first.items c.args.point 0)
    (get_or s.last.items c.args.point 0) (row_at (rows_of s.readers.items) c.args.variable)
    (row_at (rows_of s.writers.items) c.args.variable) q c.args.point) o h.live))))))
