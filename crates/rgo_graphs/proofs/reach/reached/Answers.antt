use Rattle.std.proofs.Common.{◌<◌, arith, ◌∙◌, sym, ap, ℕ, List, subst, length}
use Rattle.std.proofs.lemmas.List.{get_or_default}
use Rattle.std.specs.List.{Contains}
use Rattle.std.proofs.lemmas.List.Elements.{Contains-get_or}
use Rattle.rgo_graphs.specs.Rows.{rows_of, row_at}
use Rattle.rgo_graphs.specs.Visits.{Visits}
use Rattle.rgo_graphs.proofs.Searching.{begun, turn, done, enough}
use Rattle.rgo_graphs.proofs.Pushed.{row_is, rows_long}
use Rattle.rgo_graphs.proofs.reach.reached.Goals as goal

pub visit_all-requires : goal.visit_all-requires
visit_all-requires c = record { inside = λ p h. omega (arith, c.requires.size, c.requires.seeds p h) }

pub bar_all-requires : goal.bar_all-requires
bar_all-requires c = record {
  inside = λ p h. omega
      (arith, c.requires.size, c.requires.barriers p h, c.visit_all.ensures.len);
}

pub loop-next-init : goal.loop-next-init
loop-next-init c =
    begun (rows_of c.args.before.now) c.args.seeds.now c.args.barriers.now c.args.stamp c.args.marks.now
    c.visit_all.new.marks c.bar_all.new.marks c.visit_all.new.found.items
    (c.requires.size ∙ sym (rows_long c.args.before.now))
    (λ p h. omega (arith, rows_long c.args.before.now, c.requires.seeds p h))
    c.requires.some c.requires.fresh
    (subst (λ (f : List ℕ). Visits c.args.stamp f c.args.marks.now c.visit_all.new.found.items c.visit_all.new.marks
    c.args.seeds.now) c.new-found.ensures.items c.in_ok-visit_all.ensures.visits)
    c.bar_all.ensures.bars

pub bounds-before-j : goal.bounds-before-j
bounds-before-j c =
    let h : c.loop-next.next < length c.loop-next.found.items = omega arith in
    let m = Contains-get_or c.loop-next.found.items c.loop-next.next c.index-j.result.now h in
    let i = c.loop-next.invariant.inside _ (subst (Contains c.loop-next.found.items)
    (sym c.index-j.ensures) m) in
    omega (arith, rows_long c.args.before.now, i)

pub visit_all-requires-in-loop-next : goal.visit_all-requires-in-loop-next
visit_all-requires-in-loop-next c =
    let h : c.loop-next.next < length c.loop-next.found.items = omega arith in
    let m = Contains-get_or c.loop-next.found.items c.loop-next.next c.index-j.result.now h in
    let i = c.loop-next.invariant.inside _ (subst (Contains c.loop-next.found.items)
    (sym c.index-j.ensures) m) in
    let l : c.index-j.result.now < length c.args.before.now = omega (arith, rows_long c.args.before.now, i) in
    let e = row_is c.args.before.now c.index-j.result.now c.index-before-j.result l c.index-before-j.is in
    record {
      inside = λ p h. omega (
        arith,
        c.loop-next.invariant.size,
        rows_long c.args.before.now,
        c.requires.rows c.index-j.result.now p (subst (λ (r : List ℕ). Contains r p)
            (c.deref.ensures.value ∙ sym e) h),
      );
    }

pub loop-next-smaller : goal.loop-next-smaller
loop-next-smaller c = omega (arith, enough _ _ _ _ _ _ _ c.loop-next.invariant, rows_long c.args.before.now)

pub loop-next-preserved : goal.loop-next-preserved
loop-next-preserved c =
    let h : c.loop-next.next < length c.loop-next.found.items = omega arith in
    let m = Contains-get_or c.loop-next.found.items c.loop-next.next c.index-j.result.now h in
    let i = c.loop-next.invariant.inside _ (subst (Contains c.loop-next.found.items)
    (sym c.index-j.ensures) m) in
    let l : c.index-j.result.now < length c.args.before.now = omega (arith, rows_long c.args.before.now, i) in
    let e = row_is c.args.before.now c.index-j.result.now c.index-before-j.result l c.index-before-j.is in
    let j = c.index-j.ensures
    ∙ get_or_default c.loop-next.found.items c.loop-next.next c.index-j.result.now 0 h in
    turn (rows_of c.args.before.now) c.args.seeds.now c.args.barriers.now c.args.stamp c.loop-next.marks
    c.visit_all-in-loop-next.new.marks c.loop-next.found.items c.visit_all-in-loop-next.new.found.items
    c.deref.result.now c.loop-next.next
    (λ j p r. omega (arith, rows_long c.args.before.now, c.requires.rows j p r))
    h
    (ap (λ k. row_at (rows_of c.args.before.now) k) (sym j) ∙ e ∙ sym c.deref.ensures.value)
    c.loop-next.invariant c.in_ok-visit_all-2.ensures.visits

pub returns-clause-found : goal.returns-clause-found
returns-clause-found c = λ p. (
  λ h. c.loop-next.invariant.sound p h,
  λ h. done _ _ _ _ _ _ c.loop-next.next (omega arith) c.loop-next.invariant h.0 p h.1,
)
