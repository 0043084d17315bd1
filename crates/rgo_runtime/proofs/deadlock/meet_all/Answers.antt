use Rattle.std.proofs.Common.{◌≤◌, ◌∙◌, ap, arith, get_or, length, take}
use Rattle.std.proofs.lemmas.List.Elements.{All-set}
use Rattle.rgo_table_runs.specs.Goroutine.Goroutines.{IsOf}
use Rattle.rgo_runtime.specs.Boxes.{in_boxes}
use Rattle.rgo_runtime.specs.Passing.{HasMet, IsBehind, seen_by}
use Rattle.rgo_runtime.proofs.lists.Boxing.{boxes_set, has_too, in_box}
use Rattle.rgo_runtime.proofs.passes.Meetings.{at_least, met_by, now_behind, still_behind}
use Rattle.rgo_runtime.proofs.lists.Sweeps.{all_more, swept_more}
use Rattle.rgo_runtime.proofs.deadlock.meet_all.Goals as goal

pub meet-requires-clause-of : goal.meet-requires-clause-of
meet-requires-clause-of c =
    let boxes = c.loop-i.goroutines in
    let i = c.loop-i.i in
    let old = c.as_mut.result.now in
    let at = in_box boxes i _ c.index-goroutines-i.result old c.loop-i.auto.goroutines c.loop-i-test.true c.as_mut.ensures.value in
    has_too (IsOf c.args.run.now) boxes i old at c.loop-i.invariant.all

pub loop-i-preserved : goal.loop-i-preserved
loop-i-preserved c =
    let run = c.args.run.now in
    let boxes = c.loop-i.goroutines in
    let gos = in_boxes boxes in
    let i = c.loop-i.i in
    let old = c.as_mut.result.now in
    let new = c.meet.new.self in
    let before = c.loop-i.seat.me.0.seen in
    let after = c.meet.new.seat.me.0.seen in
    let at = in_box boxes i _ c.index-goroutines-i.result old c.loop-i.auto.goroutines c.loop-i-test.true c.as_mut.ensures.value in
    let of = has_too (IsOf run) boxes i old at c.loop-i.invariant.all in
    let m = met_by run old new before after of c.meet.ensures.of (ap (λ me. me.0.seen) c.meet.ensures.seat) c.meet.ensures.seen c.meet.ensures.rest
    c.meet.ensures.record in
    let more : length before ≤ length after = omega (arith, (at_least before (seen_by old)).0, ap length m.seat) in
    rw (boxes_set boxes i (get_or boxes i c.index-goroutines-i.result) new)
    (record {
      all = All-set (IsOf run) gos i new c.meet.ensures.of c.loop-i.invariant.all;
      own = c.meet.ensures.own ∙ c.loop-i.invariant.own;
      rows = (ap (λ me. me.0.records) c.meet.ensures.seat ∙ c.loop-i.invariant.rows.0, ap (λ me. me.1) c.meet.ensures.seat ∙ c.loop-i.invariant.rows.1);
      met = swept_more (HasMet run.setup) (in_boxes c.args.goroutines.now) gos i old new c.loop-i.invariant.met at.within at.is m.met;
      behind = all_more (IsBehind after) gos i new at.within (still_behind before after more (take i gos) c.loop-i.invariant.behind)
          (now_behind run.setup old new before after m);
    })
