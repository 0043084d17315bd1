use Rattle.std.proofs.Common.{◌++◌, ◌∙◌, List, ap, append_assoc, get_or, take}
use Rattle.std.proofs.lemmas.List.Elements.{All-set}
use Rattle.rgo_core.specs.Rule.declared.accesses.Access.{Access}
use Rattle.rgo_table_runs.specs.Goroutine.Goroutines.{IsOf}
use Rattle.rgo_runtime.specs.Boxes.{in_boxes}
use Rattle.rgo_runtime.specs.Passing.{HasLookedOnce, IsBehind, IsKnownBy}
use Rattle.rgo_runtime.proofs.lists.Boxing.{boxes_set, has_too, in_box}
use Rattle.rgo_runtime.proofs.passes.Meetings.{all_behind_more, all_known_after}
use Rattle.rgo_runtime.proofs.lists.Sweeps.{all_more, swept_more}
use Rattle.rgo_runtime.proofs.deadlock.look_all.Goals as goal

pub look_once-requires-clause-of : goal.look_once-requires-clause-of
look_once-requires-clause-of c =
    let boxes = c.loop-i.goroutines in
    let i = c.loop-i.i in
    let old = c.as_mut.result.now in
    let at = in_box boxes i _ c.index-goroutines-i.result old c.loop-i.auto.goroutines c.loop-i-test.true c.as_mut.ensures.value in
    has_too (IsOf c.args.run.now) boxes i old at c.loop-i.invariant.all

pub look_once-requires-clause-behind : goal.look_once-requires-clause-behind
look_once-requires-clause-behind c =
    let boxes = c.loop-i.goroutines in
    let i = c.loop-i.i in
    let old = c.as_mut.result.now in
    let at = in_box boxes i _ c.index-goroutines-i.result old c.loop-i.auto.goroutines c.loop-i-test.true c.as_mut.ensures.value in
    has_too (IsBehind c.loop-i.seat.me.0.seen) boxes i old at c.loop-i.invariant.behind

pub loop-i-preserved : goal.loop-i-preserved
loop-i-preserved c =
    let run = c.args.run.now in
    let boxes = c.loop-i.goroutines in
    let gos = in_boxes boxes in
    let i = c.loop-i.i in
    let old = c.as_mut.result.now in
    let new = c.look_once.new.goroutine in
    let before = c.loop-i.seat.me.0.seen in
    let after = c.look_once.new.seat.me.0.seen in
    let at = in_box boxes i _ c.index-goroutines-i.result old c.loop-i.auto.goroutines c.loop-i-test.true c.as_mut.ensures.value in
    let es = c.look_once.ensures.looks.es in
    let more = c.look_once.ensures.looks.seen in
    let earlier = c.loop-i.invariant.seen in
    rw (boxes_set boxes i (get_or boxes i c.index-goroutines-i.result) new)
    (record {
      all = All-set (IsOf run) gos i new c.look_once.ensures.of c.loop-i.invariant.all;
      own = c.look_once.ensures.own ∙ c.loop-i.invariant.own;
      rows = (c.look_once.ensures.rows.0 ∙ c.loop-i.invariant.rows.0, c.look_once.ensures.rows.1 ∙ c.loop-i.invariant.rows.1);
      looked = swept_more (HasLookedOnce run.setup) (in_boxes c.args.goroutines.now) gos i old new c.loop-i.invariant.looked at.within at.is
          c.look_once.ensures.looks.looked;
      seen = (earlier.0 ++ es, more ∙ (ap (λ (l : List Access). l ++ es) earlier.1 ∙ append_assoc c.args.seat.now.me.0.seen earlier.0 es));
      known = all_more (IsKnownBy run.setup after) gos i new at.within
          (all_known_after run.setup before after es more (take i gos) c.loop-i.invariant.known)
          c.look_once.ensures.looks.known;
      behind = All-set (IsBehind after) gos i new c.look_once.ensures.looks.behind (all_behind_more before after es more gos c.loop-i.invariant.behind);
    })
