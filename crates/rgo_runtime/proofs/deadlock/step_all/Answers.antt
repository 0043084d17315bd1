-- Three ways: a turn that moved ends the loop, and then only what holds of each goroutine is left to show; one that stood still adds one
-- goroutine to those that have passed; at the end all have. The element that changes is in a box, so each fact goes through `in_box` and
-- `boxes_set`.
use Rattle.std.proofs.Common.{◌<◌, ◌≤◌, ◌++◌, ◌∙◌, ◌∷◌, [], List, ap, append_assoc, arith, get_or, length, set, subst, sym, take}
use Rattle.std.proofs.lemmas.List.{take_all, take_more_set}
use Rattle.std.proofs.lemmas.List.Elements.{All-get_or, All-set}
use Rattle.rgo_core.specs.Rule.declared.accesses.Access.{Access}
use Rattle.rgo_table_runs.specs.Goroutine.Goroutines.{IsOf}
use Rattle.rgo_table_runs.specs.Goroutine.declared.goroutine.Goroutine.{Goroutine}
use Rattle.rgo_runtime.specs.declared.deadlock.Passed.{Passed}
use Rattle.rgo_runtime.specs.Boxes.{in_boxes}
use Rattle.rgo_runtime.specs.Passing.{HasStoodStill, IsBehind, IsKnownBy, IsTidyIn, MayHaveTurned}
use Rattle.rgo_runtime.proofs.lists.Boxing.{boxes_length, boxes_set, has_too, in_box}
use Rattle.rgo_runtime.proofs.passes.Meetings.{all_behind_more, all_known_after}
use Rattle.rgo_runtime.proofs.lists.Sweeps.{swept_all, swept_at, swept_more, swept_part, swept_weaker, zip_weaker}
use Rattle.rgo_runtime.proofs.crews.Turning.{HavePassed, all_still, may_have, may_turn, one_moved, one_passed, still_by, unchanged}
use Rattle.rgo_runtime.proofs.deadlock.step_all.Goals as goal

pub step_once-next-requires-clause-of : goal.step_once-next-requires-clause-of
step_once-next-requires-clause-of g c =
    let boxes = c.loop-i.goroutines in
    let i = c.loop-i.i in
    let old = c.as_mut.result.now in
    let at = in_box boxes i _ c.index-goroutines-i.result old c.loop-i.auto.goroutines c.loop-i-test.true c.as_mut.ensures.value in
    has_too (IsOf c.args.run.now) boxes i old at c.loop-i.invariant.all

pub step_once-next-requires-clause-behind : goal.step_once-next-requires-clause-behind
step_once-next-requires-clause-behind g c =
    let boxes = c.loop-i.goroutines in
    let i = c.loop-i.i in
    let old = c.as_mut.result.now in
    let at = in_box boxes i _ c.index-goroutines-i.result old c.loop-i.auto.goroutines c.loop-i-test.true c.as_mut.ensures.value in
    has_too (IsBehind c.loop-i.seat.me.0.seen) boxes i old at c.loop-i.invariant.behind

pub returns-then-is_moved-clause-all : goal.returns-then-is_moved-clause-all
returns-then-is_moved-clause-all g c =
    let boxes = c.loop-i.goroutines in
    let i = c.loop-i.i in
    let new = c.step_once-next.new.goroutine in
    rw (boxes_set boxes i (get_or boxes i c.index-goroutines-i.result) new)
    (All-set (IsOf c.args.run.now) (in_boxes boxes) i new c.step_once-next.ensures.of c.loop-i.invariant.all)

pub returns-then-is_moved-clause-known : goal.returns-then-is_moved-clause-known
returns-then-is_moved-clause-known g c =
    let run = c.args.run.now in
    let boxes = c.loop-i.goroutines in
    let gos = in_boxes boxes in
    let i = c.loop-i.i in
    let old = c.as_mut.result.now in
    let new = c.step_once-next.new.goroutine in
    let before = c.loop-i.seat.me.0.seen in
    let after = c.step_once-next.new.seat.me.0.seen in
    let turns = c.step_once-next.ensures.turns in
    let at = in_box boxes i _ c.index-goroutines-i.result old c.loop-i.auto.goroutines c.loop-i-test.true c.as_mut.ensures.value in
    let known = has_too (IsKnownBy run.setup before) boxes i old at c.loop-i.invariant.known in
    rw (boxes_set boxes i (get_or boxes i c.index-goroutines-i.result) new)
    (All-set (IsKnownBy run.setup after) gos i new (turns.known known)
    (all_known_after run.setup before after turns.es turns.seen gos c.loop-i.invariant.known))

pub returns-then-is_moved-clause-behind : goal.returns-then-is_moved-clause-behind
returns-then-is_moved-clause-behind g c =
    let boxes = c.loop-i.goroutines in
    let gos = in_boxes boxes in
    let i = c.loop-i.i in
    let new = c.step_once-next.new.goroutine in
    let before = c.loop-i.seat.me.0.seen in
    let after = c.step_once-next.new.seat.me.0.seen in
    let turns = c.step_once-next.ensures.turns in
    rw (boxes_set boxes i (get_or boxes i c.index-goroutines-i.result) new)
    (All-set (IsBehind after) gos i new turns.behind (all_behind_more before after turns.es turns.seen gos c.loop-i.invariant.behind))

pub returns-then-is_moved-clause-tidy : goal.returns-then-is_moved-clause-tidy
returns-then-is_moved-clause-tidy g c = λ all.
    let T = c.args.run.now.setup in
    let boxes = c.loop-i.goroutines in
    let i = c.loop-i.i in
    let old = c.as_mut.result.now in
    let new = c.step_once-next.new.goroutine in
    let at = in_box boxes i _ c.index-goroutines-i.result old c.loop-i.auto.goroutines c.loop-i-test.true c.as_mut.ensures.value in
    let tidy = c.loop-i.invariant.tidy all in
    rw (boxes_set boxes i (get_or boxes i c.index-goroutines-i.result) new)
    (All-set (IsTidyIn T) (in_boxes boxes) i new (c.step_once-next.ensures.turns.tidy (has_too (IsTidyIn T) boxes i old at tidy)) tidy)

pub returns-then-is_moved-clause-turned : goal.returns-then-is_moved-clause-turned
returns-then-is_moved-clause-turned g c =
    let run = c.args.run.now in
    let olds = in_boxes c.args.goroutines.now in
    let boxes = c.loop-i.goroutines in
    let gos = in_boxes boxes in
    let i = c.loop-i.i in
    let old = c.as_mut.result.now in
    let new = c.step_once-next.new.goroutine in
    let at = in_box boxes i _ c.index-goroutines-i.result old c.loop-i.auto.goroutines c.loop-i-test.true c.as_mut.ensures.value in
    let so_far = swept_weaker (HasStoodStill run) (MayHaveTurned run) (may_turn run) olds gos i c.loop-i.invariant.still in
    rw (boxes_set boxes i (get_or boxes i c.index-goroutines-i.result) new)
    (swept_part (MayHaveTurned run) (unchanged run) olds (set gos i new) _
    (swept_more (MayHaveTurned run) olds gos i old new so_far at.within at.is
    (may_have run c.step_once-next.result old new c.step_once-next.ensures.turns.come)))

pub returns-then-is_moved-clause-passed : goal.returns-then-is_moved-clause-passed
returns-then-is_moved-clause-passed g c =
    let run = c.args.run.now in
    let olds = in_boxes c.args.goroutines.now in
    let boxes = c.loop-i.goroutines in
    let gos = in_boxes boxes in
    let i = c.loop-i.i in
    let old = c.as_mut.result.now in
    let new = c.step_once-next.new.goroutine in
    let at = in_box boxes i _ c.index-goroutines-i.result old c.loop-i.auto.goroutines c.loop-i-test.true c.as_mut.ensures.value in
    let first : i < length olds = omega (arith, boxes_length c.args.goroutines.now, c.loop-i-test.true) in
    let was = swept_at (HasStoodStill run) olds gos i old c.loop-i.invariant.still at.within at.is in
    rw (boxes_set boxes i (get_or boxes i c.index-goroutines-i.result) new)
    (one_moved run olds gos i old new c.step_once-next.result (sym c.is_moved.ensures ∙ c.if-is_moved.true) first at.within was
    c.step_once-next.ensures.turns.come)

pub loop-i-preserved : goal.loop-i-preserved
loop-i-preserved g c =
    let run = c.args.run.now in
    let olds = in_boxes c.args.goroutines.now in
    let boxes = c.loop-i.goroutines in
    let gos = in_boxes boxes in
    let i = c.loop-i.i in
    let old = c.as_mut.result.now in
    let new = c.step_once-next.new.goroutine in
    let next = c.step_once-next.result in
    let start = c.args.seat.now.me.0.seen in
    let before = c.loop-i.seat.me.0.seen in
    let after = c.step_once-next.new.seat.me.0.seen in
    let turns = c.step_once-next.ensures.turns in
    let earlier = c.loop-i.invariant.seen in
    let at = in_box boxes i _ c.index-goroutines-i.result old c.loop-i.auto.goroutines c.loop-i-test.true c.as_mut.ensures.value in
    let known = has_too (IsKnownBy run.setup before) boxes i old at c.loop-i.invariant.known in
    let was = swept_at (HasStoodStill run) olds gos i old c.loop-i.invariant.still at.within at.is in
    let inside : i < length olds = omega (arith, boxes_length c.args.goroutines.now, c.loop-i-test.true) in
    let first = subst (IsKnownBy run.setup start) (sym was) (All-get_or (IsKnownBy run.setup start) olds i old inside c.requires.known) in
    let stays = sym c.is_moved.ensures ∙ c.if-is_moved.false in
    let passed = one_passed run.setup start before after turns.es (take i gos) new c.loop-i.passed next turns.seen stays c.loop-i.invariant.passed
    (turns.passes start earlier.0 earlier.1 first) in
    rw (boxes_set boxes i (get_or boxes i c.index-goroutines-i.result) new)
    (record {
      all = All-set (IsOf run) gos i new c.step_once-next.ensures.of c.loop-i.invariant.all;
      own = c.step_once-next.ensures.own ∙ c.loop-i.invariant.own;
      rows = (c.step_once-next.ensures.rows.0 ∙ c.loop-i.invariant.rows.0, c.step_once-next.ensures.rows.1 ∙ c.loop-i.invariant.rows.1);
      seen = (earlier.0 ++ turns.es, turns.seen ∙ (ap (λ (l : List Access). l ++ turns.es) earlier.1 ∙ append_assoc start earlier.0 turns.es));
      known = All-set (IsKnownBy run.setup after) gos i new (turns.known known)
          (all_known_after run.setup before after turns.es turns.seen gos c.loop-i.invariant.known);
      behind = All-set (IsBehind after) gos i new turns.behind (all_behind_more before after turns.es turns.seen gos c.loop-i.invariant.behind);
      tidy = λ all. All-set (IsTidyIn run.setup) gos i new
          (turns.tidy (has_too (IsTidyIn run.setup) boxes i old at (c.loop-i.invariant.tidy all)))
          (c.loop-i.invariant.tidy all);
      still = swept_more (HasStoodStill run) olds gos i old new c.loop-i.invariant.still at.within at.is (still_by run next old new stays turns.come);
      passed = subst (λ (l : List Goroutine). HavePassed run.setup start after l c.and-passed.result) (sym (take_more_set gos i new at.within))
          (subst (λ (p : Passed). HavePassed run.setup start after (take i gos ++ new ∷ []) p) (sym c.and-passed.ensures) passed);
    })

pub returns-clause-turned : goal.returns-clause-turned
returns-clause-turned g c =
    let run = c.args.run.now in
    let olds = in_boxes c.args.goroutines.now in
    let boxes = c.loop-i.goroutines in
    let gos = in_boxes boxes in
    let end : length gos ≤ c.loop-i.i = omega (arith, boxes_length boxes, c.loop-i-test.false, c.loop-i.auto.goroutines) in
    zip_weaker (HasStoodStill run) (MayHaveTurned run) (may_turn run) olds gos
    (swept_all (HasStoodStill run) olds gos c.loop-i.i c.loop-i.invariant.still end)

pub returns-clause-passed : goal.returns-clause-passed
returns-clause-passed g c =
    let run = c.args.run.now in
    let olds = in_boxes c.args.goroutines.now in
    let boxes = c.loop-i.goroutines in
    let gos = in_boxes boxes in
    let i = c.loop-i.i in
    let start = c.args.seat.now.me.0.seen in
    let seen = c.loop-i.seat.me.0.seen in
    let end : length gos ≤ i = omega (arith, boxes_length boxes, c.loop-i-test.false, c.loop-i.auto.goroutines) in
    all_still run start seen olds gos c.loop-i.passed
    (swept_all (HasStoodStill run) olds gos i c.loop-i.invariant.still end)
    (subst (λ (l : List Goroutine). HavePassed run.setup start seen l c.loop-i.passed) (take_all i gos end) c.loop-i.invariant.passed)
