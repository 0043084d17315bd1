-- The goroutines come out, have the pass, and come back: `CrewHasPassed` has what the three calls ensure, and every clause follows from it.
-- In the meantime the crew has no goroutine in its queue, and its invariant is claimed only when they are back.
use Rattle.std.proofs.Common.{◌∙◌, All, ap, length, map, reverse, subst, sym}
use Rattle.rgo_runtime.specs.Boxes.{in_boxes}
use Rattle.rgo_runtime.specs.Crews.{MayTurn}
use Rattle.rgo_runtime.specs.CrewView.{crew_view}
use Rattle.rgo_runtime.specs.Turns.{first_turn}
use Rattle.rgo_runtime.proofs.lists.Boxing.{boxes_length}
use Rattle.rgo_runtime.proofs.passes.Crews.{CrewHasPassed, all_passed, crew_passed, pass_length, pass_may_turn, passed_kept, written_back}
use Rattle.rgo_runtime.proofs.crew.Crew.check_dead.Goals as goal

pub drain_ready-requires : goal.drain_ready-requires
drain_ready-requires c = record { crew = (length c.self.inside.shares, c.self.invariant.ready) }

pub refill_ready-requires-clause-rest : goal.refill_ready-requires-clause-rest
refill_ready-requires-clause-rest c =
    let r = c.self.inside.run.now in
    let before = in_boxes c.as_mut_slice.result.now in
    let boxes = c.check_uncounted-passed.new.goroutines in
    let after = in_boxes boxes in
    let its = c.check_uncounted-passed.ensures in
    let may : All (MayTurn r) before = subst (All (MayTurn r)) (sym (ap in_boxes c.as_mut_slice.ensures.value)) c.in_ok-goroutines.ensures.rest in
    let me = c.check_uncounted-passed.new.seat.me in
    let passed = c.check_uncounted-passed.result in
    let long = sym (boxes_length boxes)
    ∙ (pass_length r me before after passed its.passed ∙ (boxes_length c.as_mut_slice.result.now ∙ c.as_mut_slice.ensures.len)) in
    subst (λ bs. All (MayTurn r) (in_boxes bs)) (sym (written_back c.in_ok-goroutines.goroutines.len boxes _ long))
    (pass_may_turn r me before after passed its.passed its.all its.tidy may)

-- what has happened to those that were ready
crew_has_passed : (c : goal.After-refill_ready)
    → CrewHasPassed (crew_view c.self.inside) (in_boxes c.as_mut_slice.result.now) (in_boxes c.check_uncounted-passed.new.goroutines)
    c.check_uncounted-passed.new.seat.table_id
    c.check_uncounted-passed.new.seat.me c.refill_ready.new.ready.items c.check_uncounted-passed.result
crew_has_passed c =
    let r = c.self.inside.run.now in
    let before = in_boxes c.as_mut_slice.result.now in
    let boxes = c.check_uncounted-passed.new.goroutines in
    let after = in_boxes boxes in
    let its = c.check_uncounted-passed.ensures in
    let me = c.check_uncounted-passed.new.seat.me in
    let long = sym (boxes_length boxes)
    ∙ (pass_length r me before after c.check_uncounted-passed.result its.passed
    ∙ (boxes_length c.as_mut_slice.result.now ∙ c.as_mut_slice.ensures.len)) in
    record {
      out = ap in_boxes c.as_mut_slice.ensures.value ∙ c.in_ok-goroutines.ensures.taken;
      may = subst (All (MayTurn r)) (sym (ap in_boxes c.as_mut_slice.ensures.value)) c.in_ok-goroutines.ensures.rest;
      pass = its.passed;
      is = its.all;
      behind = its.behind;
      same = its.own;
      rows = its.rows.0;
      back = c.refill_ready.ensures.back
          ∙ ap (λ bs. map (first_turn r) (reverse (in_boxes bs))) (written_back c.in_ok-goroutines.goroutines.len boxes _ long);
    }

pub invariant_of-self-2 : goal.invariant_of-self-2
invariant_of-self-2 c = crew_passed _ _ _ _ _ _ _ (crew_has_passed c) c.self.invariant

pub returns-clause-kept : goal.returns-clause-kept
returns-clause-kept c = passed_kept _ _ _ _ _ _ _ (crew_has_passed c) c.self.invariant c.args.self.now c.self.view_is

pub returns-clause-passed : goal.returns-clause-passed
returns-clause-passed c = all_passed _ _ _ _ _ _ _ (crew_has_passed c) c.self.invariant c.args.self.now c.self.view_is
