-- `pop` takes the last, so the goroutines come out in reverse. What `refill_ready` requires of each (`MayTurn`) is what the invariant of
-- its turn says (`CanTurn`).
use Rattle.std.proofs.Common.{◌∙◌, ◌++◌, [], Some, ap, append-nil, arith, map, refl, reverse}
use Rattle.std.proofs.lemmas.List.Elements.{All-nil, All-pop, All-push, All-same}
use Rattle.rgo_runtime.specs.Boxes.{in_boxes}
use Rattle.rgo_runtime.specs.Crews.{IsOfCrew, MayTurn, its_goroutine}
use Rattle.rgo_runtime.proofs.lists.Boxing.{boxes_more}
use Rattle.rgo_runtime.proofs.passes.Crews.{all_taken, may_turn, nothing_left, taken_more}
use Rattle.rgo_runtime.proofs.crew.drain_ready.Goals as goal

pub loop-turn-init : goal.loop-turn-init
loop-turn-init c =
    let none = c.reserve.ensures.items ∙ c.new-goroutines.ensures.items in
    record {
      crew = c.requires.crew;
      taken = ap (λ l. in_boxes l ++ reverse (map its_goroutine c.args.ready.now.items)) none;
      rest = All-same (MayTurn c.args.run.now) (in_boxes c.reserve.new.self.items) [] (ap in_boxes none) (All-nil (MayTurn c.args.run.now));
      capacity = refl;
      room = omega (arith, c.in_ok-reserve.ensures.ok, c.len.ensures);
    }

pub loop-turn-preserved : goal.loop-turn-preserved
loop-turn-preserved c =
    let r = c.args.run.now in
    let xs = c.loop-turn.ready.items in
    let ys = c.pop.new.self.items in
    let t = c.in-Some.turn in
    let boxes = c.loop-turn.goroutines.items in
    let boxed = c.into_box.result in
    let more = ap in_boxes c.push_reserved.ensures.items ∙ boxes_more boxes boxed in
    let so_far = c.loop-turn.invariant in
    let n = so_far.crew.0 in
    let its = All-pop (IsOfCrew r n) xs ys (Some t) c.in-Some.ensures.items so_far.crew.1 in
    let out = c.into_box.ensures in
    record {
      crew = (n, its.0);
      taken = rw more (taken_more its_goroutine xs ys t boxed.value (in_boxes boxes) _ c.in-Some.ensures.items out.same so_far.taken);
      rest = rw more
          (All-push (MayTurn r) (in_boxes boxes) boxed.value so_far.rest (may_turn r n t boxed.value its.1 out.of out.tidy out.few));
      capacity = c.pop.ensures.capacity ∙ so_far.capacity;
      room = omega (arith, so_far.room, c.in-Some.ensures.cases, c.push_reserved.ensures.len, c.push_reserved.ensures.capacity);
    }

pub returns-clause-none : goal.returns-clause-none
returns-clause-none c = nothing_left _ _ _ c.in_default.ensures.rest c.in_default.ensures.cases.0

pub returns-clause-taken : goal.returns-clause-taken
returns-clause-taken c =
    let xs = c.loop-turn.ready.items in
    let ys = c.pop.new.self.items in
    let left = nothing_left xs ys _ c.in_default.ensures.rest c.in_default.ensures.cases.0 in
    all_taken its_goroutine xs (in_boxes c.loop-turn.goroutines.items) _ (c.in_default.ensures.items ∙ (append-nil ys ∙ left)) c.loop-turn.invariant.taken
