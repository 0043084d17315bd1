-- The last comes back first, so the order is that of before. `MayTurn` of each is what `Turn::new` requires; the queue kept its capacity,
-- so each push has room.
use Rattle.std.proofs.Common.{◌≡◌, ◌∙◌, List, [], ◌∷◌, ◌++◌, All, Some, ap, append-nil, arith, length, map, reverse}
use Rattle.std.proofs.lemmas.List.Elements.{All-pop}
use Rattle.rgo_table_runs.specs.Goroutine.Acts.Runs.{Run}
use Rattle.rgo_table_runs.specs.Goroutine.declared.goroutine.Goroutine.{Goroutine}
use Rattle.rgo_runtime.specs.Boxes.{in_boxes}
use Rattle.rgo_runtime.specs.Crews.{MayTurn}
use Rattle.rgo_runtime.specs.Turns.{first_turn}
use Rattle.rgo_runtime.proofs.lists.Boxing.{boxes_more}
use Rattle.rgo_runtime.proofs.passes.Crews.{all_put, nothing_left, put_more}
use Rattle.rgo_runtime.proofs.crew.refill_ready.Goals as goal

pub loop-goroutine-init : goal.loop-goroutine-init
loop-goroutine-init c = record {
  rest = c.requires.rest;
  back = ap (λ l. l ++ map (first_turn c.args.run.now) (reverse (in_boxes c.args.goroutines.items))) c.requires.none;
  room = omega (arith, ap length c.requires.none, c.requires.room);
}

last_may_turn : (r : Run) (xs ys : List Goroutine) (go : Goroutine) → xs ≡ ys ++ go ∷ [] → All (MayTurn r) xs → MayTurn r go
last_may_turn r xs ys go last all = let its = All-pop (MayTurn r) xs ys (Some go) last all in its.1

pub new-requires-clause-of : goal.new-requires-clause-of
new-requires-clause-of c =
    let boxed = c.in-Some.goroutine in
    let last = ap in_boxes c.in-Some.ensures.items ∙ boxes_more c.pop.new.self.items boxed in
    (last_may_turn c.args.run.now _ _ boxed.value last c.loop-goroutine.invariant.rest).of

pub new-requires-clause-tidy : goal.new-requires-clause-tidy
new-requires-clause-tidy c =
    let boxed = c.in-Some.goroutine in
    let last = ap in_boxes c.in-Some.ensures.items ∙ boxes_more c.pop.new.self.items boxed in
    (last_may_turn c.args.run.now _ _ boxed.value last c.loop-goroutine.invariant.rest).tidy

pub new-requires-clause-few : goal.new-requires-clause-few
new-requires-clause-few c =
    let boxed = c.in-Some.goroutine in
    let last = ap in_boxes c.in-Some.ensures.items ∙ boxes_more c.pop.new.self.items boxed in
    (last_may_turn c.args.run.now _ _ boxed.value last c.loop-goroutine.invariant.rest).few

pub loop-goroutine-preserved : goal.loop-goroutine-preserved
loop-goroutine-preserved c =
    let r = c.args.run.now in
    let xs = in_boxes c.loop-goroutine.goroutines.items in
    let ys = in_boxes c.pop.new.self.items in
    let go = c.in-Some.goroutine.value in
    let last : xs ≡ ys ++ go ∷ [] = ap in_boxes c.in-Some.ensures.items ∙ boxes_more c.pop.new.self.items c.in-Some.goroutine in
    let so_far = c.loop-goroutine.invariant in
    let its = All-pop (MayTurn r) xs ys (Some go) last so_far.rest in
    record {
      rest = its.0;
      back = rw c.push_reserved.ensures.items
          (put_more (first_turn r) xs ys go c.new.result c.loop-goroutine.ready.items _ last c.new.ensures so_far.back);
      room = omega (arith, so_far.room, c.in-Some.ensures.cases, c.push_reserved.ensures.len, c.push_reserved.ensures.capacity);
    }

pub returns : goal.returns
returns c =
    let xs = c.loop-goroutine.goroutines.items in
    let ys = c.pop.new.self.items in
    let left = nothing_left xs ys _ c.in_default.ensures.rest c.in_default.ensures.cases.0 in
    record {
      back = all_put (first_turn c.args.run.now) (in_boxes xs) c.loop-goroutine.ready.items _
          (ap in_boxes (c.in_default.ensures.items ∙ (append-nil ys ∙ left))) c.loop-goroutine.invariant.back;
    }
