-- One goroutine more comes from `born` to the run queue, and gets a place for its counts. If there is no memory for it, it goes back to
-- `born`, at the same end.
use Rattle.std.proofs.Common.{◌∙◌, ◌∷◌, ◌++◌, [], append-nil, ap, arith, subst, sym}
use Rattle.rgo_core.specs.Records.{steps_of}
use Rattle.rgo_table_runs.specs.Goroutine.Goroutines.{IsOf, IsTidy, record_of_goroutine}
use Rattle.rgo_runtime.specs.Turns.{first_turn}
use Rattle.rgo_runtime.proofs.passes.Crews.{nothing_left}
use Rattle.rgo_runtime.proofs.crews.Parts.{newborn_steps}
use Rattle.rgo_runtime.proofs.crews.Moving.{born_kept, crew_born, crew_welcomed, last_newborn, welcomed_kept}
use Rattle.rgo_runtime.proofs.crew.Crew.enqueue_newborns.Goals as goal

pub loop-goroutine-init : goal.loop-goroutine-init
loop-goroutine-init c = record {
  is = crew_born _ c.reserve.new.self.items c.reverse.new.self.items c.reserve.ensures.items c.reverse.ensures.permutation c.self.invariant;
  kept = born_kept _ c.reserve.new.self.items c.reverse.new.self.items c.reserve.ensures.items c.reverse.ensures.permutation c.args.self.now c.self.view_is;
  run = ap (λ x. x.run) c.self.view_is;
  next = ap (λ x. x.next) c.self.view_is;
  room = omega (arith, c.in_ok-reserve.ensures.ok, c.len.ensures, c.reverse.ensures.len);
}

pub new-requires-clause-of : goal.new-requires-clause-of
new-requires-clause-of c =
    let r = c.loop-goroutine.self-inside.run.now in
    let is = last_newborn r c.loop-goroutine.self-inside.born.items c.pop.new.self.items c.in-Some.goroutine c.in-Some.ensures.items
    c.loop-goroutine.invariant.is.born in
    subst (IsOf r) (sym c.in-Ok.ensures.boxed) is.of

pub new-requires-clause-tidy : goal.new-requires-clause-tidy
new-requires-clause-tidy c =
    let r = c.loop-goroutine.self-inside.run.now in
    let is = last_newborn r c.loop-goroutine.self-inside.born.items c.pop.new.self.items c.in-Some.goroutine c.in-Some.ensures.items
    c.loop-goroutine.invariant.is.born in
    subst (λ go. IsTidy (record_of_goroutine r.setup go)) (sym c.in-Ok.ensures.boxed) is.tidy

pub new-requires-clause-few : goal.new-requires-clause-few
new-requires-clause-few c =
    let r = c.loop-goroutine.self-inside.run.now in
    let is = last_newborn r c.loop-goroutine.self-inside.born.items c.pop.new.self.items c.in-Some.goroutine c.in-Some.ensures.items
    c.loop-goroutine.invariant.is.born in
    omega (arith, newborn_steps r c.in-Some.goroutine is, ap (λ go. steps_of (record_of_goroutine r.setup go)) c.in-Ok.ensures.boxed)

pub loop-goroutine-preserved : goal.loop-goroutine-preserved
loop-goroutine-preserved c = record {
  is = crew_welcomed _ c.push_reserved.new.self.items c.pop.new.self.items c.in-Some.goroutine c.new.result c.box_newborn.new.shares
      c.in-Ok.ensures.more.0 c.push_reserved.ensures.items c.in-Some.ensures.items
      (c.new.ensures ∙ ap (first_turn c.loop-goroutine.self-inside.run.now) c.in-Ok.ensures.boxed) c.in-Ok.ensures.more.1 c.loop-goroutine.invariant.is
      c.in-Ok.ensures.room;
  kept = welcomed_kept _ c.push_reserved.new.self.items c.pop.new.self.items c.in-Some.goroutine c.new.result c.box_newborn.new.shares
      c.in-Ok.ensures.more.0 c.push_reserved.ensures.items c.in-Some.ensures.items
      (c.new.ensures ∙ ap (first_turn c.loop-goroutine.self-inside.run.now) c.in-Ok.ensures.boxed) c.in-Ok.ensures.more.1 c.loop-goroutine.invariant.is
      c.args.self.now c.loop-goroutine.invariant.kept;
  run = c.loop-goroutine.invariant.run;
  next = c.loop-goroutine.invariant.next;
  room = omega (arith, c.loop-goroutine.invariant.room, c.in-Some.ensures.cases, c.push_reserved.ensures.len, c.push_reserved.ensures.capacity);
}

pub returns-in-Err-clause-kept : goal.returns-in-Err-clause-kept
returns-in-Err-clause-kept c =
    let back = ap (λ go. c.pop.new.self.items ++ go ∷ []) c.in-Err.ensures.back in
    rw (c.push_reserved-in-Err.ensures.items ∙ (back ∙ sym c.in-Some.ensures.items)) c.loop-goroutine.invariant.kept

pub returns-clause-none : goal.returns-clause-none
returns-clause-none c = nothing_left _ _ _ c.in_default.ensures.rest c.in_default.ensures.cases.0

pub returns-clause-kept : goal.returns-clause-kept
returns-clause-kept c =
    rw (sym (c.in_default.ensures.items ∙ append-nil c.pop.new.self.items)) c.loop-goroutine.invariant.kept
