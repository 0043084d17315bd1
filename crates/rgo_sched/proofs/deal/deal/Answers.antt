use Rattle.std.proofs.Common.{◌%◌, arith, ap, refl, reverse, ◌∙◌, length}
use Rattle.std.proofs.lemmas.List.{reverse-reverse}
use Rattle.std.proofs.lemmas.Nat.{mod_below}
use Rattle.std.proofs.lemmas.Option.{slice_get_within}
use Rattle.rgo_sched.specs.declared.accounts.Account.{Account}
use Rattle.rgo_sched.specs.Crew.{WorkerIsReady}
use Rattle.rgo_sched.proofs.CrewLemmas.{at_read, crew_parts, crew_owner, puts_set, every_set, counted_owner}
use Rattle.rgo_sched.proofs.DealLemmas.{dealt_none, dealt_slot, dealt_next}
use Rattle.rgo_sched.proofs.ResultLemmas.{deal_next}
use Rattle.rgo_sched.proofs.deal.deal.Goals as goal

pub loop-at-init : goal.loop-at-init
loop-at-init g c = record {
  rest = ap reverse c.reverse.ensures.items ∙ reverse-reverse c.args.tasks.now.items ∙ c.requires.dealt;
  room = c.reverse.ensures.capacity;
  crew = c.requires.crew;
  each = c.requires.each;
  dealt = dealt_none (length g.B.Before.tasks) (length c.args.stealers.now) _ c.requires.crew.same c.requires.slots;
  puts = λ k below. absurd (omega arith);
}

pub new-requires : goal.new-requires
new-requires g c =
    (deal_next g.B.Before.tasks _ _ c.loop-at.at _ c.loop-at.invariant.rest (rw c.in-Some.is at c.pop.ensures.items)).0

pub give-requires-clause-part : goal.give-requires-clause-part
give-requires-clause-part g c =
    let some_worker = c.requires.some in let a = c.requires.crew.same in let b = c.loop-at.invariant.crew.same in
    let in_range = mod_below c.loop-at.at (length c.loop-at.crew) (omega arith) in
    let at = at_read c.loop-at.crew (c.loop-at.at % length c.loop-at.crew) c.index-crew-worker.result in_range in
    let p = crew_parts _ _ c.loop-at.invariant.crew _ _ at in omega arith

pub give-requires-clause-slots : goal.give-requires-clause-slots
give-requires-clause-slots g c =
    let i = c.loop-at.invariant in
    let some_worker = c.requires.some in let a = c.requires.crew.same in let b = i.crew.same in
    let in_range = mod_below c.loop-at.at (length c.loop-at.crew) (omega arith) in
    let at = at_read c.loop-at.crew (c.loop-at.at % length c.loop-at.crew) c.index-crew-worker.result in_range in
    let first = deal_next g.B.Before.tasks _ _ c.loop-at.at _ i.rest (rw c.in-Some.is at c.pop.ensures.items) in
    dealt_slot (length g.B.Before.tasks) (length c.args.stealers.now) c.loop-at.at _ _ (omega arith)
    (slice_get_within g.B.Before.tasks c.loop-at.at _ first.0) (ap (λ n. c.loop-at.at % n) b) (i.dealt _ _ at)

pub loop-at-preserved : goal.loop-at-preserved
loop-at-preserved g c =
    let i = c.loop-at.invariant in
    let some_worker = c.requires.some in let a = c.requires.crew.same in let b = i.crew.same in
    let in_range = mod_below c.loop-at.at (length c.loop-at.crew) (omega arith) in
    let at = at_read c.loop-at.crew (c.loop-at.at % length c.loop-at.crew) c.index-crew-worker.result in_range in
    let parts = ap (λ (h : Account). h.parts) c.give.ensures.given in
    let taken = ap (λ (h : Account). h.taken) c.give.ensures.given in
    let old = i.each _ _ at in
    let first = deal_next g.B.Before.tasks _ _ c.loop-at.at _ i.rest (rw c.in-Some.is at c.pop.ensures.items) in
    record {
      rest = first.1;
      room = c.pop.ensures.capacity ∙ i.room;
      crew = crew_owner _ _ _ _ _ at c.give.ensures.same.0.1 c.give.ensures.same.0.0 parts refl i.crew;
      each = every_set (WorkerIsReady (length c.args.stealers.now)) _ _ _ (counted_owner _ _ taken refl refl old.0, old.1) i.each;
      dealt = dealt_next (length g.B.Before.tasks) (length c.args.stealers.now) c.loop-at.at _ _ _ _ (omega arith)
          (ap (λ n. c.loop-at.at % n) b) at c.give.ensures.same.1 c.give.ensures.same.0.3 i.dealt;
      puts = puts_set _ _ _ _ _ c.loop-at.at at c.new.ensures.at c.give.ensures.given i.puts;
    }
