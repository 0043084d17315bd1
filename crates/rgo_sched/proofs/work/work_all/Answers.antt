use Rattle.std.proofs.Common.{ap, arith}
use Rattle.atomic_table.proofs.Lists.{at_index}
use Rattle.rgo_sched.specs.Accounts.{total_weight}
use Rattle.rgo_sched.specs.Crew.{put_by}
use Rattle.rgo_sched.proofs.CrewLemmas.{crew_each, crew_parts, relate, was_there, total_same}
use Rattle.rgo_sched.proofs.work.work_all.Goals as goal

pub for_each_mut-requires-clause-accepts : goal.for_each_mut-requires-clause-accepts
for_each_mut-requires-clause-accepts g c κs within = λ i p inside e.
    let at = at_index c.args.crew.now i p.now inside e in
    let s = c.requires.crew.same in let f = c.requires.crew.few in
    let one = crew_parts _ _ c.requires.crew i p.now at in
    let q = c.requires.each i p.now at in
    (omega arith, omega arith, c.requires.crew.fifo i p.now at, c.requires.crew.fit i p.now at, q.1, q.0)

pub returns-clause-crew : goal.returns-clause-crew
returns-clause-crew g c =
    let r = relate c.args.stealers.now c.args.crew.now c.for_each_mut.new.s c.for_each_mut.auto.s (λ k d h. let e = (c.for_each_mut.ensures k d h).1 in rw (← e.argument_is, ← e.left) e.call) in
    crew_each _ _ _ c.for_each_mut.auto.s (λ k m n a b. let x = r k m n a b in (x.0, x.1)) (was_there _ _ c.for_each_mut.auto.s) c.requires.crew

pub returns-clause-counted : goal.returns-clause-counted
returns-clause-counted g c = λ k n at.
    let r = relate c.args.stealers.now c.args.crew.now c.for_each_mut.new.s c.for_each_mut.auto.s (λ k d h. let e = (c.for_each_mut.ensures k d h).1 in rw (← e.argument_is, ← e.left) e.call) in
    let o = was_there c.args.crew.now c.for_each_mut.new.s c.for_each_mut.auto.s k n at in (r k o.0 n o.1 at).2

pub returns-clause-puts : goal.returns-clause-puts
returns-clause-puts g c = λ w.
    let r = relate c.args.stealers.now c.args.crew.now c.for_each_mut.new.s c.for_each_mut.auto.s (λ k d h. let e = (c.for_each_mut.ensures k d h).1 in rw (← e.argument_is, ← e.left) e.call) in
    total_same (put_by w) _ _ c.for_each_mut.auto.s (λ k m n a b. ap (total_weight w) (r k m n a b).0.put)
