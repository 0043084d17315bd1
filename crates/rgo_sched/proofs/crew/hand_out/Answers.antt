use Rattle.std.proofs.Common.{◌≡◌, ◌+◌, ◌<◌, ◌-◌, arith, ap, subst, refl, List, get_or, set, length}
use mathlib.Core.Option.{some}
use lib.ListN.{get_elem?}
use Rattle.crossbeam_deque.specs.Handles.{worker_view, IsPassOf}
use Rattle.rgo_sched.specs.declared.crew.Worker.{Worker}
use Rattle.rgo_sched.specs.declared.deques.Permit.{Permit}
use Rattle.std.proofs.lemmas.List.{length-set}
use Rattle.rgo_sched.specs.declared.accounts.Account.{Account}
use Rattle.rgo_sched.proofs.CrewLemmas.{Each, Handed, at_read, crew_parts, crew_cut, crew_add, every_set, handed_new, handed_cut, handed_add, handed_row, handed_all}
use Rattle.rgo_sched.specs.Crew.{Every, HasSlots}
use Rattle.rgo_sched.proofs.DealLemmas.{slots_kept}
use Rattle.rgo_sched.proofs.crew.hand_out.Goals as goal

pub loop-worker-init : goal.loop-worker-init
loop-worker-init g c = record { crew = c.requires.crew; each = handed_new _ _ _ c.requires.new; slots = λ k m at. (c.requires.new k m at).slots }

pub loop-worker-preserved : goal.loop-worker-preserved
loop-worker-preserved g c = record { crew = c.loop-deque.invariant.crew; each = handed_row _ _ _ _ (let t = c.loop-deque-test.false in let e = c.loop-deque.auto.deque-end in omega arith) c.loop-deque.invariant.each; slots = c.loop-deque.invariant.slots }

pub returns-clause-each : goal.returns-clause-each
returns-clause-each g c = handed_all _ c.loop-worker.worker _ (let t = c.loop-worker-test.false in let s = c.loop-worker.invariant.crew.same in omega arith) c.loop-worker.invariant.each

pub cut-pass-requires : goal.cut-pass-requires
cut-pass-requires g c = let a = c.loop-deque.invariant.crew.same in let t = c.loop-deque-test.true in
    crew_parts _ _ c.loop-deque.invariant.crew _ _ (at_read c.loop-deque.crew c.loop-deque.deque c.index-crew-deque.result (omega arith))

pub push_reserved-requires : goal.push_reserved-requires
push_reserved-requires g c =
    let a = c.loop-deque.invariant.crew.same in let t = c.loop-deque-test.true in let u = c.loop-worker-test.true in
    let o : Worker g.row.T.Denot g.row.B.Denot = get_or c.loop-deque.crew c.loop-deque.deque c.index-crew-deque.result in
    let at : get_elem? c.loop-deque.crew c.loop-deque.deque ≡ some o = at_read c.loop-deque.crew c.loop-deque.deque c.index-crew-deque.result (omega arith) in
    let n : Worker g.row.T.Denot g.row.B.Denot = record { own = c.cut-pass.new.own; permits = o.permits; done = o.done } in
    let ms : List (Worker g.row.T.Denot g.row.B.Denot) = set c.loop-deque.crew c.loop-deque.deque n in
    let long : length ms ≡ length c.loop-deque.crew = length-set c.loop-deque.crew c.loop-deque.deque n in
    let q : Worker g.row.T.Denot g.row.B.Denot = get_or ms c.loop-worker.worker c.index-crew-worker.result in
    let at1 : get_elem? ms c.loop-worker.worker ≡ some q = at_read ms c.loop-worker.worker c.index-crew-worker.result (omega arith) in
    let h : Each (Handed (length c.args.stealers.now) c.loop-worker.worker c.loop-deque.deque) ms = handed_cut (length c.args.stealers.now) c.loop-worker.worker c.loop-deque.deque c.loop-deque.crew c.loop-deque.deque o n at (ap (λ (v : Account). v.taken) c.cut-pass.ensures.views.0) refl refl refl c.loop-deque.invariant.each in
    let p : Handed (length c.args.stealers.now) c.loop-worker.worker c.loop-deque.deque c.loop-worker.worker q = h c.loop-worker.worker q at1 in
    let len : length q.permits.items ≡ c.loop-deque.deque = p.here refl in
    let room = p.room in omega (arith, q.permits.ok)

pub loop-deque-preserved : goal.loop-deque-preserved
loop-deque-preserved g c =
    let a = c.loop-deque.invariant.crew.same in let t = c.loop-deque-test.true in let u = c.loop-worker-test.true in
    let o : Worker g.row.T.Denot g.row.B.Denot = get_or c.loop-deque.crew c.loop-deque.deque c.index-crew-deque.result in
    let at : get_elem? c.loop-deque.crew c.loop-deque.deque ≡ some o = at_read c.loop-deque.crew c.loop-deque.deque c.index-crew-deque.result (omega arith) in
    let n : Worker g.row.T.Denot g.row.B.Denot = record { own = c.cut-pass.new.own; permits = o.permits; done = o.done } in
    let ms : List (Worker g.row.T.Denot g.row.B.Denot) = set c.loop-deque.crew c.loop-deque.deque n in
    let long : length ms ≡ length c.loop-deque.crew = length-set c.loop-deque.crew c.loop-deque.deque n in
    let q : Worker g.row.T.Denot g.row.B.Denot = get_or ms c.loop-worker.worker c.index-crew-worker.result in
    let at1 : get_elem? ms c.loop-worker.worker ≡ some q = at_read ms c.loop-worker.worker c.index-crew-worker.result (omega arith) in
    let h : Each (Handed (length c.args.stealers.now) c.loop-worker.worker c.loop-deque.deque) ms = handed_cut (length c.args.stealers.now) c.loop-worker.worker c.loop-deque.deque c.loop-deque.crew c.loop-deque.deque o n at (ap (λ (v : Account). v.taken) c.cut-pass.ensures.views.0) refl refl refl c.loop-deque.invariant.each in
    let p : Handed (length c.args.stealers.now) c.loop-worker.worker c.loop-deque.deque c.loop-worker.worker q = h c.loop-worker.worker q at1 in
    let len : length q.permits.items ≡ c.loop-deque.deque = p.here refl in
    let permit : Permit g.row.T.Denot g.row.B.Denot = record { pass = c.cut-pass.result; deque = c.loop-deque.deque } in
    let r : Worker g.row.T.Denot g.row.B.Denot = record { own = q.own; permits = c.push_reserved.new.self; done = q.done } in
    let more : length r.permits.items ≡ c.loop-deque.deque + 1 = omega (arith, c.push_reserved.ensures.len, r.permits.ok, q.permits.ok) in
    let parts : (worker_view n.own).parts ≡ (worker_view o.own).parts - 1 = ap (λ (v : Account). v.parts) c.cut-pass.ensures.views.0 in
    let two : 1 < (worker_view o.own).parts = crew_parts c.args.stealers.now c.loop-deque.crew c.loop-deque.invariant.crew c.loop-deque.deque o at in
    let kept : Every (HasSlots (length g.B.Before.tasks) (length c.args.stealers.now)) ms =
    every_set (HasSlots (length g.B.Before.tasks) (length c.args.stealers.now)) c.loop-deque.crew c.loop-deque.deque n
    (slots_kept (length g.B.Before.tasks) (length c.args.stealers.now) o n c.cut-pass.ensures.same.1 c.cut-pass.ensures.same.0.3 (c.loop-deque.invariant.slots c.loop-deque.deque o at))
    c.loop-deque.invariant.slots in
    record {
      crew = crew_add c.args.stealers.now ms c.loop-worker.worker c.loop-deque.deque q r permit at1 refl c.push_reserved.ensures.items len (omega arith) (omega arith)
          (λ s b. record { table = subst (λ x. IsPassOf x c.cut-pass.result) (c.loop-deque.invariant.crew.table c.loop-deque.deque s o b at) c.cut-pass.ensures.same.2; part = ap (λ (v : Account). v.parts) c.cut-pass.ensures.views.1; none = ap (λ (v : Account). v.put) c.cut-pass.ensures.views.1 })
          (crew_cut c.args.stealers.now c.loop-deque.crew c.loop-deque.deque o n at c.cut-pass.ensures.same.0.1 c.cut-pass.ensures.same.0.0 (omega arith) refl c.loop-deque.invariant.crew);
      each = handed_add (length c.args.stealers.now) c.loop-worker.worker c.loop-deque.deque ms q r permit at1 refl c.push_reserved.ensures.items more c.push_reserved.ensures.capacity refl (ap (λ (v : Account). v.taken) c.cut-pass.ensures.views.1) h;
      slots = every_set (HasSlots (length g.B.Before.tasks) (length c.args.stealers.now)) ms c.loop-worker.worker r (kept c.loop-worker.worker q at1) kept;
    }
