use Rattle.std.proofs.Common.{◌≡◌, refl, arith, ap, sym, [], ◌++◌, ◌∙◌}
use Rattle.std.proofs.lemmas.List.{append-nil}
use Rattle.crossbeam_deque.specs.Handles.{worker_view}
use Rattle.rgo_sched.specs.declared.accounts.Account.{Account}
use Rattle.rgo_sched.proofs.AccountLemmas.{took_more, took_none, more_items}
use Rattle.rgo_sched.proofs.work.work_own.Goals as goal

pub loop-init : goal.loop-init
loop-init g c = record {
  taken = ([], took_none (worker_view c.args.own.now), sym (append-nil _));
  same = (refl, refl, refl, omega arith);
  room = omega (arith, c.capacity.ensures, c.len.ensures);
}

pub loop-preserved : goal.loop-preserved
loop-preserved g c =
    let a = c.loop.invariant.taken in
    let b = c.turn_own.ensures.taken in
    let r = c.turn_own.ensures.room in
    let s = c.loop.invariant.same in
    let t = c.turn_own.ensures.same in
    let room = c.loop.invariant.room in
    record {
      taken = (a.0 ++ b.0, took_more _ _ _ a.0 b.0 a.1 b.1, more_items _ _ _ a.0 b.0 a.2 b.2);
      same = (t.0 ∙ s.0, t.1 ∙ s.1, t.2 ∙ s.2, omega (arith, s.3, t.3));
      room = omega arith;
    }

pub turn_own-requires-clause-part : goal.turn_own-requires-clause-part
turn_own-requires-clause-part g c = let e : (worker_view c.loop.own).parts ≡ (worker_view c.args.own.now).parts = ap (λ (h : Account). h.parts) c.loop.invariant.taken.1 in omega (arith, c.requires.part)

pub turn_own-requires-clause-fifo : goal.turn_own-requires-clause-fifo
turn_own-requires-clause-fifo g c = c.loop.invariant.same.1 ∙ c.requires.fifo

pub turn_own-requires-clause-room : goal.turn_own-requires-clause-room
turn_own-requires-clause-room g c = omega (arith, c.loop.invariant.room)
