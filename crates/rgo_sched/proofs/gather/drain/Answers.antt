use Rattle.std.proofs.Common.{ap, ◌∙◌, arith}
use Rattle.rgo_sched.specs.declared.accounts.Account.{Account}
use Rattle.rgo_sched.specs.Accounts.{total_weight}
use Rattle.rgo_sched.specs.Positions.{only}
use Rattle.rgo_sched.proofs.AccountLemmas.{takes_all, finds_all}
use Rattle.rgo_sched.proofs.ResultLemmas.{filled_next}
use Rattle.rgo_sched.proofs.gather.drain.Goals as goal

pub pop_as-requires-clause-fifo : goal.pop_as-requires-clause-fifo
pop_as-requires-clause-fifo g c = λ _. takes_all _ _ (omega (arith, c.loop-queued.invariant.all))

pub pop_as-requires-clause-empty : goal.pop_as-requires-clause-empty
pop_as-requires-clause-empty g c = finds_all _ _

pub loop-queued-preserved : goal.loop-queued-preserved
loop-queued-preserved g c =
    let i = c.loop-queued.invariant in
    let t = (rw c.in-Some.is at c.pop_as.ensures.rule).0 in
    record {
      size = c.store.ensures.size ∙ i.size;
      all = ap (λ (h : Account). h.parts) t ∙ i.all;
      fifo = c.pop_as.ensures.same.0.1 ∙ i.fifo;
      put = ap (λ (h : Account). h.put) t ∙ i.put;
      kept = λ k f. c.store.ensures.kept k (i.kept k f);
      left = λ k. filled_next k _ _ _ _ _ c.turn.ensures (ap (λ (h : Account). total_weight (only k) h.taken) t) c.store.ensures.here (c.store.ensures.kept k) (i.left k);
    }
