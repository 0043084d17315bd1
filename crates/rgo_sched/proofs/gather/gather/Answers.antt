use Rattle.std.proofs.Common.{◌≡◌, inl, inr, ap, ◌∙◌, ⊎_elim, arith}
use Rattle.std.proofs.lemmas.List.{nil_from_length}
use Rattle.rgo_sched.specs.Accounts.{total_weight}
use Rattle.rgo_sched.specs.Positions.{only}
use Rattle.rgo_sched.proofs.ResultLemmas.{filled_from}
use Rattle.rgo_sched.proofs.gather.gather.Goals as goal

pub loop-done-preserved : goal.loop-done-preserved
loop-done-preserved g c =
    let i = c.loop-done.invariant in
    let t = rw c.in-Some.is at c.pop.ensures.items in
    record {
      size = c.store.ensures.size ∙ i.size;
      kept = λ k f. c.store.ensures.kept k (i.kept k f);
      left = λ k. ⊎_elim (λ f. inl (c.store.ensures.kept k f)) (λ e. inr e) (i.left k);
      rest = λ k. filled_from k _ _ _ _ _ t c.store.ensures.here (c.store.ensures.kept k) (i.rest k);
    }

pub returns-clause-left : goal.returns-clause-left
returns-clause-left g c = λ k.
    let i = c.loop-done.invariant in
    let z : total_weight (only k) c.loop-done.worker.done.items ≡ 0 = ap (total_weight (only k)) (nil_from_length _ (omega (arith, (rw c.in_default.is at c.pop.ensures.cases).0, c.loop-done.worker.done.ok))) in
    ⊎_elim (λ f. inl f) (λ e. ⊎_elim (λ f. inl f) (λ r. inr (omega arith)) (i.rest k)) (i.left k)
