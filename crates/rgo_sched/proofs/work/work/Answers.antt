use Rattle.std.proofs.Common.{◌≡◌, ◌+◌, sym, subst, ◌∙◌}
use Rattle.crossbeam_deque.specs.Handles.{worker_view}
use Rattle.rgo_sched.specs.Accounts.{total_weight}
use Rattle.rgo_sched.specs.Permits.{stolen}
use Rattle.rgo_sched.proofs.CrewLemmas.{counted_more, take_front}
use Rattle.rgo_sched.proofs.work.work.Goals as goal

pub returns-clause-counted : goal.returns-clause-counted
returns-clause-counted g c = record {
  counted = λ w. subst (λ l. total_weight w (worker_view c.begin.new.own).taken + stolen w l ≡ total_weight w c.steal.new.done.items)
      (sym (take_front c.args.worker.now.permits.len c.steal.new.permits _ (c.steal.ensures.moved.same ∙ (c.as_mut_slice.ensures.len))))
      (counted_more _ _ c.args.worker.now.done.items _ _ _ _ _ c.begin.ensures.taken.1 c.begin.ensures.taken.2 c.steal.ensures.moved
      (λ v. subst (λ l. total_weight v (worker_view c.args.worker.now.own).taken + stolen v l ≡ total_weight v c.args.worker.now.done.items) (sym c.as_mut_slice.ensures.value) (c.requires.counted.counted v)) w);
}
