use Rattle.std.proofs.Common.{◌+◌, arith, ap, sym, refl, ◌∙◌}
use Rattle.std.proofs.lemmas.List.{length-set}
use Rattle.rgo_sched.proofs.ResultLemmas.{slice_get_other, filled_done}
use Rattle.rgo_sched.proofs.RoundLemmas.{round_more}
use Rattle.std.specs.List.{slice_get}
use Rattle.rgo_sched.proofs.deal.give_back.Goals as goal

pub loop-at-preserved : goal.loop-at-preserved
loop-at-preserved g c =
    let i = c.loop-at.invariant in
    let t = c.loop-at-test.true in
    let p = i.size in
    let d = filled_done c.loop-at.results c.loop-at.at c.in-Some.done c.index-results-at.result (i.rest c.loop-at.at (omega arith) (omega arith)) (sym c.in-Some.is ∙ c.take.ensures.value) in
    record {
      size = length-set _ _ _ ∙ i.size;
      rest = λ k a b. slice_get_other _ _ k _ (λ e. absurd (omega arith)) ∙ i.rest k (omega arith) b;
      room = c.push_reserved.ensures.capacity ∙ i.room;
      len = c.push_reserved.ensures.len ∙ ap (λ n. n + 1) i.len;
      so_far = round_more g.T.Task.goes g.B.Before.tasks c.loop-at.at _ _ _ _ c.into_task-task.ensures.0 _ _ refl (ap (slice_get g.B.Before.tasks) (sym d) ∙ c.into_task-task.ensures.1) c.push_reserved.ensures.items c.into_task-task.ensures.2 i.so_far;
    }
