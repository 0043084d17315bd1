use Rattle.std.proofs.Common.{inr, length, subst, ◌∙◌, ⊎_elim, arith}
use Rattle.std.proofs.lemmas.List.{nil_from_length}
use Rattle.rgo_sched.proofs.CrewLemmas.{FilledOrLeft, last_of, but_last, filled_or_left_less}
use Rattle.rgo_sched.proofs.gather.gather_all.Goals as goal

pub loop-worker-init : goal.loop-worker-init
loop-worker-init g c = record { size = c.requires.size; all = c.requires.all; owed = λ k below. inr (c.requires.none_lost k below) }

pub gather-requires-clause-all : goal.gather-requires-clause-all
gather-requires-clause-all g c = (last_of _ _ _ _ (rw c.in-Some.is at c.pop.ensures.items) c.loop-worker.invariant.all).0

pub gather-requires-clause-fifo : goal.gather-requires-clause-fifo
gather-requires-clause-fifo g c = (last_of _ _ _ _ (rw c.in-Some.is at c.pop.ensures.items) c.loop-worker.invariant.all).1

pub loop-worker-preserved : goal.loop-worker-preserved
loop-worker-preserved g c = record {
  size = c.gather.ensures.size ∙ c.loop-worker.invariant.size;
  all = but_last _ _ _ _ (rw c.in-Some.is at c.pop.ensures.items) c.loop-worker.invariant.all;
  owed = filled_or_left_less _ _ _ _ _ _ (rw c.in-Some.is at c.pop.ensures.items) (last_of _ _ _ _ (rw c.in-Some.is at c.pop.ensures.items) c.loop-worker.invariant.all).2 c.gather.ensures.kept c.gather.ensures.left c.loop-worker.invariant.owed;
}

pub returns-clause-all : goal.returns-clause-all
returns-clause-all g c = λ k below.
    let z = nil_from_length c.loop-worker.crew.items (omega (arith, (rw c.in_default.is at c.pop.ensures.cases).0, c.loop-worker.crew.ok)) in
    ⊎_elim (λ f. f) (λ h. absurd (omega arith)) (subst (λ ms. FilledOrLeft (length g.B.Before.tasks) c.loop-worker.results ms) z c.loop-worker.invariant.owed k below)
