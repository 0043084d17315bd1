use Rattle.std.proofs.Common.{length, sym, subst, ◌∙◌}
use Rattle.rgo_sched.specs.Crew.{Every, HasAllParts, IsCrew, New, NoneLost}
use Rattle.rgo_sched.proofs.CrewLemmas.{take_front}
use Rattle.rgo_sched.proofs.rounds.turn_all.Goals as goal

pub play-requires-clause-new : goal.play-requires-clause-new
play-requires-clause-new g c κs within = subst (Every (New (length g.B.Before.tasks) (length c.args.stealers.now))) (sym c.as_mut_slice.ensures.value) c.requires.new

pub play-requires-clause-crew : goal.play-requires-clause-crew
play-requires-clause-crew g c κs within = subst (IsCrew c.args.stealers.now (λ _. 0)) (sym c.as_mut_slice.ensures.value) c.requires.crew

pub gather_all-requires-clause-all : goal.gather_all-requires-clause-all
gather_all-requires-clause-all g c = subst (Every HasAllParts)
    (sym (take_front c.args.crew.len c.play.new.crew _ (c.play.ensures.len ∙ c.as_mut_slice.ensures.len))) c.play.ensures.all

pub gather_all-requires-clause-none_lost : goal.gather_all-requires-clause-none_lost
gather_all-requires-clause-none_lost g c = subst (NoneLost (length g.B.Before.tasks))
    (sym (take_front c.args.crew.len c.play.new.crew _ (c.play.ensures.len ∙ c.as_mut_slice.ensures.len))) c.play.ensures.none_lost
