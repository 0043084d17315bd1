use Rattle.rgo_sched.proofs.CrewLemmas.{parts_are_back, none_lost_after}
use Rattle.rgo_sched.proofs.rounds.play.Goals as goal

pub returns-clause-all : goal.returns-clause-all
returns-clause-all g c = parts_are_back _ _ c.take_back.ensures.crew c.take_back.ensures.none

pub returns-clause-none_lost : goal.returns-clause-none_lost
returns-clause-none_lost g c = none_lost_after _ _ _ _ c.deal.ensures.puts c.work_all.ensures.puts c.work_all.ensures.counted c.take_back.ensures.counts
