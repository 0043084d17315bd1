use Rattle.std.proofs.Common.{ap}
use Rattle.rgo_runtime.proofs.ending.Playing.{comes_then, still_none_next}
use Rattle.rgo_runtime.proofs.runs.check_end.Goals as goal

pub check_dead-requires-clause-next : goal.check_dead-requires-clause-next
check_dead-requires-clause-next c =
    still_none_next c.args.crew.now c.check_step_limit.new.crew (ap (λ x. x.waiting) c.check_step_limit.ensures.rest) (ap (λ x. x.next) c.check_step_limit.ensures.rest)
    c.requires.next

pub returns-clause-ends : goal.returns-clause-ends
returns-clause-ends c out =
    comes_then c.check_dead.result c.args.crew.now c.check_step_limit.new.crew c.check_dead.new.crew out out out (c.in-None.ensures.ends out) (c.check_dead.ensures.ends out)
