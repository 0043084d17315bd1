use Rattle.std.proofs.Common.{ap}
use Rattle.rgo_runtime.proofs.ending.Playing.{still_none_next}
use Rattle.rgo_runtime.proofs.runs.check_step_limit.Goals as goal

pub returns-then-exact-from-clause-ends : goal.returns-then-exact-from-clause-ends
returns-then-exact-from-clause-ends c out = (
  c.count_steps.ensures.kept out,
  still_none_next c.args.crew.now c.count_steps.new.crew (ap (λ x. x.waiting) c.count_steps.ensures.rest) (ap (λ x. x.next) c.count_steps.ensures.rest)
      c.requires.next,
)
