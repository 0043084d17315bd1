-- All were woken, so the run queue has all that have not retired, and a pass over it is one of the whole run. `NoneIsNext` stays, since no
-- print was gathered meanwhile.
use Rattle.std.proofs.Common.{◌∙◌, ap}
use Rattle.rgo_runtime.proofs.crews.Moving.{kept_then}
use Rattle.rgo_runtime.proofs.ending.Playing.{goes_quietly, is_stuck, passes}
use Rattle.rgo_runtime.proofs.runs.check_dead.Goals as goal

pub returns-in-Moved-clause-ends : goal.returns-in-Moved-clause-ends
returns-in-Moved-clause-ends c =
    passes c.args.crew.now c.wake_all.new.self c.check_dead.new.self c.in-Ok-check_dead.passed c.wake_all.ensures.rest c.wake_all.ensures.kept
    c.check_dead.ensures.kept c.in-Ok-check_dead.ensures.passed

pub returns-in-Still : goal.returns-in-Still
returns-in-Still c = record {
  ends = is_stuck c.args.crew.now c.wake_all.new.self c.check_dead.new.self c.in-Ok-check_dead.passed c.wake_all.ensures.rest c.wake_all.ensures.kept
      c.check_dead.ensures.kept c.in-Ok-check_dead.ensures.passed c.requires.next c.in-Ok.ensures.woken c.requires.born;
  run = ap (λ x. x.run) c.in-Ok-check_dead.ensures.passed.rest ∙ ap (λ x. x.run) c.wake_all.ensures.rest;
  other = λ is. cc;
}

pub returns-in-Err-check_dead-clause-ends : goal.returns-in-Err-check_dead-clause-ends
returns-in-Err-check_dead-clause-ends c out =
    goes_quietly c.args.crew.now c.check_dead.new.self out
    (kept_then c.args.crew.now c.wake_all.new.self c.check_dead.new.self c.wake_all.ensures.kept c.check_dead.ensures.kept)
    (ap (λ x. x.next) c.in-Err-check_dead.ensures.same ∙ ap (λ x. x.next) c.wake_all.ensures.rest)
