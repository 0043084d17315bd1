use Rattle.std.proofs.Common.{ap}
use Rattle.rgo_runtime.proofs.ending.Playing.{goes_quietly}
use Rattle.rgo_runtime.proofs.runs.count_steps.Goals as goal

pub returns-in_err-snapshot-clause-kept : goal.returns-in_err-snapshot-clause-kept
returns-in_err-snapshot-clause-kept c out =
    goes_quietly c.args.crew.now c.wake_all.new.self out c.wake_all.ensures.kept (ap (λ x. x.next) c.wake_all.ensures.rest)

pub returns-clause-kept : goal.returns-clause-kept
returns-clause-kept c out =
    goes_quietly c.args.crew.now c.wake_all.new.self out c.wake_all.ensures.kept (ap (λ x. x.next) c.wake_all.ensures.rest)
