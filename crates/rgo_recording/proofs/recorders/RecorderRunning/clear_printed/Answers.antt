use Rattle.std.proofs.Common.{refl, ap}
use Rattle.rgo_machine.specs.declared.limits.Sizes.{Sizes}
use Rattle.rgo_code.specs.Code.{Code}
use Rattle.rgo_recording.proofs.Leading.{clears_noted}
use Rattle.rgo_recording.proofs.recorders.RecorderRunning.clear_printed.Goals as goal

pub returns : goal.returns
returns c =
    clears_noted c.args.self.now (record c.args.self.now { world = c.clear_printed.new.self }) refl
    (ap (λ (x : Code × Sizes). x.0) c.clear_printed.ensures.fixed) c.clear_printed.ensures
