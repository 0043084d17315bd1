use Rattle.std.proofs.Common.{subst, sym}
use Rattle.rgo_round_robin.specs.Running.{Clears}
use Rattle.rgo_region_interpreter.specs.Views.{view_of}
use Rattle.rgo_region_interpreter.proofs.stepping.Standing.{clears}
use Rattle.rgo_region_interpreter.proofs.running.WorldRunning.clear_printed.Goals as goal

pub returns : goal.returns
returns c =
    let w = c.args.self.now in
    subst (λ p. Clears (view_of w) (view_of (record w { state = p }))) (sym c.clear_printed.ensures) (clears w)
