use Rattle.std.proofs.Common.{arith, inl, refl}
use Rattle.rgo_machine.specs.declared.ends.RunEnd.TheVariants as run_end
use Rattle.rgo_round_robin.proofs.Left.{itself, left_at, left_printed}
use Rattle.rgo_round_robin.proofs.Rounded.{none_ran}
use Rattle.rgo_round_robin.proofs.runs.first_driver.Goals as goal

pub returns-in-Err-clause-ends : goal.returns-in-Err-clause-ends
returns-in-Err-clause-ends g c = (
  refl,
  λ limits given s out shown ready.
      let before = c.args.run.now in
      let run = g.R.Running.view before in
      none_ran run.machine limits run given s out ready.silent (g.met.R.Running.shown_prints before given s shown)
      (left_printed run run.machine given s run_end.NoMemory (g.met.R.Running.shown_prints before given s shown)
      (left_at run run.machine given s run_end.NoMemory
      (record { prints = g.met.R.Running.shown_prints before; leaves = g.met.R.Running.shown_leaves before })
      (itself run given s shown) (λ shortage is. cc))),
)

pub returns-clause-begins : goal.returns-clause-begins
returns-clause-begins g c = (
  refl,
  λ limits given s shown ready.
      let count = c.goroutines-count.ensures given s shown in
      record {
        ready = ready;
        watches = λ h lt. inl (c.in-Ok.ensures.fresh h (omega arith) (omega (arith, lt, count)));
        counting = omega arith;
      },
)
