-- The driver's reason, what all have left, and the closed table come together here: `Running` has the lemma for each of the clauses.
use Rattle.std.proofs.Common.{ap, ◌∙◌}
use Rattle.rgo_core.specs.runs.Plans.{setup_of}
use Rattle.rgo_table_runs.specs.Goroutine.Acts.Runs.{Run}
use Rattle.rgo_sound.specs.RegionMachine.Tallies.{counts_in}
use Rattle.rgo_runtime.proofs.ending.Running.{code_runs, ends_in_time, fails_so}
use Rattle.rgo_runtime.proofs.runs.run_on_table.Goals as goal

-- the seat that comes back is that of the table
pub close-requires : goal.close-requires
close-requires g c =
    let gone = c.retire_all.ensures.left in
    record {
      own = gone.left.own ∙ (gone.own ∙ (c.retire_all.ensures.crew.seat.0
          ∙ (ap (λ (r : Run). r.table) (c.schedule-why.ensures.run ∙ c.in-Ok.ensures.begun.0) ∙ c.new-run.ensures.table)));
    }

pub returns-clause-runs : goal.returns-clause-runs
returns-clause-runs g c =
    code_runs c.schedule-why.new.crew c.retire_all.result c.retire_all.ensures.crew c.retire_all.ensures.left (setup_of c.in_ok-table.table.shared.key)
    (record { code = c.args.code.now; sizes = c.args.sizes; limits = c.args.limits })
    (ap (λ (r : Run). r.setup) (c.schedule-why.ensures.run ∙ c.in-Ok.ensures.begun.0) ∙ c.new-run.ensures.setup)
    c.in_ok-table.ensures.table.2 _ c.close.ensures.end c.retire_all.ensures.retired _ _ c.schedule-why.result c.in-Ok.crew c.schedule-why.ensures.ends
    c.in-Ok.ensures.begun.1 c.in-Ok.ensures.begun.2 c.in-Ok.ensures.begun.3 c.total-tally.result c.total-tally.ensures
    c.end_of_run.result c.end_of_run.ensures

pub returns-clause-spent : goal.returns-clause-spent
returns-clause-spent g c =
    ends_in_time (counts_in c.total-tally.result) c.args.limits.steps c.schedule-why.result c.retire_all.result.is_whole c.retire_all.result.first
    c.end_of_run.result c.end_of_run.ensures

pub returns-clause-fault : goal.returns-clause-fault
returns-clause-fault g c =
    fails_so (counts_in c.total-tally.result) c.args.limits.steps c.schedule-why.result c.retire_all.result.is_whole c.retire_all.result.first
    c.end_of_run.result _ _ _ c.end_of_run.ensures c.schedule-why.ensures.fault
