use Rattle.std.proofs.Common.{subst, sym}
use Rattle.rgo_sound.specs.RegionRuns.{CodeRuns}
use Rattle.rgo_sound.specs.RegionMachine.Tallies.{counts_in}
use Rattle.rgo_runtime.proofs.ending.Narrowing.{in_wider}
use Rattle.rgo_runtime.proofs.runs.run.Goals as goal

pub returns-clause-runs : goal.returns-clause-runs
returns-clause-runs g c =
    let outcome = c.in_ok-end.field-0 in
    let old = g.K.Sink.contents c.args.out.now in
    let new = g.K.Sink.contents c.run_on_table-2.new.out in
    subst (λ end. CodeRuns c.args.code.now c.args.sizes c.args.limits end (counts_in outcome.tally) old new)
    (sym c.unless_short.ensures)
    (in_wider c.args.code.now c.in-Some.few c.args.sizes c.args.limits (counts_in outcome.tally) old new outcome.end
    c.in-Some.ensures.narrower c.in_ok-end.ensures.runs)
