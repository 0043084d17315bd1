use Rattle.std.proofs.Common.{◌+◌, ◌*◌, ◌<◌, subst, sym}
use Rattle.rgo_region_machine.specs.Counts.{Counts}
use Rattle.rgo_run.specs.Calls.{use_of}
use Rattle.rgo_run.specs.Runs.{IsSaid}
use Rattle.rgo_run.proofs.TextLemmas.{ran}
use Rattle.rgo_run.proofs.commands.run_code.Goals as goal

pub returns-in-Ok-clause-performs : goal.returns-in-Ok-clause-performs
returns-in-Ok-clause-performs g c = λ text what is_what is_code.
    let options = c.args.options in
    let outcome = c.in-Ok.outcome in
    let new = c.run.new.out in
    let out = use_of g.K.Sink c.args.out.now new in
    let is = c.in-Ok.ensures.runs in
    let made = is.made in
    ran c.args.kind options text what c.args.code.now outcome.end c.stats_of.result out is_what is_code is.runs is.regions is.same
    (λ spent. subst (λ (n : Counts). n.steps < options.limits.steps + 1000 * n.goroutines) (sym made) (c.in-Ok.ensures.spent spent))
    (subst (λ counts. IsSaid options.stats outcome.end counts c.stats_of.result) (sym made) (c.stats_of.ensures outcome.end))
    (λ e. record { counted = c.in-Ok.ensures.fault.fault e; broken = c.in-Ok.ensures.fault.broken e }) c.in-Ok.ensures.fault.held
