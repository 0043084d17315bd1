use Rattle.std.proofs.Common.{sym, ◌∙◌}
use Rattle.std.proofs.lemmas.Result.{on_ok_weaker}
use Rattle.rgo_classes.specs.Labels.{member_index}
use Rattle.rgo_summaries.specs.Beginning.{Of, OwnHere}
use Rattle.rgo_summaries.specs.Progress.{Two}
use Rattle.rgo_summaries.proofs.Passing.{adds_as, is_own, only_own}
use Rattle.rgo_summaries.proofs.beginning.begin_own.Goals as goal

pub returns-in-Some-clause-adds : goal.returns-in-Some-clause-adds
returns-in-Some-clause-adds c =
    let n = c.args.n in
    let f = c.args.function.now in
    let e = sym c.own_joins.ensures ∙ c.in-Some.is in
    on_ok_weaker c.join_in.result
    (λ adds. adds_as c.args.progress.now c.join_in.new.progress
    (Two n (member_index c.in-Some.one) (member_index c.in-Some.other))
    (Of n (OwnHere f c.args.at)) (is_own n f c.args.at c.in-Some.one c.in-Some.other e)
    (only_own n f c.args.at c.in-Some.one c.in-Some.other e) adds)
    (rw (c.number_of.ensures, c.number_of-in-Some.ensures) at c.join_in.ensures.adds)
