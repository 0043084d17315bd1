use Rattle.std.proofs.Common.{subst}
use Rattle.std.proofs.lemmas.Result.{on_ok_weaker}
use Rattle.rgo_summaries.specs.Beginning.{Lists, Of, PassedBelow}
use Rattle.rgo_summaries.specs.Kinds.{width_of}
use Rattle.rgo_summaries.specs.Progress.{AddsJoins, GrowsIn, size_in}
use Rattle.rgo_summaries.specs.Views.{parts_of_call}
use Rattle.rgo_summaries.proofs.Steps.{steps}
use Rattle.rgo_summaries.proofs.beginning.begin_call.Goals as goal

pub returns-clause-begins : goal.returns-clause-begins
returns-clause-begins c =
    let p = c.args.progress.now in
    let q = c.grow_in.new.progress in
    let r = c.pass_all.new.progress in
    let n = c.args.caller in
    let f = c.args.function.now in
    let call = parts_of_call c.args.call in
    let callee = c.args.callee.now in
    let w = width_of callee in
    let grows = subst (λ k. GrowsIn p q n k) c.width_of.ensures c.in_ok-base.ensures.grows in
    let base = c.in_ok-base.ensures.base in
    on_ok_weaker c.pass_all.result
    (λ adds. record {
      step =
          steps p q r n w (PassedBelow f call callee (size_in p.nodes.items n) w) grows
          (subst (λ k. AddsJoins q r (Of n (PassedBelow f call callee k w))) base adds);
      lists =
          subst (λ k. Lists c.args.sites.now.items c.list.new.sites.items c.args.call.function
          (record { caller = n; base = k }))
          base c.in_ok-list.ensures;
    })
    c.pass_all.ensures.adds
