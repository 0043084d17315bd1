use Rattle.std.proofs.Common.{get_or, arith}
use Rattle.std.proofs.lemmas.List.Elements.{Contains-get_or}
use Rattle.rgo_summaries.specs.declared.progress.Site.{Site}
use Rattle.rgo_summaries.proofs.Few.{few_in}
use Rattle.rgo_summaries.proofs.Hearing.{hears_step}
use Rattle.rgo_summaries.proofs.spreading.carry.Goals as goal

pub loop-site-preserved : goal.loop-site-preserved
loop-site-preserved c = record {
  is = c.in_ok-join_in.ensures.is;
  adds =
      hears_step c.args.progress.now c.loop-site.progress c.join_in.new.progress c.args.sites.now
      c.loop-site.site-index _
      c.args.event c.loop-site-test.true c.loop-site.invariant.adds c.in_ok-join_in.ensures.adds;
}

pub overflow_add-site : goal.overflow_add-site
overflow_add-site c =
    let d : Site = record { caller = 0; base = 0 } in
    let sites = c.args.sites.now in
    let i = c.loop-site.site-index in
    let room = c.requires.room (get_or sites i d) (Contains-get_or sites i d c.loop-site-test.true) in
    let few = few_in c.args.progress.now.nodes.items (get_or sites i d).caller c.requires.is.are in
    record { fits = omega (arith, room.0, few) }

pub overflow_add-site-in-loop-site : goal.overflow_add-site-in-loop-site
overflow_add-site-in-loop-site c =
    let d : Site = record { caller = 0; base = 0 } in
    let sites = c.args.sites.now in
    let i = c.loop-site.site-index in
    let room = c.requires.room (get_or sites i d) (Contains-get_or sites i d c.loop-site-test.true) in
    let few = few_in c.args.progress.now.nodes.items (get_or sites i d).caller c.requires.is.are in
    record { fits = omega (arith, room.1, few) }
