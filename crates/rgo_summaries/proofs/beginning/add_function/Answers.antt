use Rattle.std.proofs.Common.{refl}
use Rattle.rgo_summaries.proofs.Growing.{pushed_progress}
use Rattle.rgo_summaries.proofs.beginning.add_function.Goals as goal

pub returns-clause-is : goal.returns-clause-is
returns-clause-is c =
    pushed_progress c.args.progress.now _ c.in_ok-nodes.nodes c.in_ok-push.ensures.items c.requires refl
    c.in_ok-nodes.ensures.is
    c.in_ok-nodes.ensures.own.alone
