use Rattle.std.proofs.Common.{◌<◌, length, arith}
use Rattle.rgo_summaries.proofs.Listing.{lists_one}
use Rattle.rgo_summaries.proofs.beginning.list.Goals as goal

pub returns : goal.returns
returns c =
    let l : c.args.function < length c.args.sites.now.items = omega arith in
    lists_one c.args.sites.now.items c.args.function c.index_mut.result.now c.push.new.self c.args.site l
    c.index_mut.ensures.value c.in_ok-push.ensures.items
