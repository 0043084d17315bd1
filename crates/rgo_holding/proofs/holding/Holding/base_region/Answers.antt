use Rattle.std.proofs.Common.{Some, ap, arith, rules, sym, ◌∙◌}
use Rattle.rgo_holding.specs.Holds.{region_of_key}
use Rattle.rgo_holding.proofs.Basing.{based}
use Rattle.rgo_holding.proofs.holding.Holding.base_region.Goals as goal

pub returns : goal.returns
returns c = λ slots h fills shows.
    let k = c.args.self.now in
    let there = based (region_of_key k) k.base.items h.base c.args.i _ (omega arith) (search rules) shows.base_is in
    ap Some (c.region.ensures there.0 there.1) ∙ sym there.2
