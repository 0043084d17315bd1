use Rattle.std.proofs.Common.{rules, length, ◌<◌}
use Rattle.rgo_holding.specs.Holds.{region_of_key}
use Rattle.rgo_holding.proofs.Basing.{last_based}
use Rattle.rgo_holding.proofs.holding.Holding.first_base.Goals as goal

pub returns-in-Some : goal.returns-in-Some
returns-in-Some c = λ slots h fills shows.
    let k = c.args.self.now in
    let some : 0 < length k.base.items = search rules in
    let first = last_based (region_of_key k) k.base.items h.base _ some (search rules) shows.base_is in
    (first.r, first.rest, first.is, first.base_is)
