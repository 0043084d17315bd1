use Rattle.std.proofs.Common.{Some, ap, sym, ◌∙◌}
use Rattle.rgo_holding.specs.Holds.{region_of_key}
use Rattle.rgo_holding.proofs.Starting.{class_none, class_some}
use Rattle.rgo_holding.proofs.holding.Holding.region_of.Goals as goal

pub returns-in-Some : goal.returns-in-Some
returns-in-Some c = λ slots h fills shows.
    let is = class_some (region_of_key c.args.self.now) c.in-Some.key _ _ (sym c.in-Some.is) (c.key_of.ensures slots h fills shows) in
    ap Some (c.region.ensures is.0 is.1) ∙ sym is.2

pub returns-in-None : goal.returns-in-None
returns-in-None c = λ slots h fills shows.
    sym (class_none (region_of_key c.args.self.now) _ _ (sym c.in-None.is) (c.key_of.ensures slots h fills shows))
