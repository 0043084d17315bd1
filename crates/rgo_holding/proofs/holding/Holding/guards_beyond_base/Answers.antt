use Rattle.std.proofs.Common.{ap, sym, ◌∙◌}
use Rattle.rgo_holding.specs.Known.{entry_of}
use Rattle.rgo_holding.proofs.Changing.{beyond_base}
use Rattle.rgo_holding.proofs.holding.Holding.guards_beyond_base.Goals as goal

pub returns-in-Some : goal.returns-in-Some
returns-in-Some c = λ slots h fills r rest shows region first.
    let k = c.args.self.now in
    let at = ap (λ es. entry_of es c.args.key) (sym c.deref.ensures.value) ∙ sym c.entry_of.ensures ∙ c.in-Some.is in
    beyond_base k c.args.key c.in-Some.entry slots h fills r rest at shows region first
