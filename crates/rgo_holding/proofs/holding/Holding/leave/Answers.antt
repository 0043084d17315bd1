use Rattle.std.proofs.Common.{ap, sym, ◌∙◌}
use Rattle.rgo_holding.specs.Known.{entry_of}
use Rattle.rgo_holding.proofs.Coming.{leave_shows}
use Rattle.rgo_holding.proofs.holding.Holding.leave.Goals as goal

pub returns : goal.returns
returns c = λ slots h fills p shows region unknown.
    let k = c.args.self.now in
    let at = ap (λ es. entry_of es c.args.key) (sym c.deref.ensures.value) ∙ sym c.entry_of.ensures ∙ c.in-Some.is in
    leave_shows k c.args.key c.in-Some.entry c.put.new.entries c.push.new.self at c.put.ensures slots h fills p shows region unknown
