use Rattle.std.proofs.Common.{ap, arith, refl, sym, ◌∙◌}
use Rattle.rgo_holding.specs.Known.{entry_of}
use Rattle.rgo_holding.proofs.EntryLemmas.{used_entry}
use Rattle.rgo_holding.proofs.HoldLemmas.{regions_kept}
use Rattle.rgo_holding.proofs.Changing.{protect_shows}
use Rattle.rgo_holding.proofs.holding.Holding.protect.Goals as goal

pub returns-clause-protects : goal.returns-clause-protects
returns-clause-protects c = λ slots h fills r shows region some.
    let k = c.args.self.now in
    let at = ap (λ es. entry_of es c.args.key) (sym c.deref.ensures.value) ∙ sym c.entry_of.ensures ∙ c.in-Some.is in
    let used = (used_entry k.entries.items c.args.key c.in-Some.entry at).1 in
    protect_shows k c.args.key c.in-Some.entry c.put.new.entries at slots h fills shows _ used c.put.ensures r region (omega (arith, c.in-Some-checked_add.ensures)) some

pub returns-clause-regions : goal.returns-clause-regions
returns-clause-regions c =
    let k = c.args.self.now in
    let at = ap (λ es. entry_of es c.args.key) (sym c.deref.ensures.value) ∙ sym c.entry_of.ensures ∙ c.in-Some.is in
    let used = (used_entry k.entries.items c.args.key c.in-Some.entry at).1 in
    regions_kept k c.args.key c.in-Some.entry _ c.put.new.entries at refl used c.put.ensures
