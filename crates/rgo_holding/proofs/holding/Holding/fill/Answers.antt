use Rattle.std.proofs.Common.{ap, refl, sym, ◌∙◌}
use Rattle.rgo_holding.specs.Known.{entry_of}
use Rattle.rgo_holding.proofs.EntryLemmas.{used_entry}
use Rattle.rgo_holding.proofs.HoldLemmas.{regions_kept}
use Rattle.rgo_holding.proofs.Changing.{fill_shows, no_fill_shows}
use Rattle.rgo_holding.proofs.holding.Holding.fill.Goals as goal

pub returns-clause-fills : goal.returns-clause-fills
returns-clause-fills c = λ slots h fills r shows region.
    let k = c.args.self.now in
    let at = ap (λ es. entry_of es c.args.key) (sym c.deref.ensures.value) ∙ sym c.entry_of.ensures ∙ c.in-Some.is in
    let used = (used_entry k.entries.items c.args.key c.in-Some.entry at).1 in
    fill_shows k c.args.key c.in-Some.entry c.put.new.entries at slots h fills shows c.in-Some-page.page c.args.words used c.in-Some-page.is c.put.ensures r region

pub returns-clause-regions : goal.returns-clause-regions
returns-clause-regions c =
    let k = c.args.self.now in
    let at = ap (λ es. entry_of es c.args.key) (sym c.deref.ensures.value) ∙ sym c.entry_of.ensures ∙ c.in-Some.is in
    let used = (used_entry k.entries.items c.args.key c.in-Some.entry at).1 in
    regions_kept k c.args.key c.in-Some.entry _ c.put.new.entries at refl used c.put.ensures

pub returns-in_default-page-clause-fills : goal.returns-in_default-page-clause-fills
returns-in_default-page-clause-fills c = λ slots h fills r shows region.
    let k = c.args.self.now in
    let at = ap (λ es. entry_of es c.args.key) (sym c.deref.ensures.value) ∙ sym c.entry_of.ensures ∙ c.in-Some.is in
    no_fill_shows k c.args.key c.in-Some.entry k.entries at slots h fills shows c.args.words c.in_default-page.is r region
