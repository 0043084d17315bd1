use Rattle.std.proofs.Common.{ap, arith, refl, sym, ◌∙◌}
use Rattle.rgo_holding.specs.Known.{entry_of}
use Rattle.rgo_holding.proofs.EntryLemmas.{used_entry}
use Rattle.rgo_holding.proofs.HoldLemmas.{regions_kept}
use Rattle.rgo_holding.proofs.Starting.{base_shows, base_tracks}
use Rattle.rgo_holding.proofs.holding.Holding.add_base.Goals as goal

pub returns-clause-adds : goal.returns-clause-adds
returns-clause-adds c = λ slots h fills r shows region.
    let k = c.args.self.now in
    let at = ap (λ es. entry_of es c.args.key) (sym c.deref.ensures.value) ∙ sym c.entry_of.ensures ∙ c.in-Some.is in
    let used = (used_entry k.entries.items c.args.key c.in-Some.entry at).1 in
    base_shows k c.args.key c.in-Some.entry c.put.new.entries c.push.new.self _ at used c.put.ensures c.in_ok-push.ensures.items
    (omega (arith, c.in-Some-checked_add.ensures)) slots h fills r shows region

pub returns-clause-tracks : goal.returns-clause-tracks
returns-clause-tracks c = λ known tracks.
    let k = c.args.self.now in
    let at = ap (λ es. entry_of es c.args.key) (sym c.deref.ensures.value) ∙ sym c.entry_of.ensures ∙ c.in-Some.is in
    let used = (used_entry k.entries.items c.args.key c.in-Some.entry at).1 in
    base_tracks k c.args.key c.in-Some.entry c.put.new.entries c.push.new.self _ at used c.put.ensures known tracks

pub returns-clause-regions : goal.returns-clause-regions
returns-clause-regions c =
    let k = c.args.self.now in
    let at = ap (λ es. entry_of es c.args.key) (sym c.deref.ensures.value) ∙ sym c.entry_of.ensures ∙ c.in-Some.is in
    let used = (used_entry k.entries.items c.args.key c.in-Some.entry at).1 in
    regions_kept k c.args.key c.in-Some.entry _ c.put.new.entries at refl used c.put.ensures
