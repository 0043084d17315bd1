use Rattle.std.proofs.Common.{ap, arith, refl, sym, ◌∙◌}
use Rattle.rgo_holding.specs.Holds.{entry_at, region_of_key}
use Rattle.rgo_holding.specs.Known.{entry_of}
use Rattle.rgo_holding.proofs.Basing.{popped}
use Rattle.rgo_holding.proofs.Changing.{end_shows}
use Rattle.rgo_holding.proofs.EntryLemmas.{entry_there, used_entry}
use Rattle.rgo_holding.proofs.HoldLemmas.{regions_kept}
use Rattle.rgo_holding.proofs.holding.Holding.end_base.Goals as goal

pub returns-in-Some-clause-ends : goal.returns-in-Some-clause-ends
returns-in-Some-clause-ends c = λ slots h fills shows.
    let k = c.args.self.now in
    let key = c.in_ok-key.key in
    let at = ap (λ es. entry_of es key) (sym c.deref.ensures.value) ∙ sym c.entry_of.ensures ∙ c.in-Some.is in
    let used = (used_entry k.entries.items key c.in-Some.entry at).1 in
    let first = popped (region_of_key k) k.base.items c.pop.new.self.items key h.base c.in_ok-key.ensures.items shows.base_is in (
      first.r,
      first.rest,
      first.is,
      first.base_is,
      end_shows k key c.in-Some.entry c.put.new.entries at slots h fills shows _ used c.put.ensures first.r first.is
          (omega (arith, c.saturating_sub.ensures)) first.rest c.pop.new.self first.base_is first.others,
    )

pub returns-in-Some-clause-regions : goal.returns-in-Some-clause-regions
returns-in-Some-clause-regions c =
    let k = c.args.self.now in
    let key = c.in_ok-key.key in
    let at = ap (λ es. entry_of es key) (sym c.deref.ensures.value) ∙ sym c.entry_of.ensures ∙ c.in-Some.is in
    let used = (used_entry k.entries.items key c.in-Some.entry at).1 in
    regions_kept k key c.in-Some.entry _ c.put.new.entries at refl used c.put.ensures

pub returns-in_default-clause-ends : goal.returns-in_default-clause-ends
returns-in_default-clause-ends c = λ slots h fills shows.
    let k = c.args.self.now in
    let key = c.in_ok-key.key in
    let first = popped (region_of_key k) k.base.items c.pop.new.self.items key h.base c.in_ok-key.ensures.items shows.base_is in
    let there = entry_there k.slots (entry_at k key) first.r first.is in
    absurd (c.in_default.not-Some there.0 (c.entry_of.ensures ∙ ap (λ es. entry_of es key) c.deref.ensures.value ∙ there.1))
