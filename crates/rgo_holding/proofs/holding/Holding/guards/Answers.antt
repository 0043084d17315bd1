use Rattle.std.proofs.Common.{ap, nat_lt, sym, ◌∙◌}
use Rattle.rgo_sound.specs.RegionMachine.Duties.{guards}
use Rattle.rgo_holding.specs.Known.{entry_of}
use Rattle.rgo_holding.proofs.Changing.{region_entry}
use Rattle.rgo_holding.proofs.CountLemmas.{guarded}
use Rattle.rgo_holding.proofs.holding.Holding.guards.Goals as goal

pub returns-in-Some : goal.returns-in-Some
returns-in-Some c = λ slots h fills r shows region.
    let k = c.args.self.now in
    let at = ap (λ es. entry_of es c.args.key) (sym c.deref.ensures.value) ∙ sym c.entry_of.ensures ∙ c.in-Some.is in
    ap (nat_lt 0) (shows.counted c.args.key c.in-Some.entry at) ∙ guarded h.base h.environments _
    ∙ ap (guards h.base h.environments) (region_entry k c.args.key c.in-Some.entry r at region)
