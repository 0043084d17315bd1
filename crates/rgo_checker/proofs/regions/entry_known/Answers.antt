use Rattle.std.proofs.Common.{◌∙◌, nat_eq, ap}
use Rattle.std.specs.HashSet.{contains}
use Rattle.std.specs.List.{list_all}
use Rattle.rgo_checker.proofs.decides.RegionLaws.{entry_known_kept}
use Rattle.rgo_checker.proofs.regions.entry_known.Goals as goal

pub holds_at_entry-requires : goal.holds_at_entry-requires
holds_at_entry-requires c = record { live = c.requires.live }

pub returns : goal.returns
returns c =
    entry_known_kept c.args.f.now c.all_among.result c.in_ok-held.held.items
    (λ k. contains nat_eq c.in_ok-names.names k) c.in_ok-held.ensures c.in_ok-names.ensures
    (c.all_among.ensures ∙ ap (list_all (λ k. contains nat_eq c.in_ok-names.names k)) c.deref.ensures.value)
