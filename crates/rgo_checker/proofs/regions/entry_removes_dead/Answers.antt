use Rattle.std.proofs.Common.{◌∙◌, bytes_eq, ap}
use Rattle.rgo_checker.proofs.decides.RegionLaws.{entry_removes_kept}
use Rattle.rgo_checker.proofs.regions.entry_removes_dead.Goals as goal

pub entry_removals-requires : goal.entry_removals-requires
entry_removals-requires c = record { live = c.requires.live }

pub returns : goal.returns
returns c =
    entry_removes_kept c.args.f.now c.same_names.result c.entry.result.now c.in_ok-wanted.wanted.items
    c.requires.ascends c.entry.ensures c.in_ok-wanted.ensures
    (c.same_names.ensures ∙ ap (bytes_eq c.entry.result.now) c.deref.ensures.value)
