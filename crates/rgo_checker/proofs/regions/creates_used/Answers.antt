use Rattle.std.proofs.Common.{◌∙◌, bytes_eq, ap}
use Rattle.rgo_tac.specs.Ops.{operation_of}
use Rattle.rgo_checker.proofs.decides.RegionLaws.{creates_kept}
use Rattle.rgo_checker.proofs.regions.creates_used.Goals as goal

pub creations-requires : goal.creations-requires
creations-requires c = record { live = c.requires.prepared.live }

pub returns : goal.returns
returns c =
    creates_kept c.args.code.now c.args.f.now c.args.at (operation_of c.args.op) c.same_names.result c.requires.here
    c.requires.prepared.ascends c.creates.result.now c.in_ok-wanted.wanted.items c.creates.ensures
    c.in_ok-wanted.ensures (c.same_names.ensures ∙ ap (bytes_eq c.creates.result.now) c.deref.ensures.value)
