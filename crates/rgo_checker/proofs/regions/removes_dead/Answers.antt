use Rattle.std.proofs.Common.{◌∙◌, bytes_eq, sym, ap, subst}
use Rattle.std.specs.List.Sorted.{IsStrictlyIncreasing}
use Rattle.rgo_tac.specs.Ops.{operation_of}
use Rattle.rgo_region_sets.specs.Sets.{IsSet}
use Rattle.rgo_checker.specs.Regions.{GivenBy}
use Rattle.rgo_checker.proofs.decides.RegionLaws.{removes_kept, protects_rise}
use Rattle.rgo_checker.proofs.regions.removes_dead.Goals as goal

pub given-requires : goal.given-requires
given-requires c =
    subst IsStrictlyIncreasing (sym c.protects.ensures)
    (protects_rise c.args.f.now c.args.at c.requires.prepared.ascends)

pub removals-requires-clause-live : goal.removals-requires-clause-live
removals-requires-clause-live c = c.requires.prepared.live

pub removals-requires-clause-gives : goal.removals-requires-clause-gives
removals-requires-clause-gives c =
    subst IsStrictlyIncreasing (sym c.deref.ensures.value) c.in_ok-gives.ensures.ascends

pub returns : goal.returns
returns c =
    let op = operation_of c.args.op in
    let given =
    subst (λ names. IsSet names (GivenBy c.args.code.now op c.passes.result.now c.protects.result.now))
    (sym c.deref.ensures.value) c.in_ok-gives.ensures in
    removes_kept c.args.code.now c.args.f.now c.args.at op c.requires.here c.requires.prepared.ascends
    c.requires.created c.passes.result.now c.protects.result.now c.removes.result.now c.otherwise.result.now
    c.deref.result.now c.in_ok-wanted.wanted.after.items c.in_ok-wanted.wanted.otherwise.items
    c.passes.ensures c.protects.ensures c.removes.ensures c.otherwise.ensures given
    c.in_ok-wanted.ensures.after c.in_ok-wanted.ensures.otherwise c.same_names.result c.same_names-2.result
    c.both.result c.both.ensures
    (c.same_names.ensures ∙ ap (bytes_eq c.removes.result.now) c.deref-2.ensures.value)
    (c.same_names-2.ensures ∙ ap (bytes_eq c.otherwise.result.now) c.deref-3.ensures.value)
