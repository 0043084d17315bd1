use Rattle.std.proofs.Common.{◌∙◌, bytes_eq, true, sym, refl, ap}
use Rattle.rgo_tac.specs.Ops.{operation_of}
use Rattle.rgo_checker.proofs.decides.RegionLaws.{protects_kept, no_call_kept}
use Rattle.rgo_checker.proofs.regions.protects_used.Goals as goal

pub returns-then-not-is_call : goal.returns-then-not-is_call
returns-then-not-is_call c =
    no_call_kept c.args.code.now c.args.f.now c.args.at (operation_of c.args.op) true c.requires.here
    c.requires.prepared.ascends (sym c.is_call.ensures ∙ c.if-not-is_call.true) refl

pub protections-requires-clause-live : goal.protections-requires-clause-live
protections-requires-clause-live c = c.requires.prepared.live

pub returns : goal.returns
returns c =
    protects_kept c.args.code.now c.args.f.now c.args.at (operation_of c.args.op) c.same_names.result c.requires.here
    c.requires.prepared.ascends c.protects.result.now c.in_ok-wanted.wanted.items c.passes.result.now
    (sym c.is_call.ensures ∙ c.if-not-is_call.false) c.protects.ensures c.passes.ensures c.in_ok-wanted.ensures
    (c.same_names.ensures ∙ ap (bytes_eq c.protects.result.now) c.deref.ensures.value)
