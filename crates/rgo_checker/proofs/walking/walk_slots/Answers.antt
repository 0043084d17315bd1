use Rattle.std.proofs.Common.{◌≡◌, ◌∙◌, List, length, slice_get, Some, refl, ap, subst, arith}
use Rattle.std.proofs.lemmas.List.{length-map}
use Rattle.std.proofs.lemmas.Option.{slice_get_read}
use Rattle.rgo_typed.specs.declared.types.Type.{«Type»}
use Rattle.rgo_code.specs.declared.rules.Line.TheVariants.{Slot as SlotLine}
use Rattle.rgo_checker.specs.ClassTests.{class_fits}
use Rattle.rgo_checker.specs.Lines.{first_lines}
use Rattle.rgo_checker.specs.Scan.{Walks}
use Rattle.rgo_checker.proofs.walks.Scanning.{walks_none}
use Rattle.rgo_checker.proofs.walks.WalkLaws.{walks_more, slot_walked}
use Rattle.rgo_checker.proofs.walking.walk_slots.Goals as goal

pub loop-v-init : goal.loop-v-init
loop-v-init c = λ n here. walks_none c.args.code.now 2 15 c.args.scan.now

pub loop-v-preserved : goal.loop-v-preserved
loop-v-preserved c = λ n here.
    let code = c.args.code.now in
    let f = c.args.f.now in
    let v = c.loop-v.v in
    let types = c.variables-types.result.now in
    let ty = c.index-types-v.result in
    walks_more code 2 15 (SlotLine n) v c.args.scan.now c.loop-v.scan c.pass_classes.new.scan
    (c.loop-v.invariant n here)
    (slot_walked code n f here v ty
    (subst (λ (tys : List «Type»). slice_get tys v ≡ Some ty)
    (c.variables-types.ensures ∙ ap (λ x. x.variables) c.tac.ensures)
    (slice_get_read types (length types) v ty refl (omega arith) c.index-types-v.is))
    c.loop-v.scan c.pass_classes.new.scan c.class_fits-kept.result
    (c.class_fits-kept.ensures ∙ ap (λ x. class_fits x ty) c.class_at.ensures)
    c.pass_classes.ensures)

pub returns : goal.returns
returns c = λ n here.
    let f = c.args.f.now in
    let long = ap (λ (tys : List «Type»). length tys) (c.variables-types.ensures ∙ ap (λ x. x.variables) c.tac.ensures)
    ∙ length-map f.variables (λ s. s.ty) in
    let whole : c.loop-v.v ≡ length f.variables = omega (arith, long) in
    subst (λ k. Walks c.args.code.now 2 15 (first_lines (SlotLine n) k) c.args.scan.now c.loop-v.scan) whole
    (c.loop-v.invariant n here)
