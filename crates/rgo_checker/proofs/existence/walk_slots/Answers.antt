use Rattle.std.proofs.Common.{◌≡◌, ◌∙◌, List, length, slice_get, Some, refl, ap, subst, arith}
use Rattle.std.proofs.lemmas.List.{length-map}
use Rattle.std.proofs.lemmas.Option.{slice_get_read}
use Rattle.rgo_typed.specs.declared.types.Type.{«Type»}
use Rattle.rgo_code.specs.declared.rules.Line.TheVariants.{Slot as SlotLine}
use Rattle.rgo_checker.specs.Lines.{first_lines}
use Rattle.rgo_checker.specs.Scan.{Walks}
use Rattle.rgo_checker.specs.Tests.{type_exists}
use Rattle.rgo_checker.proofs.walks.ExistenceWalk.{slot_walked}
use Rattle.rgo_checker.proofs.walks.Scanning.{walks_none}
use Rattle.rgo_checker.proofs.walks.WalkLaws.{walks_more}
use Rattle.rgo_checker.proofs.existence.walk_slots.Goals as goal

pub loop-v-init : goal.loop-v-init
loop-v-init c = λ n here. walks_none c.args.code.now 1 2 c.args.scan.now

pub loop-v-preserved : goal.loop-v-preserved
loop-v-preserved c = λ n here.
    let code = c.args.code.now in
    let v = c.loop-v.v in
    let types = c.variables-types.result.now in
    let ty = c.index-types-v.result in
    walks_more code 1 2 (SlotLine n) v c.args.scan.now c.loop-v.scan c.pass_existence.new.scan
    (c.loop-v.invariant n here)
    (slot_walked code c.loop-v.scan c.pass_existence.new.scan n c.args.f.now here v ty
    (subst (λ (tys : List «Type»). slice_get tys v ≡ Some ty)
    (c.variables-types.ensures ∙ ap (λ x. x.variables) c.tac.ensures)
    (slice_get_read types (length types) v ty refl (omega arith) c.index-types-v.is))
    c.type_exists-exists.result (c.type_exists-exists.ensures ∙ ap (λ x. type_exists x ty) c.tac-program.ensures)
    c.pass_existence.ensures)

pub returns : goal.returns
returns c = λ n here.
    let f = c.args.f.now in
    let long = ap (λ (tys : List «Type»). length tys) (c.variables-types.ensures ∙ ap (λ x. x.variables) c.tac.ensures)
    ∙ length-map f.variables (λ s. s.ty) in
    let whole : c.loop-v.v ≡ length f.variables = omega (arith, long) in
    subst (λ k. Walks c.args.code.now 1 2 (first_lines (SlotLine n) k) c.args.scan.now c.loop-v.scan) whole
    (c.loop-v.invariant n here)
