use Rattle.std.proofs.Common.{Decides, ◌↔◌, ◌∙◌, ℕ, List, [], Bor, sym, subst}
use Rattle.std.specs.List.{Contains}
use Rattle.std.specs.Option.{option_map}
use Rattle.rgo_tac.specs.declared.regions.Class.TheVariants.{Name}
use Rattle.rgo_code.specs.declared.functions.CodeFn.{CodeFn}
use Rattle.rgo_region_sets.specs.Asked.{IsInNeither, IsGiven}
use Rattle.rgo_region_sets.proofs.Giving.{given}
use Rattle.rgo_region_sets.proofs.Members.{no_names, names_more, names_same, all_names, set_with}
use Rattle.rgo_region_sets.proofs.given.gives.Goals as goal
use Rattle.rgo_region_sets.proofs.given.gives.Goals.{in-Some+in_ok-push_if, in_default}

pub loop-class-init : goal.loop-class-init
loop-class-init c =
    let free = IsInNeither c.args.protects.now c.in_ok-lent.lent.items in
    subst (λ (l : List ℕ). (k : ℕ) → Contains l k ↔ (Contains [] (Name k) × free k))
    (sym c.new-names.ensures.items) (no_names c.args.passes.now free)

pub loop-class-preserved : goal.loop-class-preserved
loop-class-preserved c =
    let free = IsInNeither c.args.protects.now c.in_ok-lent.lent.items in
    elim c.match-name_of.branch [
      | in-Some+in_ok-push_if w ↦ rw w.names-is (names_more c.args.passes.now c.loop-class.class-index _
          c.loop-class-test.true free c.loop-class.names.items c.loop-class.invariant w.push_if.new.names.items
          w.is_given-given.result w.in-Some.name (sym c.name_of.ensures ∙ w.in-Some.is)
          (subst (λ (l : List ℕ). Decides w.is_given-given.result (IsInNeither c.args.protects.now l w.in-Some.name))
          w.deref.ensures.value w.is_given-given.ensures) w.in_ok-push_if.ensures)
      | in_default w ↦ rw w.names-is (names_same c.args.passes.now c.loop-class.class-index _ c.loop-class-test.true
          free c.loop-class.names.items c.loop-class.invariant (sym c.name_of.ensures ∙ w.in_default.is))
    ]

pub returns : goal.returns
returns c =
    let callee = option_map (λ (g : Bor CodeFn). g.now) c.args.callee in
    let protects = c.args.protects.now in
    let all = all_names c.args.passes.now c.loop-class.class-index (IsInNeither protects c.in_ok-lent.lent.items)
    c.loop-class.names.items c.loop-class-test.false c.loop-class.invariant in
    set_with c.set_of.result.items (Contains c.loop-class.names.items) (IsGiven callee c.args.passes.now protects)
    c.set_of.ensures
    (given callee c.args.passes.now protects c.in_ok-lent.lent.items c.loop-class.names.items
    c.in_ok-lent.ensures.members all)
