use Rattle.std.proofs.Common.{◌↔◌, ℕ, List, [], ◌∙◌, sym, subst, arith}
use Rattle.std.specs.List.{Contains}
use Rattle.rgo_tac.specs.declared.regions.Class.{Class}
use Rattle.rgo_tac.specs.declared.regions.Class.TheVariants.{Name}
use Rattle.rgo_region_sets.specs.Asked.{EntryRemoves, IsMissing}
use Rattle.rgo_region_sets.proofs.Members.{no_names, names_more, names_same, all_names, entry_removed, set_with}
use Rattle.rgo_region_sets.proofs.entry.entry_removals.Goals.{in-Some+in_ok-push_if, in_default}
use Rattle.rgo_region_sets.proofs.entry.entry_removals.Goals as goal

pub loop-class-init : goal.loop-class-init
loop-class-init c =
    subst (λ (l : List ℕ). (k : ℕ) → Contains l k ↔ (Contains {X = Class} [] (Name k) × IsMissing c.args.f.now 0 k))
    (sym c.new-names.ensures.items) (no_names [] (IsMissing c.args.f.now 0))

pub loop-class-preserved : goal.loop-class-preserved
loop-class-preserved c =
    let classes = c.deref-class-items.result.now in
    let i = c.loop-class.class-index in
    let old = c.loop-class.names.items in
    elim c.match-name_of.branch [
      | in-Some+in_ok-push_if w ↦
          rw w.names-is (names_more classes i _ c.loop-class-test.true (IsMissing c.args.f.now 0) old
          c.loop-class.invariant w.push_if.new.names.items w.is_missing-missing.result w.in-Some.name
          (sym c.name_of.ensures ∙ w.in-Some.is) w.is_missing-missing.ensures w.in_ok-push_if.ensures)
      | in_default w ↦
          rw w.names-is (names_same classes i _ c.loop-class-test.true (IsMissing c.args.f.now 0) old
          c.loop-class.invariant (sym c.name_of.ensures ∙ w.in_default.is))
    ]

pub returns : goal.returns
returns c =
    let classes = c.deref-class-items.result.now in
    let names = c.loop-class.names.items in
    set_with c.set_of.result.items (Contains names) (EntryRemoves c.args.f.now) c.set_of.ensures
    (entry_removed c.args.f.now classes names (c.deref-class-items.ensures.value ∙ c.in_ok-classes.ensures)
    (all_names classes c.loop-class.class-index (IsMissing c.args.f.now 0) names
    (omega (arith, c.loop-class-test.false)) c.loop-class.invariant))
