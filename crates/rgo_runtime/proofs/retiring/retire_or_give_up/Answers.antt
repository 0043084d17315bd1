-- What `is_empty` and `has_place` found is what `retire` requires; else `give_up` requires less. `is_whole` stays only in the first case.
use Rattle.std.proofs.Common.{◌≡◌, ◌∙◌, ap, arith, length, refl, sym, true≢false}
use Rattle.std.proofs.lemmas.Bool.Decides.{nat_tests}
use Rattle.rgo_runtime.specs.Leaving.{IsEmptied}
use Rattle.rgo_runtime.proofs.leaving.All.{one_is_given_up, one_retires}
use Rattle.rgo_runtime.proofs.lists.Queues.{nothing_in}
use Rattle.rgo_runtime.proofs.retiring.retire_or_give_up.Goals.{then-new_prints-eq0, else-new_prints-eq0}
use Rattle.rgo_runtime.proofs.retiring.retire_or_give_up.Goals.{else-is_empty-via-then-is_empty+else-has_place, else-is_empty-via-else-is_empty}
use Rattle.rgo_runtime.proofs.retiring.retire_or_give_up.Goals as goal

pub retire-requires-clause-adopted : goal.retire-requires-clause-adopted
retire-requires-clause-adopted c =
    let none : length c.args.goroutine.children.items ≡ 0 = elim c.if-new_prints-eq0.branch [
      | then-new_prints-eq0 w ↦ grind (arith, nat_tests, w.is_empty-is, w.new_children.ensures, c.if-is_empty.true)
      | else-new_prints-eq0 w ↦ grind (arith, nat_tests, w.is_empty-is, w.if-new_prints-eq0.false, c.if-is_empty.true)
    ]
    in
    nothing_in c.args.goroutine.children.items none

pub returns-then-has_place : goal.returns-then-has_place
returns-then-has_place c =
    let none : length c.args.goroutine.children.items ≡ 0 = elim c.if-new_prints-eq0.branch [
      | then-new_prints-eq0 w ↦ grind (arith, nat_tests, w.is_empty-is, w.new_children.ensures, c.if-is_empty.true)
      | else-new_prints-eq0 w ↦ grind (arith, nat_tests, w.is_empty-is, w.if-new_prints-eq0.false, c.if-is_empty.true)
    ]
    in
    let its = c.retire.ensures in
    one_retires c.args.run.now c.args.goroutine c.args.left.now _ its.own.0 its.places its.retired
    (nothing_in c.args.goroutine.children.items none) its.records its.seen refl its.kept

pub returns-else-is_empty : goal.returns-else-is_empty
returns-else-is_empty c =
    let its = c.give_up.ensures in
    let full : IsEmptied (length c.args.left.now.shares) c.args.goroutine → ⊥ = λ empty.
    let no_prints : length c.args.goroutine.prints.items ≡ 0 = ap length empty.prints in
    let no_children : length c.args.goroutine.children.items ≡ 0 = ap length empty.children in
    elim c.else-is_empty.branch [
      | else-is_empty-via-then-is_empty+else-has_place w ↦
          true≢false (sym (w.has_place.ensures.1 (omega (arith, w.number.ensures, empty.place))) ∙ w.if-has_place.false)
      | else-is_empty-via-else-is_empty w ↦ elim c.if-new_prints-eq0.branch [
        | then-new_prints-eq0 x ↦ grind (arith, nat_tests, x.is_empty-is, x.new_children.ensures, w.if-is_empty.false, no_children)
        | else-new_prints-eq0 x ↦ grind (arith, nat_tests, x.if-new_prints-eq0.false, c.new_prints.ensures, no_prints)
      ]
    ]
    in
    one_is_given_up c.args.run.now c.args.goroutine c.args.left.now _ its.own.0 its.places its.retired refl full its.kept
