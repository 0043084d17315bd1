use Rattle.std.proofs.Common.{arith, ◌≡◌, ◌+◌, ◌<◌, ◌≤◌, Some, append-nil, [], ◌∷◌, length, map, get_or, subst, sym, ap, ◌∙◌}
use Rattle.std.proofs.lemmas.Result.{IfOk-weaker}
use Rattle.rgo_typed.specs.declared.actions.Action.TheVariants.{Copy, New}
use Rattle.rgo_tac.specs.Code.{Do}
use Rattle.rgo_typed.specs.Tree.{terms_of}
use Rattle.rgo_typed.specs.Views.{term_of}
use Rattle.rgo_lower.specs.Lowered.{bool_type, pointer_type}
use Rattle.rgo_lower.specs.Emitted.{made_of, always, OpIsAdded, ValueIsAdded, FieldsAreStored, TermIsEmitted, TermsAreEmitted, acts, decides}
use Rattle.rgo_lower.proofs.Growing.{one_more_before}
use Rattle.rgo_lower.proofs.TermParts.{next_size, next_fits, apply_emitted, call_emitted, build_emitted, logic_emitted, next_emitted, end_emitted, logic_end}
use Rattle.rgo_lower.proofs.Labels.{fresh, placed}
use Rattle.rgo_lower.proofs.Views.{apply_is, logic_is, build_is, call_is}
use Rattle.rgo_lower.proofs.terms.+terms.Goals as goal

pub lower_term-returns-in_ok-from-in-Apply : goal.lower_term-returns-in_ok-from-in-Apply
lower_term-returns-in_ok-from-in-Apply t c =
    let x = c.in-Apply in
    let a = made_of c.args.b.now in
    let b = made_of c.lower_terms.new.b in
    let e = made_of c.give.new.self in
    let from = c.in_ok-from-in-Apply.from in
    let same : c.deref.result.now ≡ from.items = c.deref.ensures.value in
    IfOk-weaker c.give.result _ _
    (λ d v. subst (λ z. TermIsEmitted z a d e) (sym (ap term_of x.is ∙ apply_is x.action x.parts x.ty x.place))
    (apply_emitted x.action (terms_of (map term_of x.parts.items)) x.ty x.place d from.items a b e
    c.in_ok-from-in-Apply.ensures (subst (λ z. ValueIsAdded b (acts x.action z) x.ty x.place d e) same v)))
    c.give.ensures

pub lower_term-returns-in_ok-from-in-Call : goal.lower_term-returns-in_ok-from-in-Call
lower_term-returns-in_ok-from-in-Call t c =
    let x = c.in-Call in
    let a = made_of c.args.b.now in
    let b = made_of c.lower_terms-in-Call.new.b in
    let e = made_of c.call.new.self in
    let from = c.in_ok-from-in-Call.from in
    IfOk-weaker c.call.result _ _
    (λ d v. subst (λ z. TermIsEmitted z a d e) (sym (ap term_of x.is ∙ call_is x.function x.arguments x.ty x.place))
    (call_emitted x.function (terms_of (map term_of x.arguments.items)) x.ty x.place d from.items a b e
    c.in_ok-from-in-Call.ensures v))
    c.call.ensures

pub lower_term-returns-in_ok-place-in-Logic : goal.lower_term-returns-in_ok-place-in-Logic
lower_term-returns-in_ok-place-in-Logic t c =
    let x = c.in-Logic in
    let l = c.in_ok-l-in-Logic.l in
    let d = c.in_ok-d-in-Logic.d in
    let end = c.in_ok-end-in-Logic.end in
    let b0 = made_of c.args.b.now in
    let b1 = made_of c.lower_term.new.b in
    let b2 = made_of c.give-in-Logic.new.self in
    let b3 = made_of c.label.new.self in
    let b4 = made_of c.branch_on.new.self in
    let b5 = made_of c.lower_term-in-Logic.new.b in
    let b6 = made_of c.copy_to.new.self in
    let b7 = made_of c.place.new.self in
    let first : TermIsEmitted (term_of x.left.value) b0 l b1 =
    subst (λ z. TermIsEmitted (term_of z) b0 l b1) c.deref-in-Logic.ensures c.in_ok-l-in-Logic.ensures in
    let copy : ValueIsAdded b1 (acts Copy (l ∷ [])) bool_type x.place d b2 =
    subst (λ z. ValueIsAdded b1 (acts Copy (l ∷ [])) z x.place d b2) c.truth.ensures c.in_ok-d-in-Logic.ensures in
    let label = fresh b2 b3 end c.in_ok-end-in-Logic.ensures.0 c.in_ok-end-in-Logic.ensures.1 in
    let branch : OpIsAdded b3 (decides x.logic d (length b3.lines + 1) end) x.place b4 =
    c.in_ok-branch_on-in-Logic.ensures in
    let second : TermIsEmitted (term_of x.right.value) b4 c.in_ok-r-in-Logic.r b5 =
    subst (λ z. TermIsEmitted (term_of z) b4 c.in_ok-r-in-Logic.r b5) c.deref-in-Logic-2.ensures
    c.in_ok-r-in-Logic.ensures in
    let store : OpIsAdded b5 (always (Do (Some d) Copy (c.in_ok-r-in-Logic.r ∷ []))) x.place b6 =
    c.in_ok-copy_to-in-Logic.ensures in
    let ends = placed b6 b7 end (logic_end x.logic
    (term_of x.right.value) x.place d c.in_ok-r-in-Logic.r end b2 b3 b4 b5 b6
    label branch second store) c.in_ok-place-in-Logic.ensures in
    subst (λ z. TermIsEmitted z b0 d b7) (sym (ap term_of x.is ∙ logic_is x.logic x.left x.right x.place))
    (logic_emitted x.logic (term_of x.left.value)
    (term_of x.right.value) x.place l d c.in_ok-r-in-Logic.r end b0 b1 b2 b3 b4
    b5 b6 b7 first copy label branch second store ends)

pub lower_term-returns-in_ok-fill-in-Build : goal.lower_term-returns-in_ok-fill-in-Build
lower_term-returns-in_ok-fill-in-Build t c =
    let x = c.in-Build in
    let from = c.in_ok-from-in-Build.from in
    let d = c.in_ok-object-in-Build.object in
    let b0 = made_of c.args.b.now in
    let b1 = made_of c.lower_terms-in-Build.new.b in
    let b2 = made_of c.give-in-Build.new.self in
    let b3 = made_of c.fill.new.self in
    let new : ValueIsAdded b1 (acts (New x.number) []) (pointer_type x.number) x.place d b2 =
    subst (λ z. ValueIsAdded b1 (acts (New x.number) []) z x.place d b2) c.pointer_to-ty.ensures
    c.in_ok-object-in-Build.ensures in
    let fields : c.items.result.now ≡ x.fields = c.items.ensures in
    let values : c.deref-in-Build.result.now ≡ from.items = c.deref-in-Build.ensures.value in
    let stored : FieldsAreStored d x.fields from.items x.place b2 b3 =
    subst (λ z. FieldsAreStored d x.fields z x.place b2 b3) values
    (subst (λ z. FieldsAreStored d z c.deref-in-Build.result.now x.place b2 b3) fields
    c.in_ok-fill-in-Build.ensures) in
    subst (λ z. TermIsEmitted z b0 d b3) (sym (ap term_of x.is ∙ build_is x.number x.parts x.fields x.place))
    (build_emitted x.number (terms_of (map term_of x.parts.items)) x.fields x.place d from.items b0 b1 b2 b3
    c.in_ok-from-in-Build.ensures new stored)

pub lower_terms-loop-term-preserved : goal.lower_terms-loop-term-preserved
lower_terms-loop-term-preserved t c =
    let xs = c.args.terms.now.items in
    let i = c.loop-term.term-index in
    let x = c.term-item.result in
    let d = c.in_ok-lower_term.field-0 in
    let same : c.deref-term-items.result.now ≡ xs = c.deref-term-items.ensures.value in
    let lt : i < length xs = subst (λ z. i < length z) same c.loop-term-test.true in
    let is : x ≡ get_or xs i x = subst (λ z. x ≡ get_or z i x) same c.term-item.is in
    let more = next_size xs i x lt is in
    record {
      small = omega (arith, more, c.loop-term.invariant.small, c.in_ok-lower_term.ensures.size);
      shape = (next_fits xs i x lt is c.loop-term.invariant.shape).1;
      rest = λ new ds rest.
          subst (λ z. TermsAreEmitted (terms_of (map term_of xs)) (made_of c.args.b.now) z new)
          (one_more_before c.loop-term.from.items c.push.new.self.items ds d c.in_ok-push.ensures.items)
          (c.loop-term.invariant.rest new (d ∷ ds)
          (next_emitted xs i x (made_of c.loop-term.b) (made_of c.lower_term.new.b) new d ds lt is
          c.in_ok-lower_term.ensures rest));
    }

pub lower_terms-returns : goal.lower_terms-returns
lower_terms-returns t c =
    let xs = c.args.terms.now.items in
    let i = c.loop-term.term-index in
    let same : c.deref-term-items.result.now ≡ xs = c.deref-term-items.ensures.value in
    subst (λ z. TermsAreEmitted (terms_of (map term_of xs)) (made_of c.args.b.now) z (made_of c.loop-term.b))
    (append-nil c.loop-term.from.items)
    (c.loop-term.invariant.rest (made_of c.loop-term.b) []
    (end_emitted xs i (made_of c.loop-term.b) (subst (λ z. length z ≤ i) same c.loop-term-test.false)))
