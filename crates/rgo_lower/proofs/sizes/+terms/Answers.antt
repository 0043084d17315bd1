use Rattle.std.proofs.Common.{◌≡◌, ◌≤◌, List, length, map, subst, arith}
use Rattle.std.proofs.lemmas.List.{at_drop_all}
use Rattle.rgo_typed.specs.declared.terms.Term.{Term}
use Rattle.rgo_typed.specs.Tree.{terms_of}
use Rattle.rgo_typed.specs.Views.{term_of}
use Rattle.rgo_lower.specs.Sizes.{terms_size}
use Rattle.rgo_lower.proofs.sizes.+terms.Goals as goal

pub terms_size-returns : goal.terms_size-returns
terms_size-returns t c =
    let xs = c.args.terms.now.items in
    let i = c.loop-term.term-index in
    let same : c.deref-term-items.result.now ≡ xs = c.deref-term-items.ensures.value in
    let none =
    at_drop_all (λ (l : List Term). terms_size (terms_of (map term_of l))) xs i
    (subst (λ z. length z ≤ i) same c.loop-term-test.false) in
    omega (arith, none, c.loop-term.invariant.fits, c.loop-term.invariant.all)
