use Rattle.std.proofs.Common.{◌≡◌, ◌≤◌, List, length, map, subst, arith}
use Rattle.std.proofs.lemmas.List.{at_drop_all}
use Rattle.rgo_typed.specs.declared.programs.Function.{Function}
use Rattle.rgo_typed.specs.Views.{typed_function_of}
use Rattle.rgo_lower.specs.Sizes.{largest_of}
use Rattle.rgo_lower.proofs.sizes.largest_of.Goals as goal

pub returns : goal.returns
returns c =
    let xs = c.args.functions.now.items in
    let i = c.loop-function.function-index in
    let same : c.deref-function-items.result.now ≡ xs = c.deref-function-items.ensures.value in
    let none =
    at_drop_all (λ (l : List Function). largest_of (map typed_function_of l)) xs i
    (subst (λ z. length z ≤ i) same c.loop-function-test.false) in
    omega (arith, none, c.loop-function.invariant.fits, c.loop-function.invariant.all)
