use Rattle.std.proofs.Common.{◌≡◌, map, drop}
use Rattle.rgo_ast.specs.Tree.{elements_of}
use Rattle.rgo_ast.specs.Views.{element_of}
use Rattle.rgo_typing_expressions.specs.Checking.{has_twice}
use Rattle.rgo_typing_expressions.proofs.keyed.repeats.Given as goal

abbrev pub invariant-loop-element : goal.invariant-loop-element
invariant-loop-element l =
    has_twice l.seen (elements_of (map element_of (drop l.element-index l.elements)))
    ≡ has_twice l.fn.seen (elements_of (map element_of l.elements))
