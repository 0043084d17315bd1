use Rattle.rgo_typing_expressions.proofs.Lists.{Before, exprs, elements}
use Rattle.rgo_typing_expressions.proofs.checkers.Checker.+expressions.Given as goal

abbrev pub invariant-check_all-loop-e : goal.invariant-check_all-loop-e
invariant-check_all-loop-e l =
    Before (exprs l.self l.role) l.wanted l.all l.e-index l.shapes.items l.terms.items

abbrev pub invariant-check_elements-loop-element : goal.invariant-check_elements-loop-element
invariant-check_elements-loop-element l =
    Before (elements l.self) l.known l.elements l.element-index l.shapes.items l.terms.items
