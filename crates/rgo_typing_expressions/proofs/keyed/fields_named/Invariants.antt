use Rattle.std.proofs.Common.{◌≡◌, ◌++◌, map, drop}
use Rattle.rgo_ast.specs.Tree.{elements_of}
use Rattle.rgo_ast.specs.Views.{element_of}
use Rattle.rgo_typing_rules.specs.Views.{optional_kind_of}
use Rattle.rgo_typing_expressions.specs.Checking.{field_types}
use Rattle.rgo_typing_expressions.specs.Terms.{element_numbers}
use Rattle.rgo_typing_expressions.proofs.keyed.fields_named.Given as goal

abbrev pub invariant-loop-element : goal.invariant-loop-element
invariant-loop-element l =
    (map optional_kind_of l.kinds.items
    ++ field_types l.fields (elements_of (map element_of (drop l.element-index l.elements)))
    ≡ field_types l.fields (elements_of (map element_of l.elements)))
    × (l.numbers.items
    ++ element_numbers l.fields (elements_of (map element_of (drop l.element-index l.elements)))
    ≡ element_numbers l.fields (elements_of (map element_of l.elements)))
