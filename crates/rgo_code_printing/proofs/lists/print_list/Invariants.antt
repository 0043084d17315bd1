use Rattle.std.proofs.Common.{◌≡◌, ◌∷◌, ◌++◌, map, drop, decimal}
use Rattle.rgo_code_printing.specs.Printing.{listed_from}
use Rattle.rgo_code_printing.proofs.lists.print_list.Given as goal

abbrev pub invariant-loop-i : goal.invariant-loop-i
invariant-loop-i l =
    l.out.items ++ listed_from l.i (map (λ n. l.letter ∷ decimal n) (drop l.i l.numbers))
    ≡ l.fn.out.items ++ listed_from 0 (map (λ n. l.letter ∷ decimal n) l.numbers)
