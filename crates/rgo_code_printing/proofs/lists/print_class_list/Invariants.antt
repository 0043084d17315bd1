use Rattle.std.proofs.Common.{◌≡◌, ◌++◌, map, drop}
use Rattle.rgo_code_printing.specs.Words.{class_word}
use Rattle.rgo_code_printing.specs.Printing.{listed_from}
use Rattle.rgo_code_printing.proofs.lists.print_class_list.Given as goal

abbrev pub invariant-loop-i : goal.invariant-loop-i
invariant-loop-i l =
    l.out.items ++ listed_from l.i (map class_word (drop l.i l.classes))
    ≡ l.fn.out.items ++ listed_from 0 (map class_word l.classes)
