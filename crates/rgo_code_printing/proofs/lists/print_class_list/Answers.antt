use Rattle.std.proofs.Common.{map, ap, arith}
use Rattle.std.proofs.lemmas.List.{drop_all}
use Rattle.rgo_code_printing.specs.Words.{class_word}
use Rattle.rgo_code_printing.proofs.Printing.{all_listed}
use Rattle.rgo_code_printing.proofs.lists.print_class_list.Goals as goal

pub returns : goal.returns
returns c =
    let classes = c.args.classes.now in
    all_listed c.args.out.now.items c.loop-i.out.items _ (map class_word classes) c.loop-i.i
    (ap (map class_word) (drop_all c.loop-i.i classes (omega (arith, c.loop-i-test.false, c.loop-i.auto.i-end))))
    c.loop-i.invariant
