use Rattle.std.proofs.Common.{◌∷◌, map, ap, decimal, arith}
use Rattle.std.proofs.lemmas.List.{drop_all}
use Rattle.rgo_code_printing.proofs.Printing.{all_listed}
use Rattle.rgo_code_printing.proofs.lists.print_list.Goals as goal

pub returns : goal.returns
returns c =
    let numbers = c.args.numbers.now in
    let words = map (λ n. c.args.letter ∷ decimal n) numbers in
    all_listed c.args.out.now.items c.loop-i.out.items _ words c.loop-i.i
    (ap (map (λ n. c.args.letter ∷ decimal n))
    (drop_all c.loop-i.i numbers (omega (arith, c.loop-i-test.false, c.loop-i.auto.i-end))))
    c.loop-i.invariant
