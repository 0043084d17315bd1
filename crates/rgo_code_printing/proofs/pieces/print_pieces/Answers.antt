use Rattle.std.proofs.Common.{ap, arith}
use Rattle.std.proofs.lemmas.List.{drop_all}
use Rattle.rgo_code_printing.specs.Words.{piece_words}
use Rattle.rgo_code_printing.proofs.Printing.{all_listed}
use Rattle.rgo_code_printing.proofs.pieces.print_pieces.Goals as goal

pub returns : goal.returns
returns c =
    let pieces = c.args.pieces.now in
    let from = c.args.from.now in
    all_listed c.args.out.now.items c.loop-i.out.items _ (piece_words pieces from 0) c.loop-i.i
    (ap (λ left. piece_words left from c.loop-i.n)
    (drop_all c.loop-i.i pieces (omega (arith, c.loop-i-test.false, c.loop-i.auto.i-end))))
    c.loop-i.invariant.printed
