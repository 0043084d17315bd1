use Rattle.std.proofs.Common.{[], ◌∷◌, ◌++◌, ◌∙◌, ap, sym, append-nil, append_assoc}
use Rattle.std.proofs.lemmas.Result.{on_ok_weaker}
use Rattle.rgo_code_printing.specs.Printing.{words_after_spaces}
use Rattle.rgo_code_printing.specs.Words.{comma_separated, piece_words}
use Rattle.rgo_code_printing.proofs.Printing.{in_one_is}
use Rattle.rgo_code_printing.proofs.ops.print_pieces_word.Goals as goal

pub returns : goal.returns
returns c =
    let old = c.args.out.now.items in
    let words = piece_words c.args.pieces.now c.args.from.now 0 in
    on_ok_weaker c.print_pieces.result
    (λ e. e ∙ ap (λ t. t ++ comma_separated words) c.in_ok-print.ensures ∙ append_assoc old (32 ∷ []) (comma_separated words)
    ∙ ap (λ t. old ++ 32 ∷ t) (sym (append-nil (comma_separated words)))
    ∙ ap (λ ws. old ++ words_after_spaces ws)
    (sym (in_one_is c.args.pieces.now c.args.from.now 0 (sym c.is_empty.ensures ∙ c.if-is_empty.false))))
    c.print_pieces.ensures
