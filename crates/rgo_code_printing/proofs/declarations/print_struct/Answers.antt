use Rattle.std.proofs.Common.{[], ◌∷◌, ◌++◌, ◌∙◌, map, ap, codes, append_assoc}
use Rattle.std.proofs.lemmas.Result.{on_ok_weaker}
use Rattle.rgo_code_printing.specs.Printing.{words_after_spaces}
use Rattle.rgo_code_printing.specs.Text.{names_of}
use Rattle.rgo_code_printing.specs.Words.{type_word}
use Rattle.rgo_code_printing.proofs.Printing.{named_line}
use Rattle.rgo_code_printing.proofs.declarations.print_struct.Goals as goal

pub returns : goal.returns
returns c =
    let old = c.args.out.now.items in
    let name = c.args.s.now.name in
    let type_words = map (type_word (names_of c.args.code.now).structs) in
    let types = type_words c.args.s.now.fields in
    let named = c.in_ok-print-2.ensures ∙ ap (λ t. t ++ 32 ∷ []) c.in_ok-print.ensures in
    on_ok_weaker c.print-4.result
    (λ e. e ∙ ap (λ t. t ++ 10 ∷ []) (c.in_ok-print_fields.ensures
    ∙ ap (λ fields. c.print-3.new.out.items ++ words_after_spaces (type_words fields)) c.items.ensures)
    ∙ append_assoc c.print-3.new.out.items (words_after_spaces types) (10 ∷ [])
    ∙ ap (λ t. t ++ (words_after_spaces types ++ 10 ∷ [])) (c.in_ok-print-3.ensures ∙ ap (λ t. t ++ c.bytes.result.now) named
    ∙ ap (λ t. ((old ++ codes "struct") ++ 32 ∷ []) ++ t) c.bytes.ensures)
    ∙ named_line old (codes "struct") name types)
    c.print-4.ensures
