use Rattle.std.proofs.Common.{◌≡◌, length, Some, None, sym, ap, ◌∙◌, subst}
use Rattle.std.specs.Option.{option_map}
use Rattle.std.proofs.lemmas.List.{length-map}
use Rattle.rgo_code_words.specs.Cuts.{cut_line, nth_word}
use Rattle.rgo_code_text.specs.Items.{item_line}
use Rattle.rgo_code_text.specs.Lines.{IsFittingInstr}
use Rattle.rgo_code_text.specs.Ops.{op_text, NamedOpFits}
use Rattle.rgo_code_words.specs.Readers.{IsReadFromBytes, read_number, read_lettered, read_regions}
use Rattle.rgo_code_text.specs.Views.{named_op_of}
use Rattle.rgo_code_text.proofs.op_lines.Instrs.{wrong_count, wrong_index, wrong_place, wrong_creates, wrong_op, instr_is}
use Rattle.rgo_code_text.proofs.items.an_instr.Goals as goal

pub returns-then-words-ne4 : goal.returns-then-words-ne4
returns-then-words-ne4 c line e =
    wrong_count line (λ l. c.if-words-ne4.true (sym (length-map c.args.words.now _) ∙ ap length e ∙ l))

pub returns-in_default : goal.returns-in_default
returns-in_default c line e =
    let word0 : nth_word (cut_line 3 line) 0 ≡ c.word_at.result.now = ap (λ ws. nth_word ws 0) (sym e) ∙ sym c.word_at.ensures in
    wrong_index line (ap read_number word0 ∙ sym c.number.ensures ∙ c.in_default.is)

pub returns-in_default-lettered : goal.returns-in_default-lettered
returns-in_default-lettered c line e =
    let word1 : nth_word (cut_line 3 line) 1 ≡ c.word_at-2.result.now = ap (λ ws. nth_word ws 1) (sym e) ∙ sym c.word_at-2.ensures in
    wrong_place line (ap (read_lettered 64) word1 ∙ sym c.lettered.ensures ∙ c.in_default-lettered.is)

pub returns-in_default-2 : goal.returns-in_default-2
returns-in_default-2 c line e =
    let word2 : nth_word (cut_line 3 line) 2 ≡ c.word_at-3.result.now = ap (λ ws. nth_word ws 2) (sym e) ∙ sym c.word_at-3.ensures in
    wrong_creates line (ap (read_regions 43) word2 ∙ sym c.in_ok-creates.ensures ∙ c.in_default-2.is)

pub returns-in_ok-instr_item-in-Some-3 : goal.returns-in_ok-instr_item-in-Some-3
returns-in_ok-instr_item-in-Some-3 c line e =
    let word0 : nth_word (cut_line 3 line) 0 ≡ c.word_at.result.now = ap (λ ws. nth_word ws 0) (sym e) ∙ sym c.word_at.ensures in
    let word1 : nth_word (cut_line 3 line) 1 ≡ c.word_at-2.result.now = ap (λ ws. nth_word ws 1) (sym e) ∙ sym c.word_at-2.ensures in
    let word2 : nth_word (cut_line 3 line) 2 ≡ c.word_at-3.result.now = ap (λ ws. nth_word ws 2) (sym e) ∙ sym c.word_at-3.ensures in
    let word3 : nth_word (cut_line 3 line) 3 ≡ c.word_at-4.result.now = ap (λ ws. nth_word ws 3) (sym e) ∙ sym c.word_at-4.ensures in
    let long : length (cut_line 3 line) ≡ 4 = ap length (sym e) ∙ length-map c.args.words.now _ ∙ c.if-words-ne4.false in
    let op : IsReadFromBytes NamedOpFits op_text (nth_word (cut_line 3 line) 3) (Some (named_op_of c.in-Some-3.op)) =
    subst (λ w. IsReadFromBytes NamedOpFits op_text w (Some (named_op_of c.in-Some-3.op))) (sym word3)
    (subst (λ o. IsReadFromBytes NamedOpFits op_text c.word_at-4.result.now (option_map named_op_of o)) c.in-Some-3.is c.in_ok-op.ensures) in
    subst (λ x. IsReadFromBytes IsFittingInstr item_line line (Some x)) (sym c.in_ok-instr_item-in-Some-3.ensures)
    (instr_is line c.in-Some.index c.in-Some-lettered.place c.in-Some-2.creates (named_op_of c.in-Some-3.op) long
    (ap read_number word0 ∙ sym c.number.ensures ∙ c.in-Some.is)
    (ap (read_lettered 64) word1 ∙ sym c.lettered.ensures ∙ c.in-Some-lettered.is)
    (ap (read_regions 43) word2 ∙ sym c.in_ok-creates.ensures ∙ c.in-Some-2.is) op)

pub returns-in-None : goal.returns-in-None
returns-in-None c line e =
    let word3 : nth_word (cut_line 3 line) 3 ≡ c.word_at-4.result.now = ap (λ ws. nth_word ws 3) (sym e) ∙ sym c.word_at-4.ensures in
    wrong_op line
    (subst (λ w. IsReadFromBytes NamedOpFits op_text w None) (sym word3)
    (subst (λ o. IsReadFromBytes NamedOpFits op_text c.word_at-4.result.now (option_map named_op_of o)) c.in-None.is c.in_ok-op.ensures))
