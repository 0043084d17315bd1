use Rattle.std.proofs.Common.{◌≡◌, length, [], Some, None, sym, ap, ◌∙◌, refl}
use Rattle.std.proofs.lemmas.List.{length-map}
use Rattle.rgo_tac.specs.declared.code.Instr.TheVariants as code
use Rattle.rgo_code_words.specs.Cuts.{nows, nth_word}
use Rattle.rgo_code_text.specs.Ops.{removing}
use Rattle.rgo_code_words.specs.Readers.{read_number, read_regions}
use Rattle.rgo_code_text.proofs.op_lines.ActionOps.{simple_op}
use Rattle.rgo_code_text.proofs.op_lines.CallNotes.{jump_is}
use Rattle.rgo_code_text.proofs.jumps.jump.Goals as goal

pub returns-in_default : goal.returns-in_default
returns-in_default c =
    let words = nows c.args.words.now in
    let len : length words ≡ 3 = length-map c.args.words.now _ ∙ c.if-words-ne3.false in
    let target : read_number (nth_word words 1) ≡ None =
    ap read_number (sym c.word_at.ensures) ∙ sym c.number.ensures ∙ c.in_default.is in
    sym (jump_is words None (read_regions 45 (nth_word words 2)) len target refl)

pub returns-in-Some-2 : goal.returns-in-Some-2
returns-in-Some-2 c =
    let words = nows c.args.words.now in
    let o = c.simple.result in
    let len : length words ≡ 3 = length-map c.args.words.now _ ∙ c.if-words-ne3.false in
    let target : read_number (nth_word words 1) ≡ Some c.in-Some.target =
    ap read_number (sym c.word_at.ensures) ∙ sym c.number.ensures ∙ c.in-Some.is in
    let removes : read_regions 45 (nth_word words 2) ≡ Some c.in-Some-2.removes =
    ap (read_regions 45) (sym c.word_at-2.ensures) ∙ sym c.in_ok-removes.ensures ∙ c.in-Some-2.is in
    ap Some (simple_op o.instr (code.Jump c.in-Some.target) o.from.items o.pieces.items o.note (removing c.in-Some-2.removes) o.name.now []
    c.simple.ensures.instr c.simple.ensures.from c.simple.ensures.pieces (c.simple.ensures.note ∙ c.removals-note.ensures)
    c.simple.ensures.name)
    ∙ sym (jump_is words (Some c.in-Some.target) (Some c.in-Some-2.removes) len target removes)

pub returns-in-None : goal.returns-in-None
returns-in-None c =
    let words = nows c.args.words.now in
    let len : length words ≡ 3 = length-map c.args.words.now _ ∙ c.if-words-ne3.false in
    let target : read_number (nth_word words 1) ≡ Some c.in-Some.target =
    ap read_number (sym c.word_at.ensures) ∙ sym c.number.ensures ∙ c.in-Some.is in
    let removes : read_regions 45 (nth_word words 2) ≡ None =
    ap (read_regions 45) (sym c.word_at-2.ensures) ∙ sym c.in_ok-removes.ensures ∙ c.in-None.is in
    sym (jump_is words (Some c.in-Some.target) None len target removes)
