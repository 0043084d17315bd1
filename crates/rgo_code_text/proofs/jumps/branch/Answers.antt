use Rattle.std.proofs.Common.{◌≡◌, length, [], Some, None, sym, ap, ◌∙◌, refl}
use Rattle.std.specs.Option.{option_map}
use Rattle.std.proofs.lemmas.List.{length-map}
use Rattle.rgo_tac.specs.Views.{op_of}
use Rattle.rgo_code.specs.declared.notes.Note.{Note}
use Rattle.rgo_code_words.specs.Cuts.{nows, nth_word}
use Rattle.rgo_code_text.specs.Ops.{branch_of, removing}
use Rattle.rgo_code_words.specs.Readers.{read_regions}
use Rattle.rgo_code_text.proofs.op_lines.ActionOps.{simple_op}
use Rattle.rgo_code_text.proofs.op_lines.CallNotes.{branch_is}
use Rattle.rgo_code_text.proofs.jumps.branch.Goals as goal

pub returns-in_default : goal.returns-in_default
returns-in_default c =
    let words = nows c.args.words.now in
    let len : length words ≡ 6 = length-map c.args.words.now _ ∙ c.if-words-ne6.false in
    let op : branch_of words ≡ None = sym c.branch_instr.ensures ∙ ap (option_map (op_of [] [])) c.in_default.is in
    sym (branch_is words None (read_regions 45 (nth_word words 3)) (read_regions 45 (nth_word words 5)) len op refl refl)

pub returns-in_default-2 : goal.returns-in_default-2
returns-in_default-2 c =
    let words = nows c.args.words.now in
    let len : length words ≡ 6 = length-map c.args.words.now _ ∙ c.if-words-ne6.false in
    let op : branch_of words ≡ Some (op_of [] [] c.in-Some.instr) =
    sym c.branch_instr.ensures ∙ ap (option_map (op_of [] [])) c.in-Some.is in
    let removes : read_regions 45 (nth_word words 3) ≡ None =
    ap (read_regions 45) (sym c.word_at.ensures) ∙ sym c.in_ok-first.ensures ∙ c.in_default-2.is in
    sym (branch_is words (Some (op_of [] [] c.in-Some.instr)) None (read_regions 45 (nth_word words 5)) len op removes refl)

pub returns-in-Some-3 : goal.returns-in-Some-3
returns-in-Some-3 c =
    let words = nows c.args.words.now in
    let o = c.simple.result in
    let len : length words ≡ 6 = length-map c.args.words.now _ ∙ c.if-words-ne6.false in
    let op : branch_of words ≡ Some (op_of [] [] c.in-Some.instr) =
    sym c.branch_instr.ensures ∙ ap (option_map (op_of [] [])) c.in-Some.is in
    let removes : read_regions 45 (nth_word words 3) ≡ Some c.in-Some-2.first =
    ap (read_regions 45) (sym c.word_at.ensures) ∙ sym c.in_ok-first.ensures ∙ c.in-Some-2.is in
    let otherwise : read_regions 45 (nth_word words 5) ≡ Some c.in-Some-3.otherwise =
    ap (read_regions 45) (sym c.word_at-2.ensures) ∙ sym c.in_ok-otherwise.ensures ∙ c.in-Some-3.is in
    let note : Note = record (removing c.in-Some-2.first) { otherwise = c.in-Some-3.otherwise } in
    ap Some (simple_op o.instr c.in-Some.instr o.from.items o.pieces.items o.note note o.name.now []
    c.simple.ensures.instr c.simple.ensures.from c.simple.ensures.pieces
    (c.simple.ensures.note ∙ ap (λ (n : Note). record n { otherwise = c.in-Some-3.otherwise }) c.removals-note.ensures)
    c.simple.ensures.name)
    ∙ sym (branch_is words (Some (op_of [] [] c.in-Some.instr)) (Some c.in-Some-2.first) (Some c.in-Some-3.otherwise) len op removes
    otherwise)

pub returns-in-None : goal.returns-in-None
returns-in-None c =
    let words = nows c.args.words.now in
    let len : length words ≡ 6 = length-map c.args.words.now _ ∙ c.if-words-ne6.false in
    let op : branch_of words ≡ Some (op_of [] [] c.in-Some.instr) =
    sym c.branch_instr.ensures ∙ ap (option_map (op_of [] [])) c.in-Some.is in
    let removes : read_regions 45 (nth_word words 3) ≡ Some c.in-Some-2.first =
    ap (read_regions 45) (sym c.word_at.ensures) ∙ sym c.in_ok-first.ensures ∙ c.in-Some-2.is in
    let otherwise : read_regions 45 (nth_word words 5) ≡ None =
    ap (read_regions 45) (sym c.word_at-2.ensures) ∙ sym c.in_ok-otherwise.ensures ∙ c.in-None.is in
    sym (branch_is words (Some (op_of [] [] c.in-Some.instr)) (Some c.in-Some-2.first) None len op removes otherwise)
