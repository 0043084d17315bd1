use Rattle.std.proofs.Common.{◌≡◌, length, Some, None, sym, ap, ◌∙◌, refl}
use Rattle.std.specs.Option.{option_map}
use Rattle.std.proofs.lemmas.List.{length-map}
use Rattle.rgo_code_words.specs.Cuts.{nows, nth_word}
use Rattle.rgo_code_text.specs.Ops.{go_note, read_callee}
use Rattle.rgo_code_text.specs.Views.{named_callee_of}
use Rattle.rgo_code_text.proofs.op_lines.CallNotes.{go_is}
use Rattle.rgo_code_text.proofs.calls.go.Goals as goal

pub returns-in_default : goal.returns-in_default
returns-in_default c =
    let words = nows c.args.words.now in
    let len : length words ≡ 4 = length-map c.args.words.now _ ∙ c.if-words-ne4.false in
    let callee : read_callee (nth_word words 1) ≡ None =
    ap read_callee (sym c.word_at.ensures) ∙ sym c.in_ok-callee.ensures ∙ ap (option_map named_callee_of) c.in_default.is in
    sym (go_is words None (go_note words) len callee refl)

pub returns-in-Some-2 : goal.returns-in-Some-2
returns-in-Some-2 c =
    let words = nows c.args.words.now in
    let len : length words ≡ 4 = length-map c.args.words.now _ ∙ c.if-words-ne4.false in
    let callee : read_callee (nth_word words 1) ≡ Some (named_callee_of c.in-Some.callee) =
    ap read_callee (sym c.word_at.ensures) ∙ sym c.in_ok-callee.ensures ∙ ap (option_map named_callee_of) c.in-Some.is in
    let note : go_note words ≡ Some c.in-Some-2.note = sym c.in_ok-note.ensures ∙ c.in-Some-2.is in
    ap Some c.with_callee.ensures
    ∙ sym (go_is words (Some (named_callee_of c.in-Some.callee)) (Some c.in-Some-2.note) len callee note)

pub returns : goal.returns
returns c =
    let words = nows c.args.words.now in
    let len : length words ≡ 4 = length-map c.args.words.now _ ∙ c.if-words-ne4.false in
    let callee : read_callee (nth_word words 1) ≡ Some (named_callee_of c.in-Some.callee) =
    ap read_callee (sym c.word_at.ensures) ∙ sym c.in_ok-callee.ensures ∙ ap (option_map named_callee_of) c.in-Some.is in
    let note : go_note words ≡ None = sym c.in_ok-note.ensures ∙ c.in-None.is in
    sym (go_is words (Some (named_callee_of c.in-Some.callee)) None len callee note)
