use Rattle.std.proofs.Common.{◌≡◌, [], length, Some, None, sym, ap, ◌∙◌, refl}
use Rattle.std.specs.Option.{option_map}
use Rattle.std.proofs.lemmas.List.{length-map}
use Rattle.rgo_tac.specs.Code as tac
use Rattle.rgo_code.specs.Views.{code_op}
use Rattle.rgo_code_words.specs.Cuts.{nows, nth_word}
use Rattle.rgo_code_text.specs.Ops.{call_note, read_callee}
use Rattle.rgo_code_words.specs.Readers.{read_value}
use Rattle.rgo_code_text.specs.Views.{named_callee_of}
use Rattle.rgo_code_text.proofs.op_lines.CallNotes.{call_is}
use Rattle.rgo_code_text.proofs.calls.call.Goals as goal

pub returns-in_default : goal.returns-in_default
returns-in_default c =
    let words = nows c.args.words.now in
    let len : length words ≡ 6 = length-map c.args.words.now _ ∙ c.if-words-ne6.false in
    let to : read_value (nth_word words 1) ≡ None =
    ap read_value (sym c.word_at.ensures) ∙ sym c.value.ensures ∙ c.in_default.is in
    sym (call_is words None (read_callee (nth_word words 2)) (call_note words) len to refl refl)

pub returns-in_default-2 : goal.returns-in_default-2
returns-in_default-2 c =
    let words = nows c.args.words.now in
    let len : length words ≡ 6 = length-map c.args.words.now _ ∙ c.if-words-ne6.false in
    let to : read_value (nth_word words 1) ≡ Some c.in-Some.to =
    ap read_value (sym c.word_at.ensures) ∙ sym c.value.ensures ∙ c.in-Some.is in
    let callee : read_callee (nth_word words 2) ≡ None =
    ap read_callee (sym c.word_at-2.ensures) ∙ sym c.in_ok-callee.ensures ∙ ap (option_map named_callee_of) c.in_default-2.is in
    sym (call_is words (Some c.in-Some.to) None (call_note words) len to callee refl)

pub returns-in-Some-3 : goal.returns-in-Some-3
returns-in-Some-3 c =
    let words = nows c.args.words.now in
    let len : length words ≡ 6 = length-map c.args.words.now _ ∙ c.if-words-ne6.false in
    let to : read_value (nth_word words 1) ≡ Some c.in-Some.to =
    ap read_value (sym c.word_at.ensures) ∙ sym c.value.ensures ∙ c.in-Some.is in
    let callee : read_callee (nth_word words 2) ≡ Some (named_callee_of c.in-Some-2.callee) =
    ap read_callee (sym c.word_at-2.ensures) ∙ sym c.in_ok-callee.ensures ∙ ap (option_map named_callee_of) c.in-Some-2.is in
    let note : call_note words ≡ Some c.in-Some-3.note = sym c.in_ok-note.ensures ∙ c.in-Some-3.is in
    ap Some (c.with_callee.ensures ∙ ap (λ (o : tac.Op). record {
      op = code_op o c.in-Some-3.note;
      name = c.in-Some-2.callee.name.now;
    }) (c.call_instr.ensures c.in-Some-2.callee.from []))
    ∙ sym (call_is words (Some c.in-Some.to) (Some (named_callee_of c.in-Some-2.callee)) (Some c.in-Some-3.note) len to callee note)

pub returns : goal.returns
returns c =
    let words = nows c.args.words.now in
    let len : length words ≡ 6 = length-map c.args.words.now _ ∙ c.if-words-ne6.false in
    let to : read_value (nth_word words 1) ≡ Some c.in-Some.to =
    ap read_value (sym c.word_at.ensures) ∙ sym c.value.ensures ∙ c.in-Some.is in
    let callee : read_callee (nth_word words 2) ≡ Some (named_callee_of c.in-Some-2.callee) =
    ap read_callee (sym c.word_at-2.ensures) ∙ sym c.in_ok-callee.ensures ∙ ap (option_map named_callee_of) c.in-Some-2.is in
    let note : call_note words ≡ None = sym c.in_ok-note.ensures ∙ c.in-None.is in
    sym (call_is words (Some c.in-Some.to) (Some (named_callee_of c.in-Some-2.callee)) None len to callee note)
