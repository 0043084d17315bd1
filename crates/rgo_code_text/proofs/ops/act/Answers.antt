use Rattle.std.proofs.Common.{◌≡◌, ◌-◌, length, take, Some, None, sym, ap, ◌∙◌, refl, arith}
use Rattle.std.specs.List.{take-map}
use Rattle.std.specs.Option.{option_map}
use Rattle.std.proofs.lemmas.List.{length-map}
use Rattle.rgo_code_text.specs.Actions.{read_action}
use Rattle.rgo_code_words.specs.Cuts.{nows, nth_word}
use Rattle.rgo_code_text.specs.Ops.{last_of}
use Rattle.rgo_code_words.specs.Readers.{read_regions}
use Rattle.rgo_code_text.specs.Views.{named_action_of}
use Rattle.rgo_code_text.proofs.ops.act.Goals as goal

pub returns-in_default : goal.returns-in_default
returns-in_default c =
    let words = nows c.args.words.now in
    let last : c.saturating_sub-last.result ≡ length words - 1 = simp length-map (omega (arith, c.saturating_sub-last.ensures)) in
    let action : read_action (take (length words - 1) words) ≡ None =
    ap (λ k. read_action (take k words)) (sym last) ∙ ap read_action (take-map _ c.saturating_sub-last.result c.args.words.now)
    ∙ sym c.read_action.ensures ∙ ap (option_map named_action_of) c.in_default.is in
    rw action refl

pub returns-in-Some-2 : goal.returns-in-Some-2
returns-in-Some-2 c =
    let words = nows c.args.words.now in
    let last : c.saturating_sub-last.result ≡ length words - 1 = simp length-map (omega (arith, c.saturating_sub-last.ensures)) in
    let action : read_action (take (length words - 1) words) ≡ Some (named_action_of c.in-Some.done) =
    ap (λ k. read_action (take k words)) (sym last) ∙ ap read_action (take-map _ c.saturating_sub-last.result c.args.words.now)
    ∙ sym c.read_action.ensures ∙ ap (option_map named_action_of) c.in-Some.is in
    let removes : read_regions 45 (last_of words) ≡ Some c.in-Some-2.removes =
    ap (λ k. read_regions 45 (nth_word words k)) (sym last) ∙ ap (read_regions 45) (sym c.word_at.ensures)
    ∙ sym c.in_ok-removes.ensures ∙ c.in-Some-2.is in
    rw (action, removes) (ap Some c.action_op.ensures)

pub returns-in-None : goal.returns-in-None
returns-in-None c =
    let words = nows c.args.words.now in
    let last : c.saturating_sub-last.result ≡ length words - 1 = simp length-map (omega (arith, c.saturating_sub-last.ensures)) in
    let action : read_action (take (length words - 1) words) ≡ Some (named_action_of c.in-Some.done) =
    ap (λ k. read_action (take k words)) (sym last) ∙ ap read_action (take-map _ c.saturating_sub-last.result c.args.words.now)
    ∙ sym c.read_action.ensures ∙ ap (option_map named_action_of) c.in-Some.is in
    let removes : read_regions 45 (last_of words) ≡ None =
    ap (λ k. read_regions 45 (nth_word words k)) (sym last) ∙ ap (read_regions 45) (sym c.word_at.ensures)
    ∙ sym c.in_ok-removes.ensures ∙ c.in-None.is in
    rw (action, removes) refl
