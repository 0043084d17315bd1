use Rattle.std.proofs.Common.{◌≡◌, ◌-◌, true, length, take, drop, Some, None, codes, sym, ap, ◌∙◌}
use Rattle.std.specs.Option.{option_map}
use Rattle.rgo_code_words.specs.Readers.{bytes_inside, bytes_now}
use Rattle.rgo_code_words.specs.Worded.{is_name}
use Rattle.rgo_code_text.proofs.op_lines.CallNotes.{callee_by}
use Rattle.rgo_code_words.proofs.ListFacts.{rest_of}
use Rattle.rgo_code_text.proofs.calls.read_callee.Goals as goal

pub returns-in_default : goal.returns-in_default
returns-in_default c =
    let word = c.args.word.now in
    let n = c.len_to-len.result in
    let named : is_name (take n word) ≡ true = cc c.is_name.ensures in
    let none : bytes_inside (codes "(") 41 (take (length word - n) (drop n word)) ≡ None = sym c.inside.ensures ∙ ap bytes_now c.in_default.is in
    sym (callee_by word n (take (length word - n) (drop n word)) None c.len_to-len.ensures.len (rest_of word n) named none)

pub returns-in-Some-2 : goal.returns-in-Some-2
returns-in-Some-2 c =
    let word = c.args.word.now in
    let n = c.len_to-len.result in
    let named : is_name (take n word) ≡ true = cc c.is_name.ensures in
    let list : bytes_inside (codes "(") 41 (take (length word - n) (drop n word)) ≡ Some c.in-Some.list.now =
    sym c.inside.ensures ∙ ap bytes_now c.in-Some.is in
    sym (callee_by word n (take (length word - n) (drop n word)) (Some c.in-Some.list.now) c.len_to-len.ensures.len (rest_of word n)
    named list
    ∙ ap (option_map (λ from. record { name = take n word; from = from })) (sym c.in_ok-from.ensures ∙ c.in-Some-2.is))

pub returns-in-None : goal.returns-in-None
returns-in-None c =
    let word = c.args.word.now in
    let n = c.len_to-len.result in
    let named : is_name (take n word) ≡ true = cc c.is_name.ensures in
    let list : bytes_inside (codes "(") 41 (take (length word - n) (drop n word)) ≡ Some c.in-Some.list.now =
    sym c.inside.ensures ∙ ap bytes_now c.in-Some.is in
    sym (callee_by word n (take (length word - n) (drop n word)) (Some c.in-Some.list.now) c.len_to-len.ensures.len (rest_of word n)
    named list
    ∙ ap (option_map (λ from. record { name = take n word; from = from })) (sym c.in_ok-from.ensures ∙ c.in-None.is))
