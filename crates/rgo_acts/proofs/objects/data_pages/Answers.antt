use Rattle.std.proofs.Common.{◌-◌, ◌/◌, ◌+◌, ◌∙◌, ap, sym}
use Rattle.std.proofs.Math.Nat.{div-zero}
use Rattle.rgo_acts.proofs.new_objects.Kinds.{none_apart, some_apart}
use Rattle.rgo_acts.proofs.objects.data_pages.Goals as goal

pub returns-then-words-page_words : goal.returns-then-words-page_words
returns-then-words-page_words c = sym (none_apart c.args.page_words c.args.words c.args.before c.if-words-page_words.true)

pub returns-then-page_words-eq0 : goal.returns-then-page_words-eq0
returns-then-page_words-eq0 c =
    let n = c.args.words - c.args.before - 1 in
    sym (some_apart c.args.page_words c.args.words c.args.before c.if-words-page_words.false
    ∙ ap (λ k. n / k + 1) c.if-page_words-eq0.true
    ∙ ap (λ k. k + 1) (div-zero n))
