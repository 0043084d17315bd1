use Rattle.std.proofs.Common.{◌∙◌, ap, sym}
use Rattle.std.specs.Prelude.{codes}
use Rattle.std.proofs.lemmas.List.{take_rest}
use Rattle.rgo_lexer.specs.Bytes.{has_prefix}
use Rattle.rgo_lexer.proofs.CommentLemmas.{first_close-more}
use Rattle.rgo_lexer.proofs.comments.first_close.Goals as goal

pub loop-at-preserved : goal.loop-at-preserved
loop-at-preserved c =
    let text = c.args.text.now in
    let at = c.loop-at.at in
    first_close-more text at (ap (λ l. has_prefix l (codes "*/")) (sym (take_rest text at))
    ∙ sym c.starts_with.ensures.value ∙ c.if-starts_with.false) ∙ c.loop-at.invariant
