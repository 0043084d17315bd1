use Rattle.std.proofs.Common.{◌<◌, ◌∙◌, sym, arith, length}
use Rattle.std.proofs.lemmas.Grind.{common_steps}
use Rattle.rgo_lexer.proofs.CommentForms.{comment_fits_in}
use Rattle.rgo_lexer.proofs.OperatorForms.{operator_fits_in}
use Rattle.rgo_lexer.proofs.front.read_front.Goals as goal

pub returns-then-begins_comment-clause-within : goal.returns-then-begins_comment-clause-within
returns-then-begins_comment-clause-within c =
    rw c.comment.ensures
    (comment_fits_in c.args.text.now (sym c.begins_comment.ensures ∙ c.if-begins_comment.true))

pub returns-else-begins_comment-clause-within : goal.returns-else-begins_comment-clause-within
returns-else-begins_comment-clause-within c =
    let some : 0 < length c.args.text.now = grind (arith, common_steps, c.in-Some.ensures) in
    rw c.operator.ensures (operator_fits_in c.args.text.now some)
