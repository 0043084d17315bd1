use Rattle.std.proofs.Common.{◌≡◌, ◌-◌, ◌++◌, Option, IfOk, length, take, drop, sym, ap, ◌∙◌, subst, codes}
use Rattle.std.specs.Option.{option_map}
use Rattle.rgo_code_words.specs.Cuts.{nows}
use Rattle.rgo_code_text.specs.Ops.{read_op, op_text, NamedOpFits}
use Rattle.rgo_code_words.specs.Readers.{IsReadFromBytes}
use Rattle.rgo_code_text.specs.Views.{named_op_of}
use Rattle.rgo_code_text.specs.declared.ops.NamedOp.{NamedOp as CodeNamedOp}
use Rattle.rgo_code_words.proofs.ListFacts.{rest_of}
use Rattle.rgo_code_words.proofs.Options.{if_ok}
use Rattle.rgo_code_text.proofs.op_lines.OpTexts.{print_front, text_read}
use Rattle.rgo_code_text.proofs.ops.named_op.Goals as goal

pub returns-then-is_print : goal.returns-then-is_print
returns-then-is_print c =
    let text = c.args.text.now in
    let whole : codes "print " ++ take (length text - 6) (drop 6 text) ≡ text =
    ap (λ t. codes "print " ++ t) (rest_of text 6) ∙ print_front text (sym c.is_print.ensures ∙ c.if-is_print.true) in
    subst (λ t. IfOk c.print.result (λ (r : Option CodeNamedOp). IsReadFromBytes NamedOpFits op_text t (option_map named_op_of r))) whole
    c.print.ensures

pub returns : goal.returns
returns c =
    let text = c.args.text.now in
    if_ok c.op.result
    (λ (r : Option CodeNamedOp). option_map named_op_of r ≡ read_op (nows c.deref.result.now))
    (λ (r : Option CodeNamedOp). IsReadFromBytes NamedOpFits op_text text (option_map named_op_of r)) c.op.ensures
    (λ r e. subst (IsReadFromBytes NamedOpFits op_text text)
    (sym (e ∙ ap (λ ws. read_op (nows ws)) c.deref.ensures.value ∙ ap read_op c.in_ok-words.ensures))
    (text_read text (sym c.is_print.ensures ∙ c.if-is_print.false)))
