use Rattle.std.proofs.Common.{◌++◌, ◌∙◌, ap, sym, append-nil, slice_get}
use Rattle.std.proofs.lemmas.Result.{on_ok_weaker}
use Rattle.rgo_code_printing.specs.Text.{names_of}
use Rattle.rgo_code_printing.proofs.Steps.{slot_line, no_slot_line}
use Rattle.rgo_code_printing.proofs.functions.print_variable_at.Goals as goal

pub returns-in-Some : goal.returns-in-Some
returns-in-Some c =
    on_ok_weaker c.print_variable_line.result
    (λ e. e ∙ ap (λ t. c.args.out.now.items ++ t)
    (slot_line (names_of c.args.code.now) c.args.f.now.variables c.args.i c.in-Some.ty.now c.class_of.result
    (ap (λ t. slice_get t.variables c.args.i) (sym c.tac.ensures)
    ∙ ap (λ types. slice_get types c.args.i) (sym c.variables.ensures) ∙ c.in-Some.ensures)
    c.class_of.ensures))
    c.print_variable_line.ensures

pub returns-in-None : goal.returns-in-None
returns-in-None c =
    sym (append-nil c.args.out.now.items)
    ∙ ap (λ t. c.args.out.now.items ++ t)
    (sym (no_slot_line (names_of c.args.code.now) c.args.f.now.variables c.args.i
    (ap (λ t. slice_get t.variables c.args.i) (sym c.tac.ensures)
    ∙ ap (λ types. slice_get types c.args.i) (sym c.variables.ensures) ∙ c.in-None.ensures)))
