use Rattle.std.proofs.Common.{◌++◌, ◌∙◌, ap, sym, append-nil, slice_get}
use Rattle.std.proofs.lemmas.Result.{on_ok_weaker}
use Rattle.rgo_tac.specs.Ops.{operation_of, op_in, place_in}
use Rattle.rgo_code_printing.specs.Printing.{note_of}
use Rattle.rgo_code_printing.specs.Text.{names_of}
use Rattle.rgo_code_printing.proofs.Steps.{instr_line, no_instr_line}
use Rattle.rgo_code_printing.proofs.instrs.print_instr_at.Goals as goal

pub returns-in-Some : goal.returns-in-Some
returns-in-Some c =
    on_ok_weaker c.print_instr.result
    (λ e. e ∙ ap (λ t. c.args.out.now.items ++ t)
    (instr_line (names_of c.args.code.now) c.args.f.now.body c.args.i (operation_of c.in-Some.op)
    c.place.result (note_of c.lists_at.result)
    (ap (λ t. op_in (slice_get t.body c.args.i)) (sym c.tac.ensures) ∙ sym c.in-Some.ensures.op)
    (c.place.ensures ∙ ap (λ t. place_in (slice_get t.body c.args.i)) c.tac-in-Some.ensures)
    c.lists_at.ensures))
    c.print_instr.ensures

pub returns-in-None : goal.returns-in-None
returns-in-None c =
    sym (append-nil c.args.out.now.items)
    ∙ ap (λ t. c.args.out.now.items ++ t)
    (sym (no_instr_line (names_of c.args.code.now) c.args.f.now.body c.args.i
    (ap (λ t. op_in (slice_get t.body c.args.i)) (sym c.tac.ensures) ∙ sym c.in-None.ensures.op)))
