use Rattle.std.proofs.Common.{◌≡◌, ◌∙◌, Some, None, ap, slice_get, subst, sym}
use Rattle.rgo_tac.specs.Ops.{op_in}
use Rattle.rgo_tac.specs.Steps.{instr_of}
use Rattle.rgo_tac.specs.Views.{op_of}
use Rattle.rgo_tac_interpreter.proofs.Finding.{op_found, none_found}
use Rattle.rgo_tac_interpreter.proofs.stands.coded_next.Goals as goal

pub returns-in-Some-clause-next : goal.returns-in-Some-clause-next
returns-in-Some-clause-next c =
    let b = c.in_ok-body.body.now in
    let f = c.frame.inside in
    let at = ap (λ is. slice_get is f.next) (sym c.items.ensures) ∙ sym c.instr_at.ensures.instr ∙ c.in-Some.is in
    subst (λ g. op_in (instr_of c.args.code.now g) ≡ Some (op_of b.lists b.pieces c.in-Some.instr)) c.frame.view_is
    (op_found c.args.code.now b.lists b.pieces b.instrs b.places f.function c.in_ok-body.ensures f.next c.in-Some.instr
    f.variables.items at)

pub returns-in-None-clause-next : goal.returns-in-None-clause-next
returns-in-None-clause-next c =
    let b = c.in_ok-body.body.now in
    let f = c.frame.inside in
    let at = ap (λ is. slice_get is f.next) (sym c.items.ensures) ∙ sym c.instr_at.ensures.instr ∙ c.in-None.is in
    subst (λ g. instr_of c.args.code.now g ≡ None) c.frame.view_is
    (none_found c.args.code.now b.lists b.pieces b.instrs b.places f.function c.in_ok-body.ensures f.next
    f.variables.items at)
