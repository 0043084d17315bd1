use Rattle.std.proofs.Common.{◌∙◌, ap, sym, slice_get}
use Rattle.rgo_code_printing.proofs.Steps.{function_named}
use Rattle.rgo_code_printing.proofs.types.function_name.Goals as goal

pub returns-in-Some : goal.returns-in-Some
returns-in-Some c =
    c.bytes.ensures ∙ c.name.ensures
    ∙ function_named c.args.code.now.functions c.args.code.now.undeclared.functions c.args.n c.in-Some.found.now
    (ap (λ t. slice_get t.functions c.args.n) (sym c.tac.ensures)
    ∙ ap (λ fs. slice_get fs c.args.n) (sym c.functions-functions.ensures) ∙ c.in-Some.ensures)
