use Rattle.std.proofs.Common.{◌∙◌, ap, sym, slice_get, Some}
use Rattle.rgo_code.proofs.Parts.{function_found, no_function, no_region}
use Rattle.rgo_code.proofs.code.Code.function.Goals as goal

pub returns-in-Some-item_at : goal.returns-in-Some-item_at
returns-in-Some-item_at c =
    let own = c.self.inside in
    ap Some c.new.ensures
    ∙ function_found own.tac.functions own.regions c.args.n _ _
    (ap (λ l. slice_get l c.args.n) (sym c.functions.ensures) ∙ c.in-Some.ensures)
    (ap (λ l. slice_get l c.args.n) (sym c.items.ensures) ∙ c.in-Some-item_at.ensures)
    ∙ ap (λ code. slice_get code.functions c.args.n) c.self.view_is

pub returns-in-None-item_at : goal.returns-in-None-item_at
returns-in-None-item_at c =
    let own = c.self.inside in
    no_region own.tac.functions own.regions c.args.n
    (ap (λ l. slice_get l c.args.n) (sym c.items.ensures) ∙ c.in-None-item_at.ensures) c.self.invariant.1
    ∙ ap (λ code. slice_get code.functions c.args.n) c.self.view_is

pub returns-in-None : goal.returns-in-None
returns-in-None c =
    let own = c.self.inside in
    no_function own.tac.functions own.regions c.args.n
    (ap (λ l. slice_get l c.args.n) (sym c.functions.ensures) ∙ c.in-None.ensures)
    ∙ ap (λ code. slice_get code.functions c.args.n) c.self.view_is
