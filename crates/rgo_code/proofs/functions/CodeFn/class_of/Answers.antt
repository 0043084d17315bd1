use Rattle.std.proofs.Common.{◌∙◌, ap, sym, slice_get, get_or}
use Rattle.rgo_tac.specs.declared.regions.Class.TheVariants.{NoClass}
use Rattle.rgo_code.specs.Names.{class_of}
use Rattle.rgo_code.proofs.Parts.{class_found, no_class}
use Rattle.rgo_code.proofs.functions.CodeFn.class_of.Goals as goal

pub returns-in-Some : goal.returns-in-Some
returns-in-Some c =
    let own = c.self.inside in
    c.class_at.ensures ∙ ap (λ l. get_or l c.args.variable NoClass) c.items.ensures
    ∙ class_found own.tac.now.variables own.regions.now.classes c.args.variable _
    (ap (λ l. slice_get l c.args.variable) (sym c.variables.ensures) ∙ c.in-Some.ensures)
    ∙ ap (λ f. class_of f c.args.variable) c.self.view_is

pub returns-in-None : goal.returns-in-None
returns-in-None c =
    let own = c.self.inside in
    no_class own.tac.now.variables own.regions.now.classes c.args.variable
    (ap (λ l. slice_get l c.args.variable) (sym c.variables.ensures) ∙ c.in-None.ensures)
    ∙ ap (λ f. class_of f c.args.variable) c.self.view_is
