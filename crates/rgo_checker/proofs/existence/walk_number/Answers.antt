use Rattle.std.proofs.Common.{◌≡◌, ◌∙◌, ◌∷◌, ◌++◌, [], Some, slice_get, sym, subst}
use Rattle.std.proofs.lemmas.Option.{same_Some, none-some}
use Rattle.std.proofs.lemmas.Result.{on_ok_weaker}
use Rattle.rgo_checker.specs.Lines.{lines_of_function}
use Rattle.rgo_checker.specs.Naming.{SetHasNames}
use Rattle.rgo_checker.specs.Scan.{Walks}
use Rattle.rgo_checker.proofs.existence.walk_number.Goals as goal

pub returns-in-Some-clause-names : goal.returns-in-Some-clause-names
returns-in-Some-clause-names c =
    on_ok_weaker c.walk_function.result
    (λ e f there seen h. subst (λ x. SetHasNames c.walk_function.new.names (seen ++ x.name ∷ []))
    (same_Some c.in-Some.f f (sym c.in-Some.is ∙ c.function.ensures ∙ there)) (e seen h))
    c.walk_function.ensures.names

pub returns-in-Some-clause-walks : goal.returns-in-Some-clause-walks
returns-in-Some-clause-walks c =
    let here : slice_get c.args.code.now.functions c.args.n ≡ Some c.in-Some.f =
    sym c.function.ensures ∙ c.in-Some.is in
    on_ok_weaker c.walk_function.result
    (λ e f there h.
    subst (λ x. Walks c.args.code.now 1 2 (lines_of_function c.args.n x) c.args.scan.now c.walk_function.new.scan)
    (same_Some c.in-Some.f f (sym here ∙ there)) (e c.args.n here h))
    c.walk_function.ensures.walks

pub returns-in-None-clause-names : goal.returns-in-None-clause-names
returns-in-None-clause-names c = λ f there. absurd (none-some f (sym c.in-None.is ∙ c.function.ensures ∙ there))

pub returns-in-None-clause-walks : goal.returns-in-None-clause-walks
returns-in-None-clause-walks c = λ f there. absurd (none-some f (sym c.in-None.is ∙ c.function.ensures ∙ there))
