use Rattle.std.proofs.Common.{◌≡◌, ◌∙◌, Some, slice_get, sym, subst}
use Rattle.std.proofs.lemmas.Option.{same_Some, none-some}
use Rattle.std.proofs.lemmas.Result.{on_ok_weaker}
use Rattle.rgo_checker.specs.Lines.{lines_of_function}
use Rattle.rgo_checker.specs.Scan.{Walks}
use Rattle.rgo_checker.proofs.walking.walk_number.Goals as goal

pub walk_function-requires : goal.walk_function-requires
walk_function-requires c = c.requires c.args.n c.in-Some.f (sym c.function.ensures ∙ c.in-Some.is)

pub returns-in-Some : goal.returns-in-Some
returns-in-Some c =
    let here : slice_get c.args.code.now.functions c.args.n ≡ Some c.in-Some.f =
    sym c.function.ensures ∙ c.in-Some.is in
    on_ok_weaker c.walk_function.result
    (λ e f there.
    subst (λ x. Walks c.args.code.now 2 15 (lines_of_function c.args.n x) c.args.scan.now c.walk_function.new.scan)
    (same_Some c.in-Some.f f (sym here ∙ there)) (e c.args.n here))
    c.walk_function.ensures

pub returns-in-None : goal.returns-in-None
returns-in-None c = λ f there. absurd (none-some f (sym c.in-None.is ∙ c.function.ensures ∙ there))
