use Rattle.std.proofs.Common.{◌≡◌, ◌∙◌, nat_eq, sym, subst}
use Rattle.std.proofs.lemmas.Option.{same_Some, none-some}
use Rattle.std.proofs.lemmas.Result.{on_ok_weaker}
use Rattle.std.specs.HashMap.{get}
use Rattle.rgo_checker.specs.Parameters.{place_with_class}
use Rattle.rgo_checker.proofs.parameters.place_at.Goals as goal

pub returns-in-Some : goal.returns-in-Some
returns-in-Some c =
    on_ok_weaker c.place.result
    (λ e class there q.
    subst (λ x. get nat_eq c.place.new.places q ≡ place_with_class x c.args.p q (get nat_eq c.args.places.now q))
    (same_Some c.in-Some.class class (sym c.in-Some.is ∙ c.class_at.ensures ∙ there))
    (e q))
    c.place.ensures

pub returns-in-None : goal.returns-in-None
returns-in-None c = λ class there. absurd (none-some class (sym c.in-None.is ∙ c.class_at.ensures ∙ there))
