use Rattle.std.proofs.Common.{◌∙◌, Option, ℕ, List, sym, subst}
use Rattle.std.specs.List.{Contains}
use Rattle.std.proofs.lemmas.Result.{IfOk-weaker}
use Rattle.rgo_region_sets.specs.Asked.{AreRemoved, IsDead, way}
use Rattle.rgo_region_sets.specs.Sets.{IsSet}
use Rattle.rgo_region_sets.proofs.Numbered.{set_removed}
use Rattle.rgo_region_sets.proofs.removed.on_way.Goals as goal

pub returns-in_ok-names-in-Some : goal.returns-in_ok-names-in-Some
returns-in_ok-names-in-Some c =
    let f = c.args.f.now in
    let gives = c.args.gives.now in
    let names = c.in_ok-names-in-Some.names.items in
    let next = c.in-Some.next in
    let leads = sym c.target.ensures ∙ c.in-Some.is in
    let candidates = c.in_ok-names-in-Some.ensures.names next (c.requires.way next leads) in
    IfOk-weaker c.dead.result
    (λ out. IsSet out.items (λ k. Contains c.deref.result.now k × IsDead f gives next k))
    (λ out. AreRemoved f c.args.at gives (way f c.args.at c.args.n) out.items)
    (λ out set. set_removed c.args.live.now f c.requires.live c.args.at next gives names candidates
    (way f c.args.at c.args.n) leads out.items
    (subst (λ (l : List ℕ). IsSet out.items (λ k. Contains l k × IsDead f gives next k)) c.deref.ensures.value set))
    c.dead.ensures

pub returns-in-None : goal.returns-in-None
returns-in-None c =
    subst (λ (o : Option ℕ). AreRemoved c.args.f.now c.args.at c.args.gives.now o c.new.result.items)
    (sym c.in-None.is ∙ c.target.ensures) c.new.ensures.items
