use Rattle.std.proofs.Common.{◌≡◌, Some, None, sym, ap, ◌∙◌, slice_get}
use Rattle.std.proofs.lemmas.Option.{slice_get_past}
use Rattle.rgo_region_interpreter.specs.Objects.{named_region, region_of_class}
use Rattle.rgo_region_interpreter.proofs.owing.Attending.{found}
use Rattle.rgo_region_interpreter.proofs.worlds.World.region_of_class.Goals as goal

pub returns-in-Some : goal.returns-in-Some
returns-in-Some c =
    let item = c.in-Some.ensures.lookup in
    let there : slice_get c.args.self.now.holders.items c.args.g ≡ Some c.in-Some.holder.now =
    ap (λ l. slice_get l c.args.g) (sym c.deref.ensures.value)
    ∙ found c.deref.result.now c.args.g c.in-Some.holder.now item.3.0 item.1 in
    c.region.ensures ∙ sym (ap (λ o. named_region o c.in-Name.name) there)
    ∙ ap (region_of_class c.args.self.now c.args.g) (sym c.in-Name.is)

pub returns-in-None : goal.returns-in-None
returns-in-None c =
    let none : slice_get c.args.self.now.holders.items c.args.g ≡ None =
    ap (λ l. slice_get l c.args.g) (sym c.deref.ensures.value)
    ∙ slice_get_past c.deref.result.now c.args.g c.in-None.ensures.lookup.3 in
    sym (ap (λ o. named_region o c.in-Name.name) none)
    ∙ ap (region_of_class c.args.self.now c.args.g) (sym c.in-Name.is)
