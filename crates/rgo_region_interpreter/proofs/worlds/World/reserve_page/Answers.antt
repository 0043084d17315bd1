use Rattle.std.proofs.Common.{◌≡◌, ◌+◌, Some, ap, refl, rules, slice_get, sym, ◌∙◌, subst}
use Rattle.std.proofs.lemmas.Option.{slice_get_past}
use Rattle.rgo_region_interpreter.specs.Holders.{Reserves}
use Rattle.rgo_region_interpreter.proofs.owing.Attending.{found}
use Rattle.rgo_region_interpreter.proofs.holding.OneHolder.{none_some, the_same}
use Rattle.rgo_region_interpreter.proofs.worlds.World.reserve_page.Goals as goal

pub returns-in-Some-checked_add-clause-reserves : goal.returns-in-Some-checked_add-clause-reserves
returns-in-Some-checked_add-clause-reserves c =
    let item = c.in-Some.ensures.item in
    let w = c.args.self.now in
    let at : slice_get w.holders.items c.args.g ≡ Some c.in-Some.holder.now =
    found w.holders.items c.args.g c.in-Some.holder.now item.3.0 item.1 in
    record {
      same = refl;
      changed = λ h e. (
        record c.in-Some.holder.now { reserved = c.in-Some-checked_add.more },
        refl,
        subst (λ z. Reserves z (record c.in-Some.holder.now { reserved = c.in-Some-checked_add.more }) (z.reserved + 1))
            (the_same c.in-Some.holder.now h (sym at ∙ e))
            (ap (λ n. record c.in-Some.holder.now { reserved = n }) (search rules)),
      );
    }

pub returns-in_default-clause-reserves : goal.returns-in_default-clause-reserves
returns-in_default-clause-reserves c = record {
  same = refl;
  changed = λ h e. absurd (none_some
      (sym (slice_get_past c.args.self.now.holders.items c.args.g c.in_default.ensures.item.3) ∙ e));
}
