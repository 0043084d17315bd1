use Rattle.std.proofs.Common.{refl, sym, ◌∙◌, subst}
use Rattle.std.proofs.lemmas.Option.{slice_get_past}
use Rattle.rgo_region_interpreter.specs.Holders.{Fills}
use Rattle.rgo_region_interpreter.proofs.owing.Attending.{found}
use Rattle.rgo_region_interpreter.proofs.holding.OneHolder.{none_some, the_same}
use Rattle.rgo_region_interpreter.proofs.worlds.World.refill.Goals as goal

pub returns-in_ok-set_fill-clause-refills : goal.returns-in_ok-set_fill-clause-refills
returns-in_ok-set_fill-clause-refills c =
    let item = c.in-Some.ensures.item in
    let w = c.args.self.now in
    record {
      same = refl;
      changed = λ h e. (
        c.set_fill.new.self,
        refl,
        subst (λ z. Fills z c.set_fill.new.self c.args.region c.args.used)
            (the_same c.in-Some.holder.now h
            (sym (found w.holders.items c.args.g c.in-Some.holder.now item.3.0 item.1) ∙ e))
            c.in_ok-set_fill.ensures.fills,
      );
    }

pub returns-in_default-clause-refills : goal.returns-in_default-clause-refills
returns-in_default-clause-refills c = record {
  same = refl;
  changed = λ h e. absurd (none_some
      (sym (slice_get_past c.args.self.now.holders.items c.args.g c.in_default.ensures.item.3) ∙ e));
}
