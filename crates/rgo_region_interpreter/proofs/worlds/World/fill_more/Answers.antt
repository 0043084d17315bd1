use Rattle.std.proofs.Common.{◌≡◌, ◌+◌, Some, refl, slice_get, sym, ◌∙◌, subst, unwrap_or}
use Rattle.std.proofs.lemmas.Option.{slice_get_past}
use Rattle.rgo_region_interpreter.specs.Holders.{Fills, fill_in}
use Rattle.rgo_region_interpreter.proofs.owing.Attending.{found}
use Rattle.rgo_region_interpreter.proofs.holding.OneHolder.{none_some, the_same}
use Rattle.rgo_region_interpreter.proofs.worlds.World.fill_more.Goals as goal

pub returns-in_ok-fill_more-clause-refills : goal.returns-in_ok-fill_more-clause-refills
returns-in_ok-fill_more-clause-refills c =
    let item = c.in-Some.ensures.item in
    let w = c.args.self.now in
    let at : slice_get w.holders.items c.args.g ≡ Some c.in-Some.holder.now =
    found w.holders.items c.args.g c.in-Some.holder.now item.3.0 item.1 in
    record {
      same = refl;
      changed = λ h e. (
        c.fill_more.new.self,
        refl,
        subst (λ z. Fills z c.fill_more.new.self c.args.region (unwrap_or (fill_in z c.args.region) 0 + c.args.words))
            (the_same c.in-Some.holder.now h (sym at ∙ e)) c.in_ok-fill_more.ensures,
      );
    }

pub returns-in_default-clause-refills : goal.returns-in_default-clause-refills
returns-in_default-clause-refills c = record {
  same = refl;
  changed = λ h e. absurd (none_some
      (sym (slice_get_past c.args.self.now.holders.items c.args.g c.in_default.ensures.item.3) ∙ e));
}
