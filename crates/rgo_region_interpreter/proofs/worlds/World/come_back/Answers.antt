use Rattle.std.proofs.Common.{refl, sym, ◌∙◌, subst}
use Rattle.std.proofs.lemmas.Option.{slice_get_past}
use Rattle.rgo_region_interpreter.specs.Holders.{HolderReturns}
use Rattle.rgo_region_interpreter.proofs.owing.Attending.{found}
use Rattle.rgo_region_interpreter.proofs.holding.OneHolder.{none_some, the_same}
use Rattle.rgo_region_interpreter.proofs.worlds.World.come_back.Goals as goal

pub returns-in-Some : goal.returns-in-Some
returns-in-Some c =
    let item = c.in-Some.ensures.item in
    let w = c.args.self.now in
    record {
      back = record {
        same = refl;
        back = λ h e. (
          c.come_back.new.self,
          refl,
          subst (λ z. HolderReturns z c.come_back.new.self)
              (the_same c.in-Some.holder.now h
              (sym (found w.holders.items c.args.g c.in-Some.holder.now item.3.0 item.1) ∙ e))
              c.come_back.ensures,
        );
      };
    }

pub returns-in_default : goal.returns-in_default
returns-in_default c = record {
  back = record {
    same = refl;
    back = λ h e. absurd (none_some
        (sym (slice_get_past c.args.self.now.holders.items c.args.g c.in_default.ensures.item.3) ∙ e));
  };
}
