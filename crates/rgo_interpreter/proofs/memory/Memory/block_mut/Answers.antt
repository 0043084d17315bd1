use Rattle.std.specs.Borrow.{MutBor}
use Rattle.std.specs.Cmp.{nat_eq_equiv}
use Rattle.std.specs.Option.{OnSome, option_copied_mut, option_map}
use Rattle.std.specs.Prelude.{Option, Some, None, IsSome}
use Rattle.std.proofs.Common.{refl, ap, sym, ◌∙◌, subst}
use Rattle.std.proofs.lemmas.Map.Entries.{hash_map_get_place}
use Rattle.std.proofs.lemmas.Option.{slice_get-map}
use Rattle.indexmap.proofs.CallerLemmas.{updates-with_value_at}
use Rattle.rgo_interpreter.proofs.memory.Memory.block_mut.Goals as goal

where_lent : {X P : Type 0} (lent : Option (MutBor X)) → (IsSome (option_copied_mut lent) → P) → OnSome lent P
where_lent None p = tt
where_lent (Some r) p = p refl

pub returns-in-Some : goal.returns-in-Some
returns-in-Some c =
    let blocks = c.args.self.now.blocks in
    let at = c.in-Some.ensures in
    let unique = c.get_index_mut.ensures.unique in (
      (
        refl,
        λ w. where_lent c.get_index_mut.result (λ is. (refl, updates-with_value_at blocks _ w nat_eq_equiv unique _ _ at.1)),
        refl,
      ),
      record {
        writes_back = tt;
        value =
            c.get_index_mut.ensures.value ∙ slice_get-map (λ e. e.1) blocks.entries _
            ∙ ap (option_map (λ e. e.1)) at.1
            ∙ sym (hash_map_get_place nat_eq_equiv blocks _ _ _ unique at.1);
      },
    )

pub returns-in-None : goal.returns-in-None
returns-in-None c =
    let written = c.get_mut.follows in (
      (
        refl,
        λ w. where_lent c.get_mut.result (λ is. (refl, (written.holds w).3 (subst IsSome c.get_mut.ensures.value is))),
        ap (λ blocks. record c.args.self.now { blocks = blocks }) written.holds-at-none,
      ),
      record { writes_back = tt; value = c.get_mut.ensures.value },
    )
