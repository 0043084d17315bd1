use Rattle.std.proofs.Common.{ap, arith, reverse, refl, slice_set, subst, sym, ◌+◌, ◌∙◌, ◌≡◌}
use Rattle.rgo_holding.specs.Tables.{StartWithin, named_in}
use Rattle.rgo_holding.proofs.TableLemmas.{set_named, set_within}
use Rattle.rgo_holding.proofs.frames.Frames.set.Goals as goal

pub returns-in-Some-get_mut-clause-set : goal.returns-in-Some-get_mut-clause-set
returns-in-Some-get_mut-clause-set c = λ ordered.
    let f = c.args.self.now in
    let ts = reverse f.tables.items in
    let at = sym c.start.ensures ∙ c.in-Some.is in
    let place : c.in-Some-checked_add.place ≡ c.in-Some.start + c.args.name = omega (arith, c.in-Some-checked_add.ensures) in
    record {
      named =
          ap (λ p. named_in (slice_set f.keys.items p c.args.key) ts) place
          ∙ set_named f.keys.items ts f.depth c.in-Some.start c.args.name c.args.key at;
      depth = refl;
      ordered = subst (λ p. StartWithin (slice_set f.keys.items p c.args.key) ts) (sym place)
          (set_within f.keys.items ts f.depth c.in-Some.start c.args.name c.args.key at ordered);
    }
