use Rattle.std.proofs.Common.{◌≡◌, ◌∙◌, Ok, Err, Some, slice_get, ap, subst, arith}
use Rattle.std.proofs.lemmas.List.Sorted.{searched}
use Rattle.std.proofs.lemmas.Option.{same_Some, none-some, slice_get-get_or, get_or_from_slice_get}
use Rattle.rgo_region_sets.proofs.Picking.{missing_name}
use Rattle.rgo_region_sets.proofs.Merges.{found}
use Rattle.rgo_region_sets.proofs.Tables.{one_place, rising_ascends}
use Rattle.rgo_region_sets.proofs.removed.place_of.Goals as goal

pub returns-then-at : goal.returns-then-at
returns-then-at c = λ b. (
  λ there. absurd (omega (arith, c.type_inv.points b, get_or_from_slice_get c.args.points.now b c.args.at 0 there)),
  λ is. absurd (none-some b is),
)

pub returns-in-Ok : goal.returns-in-Ok
returns-in-Ok c = λ b.
    let points = c.args.points.now in
    let s = searched points c.args.at (Ok c.in-Ok.b) c.in-Ok.ensures.position
    (rising_ascends points c.requires.rising) in
    let here : slice_get points c.in-Ok.b ≡ Some c.args.at = slice_get-get_or points c.in-Ok.b 0 s.0 ∙ ap Some s.1 in (
      λ there. ap Some (one_place points c.in-Ok.b b c.args.at c.requires.rising here there),
      λ is. subst (λ i. slice_get points i ≡ Some c.args.at) (same_Some c.in-Ok.b b is) here,
    )

pub returns-in-Err : goal.returns-in-Err
returns-in-Err c = λ b.
    let points = c.args.points.now in
    let s = searched points c.args.at (Err c.in-Err.field-0) c.in-Err.ensures.position
    (rising_ascends points c.requires.rising) in (
      λ there. absurd (missing_name points c.args.at c.in-Err.field-0 s.1 s.2 (found points b c.args.at there)),
      λ is. absurd (none-some b is),
    )
