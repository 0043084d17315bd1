use Rattle.std.proofs.Common.{◌⊎◌, ⊎_elim, List, ℕ, sym, subst}
use Rattle.std.specs.Prelude.{◌↔◌}
use Rattle.std.specs.List.{Contains}
use Rattle.std.proofs.lemmas.List.Elements.{Contains-append_cases, Contains-append_left, Contains-append_right}
use Rattle.rgo_region_sets.proofs.removed.add_all.Goals as goal

pub returns : goal.returns
returns c = λ k.
    let old = c.args.names.now.items in
    let these = c.args.these.now in
    subst (λ (l : List ℕ). Contains l k ↔ (Contains old k ⊎ Contains these k))
    (sym c.in_ok-extend_from_slice.ensures.items) (
      λ h. Contains-append_cases old these k h,
      λ h. ⊎_elim (λ o. Contains-append_left old these k o) (λ t. Contains-append_right old these k t) h,
    )
