-- What dies on the way from a branch.
use Rattle.std.proofs.Common.{◌≡◌, true, false, ◌⊎◌, ⊎_elim, inl, inr, ℕ, zero, suc, List, [], ◌∷◌, Option, Some, None, Vec, slice_get, refl, sym, ap, subst}
use Rattle.std.specs.Prelude.{◌↔◌}
use Rattle.std.specs.Global.{Global}
use Rattle.std.specs.List.{Contains}
use Rattle.std.specs.Option.{is_some}
use Rattle.std.proofs.lemmas.Bool.{false≢true}
use Rattle.std.proofs.lemmas.Option.{same_Some, none-some}
use Rattle.rgo_graphs.specs.Rows.{rows_of, row_at}
use Rattle.rgo_code.specs.Code.{CodeFn}
use Rattle.rgo_code.specs.Erasure.{erased_fn}
use Rattle.rgo_region_sets.specs.declared.table.LiveNames.{LiveNames}
use Rattle.rgo_region_sets.specs.Live.{AreLiveNames, HasDying, IsKnown, IsWay, AddsDying}
use Rattle.rgo_region_sets.specs.Asked.{AreCandidates, AreRemoved, IsDead, Removes}
use Rattle.rgo_region_sets.specs.Branches.{branch_at}
use Rattle.rgo_region_sets.specs.Sets.{IsSet}
use Rattle.rgo_region_sets.specs.Used.{UsesName}
use Rattle.rgo_region_sets.proofs.Members.{set_with}
use Rattle.rgo_region_sets.proofs.Removing.{branch_candidates, other_candidates, removed}

-- ---- from a branch

-- the row of a number
pub row_there : (rows : List (Vec ℕ Global)) (b : ℕ) (row : Vec ℕ Global) → slice_get rows b ≡ Some row
    → row_at (rows_of rows) b ≡ row.items
row_there [] b row e = absurd (none-some row e)
row_there (r ∷ rows) zero row e = ap (λ x. x.items) (same_Some r row e)
row_there (r ∷ rows) (suc b) row e = row_there rows b row e

pub row_past : (rows : List (Vec ℕ Global)) (b : ℕ) → slice_get rows b ≡ None → row_at (rows_of rows) b ≡ []
row_past [] b e = refl
row_past (r ∷ rows) zero e = absurd (none-some r (sym e))
row_past (r ∷ rows) (suc b) e = row_past rows b e

module _ (live : LiveNames) (rows : List (List ℕ)) (at next b : ℕ) (old new : List ℕ)
    (known : IsKnown live rows at next) (same : known.branch ≡ b) where
  dying_at : HasDying live rows b at next
  dying_at = subst (λ n. HasDying live rows n at next) same known.dying

  pub row_added : (row : List ℕ) → row_at rows b ≡ row
      → ((k : ℕ) → Contains new k ↔ (Contains old k ⊎ Contains row k)) → AddsDying live old new at next
  row_added row is adds k =
      let dies = dying_at k in (
        λ h. ⊎_elim
            (λ o. inl o)
            (λ s. inr (dies.0 (subst (λ (l : List ℕ). Contains l k) (sym is) s)))
            ((adds k).0 h),
        λ h. (adds k).1 (⊎_elim
            (λ o. inl o)
            (λ d. inr (subst (λ (l : List ℕ). Contains l k) is (dies.1 d)))
            h),
      )

-- ---- the candidates on a way

module _ (live : LiveNames) (f : CodeFn) (tables : AreLiveNames live f) (rows : List (List ℕ)) (at next : ℕ)
    (way : IsWay live f rows at next) (used names : List ℕ)
    (uses : (k : ℕ) → Contains used k ↔ UsesName f (slice_get f.body at) k)
    (found : Option (ℕ × ℕ)) (is : found ≡ branch_at (erased_fn f) at) where
  pub from_branch : is_some found ≡ true
      → ((to : ℕ) → IsKnown live rows at to → AddsDying live used names at to) → AreCandidates f at next names
  from_branch some adds = by found is some where
    by : (o : Option (ℕ × ℕ)) → o ≡ branch_at (erased_fn f) at → is_some o ≡ true → AreCandidates f at next names
    by None e some = absurd (false≢true some)
    by (Some ways) e some =
        branch_candidates live f tables at next used names uses (adds next (way.known ways (sym e)))

  pub from_other : is_some found ≡ false → names ≡ used → AreCandidates f at next names
  from_other none same = by found is none where
    by : (o : Option (ℕ × ℕ)) → o ≡ branch_at (erased_fn f) at → is_some o ≡ false → AreCandidates f at next names
    by (Some ways) e none = absurd (false≢true (sym none))
    by None e none = other_candidates live f tables at next used names uses same (way.only (sym e))

-- ---- what is removed on a way

pub set_removed : (live : LiveNames) (f : CodeFn) (tables : AreLiveNames live f) (at next : ℕ) (gives names : List ℕ)
    (candidates : AreCandidates f at next names) (leads : Option ℕ) → leads ≡ Some next
    → (out : List ℕ) → IsSet out (λ k. Contains names k × IsDead f gives next k) → AreRemoved f at gives leads out
set_removed live f tables at next gives names candidates leads is out set =
    subst (λ (o : Option ℕ). AreRemoved f at gives o out) (sym is)
    (set_with out (λ k. Contains names k × IsDead f gives next k) (Removes f at gives next) set
    (removed live f tables at next gives names candidates))
