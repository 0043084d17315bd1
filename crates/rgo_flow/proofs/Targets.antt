-- Rows of the targets of an instruction.
use Rattle.std.proofs.Common.{◌≡◌, ⊎_elim, inl, inr, ◌↔◌, ℕ, ◌<◌, ◌≤◌, ◌+◌, List, [], ◌∷◌, ◌++◌, length, take, get_or, slice_get, sym, subst, arith}
use Rattle.std.specs.List.{Contains}
use Rattle.std.proofs.lemmas.List.Elements.{Contains-push, Contains-push_cases, Contains-append_left}
use Rattle.rgo_graphs.proofs.Lists.{no_member, take_cases, take_more_left, take_more_here}
use Rattle.rgo_tac.specs.Code.{TacFn}
use Rattle.rgo_flow.specs.Graphs.{AddsTarget, HasTargets, LeadsInside}
use Rattle.rgo_flow.specs.Live.{led_to_by}

pub left_out : (row : List ℕ) (target count : ℕ) → count ≤ target → AddsTarget row row target count
left_out row target count past j = (λ h. inl h, λ h. ⊎_elim (λ o. o) (λ e. absurd (omega (arith, e.0, e.1))) h)

pub put_in : (row : List ℕ) (target count : ℕ) → target < count → AddsTarget row (row ++ target ∷ []) target count
put_in row target count below j = (
  λ h. ⊎_elim (λ o. inl o) (λ e. inr (sym e, omega (arith, e))) (Contains-push_cases row target j h),
  λ h. ⊎_elim
      (λ o. Contains-append_left row (target ∷ []) j o)
      (λ e. subst (Contains (row ++ target ∷ [])) (sym e.0) (Contains-push row target))
      h,
)

pub no_targets : (count : ℕ) → HasTargets [] [] count
no_targets count j = (λ h. absurd (no_member j h), λ h. absurd (no_member j h.0))

-- one target more
pub more_targets : (old new targets : List ℕ) (k count : ℕ) → k < length targets → HasTargets old (take k targets) count
    → AddsTarget old new (get_or targets k 0) count → HasTargets new (take (k + 1) targets) count
more_targets old new targets k count l has adds j = (
  λ h. ⊎_elim
      (λ o. let t = (has j).0 o in (take_more_left targets k 0 j l t.0, t.1))
      (λ e. (subst (Contains (take (k + 1) targets)) (sym e.0) (take_more_here targets k 0 l), e.1))
      ((adds j).0 h),
  λ h. (adds j).1 (⊎_elim (λ o. inl ((has j).1 (o, h.1))) (λ e. inr (sym e, h.1)) (take_cases targets k 0 j l h.0)),
)

-- where an instruction leads, by the targets of its operation
pub leads_are : (f : TacFn) (at count : ℕ) (targets row : List ℕ) → led_to_by at (slice_get f.body at) ≡ targets
    → count ≡ length f.body → HasTargets row targets count → (j : ℕ) → Contains row j ↔ LeadsInside f at j
leads_are f at count targets row led counted has j =
    let there : HasTargets row (led_to_by at (slice_get f.body at)) count =
    subst (λ (ts : List ℕ). HasTargets row ts count) (sym led) has in (
      λ h. let t = (there j).0 h in (t.0, omega (arith, t.1, counted)),
      λ h. (there j).1 (h.0, omega (arith, h.1, counted)),
    )
