-- What is listed at the end of a call is what corresponds to the classes of the callee's summary.
use Rattle.std.proofs.Common.{◌≡◌, inl, inr, ⊎_elim, ◌↔◌, ℕ, List, [], ◌∷◌, ◌++◌, Option, Some, None, length, slice_get, nat_eq, refl, sym, ap, ◌∙◌, subst}
use Rattle.std.specs.List.{Contains}
use Rattle.std.specs.HashMap.{HashMap, IsEmpty}
use Rattle.std.specs.Map.{lookup}
use Rattle.std.proofs.lemmas.List.Elements.{Contains-append_left, Contains-push, Contains-push_cases}
use Rattle.std.proofs.lemmas.Option.{none-some, same_Some, slice_get_within}
use Rattle.rgo_tac.specs.declared.regions.Class.{Class}
use Rattle.rgo_tac.specs.declared.regions.Member.{Member}
use Rattle.rgo_tac.specs.declared.regions.Member.TheVariants.{Variable, Result, Global}
use Rattle.rgo_tac.specs.Code.{TacFn}
use Rattle.rgo_classes.specs.declared.classes.Summary.{Summary}
use Rattle.rgo_classes.specs.Holding.{Among, AreArguments, HeldJoins, Holding, IsOfClass, HoldsArguments, HoldsMore}
use Rattle.rgo_classes.specs.Joins.{CallJoins, CorrespondsInCall}
use Rattle.rgo_classes.specs.Labels.{JoinsAlso, label_of}
use Rattle.rgo_classes.proofs.Joining.{joins_equal, joins_none, joins_still}
use Rattle.rgo_classes.proofs.Listing.{Listed}
use Rattle.rgo_classes.proofs.Moving.{no_member}

-- ---- nothing is listed yet

only_global : (c : Class) (m : Member) → IsOfClass [] c m → m ≡ Global
only_global c (Variable v) h = absurd (no_member (c, v) h)
only_global c Result h = absurd h
only_global c Global h = refl

pub holding_none : {S : Type 0} (f : TacFn) (labels : List ℕ) (holders : HashMap ℕ ℕ S)
    → IsEmpty holders → Holding f labels [] labels holders
holding_none f labels holders empty = record {
  joined = joins_still labels (Among f (HeldJoins []))
      (λ a b r. ap (label_of labels) (only_global r.0.0 a r.0.2 ∙ sym (only_global r.0.0 b r.0.3)));
  listed = λ k v e. absurd (none-some v (sym (ap (lookup (nat_eq k)) empty) ∙ e));
  each = λ k v h. absurd (no_member _ h);
}

-- ---- all is listed

module _ (s : Summary) (from : List ℕ) (held : List Listed)
    (are : AreArguments s.params from (length from) held) where
  abbrev IsArgument : Class → ℕ → Type 0
  IsArgument c v = (i : ℕ) × (slice_get s.params i ≡ Some c) × (slice_get from i ≡ Some v)

  listed_is : (c : Class) (v : ℕ) → Contains held (c, v) → IsArgument c v
  listed_is c v h = let j = (are c v).0 h in (j.0, j.2, j.3)

  is_listed : (c : Class) (v : ℕ) → IsArgument c v → Contains held (c, v)
  is_listed c v h = (are c v).1 (h.0, slice_get_within from h.0 v h.2, h.1, h.2)

  pub stands_none : (c : Class) (m : Member) → IsOfClass held c m ↔ CorrespondsInCall s None from c m
  stands_none c (Variable v) = (
    λ h. inl (listed_is c v h),
    λ h. ⊎_elim (λ i. is_listed c v i) (λ e. absurd (none-some v e.1)) h,
  )
  stands_none c Result = (λ h. h, λ h. h)
  stands_none c Global = (λ h. h, λ h. h)

  pub stands_some : (d : ℕ) (c : Class) (m : Member)
      → IsOfClass (held ++ (s.result, d) ∷ []) c m ↔ CorrespondsInCall s (Some d) from c m
  stands_some d c (Variable v) = (
    λ h. ⊎_elim (λ l. inl (listed_is c v l))
        (λ e. inr (ap (λ (q : Listed). q.0) e, ap (λ (q : Listed). Some q.1) e))
        (Contains-push_cases held (s.result, d) (c, v) h),
    λ h. ⊎_elim (λ i. Contains-append_left held ((s.result, d) ∷ []) (c, v) (is_listed c v i))
        (λ e. subst (λ (p : Listed). Contains (held ++ (s.result, d) ∷ []) p) (pair e.0 (same_Some d v e.1))
        (Contains-push held (s.result, d)))
        h,
  )
    where
      pair : s.result ≡ c → d ≡ v → ◌≡◌ {A = Listed} (s.result, d) (c, v)
      pair x y = cc
  stands_some d c Result = (λ h. h, λ h. h)
  stands_some d c Global = (λ h. h, λ h. h)

call_joins : (f : TacFn) (old new : List ℕ) (s : Summary) (to : Option ℕ) (from : List ℕ) (held : List Listed)
    → ((c : Class) (m : Member) → IsOfClass held c m ↔ CorrespondsInCall s to from c m)
    → JoinsAlso old (Among f (HeldJoins held)) new → JoinsAlso old (Among f (CallJoins (Some s) to from)) new
call_joins f old new s to from held same =
    joins_equal old new (Among f (HeldJoins held)) (Among f (CallJoins (Some s) to from)) (λ a b. (
      λ r. ((r.0.0, r.0.1, (same r.0.0 a).0 r.0.2, (same r.0.0 b).0 r.0.3), r.1, r.2),
      λ r. ((r.0.0, r.0.1, (same r.0.0 a).1 r.0.2, (same r.0.0 b).1 r.0.3), r.1, r.2),
    ))

module _ {S : Type 0} (f : TacFn) (old : List ℕ) (s : Summary) (from labels : List ℕ) (holders : HashMap ℕ ℕ S)
    (h : HoldsArguments f old s.params from (length from) labels holders) where
  pub call_without : JoinsAlso old (Among f (CallJoins (Some s) None from)) labels
  call_without = call_joins f old labels s None from h.0 (stands_none s from h.0 h.1) h.2.joined

  pub call_with : (d : ℕ) (labels' : List ℕ) (holders' : HashMap ℕ ℕ S)
      → HoldsMore f labels holders s.result d labels' holders'
      → JoinsAlso old (Among f (CallJoins (Some s) (Some d) from)) labels'
  call_with d labels' holders' more =
      call_joins f old labels' s (Some d) from (h.0 ++ (s.result, d) ∷ []) (stands_some s from h.0 h.1 d)
      (more old h.0 h.2).joined

-- a call of no function
pub call_of_none : (f : TacFn) (labels : List ℕ) (to : Option ℕ) (from : List ℕ)
    → JoinsAlso labels (Among f (CallJoins None to from)) labels
call_of_none f labels to from = joins_none labels (Among f (CallJoins None to from)) (λ a b r. r.0)
