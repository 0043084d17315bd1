-- The arguments of a call are listed, each with the class of its parameter.
use Rattle.std.proofs.Common.{◌≡◌, ⊎_elim, ℕ, ◌<◌, ◌+◌, List, [], ◌∷◌, ◌++◌, Some, None, length, get_or, slice_get, sym, ap, ◌∙◌, subst, arith}
use Rattle.std.specs.List.{Contains}
use Rattle.std.specs.HashMap.{HashMap}
use Rattle.std.proofs.lemmas.List.Elements.{Contains-append_left, Contains-push, Contains-push_cases}
use Rattle.std.proofs.lemmas.Option.{none-some, same_Some, slice_get-get_or}
use Rattle.rgo_tac.specs.declared.regions.Class.{Class}
use Rattle.rgo_tac.specs.Code.{TacFn}
use Rattle.rgo_classes.specs.Holding.{AreArguments, HoldsArguments, HoldsMore}
use Rattle.rgo_classes.proofs.Listing.{Listed}
use Rattle.rgo_classes.proofs.Moving.{no_member, eq_cases}

pub arguments_none : (params : List Class) (from : List ℕ) → AreArguments params from 0 []
arguments_none params from c v = (λ h. absurd (no_member (c, v) h), λ h. absurd (omega (arith, h.1)))

module _ (params : List Class) (from : List ℕ) (i : ℕ) (held : List Listed)
    (are : AreArguments params from i held) where
  abbrev IsArgument : (n : ℕ) → Class → ℕ → Type 0
  IsArgument n c v = (j : ℕ) × (j < n) × (slice_get params j ≡ Some c) × (slice_get from j ≡ Some v)

  later : (c : Class) (v : ℕ) → IsArgument i c v → IsArgument (i + 1) c v
  later c v h = (h.0, omega (arith, h.1), h.2, h.3)

  pub arguments_past : slice_get params i ≡ None → AreArguments params from (i + 1) held
  arguments_past none c v = (λ h. later c v ((are c v).0 h), λ h. (are c v).1 (before h))
    where
      before : IsArgument (i + 1) c v → IsArgument i c v
      before h = ⊎_elim
          (λ e. absurd (none-some c (sym none ∙ ap (slice_get params) (sym e) ∙ h.2)))
          (λ n. (h.0, omega (arith, h.1, n), h.2, h.3))
          (eq_cases h.0 i)

  pub arguments_more : (c : Class) → i < length from → slice_get params i ≡ Some c
      → AreArguments params from (i + 1) (held ++ (c, get_or from i 0) ∷ [])
  arguments_more c inside here d v = (
    λ h. ⊎_elim
        (λ l. later d v ((are d v).0 l))
        (λ e. (i, omega arith, here ∙ ap (λ (q : Listed). Some q.0) e, there ∙ ap (λ (q : Listed). Some q.1) e))
        (Contains-push_cases held (c, get_or from i 0) (d, v) h),
    λ h. ⊎_elim
        (λ e. last (h.2, h.3) e)
        (λ n. Contains-append_left held ((c, get_or from i 0) ∷ []) (d, v)
        ((are d v).1 (h.0, omega (arith, h.1, n), h.2, h.3)))
        (eq_cases h.0 i),
  )
    where
      there : slice_get from i ≡ Some (get_or from i 0)
      there = slice_get-get_or from i 0 inside

      last : {j : ℕ} → (slice_get params j ≡ Some d) × (slice_get from j ≡ Some v) → j ≡ i
          → Contains (held ++ (c, get_or from i 0) ∷ []) (d, v)
      last h e =
          subst (λ (p : Listed). Contains (held ++ (c, get_or from i 0) ∷ []) p)
          (pair (same_Some c d (sym here ∙ ap (slice_get params) (sym e) ∙ h.0))
          (same_Some (get_or from i 0) v (sym there ∙ ap (slice_get from) (sym e) ∙ h.1)))
          (Contains-push held (c, get_or from i 0))
        where
          pair : c ≡ d → get_or from i 0 ≡ v → ◌≡◌ {A = Listed} (c, get_or from i 0) (d, v)
          pair x y = cc

module _ {S : Type 0} (f : TacFn) (old : List ℕ) (params : List Class) (from : List ℕ) (i : ℕ) (labels : List ℕ)
    (holders : HashMap ℕ ℕ S) (h : HoldsArguments f old params from i labels holders) where
  pub held_more : (c : Class) (labels' : List ℕ) (holders' : HashMap ℕ ℕ S) → i < length from
      → slice_get params i ≡ Some c → HoldsMore f labels holders c (get_or from i 0) labels' holders'
      → HoldsArguments f old params from (i + 1) labels' holders'
  held_more c labels' holders' inside here more =
      (h.0 ++ (c, get_or from i 0) ∷ [], arguments_more params from i h.0 h.1 c inside here, more old h.0 h.2)

  pub held_past : slice_get params i ≡ None → HoldsArguments f old params from (i + 1) labels holders
  held_past none = (h.0, arguments_past params from i h.0 h.1 none, h.2)

  pub held_all : i ≡ length from → HoldsArguments f old params from (length from) labels holders
  held_all e = subst (λ n. HoldsArguments f old params from n labels holders) e h
