-- Declarations: a program and its code have the same, and their names are distinct.
use Rattle.std.proofs.Common.{◌≡◌, ◌≢◌, ℕ, zero, suc, ◌<◌, false, List, [], ◌∷◌, map, take}
use Rattle.std.proofs.Common.{slice_get, Some, bytes_eq, true≢false, refl, sym, ap, ◌∙◌, subst, arith}
use Rattle.std.specs.List.{IsDistinct}
use Rattle.std.proofs.lemmas.Slice.Eq.{bytes_eq-Decides}
use Rattle.rgo_typed.specs.Tree.{Function}
use Rattle.rgo_wellformed.specs.WellFormed as typed
use Rattle.rgo_wellformed.specs.WellFormed.{AreDistinct}
use Rattle.rgo_tac.specs.Code.{TacFn}
use Rattle.rgo_lower.specs.Lowered.{IsLoweredFn, AreLowered}
use Rattle.rgo_code.specs.Exists.{tac_signature, IsNew}
use Rattle.rgo_lowering_laws.proofs.Lists.{some_is, none_is, holds_there}

-- ---- names

distinct_new : (names : List (List ℕ)) → AreDistinct names → (m n : ℕ) (x y : List ℕ) → m < n
    → slice_get names n ≡ Some y → slice_get names m ≡ Some x → x ≢ y
unfolding IsDistinct
distinct_new [] h m n x y lt e k same = none_is y e
distinct_new (a ∷ names) h m zero x y lt e k same = absurd (omega (arith, lt))
distinct_new (a ∷ names) h zero (suc n) x y lt e k same =
    let differ = holds_there (λ z. bytes_eq a z ≡ false) names n y e h.0 in
    true≢false (sym ((bytes_eq-Decides a y).1 (some_is a x k ∙ same)) ∙ differ)
distinct_new (a ∷ names) h (suc m) (suc n) x y lt e k same =
    distinct_new names h.1 m n x y (omega (arith, lt)) e k same

pub is_new : (names : List (List ℕ)) → AreDistinct names → (n : ℕ) → IsNew names n
is_new names h n = λ m name lt e k. distinct_new names h m n name name lt e k refl

-- ---- functions

module _ (functions : List Function) where
  same_signature : (source : Function) (f : TacFn) → IsLoweredFn functions source f
      → tac_signature f ≡ typed.signature_of source
  same_signature source f h =
      let params : take f.params f.variables ≡ take source.params source.locals =
      ap (λ n. take n f.variables) h.params ∙ h.param_types in
      λ i. record { params = params i; result_type = h.result_type i }

  pub same_signatures : (sources : List Function) (fs : List TacFn) → AreLowered functions sources fs
      → map tac_signature fs ≡ map typed.signature_of sources
  same_signatures [] [] h = refl
  same_signatures (source ∷ sources) (f ∷ fs) h =
      let first = same_signature source f h.0 in
      let rest = same_signatures sources fs h.1 in
      λ i. first i ∷ rest i
  same_signatures [] (f ∷ fs) h = absurd h
  same_signatures (source ∷ sources) [] h = absurd h

  pub same_names : (sources : List Function) (fs : List TacFn) → AreLowered functions sources fs
      → map (λ (f : TacFn). f.name) fs ≡ map (λ (f : Function). f.name) sources
  same_names [] [] h = refl
  same_names (source ∷ sources) (f ∷ fs) h =
      let rest = same_names sources fs h.1 in
      λ i. h.0.name i ∷ rest i
  same_names [] (f ∷ fs) h = absurd h
  same_names (source ∷ sources) [] h = absurd h

  -- the function of which f is the code; the code of a function
  pub record Lowering (sources : List Function) (n : ℕ) (f : TacFn) : Type 0 where
    pub source : Function
    pub at : slice_get sources n ≡ Some source
    pub lowered : IsLoweredFn functions source f

  pub record Lowered (fs : List TacFn) (n : ℕ) (source : Function) : Type 0 where
    pub f : TacFn
    pub at : slice_get fs n ≡ Some f
    pub lowered : IsLoweredFn functions source f

  pub source_of : (sources : List Function) (fs : List TacFn) (n : ℕ) (f : TacFn) → AreLowered functions sources fs
      → slice_get fs n ≡ Some f → Lowering sources n f
  source_of [] [] n f h e = absurd (none_is f e)
  source_of (source ∷ sources) (g ∷ fs) zero f h e = record {
    source = source;
    at = refl;
    lowered = subst (IsLoweredFn functions source) (some_is g f e) h.0;
  }
  source_of (source ∷ sources) (g ∷ fs) (suc n) f h e =
      let r = source_of sources fs n f h.1 e in record { source = r.source; at = r.at; lowered = r.lowered }
  source_of [] (g ∷ fs) n f h e = absurd h
  source_of (source ∷ sources) [] n f h e = absurd h

  pub code_of : (sources : List Function) (fs : List TacFn) (n : ℕ) (source : Function)
      → AreLowered functions sources fs → slice_get sources n ≡ Some source → Lowered fs n source
  code_of [] [] n source h e = absurd (none_is source e)
  code_of (s ∷ sources) (g ∷ fs) zero source h e = record {
    f = g;
    at = refl;
    lowered = subst (λ z. IsLoweredFn functions z g) (some_is s source e) h.0;
  }
  code_of (s ∷ sources) (g ∷ fs) (suc n) source h e =
      let r = code_of sources fs n source h.1 e in record { f = r.f; at = r.at; lowered = r.lowered }
  code_of [] (g ∷ fs) n source h e = absurd h
  code_of (s ∷ sources) [] n source h e = absurd h
