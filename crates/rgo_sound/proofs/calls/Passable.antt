-- What a call passes has a region. A name that is passed is bound, since the call names it. That a class is passed at all follows from
-- types: the argument has the type of its parameter, and by rule 3 a variable of such a type has a class.
use Rattle.std.proofs.Common.{◌≡◌, ◌≢◌, ℕ, zero, suc, ◌<◌, List, [], ◌∷◌, ◌++◌, length, Option, Some, None, is_some}
use Rattle.std.proofs.Common.{refl, sym, ap, ◌∙◌, subst, arith, ◌⊎◌, inl, inr, true≢false, slice_get, Contains}
use Rattle.std.proofs.Common.{option_map}
use Rattle.std.proofs.lemmas.Option.{slice_get_within, same_Some, slice_get-map}
use Rattle.std.specs.Prelude.{take}
use Rattle.std.proofs.lemmas.List.Elements.{Contains-append_cases}
use Rattle.rgo_sound.proofs.Places.{get_contains, contains_one, get_some}
use Rattle.rgo_sound.proofs.calls.Passed.{ArePassable}
use Rattle.rgo_sound.proofs.names.Ruled.{distinct_member, parameter_member}
use Rattle.rgo_code.specs.ClassRules.{IsPassedFor, PassesClasses, ResultFits, SlotClassFitsType}
use Rattle.rgo_code.specs.Code.{Call, CodeFn, CodeInstr, Go, Slot}
use Rattle.rgo_code.specs.Erasure.{erased_fn, erased_op}
use Rattle.rgo_code.specs.Exists.{UsesVariable}
use Rattle.rgo_code.specs.Names.{UsesRegionName, class_of, parameter_classes, region_parameters, result_class, slot_class}
use Rattle.rgo_code.specs.Types.{ArgumentsFit, VariableHasType, VariablesHaveTypes, TargetFits}
use Rattle.rgo_region_machine.specs.Regions.{Bindings, bound}
use Rattle.rgo_tac.specs.declared.regions.Class.{Class}
use Rattle.rgo_tac.specs.declared.regions.Class.TheVariants.{Global, Name, NoClass}
use Rattle.rgo_typed.specs.Types.{is_pointer_like}
use Rattle.rgo_typed.specs.declared.types.Type.{«Type»}

-- ---- types of the erased function

-- a variable's type is that of its slot
pub slot_at : (fn : CodeFn) (v : ℕ) (ty : «Type») → VariableHasType (erased_fn fn) v ty → (s : Slot)
    × (slice_get fn.variables v ≡ Some s) × (s.ty ≡ ty)
slot_at fn v ty e = go (slice_get fn.variables v) refl (sym (slice_get-map (λ (s : Slot). s.ty) fn.variables v) ∙ e)
  where
    go : (o : Option Slot) → slice_get fn.variables v ≡ o → option_map (λ (s : Slot). s.ty) (slice_get fn.variables v)
        ≡ Some ty → (s : Slot) × (slice_get fn.variables v ≡ Some s) × (s.ty ≡ ty)
    go None q h = let x : None ≡ Some ty = sym (ap (option_map (λ (s : Slot). s.ty)) q) ∙ h in cc
    go (Some s) q h = (s, q, same_Some s.ty ty (sym (ap (option_map (λ (s : Slot). s.ty)) q) ∙ h))

-- an argument has the type of its parameter
pub argument_fits : (fn g : CodeFn) (from : List ℕ) (i v : ℕ) (formal : Slot)
    → ArgumentsFit (erased_fn fn) (Some (erased_fn g)) from → i < g.params → slice_get from i ≡ Some v
    → slice_get g.variables i ≡ Some formal → VariableHasType (erased_fn fn) v formal.ty
argument_fits fn g from i v formal fit below at is =
    one from (take g.params (erased_fn g).variables) i fit at
    (taken g.params (erased_fn g).variables i below ∙ slice_get-map (λ (s : Slot). s.ty) g.variables i
    ∙ ap (option_map (λ (s : Slot). s.ty)) is)
  where
    taken : (n : ℕ) (tys : List «Type») (i : ℕ) → i < n → slice_get (take n tys) i ≡ slice_get tys i
    taken zero tys i h = absurd (omega (arith, h))
    taken (suc n) [] i h = refl
    taken (suc n) (ty ∷ tys) zero h = refl
    taken (suc n) (ty ∷ tys) (suc i) h = taken n tys i (omega (arith, h))

    one : (vs : List ℕ) (tys : List «Type») (i : ℕ) → VariablesHaveTypes (erased_fn fn) vs tys → slice_get vs i ≡ Some v
        → slice_get tys i ≡ Some formal.ty → VariableHasType (erased_fn fn) v formal.ty
    one [] tys i h a b = cc
    one (w ∷ vs) [] i h a b = cc
    one (w ∷ vs) (ty ∷ tys) zero h a b = cc
    one (w ∷ vs) (ty ∷ tys) (suc i) h a b = one vs tys i (tail h) a b
      where
        tail : VariablesHaveTypes (erased_fn fn) (w ∷ vs) (ty ∷ tys) → VariablesHaveTypes (erased_fn fn) vs tys
        tail h = cc

-- ---- what has a region

-- Global, or a name that denotes a region
abbrev IsThere : Bindings → Class → Type 0
IsThere names c = (c ≡ Global) ⊎ ((k : ℕ) × (c ≡ Name k) × (bound names k ≢ None))

passable_from : (names : Bindings) (regions : List Class)
    → ((p : ℕ) (c : Class) → slice_get regions p ≡ Some c → IsThere names c) → ArePassable names regions
passable_from names [] h = tt
passable_from names (NoClass ∷ regions) h = absurd (go (h 0 NoClass refl))
  where
    go : IsThere names NoClass → ⊥
    go (inl e) = cc
    go (inr (k, e, b)) = cc
passable_from names (Global ∷ regions) h = passable_from names regions (λ p c e. h (suc p) c e)
passable_from names (Name k ∷ regions) h = (
  go (h 0 (Name k) refl),
  passable_from names regions
      (λ p c e. h (suc p) c e),
)
  where
    number : (j : ℕ) → Name k ≡ Name j → j ≡ k
    number j e = cc

    go : IsThere names (Name k) → bound names k ≢ None
    go (inl e) = cc
    go (inr (j, e, b)) = subst (λ x. bound names x ≢ None) (number j e) b

-- a slot with a class of a name is pointer-like, and one of the same type has a class
same_kind : (s t : Slot) (m : ℕ) → SlotClassFitsType s → SlotClassFitsType t → s.class ≡ Name m → t.ty ≡ s.ty → t.class ≢ NoClass
same_kind s t m fs ft c k = ft.1 (ap is_pointer_like k ∙ fs.0 (λ n. clash n))
  where
    clash : s.class ≡ NoClass → ⊥
    clash n = let x : NoClass ≡ Name m = sym n ∙ c in cc

-- a class other than NoClass has a region, if its name is bound
classified : (names : Bindings) (c : Class) → c ≢ NoClass → ((k : ℕ) → c ≡ Name k → bound names k ≢ None)
    → IsThere names c
classified names NoClass n h = absurd (n refl)
classified names Global n h = inl refl
classified names (Name k) n h = inr (k, refl, h k refl)

-- fn passes regions to g, by a call or a `go`
module _ (fn g : CodeFn) (instr : CodeInstr) (to : Option ℕ) (from : List ℕ) (passes : List Class) (names : Bindings)
    (read : (v : ℕ) → Contains from v → UsesVariable (erased_op instr.op) v)
    (written : (d : ℕ) → to ≡ Some d → UsesVariable (erased_op instr.op) d) (args : length from ≡ g.params)
    (res : is_some to ≡ is_some g.result) (fits : PassesClasses fn g to from passes)
    (slots : (v : ℕ) (s : Slot) → slice_get fn.variables v ≡ Some s → SlotClassFitsType s)
    (formal_slots : (v : ℕ) (s : Slot) → slice_get g.variables v ≡ Some s → SlotClassFitsType s)
    (result_fits : ResultFits g.result) (arguments_fit : ArgumentsFit (erased_fn fn) (Some (erased_fn g)) from)
    (target_fits : TargetFits (erased_fn fn) (Some (erased_fn g)) to)
    (named : (k : ℕ) → UsesRegionName fn instr.op k → bound names k ≢ None) where
  the_class : (v : ℕ) (s : Slot) → slice_get fn.variables v ≡ Some s → class_of fn v ≡ s.class
  the_class v s e = ap slot_class e

  of_variable : (v m : ℕ) (formal : Slot) → formal.class ≡ Name m → SlotClassFitsType formal → VariableHasType (erased_fn fn) v formal.ty
      → UsesVariable (erased_op instr.op) v → IsThere names (class_of fn v)
  of_variable v m formal c f h u =
      let t = slot_at fn v formal.ty h in
      classified names (class_of fn v) (λ n. same_kind formal t.0 m f (slots v t.0 t.1) c t.2
      (sym (the_class v t.0 t.1) ∙ n)) (λ k e. named k (record { variable = v; used = u; named = e }))

  slot_of : (o : Option Slot) (m : ℕ) → slot_class o ≡ Name m → (s : Slot) × (o ≡ Some s) × (s.class ≡ Name m)
  slot_of None m e = cc
  slot_of (Some s) m e = (s, refl, e)

  each : (p : ℕ) (c : Class) → slice_get passes p ≡ Some c → IsThere names c
  each p c e = formal (get_some (region_parameters g) p (let x = slice_get_within passes p c e in let y = fits.len in
      omega (arith, x, y)))
    where
      formal : (f : Class) × (slice_get (region_parameters g) p ≡ Some f) → IsThere names c
      formal (f, q) = by (Contains-append_cases (parameter_classes g.params g.variables) (result_class g ∷ []) f m.0)
        where
          m : Contains (parameter_classes g.params g.variables ++ result_class g ∷ []) f × ((j : ℕ) × (f ≡ Name j))
          m = distinct_member [] (parameter_classes g.params g.variables ++ result_class g ∷ []) p f q

          is_passed : (actual d : Class) → d ≡ f → IsPassedFor (region_parameters g) passes d actual → actual ≡ c
          is_passed actual d h x =
              let x' : IsPassedFor (region_parameters g) passes (Name m.1.0) actual =
              subst (λ y. IsPassedFor (region_parameters g) passes y actual) (h ∙ m.1.1) x in
              same_Some actual c (sym (x' p (q ∙ ap Some m.1.1)) ∙ e)

          target : (o : Option ℕ) → to ≡ o → (s : Slot) → g.result ≡ Some s → (d : ℕ) × (to ≡ Some d)
          target None t s gr = let x : is_some {T = ℕ} None ≡ is_some (Some s) =
              ap is_some (sym t) ∙ res ∙ ap is_some gr in absurd (true≢false (sym x))
          target (Some d) t s gr = (d, t)

          target_type : (d : ℕ) (s : Slot) → to ≡ Some d → g.result ≡ Some s → VariableHasType (erased_fn fn) d s.ty
          target_type d s t gr =
              let x : TargetFits (erased_fn fn) (Some (erased_fn g)) (Some d) =
              subst (λ o. TargetFits (erased_fn fn) (Some (erased_fn g)) o) t target_fits in
              x s.ty (ap (option_map (λ (s : Slot). s.ty)) gr)

          by : Contains (parameter_classes g.params g.variables) f ⊎ Contains (result_class g ∷ []) f → IsThere names c
          by (inl d) =
              let i = parameter_member g.params g.variables f d in
              let v = get_some from i.0 (let x = i.1 in omega (arith, x, args)) in
              let s = slot_of (slice_get g.variables i.0) m.1.0 (i.2 ∙ m.1.1) in
              subst (λ x. IsThere names x) (is_passed (class_of fn v.0) (class_of g i.0) i.2
              (fits.arguments i.0 v.0 i.1 v.1))
              (of_variable v.0 m.1.0 s.0 s.2 (formal_slots i.0 s.0 s.1)
              (argument_fits fn g from i.0 v.0 s.0 arguments_fit i.1 v.1 s.1)
              (read v.0 (get_contains from i.0 v.0 v.1)))
          by (inr d) =
              let h : result_class g ≡ f = contains_one (result_class g) f d in
              let s = slot_of g.result m.1.0 (h ∙ m.1.1) in
              let t = target to refl s.0 s.1 in
              subst (λ x. IsThere names x) (is_passed (class_of fn t.0) (result_class g) h (fits.result t.0 t.1))
              (of_variable t.0 m.1.0 s.0 s.2 (subst (λ x. ResultFits x) s.1 result_fits) (target_type t.0 s.0 t.1 s.1)
              (written t.0 t.1))

  pub all_passable : ArePassable names passes
  all_passable = passable_from names passes each

-- the names that a call and a `go` read and write
pub call_reads : (instr : CodeInstr) (to : Option ℕ) (n : ℕ) (from : List ℕ) (passes : List Class)
    (protects removes : List ℕ) → instr.op ≡ Call to n from passes protects removes → (v : ℕ) → Contains from v
    → UsesVariable (erased_op instr.op) v
call_reads instr to n from passes protects removes is v a = subst (λ x. UsesVariable (erased_op x) v) (sym is) (inl a)

pub call_writes : (instr : CodeInstr) (to : Option ℕ) (n : ℕ) (from : List ℕ) (passes : List Class)
    (protects removes : List ℕ) → instr.op ≡ Call to n from passes protects removes → (d : ℕ) → to ≡ Some d
    → UsesVariable (erased_op instr.op) d
call_writes instr to n from passes protects removes is d e = subst (λ x. UsesVariable (erased_op x) d) (sym is) (inr e)

pub go_reads : (instr : CodeInstr) (n : ℕ) (from : List ℕ) (passes : List Class) (removes : List ℕ) → instr.op
    ≡ Go n from passes removes → (v : ℕ) → Contains from v → UsesVariable (erased_op instr.op) v
go_reads instr n from passes removes is v a = subst (λ x. UsesVariable (erased_op x) v) (sym is) (inl a)
