-- Names of variables, and the names that instructions use.
use Rattle.std.proofs.Common.{◌≡◌, ◌≢◌, Decides, not, nat_eq, ⊎_elim, inl, inr, ◌≤◌, ◌+◌, ℕ, Bool, true, false, List, [], ◌∷◌, ◌++◌, Option, Some, None, length, take, get_or, slice_get, option_to_list, refl, sym, ap, subst, ◌∙◌, arith}
use Rattle.std.specs.Prelude.{◌↔◌}
use Rattle.std.specs.List.{Contains}
use Rattle.std.proofs.lemmas.Bool.{false≢true}
use Rattle.std.proofs.lemmas.Bool.Decides.{nat_tests}
use Rattle.std.proofs.lemmas.List.{take_all}
use Rattle.std.proofs.lemmas.List.Elements.{Contains-push, Contains-push_cases, Contains-append_left}
use Rattle.std.proofs.lemmas.Option.{same_Some, none-some, slice_get_within, slice_get-map, get_or_from_slice_get}
use Rattle.std.specs.Option.{option_map}
use Rattle.rgo_graphs.proofs.Lists.{no_member, member_one, one_member, take_cases, take_more_left, take_more_here}
use Rattle.rgo_tac.specs.declared.regions.Class.{Class}
use Rattle.rgo_tac.specs.declared.regions.Class.TheVariants.{NoClass, Global, Name}
use Rattle.rgo_tac.specs.Code.{Op}
use Rattle.rgo_tac.specs.Flow.{reads, writes}
use Rattle.rgo_tac.specs.Ops.{op_in}
use Rattle.rgo_code.specs.Code.{CodeInstr, CodeFn}
use Rattle.rgo_code.specs.Erasure.{erased_op, erased_instr, erased_fn}
use Rattle.rgo_code.specs.Names.{class_of, UsesRegionName}
use Rattle.rgo_region_sets.specs.Used.{name_of, UsesName, AddsName, AddsNames, AddsUsed}

-- ---- names of classes

pub name_is : (c : Class) (k : ℕ) → name_of c ≡ Some k → c ≡ Name k
name_is NoClass k e = absurd (none-some k e)
name_is Global k e = absurd (none-some k e)
name_is (Name j) k e = ap Name (same_Some j k e)

pub is_name : (c : Class) (k : ℕ) → c ≡ Name k → name_of c ≡ Some k
is_name c k e = ap name_of e

pub no_name : (c : Class) (k : ℕ) → name_of c ≡ None → c ≡ Name k → ⊥
no_name c k none e = none-some k (sym none ∙ ap name_of e)

pub one_name : (c : Class) (j k : ℕ) → name_of c ≡ Some j → c ≡ Name k → k ≡ j
one_name c j k e f = same_Some k j (sym (ap name_of f) ∙ e)

-- ---- a variable's name

module _ (f : CodeFn) (names : List ℕ) (v : ℕ) where
  pub adds_name : (j : ℕ) → name_of (class_of f v) ≡ Some j → AddsName f names (names ++ j ∷ []) v
  adds_name j e k = (
    λ h. ⊎_elim
        (λ o. inl o)
        (λ s. inr (name_is (class_of f v) k (e ∙ ap Some s)))
        (Contains-push_cases names j k h),
    λ h. ⊎_elim
        (λ o. Contains-append_left names (j ∷ []) k o)
        (λ s. subst (Contains (names ++ j ∷ [])) (sym (one_name (class_of f v) j k e s)) (Contains-push names j))
        h,
  )

  pub adds_no_name : name_of (class_of f v) ≡ None → AddsName f names names v
  adds_no_name e k = (λ h. inl h, λ h. ⊎_elim (λ o. o) (λ s. absurd (no_name (class_of f v) k e s)) h)

-- ---- the names of variables in a row

pub none_named : (f : CodeFn) (names : List ℕ) → AddsNames f names names []
none_named f names k = (λ h. inl h, λ h. ⊎_elim (λ o. o) (λ s. absurd (no_member s.0 s.1)) h)

pub one_named : (f : CodeFn) (old new : List ℕ) (v : ℕ) → AddsName f old new v → AddsNames f old new (v ∷ [])
one_named f old new v h k = (
  λ m. ⊎_elim (λ o. inl o) (λ e. inr (v, one_member v, e)) ((h k).0 m),
  λ m. (h k).1 (⊎_elim
      (λ o. inl o)
      (λ s. inr (subst (λ u. class_of f u ≡ Name k) (member_one v s.0 s.1) s.2))
      m),
)

pub more_named : (f : CodeFn) (old mid new variables : List ℕ) (i v : ℕ) → slice_get variables i ≡ Some v
    → AddsNames f old mid (take i variables) → AddsName f mid new v → AddsNames f old new (take (i + 1) variables)
more_named f old mid new variables i v there before one k =
    let within = slice_get_within variables i v there in
    let is : get_or variables i v ≡ v = get_or_from_slice_get variables i v v there in (
      λ h. ⊎_elim
          (λ m. ⊎_elim
          (λ o. inl o)
          (λ s. inr (s.0, take_more_left variables i v s.0 within s.1, s.2))
          ((before k).0 m))
          (λ e. inr (v, subst (Contains (take (i + 1) variables)) is (take_more_here variables i v within), e))
          ((one k).0 h),
      λ h. (one k).1 (⊎_elim
          (λ o. inl ((before k).1 (inl o)))
          (λ s. ⊎_elim
          (λ earlier. inl ((before k).1 (inr (s.0, earlier, s.2))))
          (λ same. inr (subst (λ u. class_of f u ≡ Name k) (sym same ∙ is) s.2))
          (take_cases variables i v s.0 within s.1))
          h),
    )

pub all_named : (f : CodeFn) (old new variables : List ℕ) (i : ℕ) → length variables ≤ i
    → AddsNames f old new (take i variables) → AddsNames f old new variables
all_named f old new variables i past h =
    subst (λ (l : List ℕ). AddsNames f old new l) (take_all i variables past) h

pub then_named : (f : CodeFn) (old mid new : List ℕ) (op : Op) → AddsNames f old mid (reads op)
    → AddsNames f mid new (option_to_list (writes op)) → AddsUsed f old new op
then_named f old mid new op first second k = (
  λ h. ⊎_elim
      (λ m. ⊎_elim (λ o. inl o) (λ r. inr (inl r)) ((first k).0 m))
      (λ w. inr (inr w))
      ((second k).0 h),
  λ h. (second k).1 (⊎_elim
      (λ o. inl ((first k).1 (inl o)))
      (λ s. ⊎_elim (λ r. inl ((first k).1 (inr r))) (λ w. inr w) s)
      h),
)

-- ---- the names that an instruction uses

written_list : (w : Option ℕ) (v : ℕ) → Contains (option_to_list w) v ↔ (w ≡ Some v)
written_list None v = (λ h. absurd (no_member v h), λ e. absurd (none-some v e))
written_list (Some u) v = (
  λ h. ap Some (sym (member_one u v h)),
  λ e. subst (Contains (u ∷ [])) (same_Some u v e) (one_member u),
)

pub uses_of : (f : CodeFn) (i : CodeInstr) (names : List ℕ) → AddsUsed f [] names (erased_op i.op)
    → (k : ℕ) → Contains names k ↔ UsesRegionName f i.op k
uses_of f i names h k = (
  λ m. ⊎_elim
      (λ o. absurd (no_member k o))
      (λ s. ⊎_elim
      (λ r. record { variable = r.0; used = inl r.1; named = r.2 })
      (λ w. record { variable = w.0; used = inr ((written_list (writes (erased_op i.op)) w.0).0 w.1); named = w.2 })
      s)
      ((h k).0 m),
  λ n. (h k).1 (inr (⊎_elim
      (λ r. inl (n.variable, r, n.named))
      (λ w. inr (n.variable, (written_list (writes (erased_op i.op)) n.variable).1 w, n.named))
      n.used)),
)

-- by what three-address code has at the number
uses_by : (f : CodeFn) (found : Option CodeInstr) (op : Op) (names : List ℕ)
    → op_in (option_map erased_instr found) ≡ Some op → AddsUsed f [] names op
    → (k : ℕ) → Contains names k ↔ UsesName f found k
uses_by f None op names is h = absurd (none-some op is)
uses_by f (Some i) op names is h =
    uses_of f i names (subst (AddsUsed f [] names) (sym (same_Some (erased_op i.op) op is)) h)

pub uses_at : (f : CodeFn) (at : ℕ) (op : Op) (names : List ℕ)
    → op_in (slice_get (erased_fn f).body at) ≡ Some op → AddsUsed f [] names op
    → (k : ℕ) → Contains names k ↔ UsesName f (slice_get f.body at) k
uses_at f at op names is h =
    uses_by f (slice_get f.body at) op names
    (ap op_in (sym (slice_get-map erased_instr f.body at)) ∙ is) h

none_by : (f : CodeFn) (found : Option CodeInstr) → op_in (option_map erased_instr found) ≡ None
    → (k : ℕ) → UsesName f found k → ⊥
none_by f None is k u = u
none_by f (Some i) is k u = none-some (erased_op i.op) (sym is)

pub none_used : (f : CodeFn) (at : ℕ) → op_in (slice_get (erased_fn f).body at) ≡ None
    → (k : ℕ) → UsesName f (slice_get f.body at) k → ⊥
none_used f at is k u =
    none_by f (slice_get f.body at) (ap op_in (sym (slice_get-map erased_instr f.body at)) ∙ is) k u

-- ---- own names

pub own_named : (c : Class) (k name : ℕ) (differ : Bool) → name_of c ≡ Some k → differ ≡ not (nat_eq k name)
    → Decides differ (c ≢ Name name)
own_named c k name differ named is = (
  λ e h.
      let same : name ≡ k = one_name c k name named h in
      absurd (false≢true (sym (ap not (equal k name (sym same))) ∙ sym is ∙ e)),
  λ own. is ∙ ap not (unequal k name (λ e. own (name_is c name (named ∙ ap Some e)))),
)
  where
    equal : (a b : ℕ) → a ≡ b → nat_eq a b ≡ true
    equal a b e = grind (arith, nat_tests)

    unequal : (a b : ℕ) → (a ≡ b → ⊥) → nat_eq a b ≡ false
    unequal a b e = grind (arith, nat_tests)

pub own_other : (c : Class) (name : ℕ) → name_of c ≡ None → Decides true (c ≢ Name name)
own_other c name none = (λ e h. no_name c name none h, λ own. refl)
