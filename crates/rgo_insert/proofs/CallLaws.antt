-- What is passed keeps the rules on calls and starts, since summaries describe the callees.
use Rattle.std.proofs.Common.{◌≡◌, ◌≢◌, ◌<◌, ◌≤◌, ◌+◌, ℕ, zero, suc, List, length, get_or, Some, slice_get, refl, sym, ap, ◌∙◌, subst, arith}
use Rattle.std.specs.Option.{option_map}
use Rattle.rgo_typed.specs.declared.types.Type.{«Type»}
use Rattle.rgo_tac.specs.declared.regions.Class.{Class}
use Rattle.rgo_tac.specs.declared.regions.Class.TheVariants as class
use Rattle.rgo_tac.specs.declared.regions.Member.{Member}
use Rattle.rgo_tac.specs.declared.regions.Member.TheVariants.{Variable, Global}
use Rattle.rgo_tac.specs.Code.{TacFn, Tac}
use Rattle.rgo_classes.specs.declared.classes.Summary.{Summary}
use Rattle.rgo_classes.specs.Classes.{AreClasses, InOneClass}
use Rattle.rgo_classes.specs.Joins.{IsPointerLike, Joins}
use Rattle.rgo_classes.proofs.Chains.{contains}
use Rattle.rgo_summaries.specs.Calls.{CallParts, call_and_callee_at, member, passed_member}
use Rattle.rgo_summaries.specs.Names.{SummaryNames}
use Rattle.rgo_summaries.proofs.Naming.{InOne, together}
use Rattle.rgo_summaries.proofs.Outer.{place, some_get}
use Rattle.rgo_summaries.proofs.Standing.{Together, joined_by_call}
use Rattle.rgo_code.specs.declared.notes.Regions.{Regions}
use Rattle.rgo_code.specs.ClassRules.{IsPassedFor, PassesClasses}
use Rattle.rgo_code.specs.Code.{CodeFn}
use Rattle.rgo_code.specs.Names.{class_of, member_class, region_parameters}
use Rattle.rgo_code.specs.Views.{code_fn}
use Rattle.rgo_insert.specs.Bare.{classes_by}
use Rattle.rgo_insert.specs.Passing.{actual_classes, formal_classes, AreClassesPassed}
use Rattle.rgo_insert.proofs.Formals.{actual_at, formal_at, formal_is, slots_long}
use Rattle.rgo_insert.proofs.Members.{Placed, agree, class_in, global_of_class, like_of_class, placed_of_class, same_of_class, some_type}

-- a call that fits its callee: arguments for its parameters, of their types, and a target for its result
pub record CallFits (f g : TacFn) (call : CallParts) : Type 0 where
  pub arguments : length call.from ≡ g.params
  pub params : g.params ≤ length g.variables
  pub target : (ty : «Type») → g.result_type ≡ Some ty → (d : ℕ) × (call.to ≡ Some d)
  pub like : (m v : ℕ) → passed_member call m ≡ Some (Variable v) → IsPointerLike g (member m) → IsPointerLike f (Variable v)

module _ (code : Tac) (sums : List Summary) (f g : TacFn) (rf rg : Regions)
    (f_are : AreClasses sums f (classes_by rf)) (g_are : AreClasses sums g (classes_by rg))
    (s : Summary) (names : SummaryNames (InOne sums g) g s)
    (at : ℕ) (call : CallParts) (here : call_and_callee_at code f at ≡ Some (call, g))
    (known : slice_get sums call.function ≡ Some s)
    (fits : CallFits f g call) where
  abbrev caller : CodeFn
  caller = code_fn f rf

  abbrev callee : CodeFn
  callee = code_fn g rg

  long_enough : callee.params ≤ length callee.variables
  long_enough = subst (λ n. g.params ≤ n) (sym (slots_long g.variables rg.classes)) fits.params

  abbrev class_there : ℕ → Class
  class_there m = class_in sums g rg g_are (member m)

  -- a class other than none is that of a pointer-like member
  record HasClass (m : ℕ) : Type 0 where
    place_is : Placed sums g rg g_are (member m)
    like : IsPointerLike g (member m)

  has_class : (m : ℕ) → 0 < m → class_there m ≢ class.NoClass → HasClass m
  has_class m some not_none =
      let p = placed_of_class sums g rg g_are (member m) (λ e. not_global m some e) not_none in
      record { place_is = p; like = like_of_class sums g rg g_are (member m) p not_none }
    where
      not_global : (m : ℕ) → 0 < m → member m ≡ Global → ⊥
      not_global zero some e = omega (arith, some)
      not_global (suc zero) some e = cc
      not_global (suc (suc i)) some e = cc

  -- members of one class are passed what is of one class
  same_actual : (m n v : ℕ) (b : Member) → m < g.params + 2 → n < g.params + 2 → IsPointerLike g (member m)
      → IsPointerLike g (member n) → InOneClass sums g (member m) (member n) → passed_member call m ≡ Some (Variable v)
      → passed_member call n ≡ Some b → IsPointerLike f b → class_of caller v ≡ member_class caller b
  same_actual m n v b lm ln pm pn same e h like =
      let t : Together s m n = together (InOne sums g) g s names m n (lm, pm) (ln, pn) same in
      let own = fits.like m v e pm in
      agree sums f rf f_are (Variable v) b own like
      (contains (Joins sums f) (Variable v) b
      (joined_by_call code sums f at call g s m n (Variable v) b here known t e h own like))

  module _ (passes : List Class)
      (are : AreClassesPassed (formal_classes callee) (actual_classes caller call.to call.from) (region_parameters callee)
      passes) where
    -- a member whose class has a name is passed a variable
    actual_of : (m k : ℕ) → 0 < m → m < g.params + 2 → class_there m ≡ class.Name k
        → (v : ℕ) × (passed_member call m ≡ Some (Variable v))
    actual_of zero k some outer e = absurd (omega (arith, some))
    actual_of (suc zero) k some outer e =
        let h = has_class 1 some (λ z. named k (sym e ∙ z)) in
        let t = some_type g.result_type h.like in
        let d = fits.target t.0 t.1 in
        (d.0, ap (option_map Variable) d.1)
      where
        named : (k : ℕ) → class.Name k ≡ class.NoClass → ⊥
        named k e = cc
    actual_of (suc (suc i)) k some outer e =
        let a = some_get call.from i (omega (arith, outer, fits.arguments)) in
        (a.0, ap (option_map Variable) a.1)

    by_class : (c : Class) (m v : ℕ) → 0 < m → m < g.params + 2 → passed_member call m ≡ Some (Variable v) → class_there m ≡ c
        → IsPassedFor (region_parameters callee) passes c (class_of caller v)
    by_class class.NoClass m v some outer e is = tt
    by_class class.Global m v some outer e is =
        let h = has_class m some (λ z. global_named (sym is ∙ z)) in
        same_actual m 0 v Global outer (omega arith) h.like refl
        (global_of_class sums g rg g_are (member m) h.place_is is) e refl refl
      where
        global_named : class.Global ≡ class.NoClass → ⊥
        global_named e = cc
    by_class (class.Name k) m v some outer e is = λ p region.
        let formal = formal_at callee long_enough m some outer ∙ ap Some is in
        let found = are.each p (place g.params m) k region formal in
        let other = formal_is callee long_enough found.0 (class.Name k) found.1 in
        let a = actual_of other.number k other.some other.outer other.class_is in
        let h = has_class m some (λ z. named (sym is ∙ z)) in
        let o = has_class other.number other.some (λ z. named (sym other.class_is ∙ z)) in
        let one = same_of_class sums g rg g_are (member m) (member other.number) h.place_is o.place_is
        (is ∙ sym other.class_is) (λ z. named (sym is ∙ z)) in
        let same = same_actual m other.number v (Variable a.0) outer other.outer h.like o.like one e a.1
        (fits.like other.number a.0 a.1 o.like) in
        found.2
        ∙ ap (λ j. Some (get_or (actual_classes caller call.to call.from) j class.NoClass)) other.is
        ∙ ap Some (actual_at caller g.params call fits.arguments other.number a.0 a.1)
        ∙ ap Some (sym same)
      where
        named : class.Name k ≡ class.NoClass → ⊥
        named e = cc

    pub passes_right : PassesClasses caller callee call.to call.from passes
    passes_right = record {
      len = are.len;
      arguments = λ i v less e.
          by_class (class_of callee i) (suc (suc i)) v (omega arith) (omega (arith, less))
          (ap (option_map Variable) e) refl;
      result = λ d e.
          by_class (class_there 1) 1 d (omega arith) (omega arith) (ap (option_map Variable) e) refl;
    }
