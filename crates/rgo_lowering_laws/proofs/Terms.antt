-- The code of well-formed terms keeps the first two rules, and its value has the type of the term.
use Rattle.std.proofs.Common.{◌≡◌, ℕ, ◌+◌, ◌<◌, ◌≤◌, List, [], ◌∷◌, length, Some, slice_get}
use Rattle.std.proofs.Common.{refl, sym, ap, ◌∙◌, subst, arith}
use Rattle.std.proofs.lemmas.Option.{slice_get_within}
use Rattle.rgo_typed.specs.declared.actions.Action.TheVariants.{New, Store}
use Rattle.rgo_typed.specs.declared.actions.Logical.{Logical}
use Rattle.rgo_typed.specs.declared.actions.Logical.TheVariants.{And, Or}
use Rattle.rgo_typed.specs.declared.types.Type.{«Type»}
use Rattle.rgo_typed.specs.Tree as tree
use Rattle.rgo_typed.specs.Tree.{Function, Term, Terms}
use Rattle.rgo_wellformed.specs.TypeRules.{bool, pointer_to, Signature}
use Rattle.rgo_wellformed.specs.WellFormed as typed
use Rattle.rgo_wellformed.specs.WellFormed.{InScope, MatchFields}
use Rattle.rgo_tac.specs.Code.{Op, TacFn, Tac}
use Rattle.rgo_code.specs.Exists.{declared_in_code, tac_signature, TypeExists}
use Rattle.rgo_code.specs.Types.{VariableHasType, VariablesHaveTypes}
use Rattle.rgo_lower.specs.Lowered.{LoweringPoint, after_value, next_point, OpAt, LoweringScope, variable_of_local, logic_branch}
use Rattle.rgo_lower.specs.Lowered.{StoresAt, TermAt, TermsAt}
use Rattle.rgo_lowering_laws.proofs.Lists.{unmapped_at, head_same, tail_same}
use Rattle.rgo_lowering_laws.proofs.Kept.{Safe, Kept, nothing, chain, ends, one, one_value}
use Rattle.rgo_lowering_laws.proofs.Safety.{returns_type, and_type, two_types, value_is_safe, copy_is_safe}
use Rattle.rgo_lowering_laws.proofs.Safety.{effect_is_safe, call_is_safe, branch_is_safe}

-- A function of the code, and the types of the local variables of its source. These types exist, and so do those of all
-- results; each function has at least as many variables as parameters.
pub record Setting : Type 0 where
  pub functions : List Function
  pub code : Tac
  pub f : TacFn
  pub locals : List «Type»
  pub local_types : (n : ℕ) (t : «Type») → slice_get locals n ≡ Some t → TypeExists code t
  pub result_types : (n : ℕ) (g : TacFn) → slice_get code.functions n ≡ Some g → (t : «Type»)
      → g.result_type ≡ Some t → TypeExists code t
  pub params : (n : ℕ) (g : TacFn) → slice_get code.functions n ≡ Some g → g.params ≤ length g.variables

module _ (c : Setting) where
  -- the variable of a local variable has its type
  pub record Agrees (scope : LoweringScope) : Type 0 where
    pub has : (n d : ℕ) (t : «Type») → variable_of_local scope n ≡ Some d → slice_get c.locals n ≡ Some t → VariableHasType c.f d t

  -- an instruction of the function
  abbrev pub Inside : ℕ → Type 0
  Inside i = i < length c.f.body

  pub inside : (i : ℕ) (op : Op) (place : ℕ) → OpAt c.f i op place → Inside i
  inside i op place at = slice_get_within c.f.body i (record { op = op; place = place }) at

  pub same_inside : (p q : LoweringPoint) → q ≡ p → Inside q.instr → Inside p.instr
  same_inside p q e h = subst (λ (z : LoweringPoint). Inside z.instr) e h

  abbrev pub Keeps : LoweringPoint → LoweringPoint → Type 0
  Keeps p q = Kept c.code c.f p q

  -- the code from p to q keeps the rules, and its value, in d, has this type
  pub record Value (p : LoweringPoint) (d : ℕ) (t : «Type») (q : LoweringPoint) : Type 0 where
    pub value : VariableHasType c.f d t
    pub code : Keeps p q

  pub record Values (p : LoweringPoint) (ds : List ℕ) (ts : List «Type») (q : LoweringPoint) : Type 0 where
    pub values : VariablesHaveTypes c.f ds ts
    pub code : Keeps p q

  -- a function that a well-formed tree calls
  pub record Callee (n : ℕ) (s : Signature) : Type 0 where
    pub callee : TacFn
    pub at : slice_get c.code.functions n ≡ Some callee
    pub is : tac_signature callee ≡ s

  pub callee_of : (n : ℕ) (s : Signature) → slice_get (declared_in_code c.code).functions n ≡ Some s → Callee n s
  callee_of n s h =
      let g = unmapped_at tac_signature c.code.functions n s h in
      record { callee = g.item; at = g.at; is = g.is }

  -- ---- objects

  -- one store for each element
  stores : (n object : ℕ) (all : List «Type») → slice_get (declared_in_code c.code).structs n ≡ Some all
      → VariableHasType c.f object (pointer_to n) → (fields ds : List ℕ) (ts : List «Type») (place : ℕ) (p q : LoweringPoint)
      → StoresAt c.functions c.f object fields ds place p q → VariablesHaveTypes c.f ds ts → MatchFields all fields ts
      → Inside q.instr → Keeps p q
  stores n object all known o [] [] ts place p q h has match within = nothing c.code c.f p q h
  stores n object all known o (k ∷ fields) (d ∷ ds) ts place p q h has match within =
      let whole : VariablesHaveTypes c.f (d ∷ ds) (match.0 ∷ match.1) = subst (VariablesHaveTypes c.f (d ∷ ds)) match.2 has in
      let value : VariableHasType c.f d match.0 = head_same _ _ _ _ whole in
      let others : VariablesHaveTypes c.f ds match.1 = tail_same _ _ _ _ whole in
      let rest = stores n object all known o fields ds match.1 place (next_point p) q h.1 others match.4 within in
      let safe =
      effect_is_safe c.f c.code (Store k) (object ∷ d ∷ []) (pointer_to n ∷ match.0 ∷ [])
      (two_types c.f object d (pointer_to n) match.0 o value)
      (n, match.0, refl, (all, known, match.3)) in
      chain c.code c.f p (next_point p) q
      (one c.code c.f p _ place h.0 (omega (arith, rest.grows, within)) safe) rest
  stores n object all known o [] (d ∷ ds) ts place p q h has match within = absurd h
  stores n object all known o (k ∷ fields) [] ts place p q h has match within = absurd h

  -- ---- terms

  logic_is_safe : (l : Logical) (d right end : ℕ) → VariableHasType c.f d bool → Inside right → Inside end
      → Safe c.code c.f (logic_branch l d right end)
  logic_is_safe And d right end h k m = branch_is_safe c.f c.code d right end h k m
  logic_is_safe Or d right end h k m = branch_is_safe c.f c.code d end right h m k

  abbrev pub HasTermType : InScope → Term → «Type» → Type 0
  HasTermType g t ty = typed.HasType (declared_in_code c.code) c.locals g t ty

  abbrev pub HaveTermTypes : InScope → Terms → List «Type» → Type 0
  HaveTermTypes g ts tys = typed.HaveTypes (declared_in_code c.code) c.locals g ts tys

  mutual
    pub term : (scope : LoweringScope) (g : InScope) (t : Term) (p : LoweringPoint) (d : ℕ) (q : LoweringPoint) (ty : «Type»)
        → TermAt c.functions c.f scope t p d q → HasTermType g t ty → Agrees scope → Inside q.instr → Value p d ty q
    term scope g (tree.Local n) p d q ty h w agrees within = record {
      value = agrees.has n d ty h.0 w.1;
      code = nothing c.code c.f p q h.1;
    }
    term scope g (tree.Apply action parts u place) p d q ty h w agrees within =
        let mid = h.1 in
        let a = terms scope g parts p h.0 mid w.2 h.2 w.3 agrees (inside mid.instr _ place h.3.instr) in
        let made = h.3.variable in
        let safe =
        value_is_safe c.f c.code action h.0 w.2 mid.variable u a.values made
        (returns_type c.code action w.2 u w.4) in
        record {
          value = subst (VariableHasType c.f d) w.0 (subst (λ z. VariableHasType c.f z u) (sym h.4) made);
          code =
              ends c.code c.f p (after_value mid) q
              (chain c.code c.f p mid (after_value mid) a.code
              (one_value c.code c.f mid _ place u h.3.instr (same_inside (after_value mid) q h.5 within) safe made w.1))
              h.5;
        }
    term scope g (tree.Logic l left right place) p d q ty h w agrees within =
        let mid = h.1 in
        let last = h.5 in
        let x = mid.variable in
        let made : VariableHasType c.f x bool = h.3.variable in
        let next : LoweringPoint = next_point (after_value mid) in
        let a = term scope g left p h.0 mid bool h.2 w.1 agrees (inside mid.instr _ place h.3.instr) in
        let at_last = inside last.instr _ place h.8 in
        let b = term scope g right next h.4 last bool h.7 w.2 agrees at_last in
        let at_end : Inside (last.instr + 1) = same_inside (next_point last) q h.10 within in
        let at_branch : Inside (mid.instr + 1) = omega (arith, b.code.grows, at_last) in
        let at_next : Inside (mid.instr + 1 + 1) = omega (arith, b.code.grows, at_last) in
        let at_right : Inside (mid.instr + 2) = omega (arith, b.code.grows, at_last) in
        let copied =
        one_value c.code c.f mid _ place bool h.3.instr at_branch
        (copy_is_safe c.f c.code h.0 x bool a.value made) made tt in
        let branched =
        one c.code c.f (after_value mid) _ place h.6 at_next
        (logic_is_safe l x (mid.instr + 2) (last.instr + 1) made at_right at_end) in
        let ended =
        one c.code c.f last _ place h.8 at_end (copy_is_safe c.f c.code h.4 x bool b.value made) in
        record {
          value = subst (VariableHasType c.f d) (sym w.0) (subst (λ z. VariableHasType c.f z bool) (sym h.9) made);
          code =
              ends c.code c.f p (next_point last) q
              (chain c.code c.f p mid (next_point last) a.code
              (chain c.code c.f mid (after_value mid) (next_point last) copied
              (chain c.code c.f (after_value mid) next (next_point last) branched
              (chain c.code c.f next last (next_point last) b.code ended))))
              h.10;
        }
    term scope g (tree.Build n parts fields place) p d q ty h w agrees within =
        let mid = h.1 in
        let x = mid.variable in
        let made = h.3.variable in
        let a = terms scope g parts p h.0 mid w.3 h.2 w.4 agrees (inside mid.instr _ place h.3.instr) in
        let b = stores n x w.1 w.2 made fields h.0 w.3 place (after_value mid) q h.4 a.values w.5 within in
        let exists : TypeExists c.code (pointer_to n) =
        slice_get_within (declared_in_code c.code).structs n w.1 w.2 in
        let safe =
        value_is_safe c.f c.code (New n) [] [] x (pointer_to n) refl made (refl, refl, exists) in
        record {
          value = subst (VariableHasType c.f d) (sym w.0) (subst (λ z. VariableHasType c.f z (pointer_to n)) (sym h.5) made);
          code =
              chain c.code c.f p mid q a.code
              (chain c.code c.f mid (after_value mid) q
              (one_value c.code c.f mid _ place (pointer_to n) h.3.instr (omega (arith, b.grows, within)) safe made
              exists) b);
        }
    term scope g (tree.Call n arguments u place) p d q ty h w agrees within =
        let mid = h.1 in
        let made = h.4 in
        let callee = callee_of n w.1 w.2 in
        let a = terms scope g arguments p h.0 mid w.1.params h.2 w.3 agrees (inside mid.instr _ place h.3) in
        let arguments_fit =
        subst (λ (s : Signature). VariablesHaveTypes c.f h.0 s.params) (sym callee.is) a.values in
        let result : callee.callee.result_type ≡ Some u =
        ap (λ (s : Signature). s.result_type) callee.is ∙ w.4 in
        let safe =
        call_is_safe c.f c.code n callee.callee callee.at (c.params n callee.callee callee.at) h.0 mid.variable u
        arguments_fit result made in
        record {
          value = subst (VariableHasType c.f d) w.0 (subst (λ z. VariableHasType c.f z u) (sym h.6) made);
          code =
              ends c.code c.f p (after_value mid) q
              (chain c.code c.f p mid (after_value mid) a.code
              (one_value c.code c.f mid _ place u h.3 (same_inside (after_value mid) q h.7 within) safe made
              (c.result_types n callee.callee callee.at u result)))
              h.7;
        }

    pub terms : (scope : LoweringScope) (g : InScope) (ts : Terms) (p : LoweringPoint) (ds : List ℕ) (q : LoweringPoint) (tys : List «Type»)
        → TermsAt c.functions c.f scope ts p ds q → HaveTermTypes g ts tys → Agrees scope → Inside q.instr
        → Values p ds tys q
    terms scope g tree.no_terms p ds q tys h w agrees within = record {
      values = subst (λ z. VariablesHaveTypes c.f z tys) (sym h.0) (subst (VariablesHaveTypes c.f []) (sym w) refl);
      code = nothing c.code c.f p q h.1;
    }
    terms scope g (tree.a_term t ts) p ds q tys h w agrees within =
        let mid = h.2 in
        let b = terms scope g ts mid h.1 q w.1 h.4 w.4 agrees within in
        let a = term scope g t p h.0 mid w.0 h.3 w.3 agrees (omega (arith, b.code.grows, within)) in
        record {
          values =
              subst (λ z. VariablesHaveTypes c.f z tys) (sym h.5)
              (subst (VariablesHaveTypes c.f (h.0 ∷ h.1)) (sym w.2) (and_type c.f h.0 w.0 h.1 w.1 a.value b.values));
          code = chain c.code c.f p mid q a.code b.code;
        }
