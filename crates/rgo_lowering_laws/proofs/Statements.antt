-- The code of well-formed statements keeps the first two rules.
use Rattle.std.proofs.Common.{◌≡◌, ℕ, ◌+◌, Bool, true, false, List, [], ◌∷◌, ◌++◌, Option, Some, None}
use Rattle.std.proofs.Common.{slice_get, nat_eq, if◌then◌else◌, refl, sym, ap, ◌∙◌, subst, arith}
use Rattle.rgo_typed.specs.declared.actions.Action.TheVariants as action
use Rattle.rgo_typed.specs.declared.types.Base.{Base}
use Rattle.rgo_typed.specs.declared.types.Base.TheVariants as base
use Rattle.rgo_typed.specs.declared.types.Layer.{Layer}
use Rattle.rgo_typed.specs.declared.types.Type.{«Type»}
use Rattle.rgo_typed.specs.Tree as tree
use Rattle.rgo_typed.specs.Tree.{Term, Stmt, Stmts, Change}
use Rattle.rgo_wellformed.specs.TypeRules.{bool, Signature, Returns}
use Rattle.rgo_wellformed.specs.WellFormed.{Environment, InScope, IsStmt, AreStmts, IsCondition, Updates}
use Rattle.rgo_wellformed.specs.WellFormed.{scope_after}
use Rattle.rgo_tac.specs.Code.{Op, Tac}
use Rattle.rgo_code.specs.Exists.{declared_in_code, tac_signature, TypeExists}
use Rattle.rgo_code.specs.Types.{VariableHasType, VariablesHaveTypes}
use Rattle.rgo_lower.specs.Lowered.{LoweringPoint, after_value, next_point, OpAt, LoweringScope, variable_of_local, Target, zero_action_in, zero_action}
use Rattle.rgo_lower.specs.Lowered.{TestAt, ConditionAt, UpdateAt, StmtAt, StmtsAt}
use Rattle.rgo_lower.proofs.follows.Grows.{tested_eq}
use Rattle.rgo_lowering_laws.proofs.Lists.{some_is}
use Rattle.rgo_lowering_laws.proofs.Kept.{Safe, nothing, chain, ends, one, one_value}
use Rattle.rgo_lowering_laws.proofs.Safety.{returns_type, two_types, push_type, value_is_safe, copy_is_safe}
use Rattle.rgo_lowering_laws.proofs.Safety.{effect_is_safe, invoke_is_safe, start_is_safe, print_is_safe, jump_is_safe}
use Rattle.rgo_lowering_laws.proofs.Safety.{branch_is_safe, return_is_safe, result_is_safe}
use Rattle.rgo_lowering_laws.proofs.Terms.{Setting, Agrees, Inside, inside, same_inside, Keeps}
use Rattle.rgo_lowering_laws.proofs.Terms.{Callee, callee_of, term, terms}
use Rattle.rgo_lowering_laws.proofs.Terms.{HasTermType}

-- a constant has the type of which it is the zero
zero_returns_in : (c : Tac) (layers : List Layer) (b : Base)
    → Returns (declared_in_code c) (zero_action_in layers b) [] (record { layers = layers; base = b })
zero_returns_in c [] base.Int = (refl, refl)
zero_returns_in c [] base.Bool = (refl, refl)
zero_returns_in c [] (base.Pointer n) = (refl, refl)
zero_returns_in c (layer ∷ layers) b = (refl, refl)

module _ (c : Setting) where
  abbrev pub environment : Bool → Environment
  environment in_loop = record {
    declared = declared_in_code c.code;
    locals = c.locals;
    result_type = c.f.result_type;
    in_loop = in_loop;
  }

  -- `break` and `continue` of the innermost loop lead to instructions of the function
  abbrev pub TargetsExist : List Target → Type 0
  TargetsExist [] = Unit {0}
  TargetsExist (t ∷ targets) = Inside c t.break_to × Inside c t.continue_to

  -- ---- scopes

  -- a local variable begins
  begins : (scope : LoweringScope) (n x : ℕ) (ty : «Type») → slice_get c.locals n ≡ Some ty → VariableHasType c.f x ty
      → Agrees c scope → Agrees c ((n, x) ∷ scope)
  begins scope n x ty known made agrees = record { has = λ m d t e there. go m d t (nat_eq n m) refl e there }
    where
      go : (m d : ℕ) (t : «Type») (b : Bool) → nat_eq n m ≡ b → (if b then Some x else variable_of_local scope m) ≡ Some d
          → slice_get c.locals m ≡ Some t → VariableHasType c.f d t
      go m d t true same e there =
          let here = ap (slice_get c.locals) (tested_eq n m same) in
          let is = some_is ty t (sym known ∙ (here ∙ there)) in
          subst (λ z. VariableHasType c.f z t) (some_is x d e) (subst (VariableHasType c.f x) is made)
      go m d t false same e there = agrees.has m d t e there

  same_agrees : (scope scope2 : LoweringScope) → scope2 ≡ scope → Agrees c scope → Agrees c scope2
  same_agrees scope scope2 e h = subst (Agrees c) (sym e) h

  stmt_agrees : (b : Bool) (g : InScope) (s : Stmt) (targets : List Target) (scope : LoweringScope) (p : LoweringPoint)
      (scope2 : LoweringScope) (q : LoweringPoint) → StmtAt c.functions c.f s targets scope p scope2 q → IsStmt (environment b) g s
      → Agrees c scope → Agrees c scope2
  stmt_agrees b g (tree.Declare n ty value place) targets scope p scope2 q h w agrees =
      same_agrees ((n, h.1.variable) ∷ scope) scope2 h.5 (begins scope n h.1.variable ty w.0.1 h.3.variable agrees)
  stmt_agrees b g (tree.Zero n ty place) targets scope p scope2 q h w agrees =
      same_agrees ((n, p.variable) ∷ scope) scope2 h.2 (begins scope n p.variable ty w.1 h.0.variable agrees)
  stmt_agrees b g (tree.Block all) targets scope p scope2 q h w agrees = same_agrees scope scope2 h.2 agrees
  stmt_agrees b g (tree.Assign n value place) targets scope p scope2 q h w agrees = same_agrees scope scope2 h.6 agrees
  stmt_agrees b g (tree.Perform action operands place) targets scope p scope2 q h w agrees =
      same_agrees scope scope2 h.4 agrees
  stmt_agrees b g (tree.Update change) targets scope p scope2 q h w agrees = same_agrees scope scope2 h.1 agrees
  stmt_agrees b g (tree.Discard value) targets scope p scope2 q h w agrees = same_agrees scope scope2 h.2 agrees
  stmt_agrees b g (tree.Invoke n arguments place) targets scope p scope2 q h w agrees =
      same_agrees scope scope2 h.5 agrees
  stmt_agrees b g (tree.Go n arguments place) targets scope p scope2 q h w agrees =
      same_agrees scope scope2 h.5 agrees
  stmt_agrees b g (tree.Print pieces values place) targets scope p scope2 q h w agrees =
      same_agrees scope scope2 h.4 agrees
  stmt_agrees b g (tree.If test body place) targets scope p scope2 q h w agrees =
      same_agrees scope scope2 h.4 agrees
  stmt_agrees b g (tree.IfElse test body other place) targets scope p scope2 q h w agrees =
      same_agrees scope scope2 h.8 agrees
  stmt_agrees b g (tree.Loop test body post place) targets scope p scope2 q h w agrees =
      same_agrees scope scope2 h.9 agrees
  stmt_agrees b g (tree.Break place) [] scope p scope2 q h w agrees = absurd h
  stmt_agrees b g (tree.Break place) (t ∷ targets) scope p scope2 q h w agrees = same_agrees scope scope2 h.1 agrees
  stmt_agrees b g (tree.Continue place) [] scope p scope2 q h w agrees = absurd h
  stmt_agrees b g (tree.Continue place) (t ∷ targets) scope p scope2 q h w agrees =
      same_agrees scope scope2 h.1 agrees
  stmt_agrees b g (tree.Return None place) targets scope p scope2 q h w agrees = same_agrees scope scope2 h.2 agrees
  stmt_agrees b g (tree.Return (Some value) place) targets scope p scope2 q h w agrees =
      same_agrees scope scope2 h.6 agrees

  -- ---- parts of statements

  test_keeps : (scope : LoweringScope) (g : InScope) (t : Term) (otherwise place : ℕ) (p q : LoweringPoint)
      → TestAt c.functions c.f scope t otherwise place p q → HasTermType c g t bool → Agrees c scope
      → Inside c otherwise → Inside c q.instr → Keeps c p q
  test_keeps scope g t otherwise place p q h w agrees other within =
      let mid = h.1 in
      let next = same_inside c (next_point mid) q h.4 within in
      let a = term c scope g t p h.0 mid bool h.2 w agrees (inside c mid.instr _ place h.3) in
      ends c.code c.f p (next_point mid) q
      (chain c.code c.f p mid (next_point mid) a.code
      (one c.code c.f mid _ place h.3 next
      (branch_is_safe c.f c.code h.0 (mid.instr + 1) otherwise a.value next other)))
      h.4

  condition_keeps : (b : Bool) (scope : LoweringScope) (g : InScope) (t : Option Term) (otherwise place : ℕ) (p q : LoweringPoint)
      → ConditionAt c.functions c.f scope t otherwise place p q → IsCondition (environment b) g t → Agrees c scope
      → Inside c otherwise → Inside c q.instr → Keeps c p q
  condition_keeps b scope g None otherwise place p q h w agrees other within = nothing c.code c.f p q h
  condition_keeps b scope g (Some t) otherwise place p q h w agrees other within =
      test_keeps scope g t otherwise place p q h w agrees other within

  update_keeps : (b : Bool) (scope : LoweringScope) (g : InScope) (u : Change) (p q : LoweringPoint)
      → UpdateAt c.functions c.f scope u p q → Updates (environment b) g u → Agrees c scope → Inside c q.instr
      → Keeps c p q
  update_keeps b scope g u p q h w agrees within =
      let before = h.1 in
      let mid = h.5 in
      let made : VariableHasType c.f before.variable u.ty = h.3.variable in
      let result : VariableHasType c.f mid.variable u.ty = h.7.variable in
      let end : LoweringPoint = next_point (after_value mid) in
      let at_end : Inside c (mid.instr + 1 + 1) = same_inside c end q h.9 within in
      let at_read = inside c before.instr _ u.read_at h.3.instr in
      let a = terms c scope g u.operands p h.0 before w.0 h.2 w.1 agrees at_read in
      let v =
      term c scope g u.value (after_value before) h.4 mid u.ty h.6 w.4 agrees (inside c mid.instr _ u.at h.7.instr) in
      let read =
      one_value c.code c.f before _ u.read_at u.ty h.3.instr
      (omega (arith, v.code.grows, inside c mid.instr _ u.at h.7.instr))
      (value_is_safe c.f c.code u.read h.0 w.0 before.variable u.ty a.values made
      (returns_type c.code u.read w.0 u.ty w.3)) made w.2 in
      let computed =
      one_value c.code c.f mid _ u.at u.ty h.7.instr (inside c (mid.instr + 1) _ u.at h.8)
      (value_is_safe c.f c.code (action.Binary u.op) (before.variable ∷ h.4 ∷ []) (u.ty ∷ u.ty ∷ []) mid.variable u.ty
      (two_types c.f before.variable h.4 u.ty u.ty made v.value) result w.5) result w.2 in
      let written =
      one c.code c.f (after_value mid) _ u.at h.8 at_end
      (effect_is_safe c.f c.code u.write (h.0 ++ mid.variable ∷ []) (w.0 ++ u.ty ∷ [])
      (push_type c.f h.0 w.0 mid.variable u.ty a.values result) w.6) in
      ends c.code c.f p end q
      (chain c.code c.f p before end a.code
      (chain c.code c.f before (after_value before) end read
      (chain c.code c.f (after_value before) mid end v.code
      (chain c.code c.f mid (after_value mid) end computed written))))
      h.9

  -- an instruction after operands
  followed : (op : Op) (place : ℕ) (p mid q : LoweringPoint) → Keeps c p mid → OpAt c.f mid.instr op place → q ≡ next_point mid
      → Inside c q.instr → Safe c.code c.f op → Keeps c p q
  followed op place p mid q code at e within safe =
      ends c.code c.f p (next_point mid) q
      (chain c.code c.f p mid (next_point mid) code
      (one c.code c.f mid op place at (same_inside c (next_point mid) q e within) safe))
      e

  -- one that writes the next variable
  declared : (op : Op) (place : ℕ) (ty : «Type») (p mid q : LoweringPoint) → Keeps c p mid → OpAt c.f mid.instr op place
      → q ≡ after_value mid → Inside c q.instr → Safe c.code c.f op → VariableHasType c.f mid.variable ty
      → TypeExists c.code ty → Keeps c p q
  declared op place ty p mid q code at e within safe made known =
      ends c.code c.f p (after_value mid) q
      (chain c.code c.f p mid (after_value mid) code
      (one_value c.code c.f mid op place ty at (same_inside c (after_value mid) q e within) safe made known))
      e

  -- a call without a result, or a `go`
  arguments_fit : (ds : List ℕ) (n : ℕ) (s : Signature) (callee : Callee c n s) → VariablesHaveTypes c.f ds s.params
      → VariablesHaveTypes c.f ds (tac_signature callee.callee).params
  arguments_fit ds n s callee h = subst (λ (z : Signature). VariablesHaveTypes c.f ds z.params) (sym callee.is) h

  no_result : (n : ℕ) (s : Signature) (callee : Callee c n s) → s.result_type ≡ None
      → callee.callee.result_type ≡ None
  no_result n s callee e = ap (λ (z : Signature). z.result_type) callee.is ∙ e

  -- ---- statements

  mutual
    stmt_keeps : (b : Bool) (g : InScope) (s : Stmt) (targets : List Target) (scope : LoweringScope) (p : LoweringPoint)
        (scope2 : LoweringScope) (q : LoweringPoint) → StmtAt c.functions c.f s targets scope p scope2 q → IsStmt (environment b) g s
        → Agrees c scope → TargetsExist targets → Inside c q.instr → Keeps c p q
    stmt_keeps b g (tree.Block all) targets scope p scope2 q h w agrees known within =
        stmts_keep b g all targets scope p h.0 q h.1 w agrees known within
    stmt_keeps b g (tree.Declare n ty value place) targets scope p scope2 q h w agrees known within =
        let mid = h.1 in
        let a = term c scope g value p h.0 mid ty h.2 w.1 agrees (inside c mid.instr _ place h.3.instr) in
        declared _ place ty p mid q a.code h.3.instr h.6 within
        (copy_is_safe c.f c.code h.0 mid.variable ty a.value h.3.variable) h.3.variable (c.local_types n ty w.0.1)
    stmt_keeps b g (tree.Zero n ty place) targets scope p scope2 q h w agrees known within =
        declared _ place ty p p q (nothing c.code c.f p p refl) h.0.instr h.3 within
        (value_is_safe c.f c.code (zero_action ty) [] [] p.variable ty refl h.0.variable
        (returns_type c.code (zero_action ty) [] ty (zero_returns_in c.code ty.layers ty.base)))
        h.0.variable (c.local_types n ty w.1)
    stmt_keeps b g (tree.Assign n value place) targets scope p scope2 q h w agrees known within =
        let mid = h.1 in
        let a = term c scope g value p h.0 mid w.0 h.3 w.3 agrees (inside c mid.instr _ place h.5) in
        followed _ place p mid q a.code h.5 h.7 within
        (copy_is_safe c.f c.code h.0 h.2 w.0 a.value (agrees.has n h.2 w.0 h.4 w.2))
    stmt_keeps b g (tree.Perform action operands place) targets scope p scope2 q h w agrees known within =
        let mid = h.1 in
        let a = terms c scope g operands p h.0 mid w.0 h.2 w.1 agrees (inside c mid.instr _ place h.3) in
        followed _ place p mid q a.code h.3 h.5 within (effect_is_safe c.f c.code action h.0 w.0 a.values w.2)
    stmt_keeps b g (tree.Update u) targets scope p scope2 q h w agrees known within =
        update_keeps b scope g u p q h.0 w agrees within
    stmt_keeps b g (tree.Discard value) targets scope p scope2 q h w agrees known within =
        let a = term c scope g value p h.0 q w.0 h.1 w.1 agrees within in a.code
    stmt_keeps b g (tree.Invoke n arguments place) targets scope p scope2 q h w agrees known within =
        let mid = h.1 in
        let s = w.0 in
        let callee = callee_of c n s w.1 in
        let a = terms c scope g arguments p h.0 mid s.params h.2 w.2 agrees (inside c mid.instr _ place h.3) in
        followed _ place p mid q a.code h.3 h.6 within
        (invoke_is_safe c.f c.code n callee.callee callee.at (c.params n callee.callee callee.at) h.0
        (arguments_fit h.0 n s callee a.values) (no_result n s callee w.3))
    stmt_keeps b g (tree.Go n arguments place) targets scope p scope2 q h w agrees known within =
        let mid = h.1 in
        let s = w.0 in
        let callee = callee_of c n s w.1 in
        let a = terms c scope g arguments p h.0 mid s.params h.2 w.2 agrees (inside c mid.instr _ place h.3) in
        followed _ place p mid q a.code h.3 h.6 within
        (start_is_safe c.f c.code n callee.callee callee.at (c.params n callee.callee callee.at) h.0
        (arguments_fit h.0 n s callee a.values) (no_result n s callee w.3))
    stmt_keeps b g (tree.Print pieces values place) targets scope p scope2 q h w agrees known within =
        let mid = h.1 in
        let a = terms c scope g values p h.0 mid w.0 h.2 w.1 agrees (inside c mid.instr _ place h.3) in
        followed _ place p mid q a.code h.3 h.5 within (print_is_safe c.f c.code pieces h.0 w.0 a.values w.2)
    stmt_keeps b g (tree.If test body place) targets scope p scope2 q h w agrees known within =
        let mid = h.0 in
        let inner = stmts_keep b g body targets scope mid h.1 q h.3 w.1 agrees known within in
        chain c.code c.f p mid q
        (test_keeps scope g test q.instr place p mid h.2 w.0 agrees within (omega (arith, inner.grows, within))) inner
    stmt_keeps b g (tree.IfElse test body other place) targets scope p scope2 q h w agrees known within =
        let mid = h.0 in
        let last = h.1 in
        let over = stmts_keep b g other targets scope (next_point last) h.3 q h.7 w.2 agrees known within in
        let at_last = inside c last.instr _ place h.6 in
        let inner = stmts_keep b g body targets scope mid h.2 last h.5 w.1 agrees known at_last in
        let at_over : Inside c (last.instr + 1) = omega (arith, over.grows, within) in
        chain c.code c.f p mid q
        (test_keeps scope g test (last.instr + 1) place p mid h.4 w.0 agrees at_over
        (omega (arith, inner.grows, at_last)))
        (chain c.code c.f mid last q inner
        (chain c.code c.f last (next_point last) q
        (one c.code c.f last _ place h.6 at_over (jump_is_safe c.f c.code q.instr within)) over))
    stmt_keeps b g (tree.Loop test body post place) targets scope p scope2 q h w agrees known within =
        let mid = h.0 in
        let next = h.1 in
        let last = h.2 in
        let at_last = inside c last.instr _ place h.8 in
        let ended = stmts_keep b g post targets scope next h.4 last h.7 w.2 agrees known at_last in
        let at_next : Inside c next.instr = omega (arith, ended.grows, at_last) in
        let around : List Target = record { break_to = q.instr; continue_to = next.instr } ∷ targets in
        let inner = stmts_keep true g body around scope mid h.3 next h.6 w.1 agrees (within, at_next) at_next in
        let at_mid : Inside c mid.instr = omega (arith, inner.grows, at_next) in
        let tested = condition_keeps b scope g test q.instr place p mid h.5 w.0 agrees within at_mid in
        let at_start : Inside c p.instr = omega (arith, tested.grows, at_mid) in
        followed _ place p last q
        (chain c.code c.f p mid last tested (chain c.code c.f mid next last inner ended)) h.8 h.10 within
        (jump_is_safe c.f c.code p.instr at_start)
    stmt_keeps b g (tree.Break place) [] scope p scope2 q h w agrees known within = absurd h
    stmt_keeps b g (tree.Break place) (t ∷ targets) scope p scope2 q h w agrees known within =
        followed _ place p p q (nothing c.code c.f p p refl) h.0 h.2 within
        (jump_is_safe c.f c.code t.break_to known.0)
    stmt_keeps b g (tree.Continue place) [] scope p scope2 q h w agrees known within = absurd h
    stmt_keeps b g (tree.Continue place) (t ∷ targets) scope p scope2 q h w agrees known within =
        followed _ place p p q (nothing c.code c.f p p refl) h.0 h.2 within
        (jump_is_safe c.f c.code t.continue_to known.1)
    stmt_keeps b g (tree.Return None place) targets scope p scope2 q h w agrees known within =
        followed _ place p p q (nothing c.code c.f p p refl) h.0 h.3 within (return_is_safe c.f c.code w)
    stmt_keeps b g (tree.Return (Some value) place) targets scope p scope2 q h w agrees known within =
        let mid = h.1 in
        let a = term c scope g value p h.0 mid w.0 h.3 w.2 agrees (inside c mid.instr _ place h.4) in
        followed _ place p mid q a.code h.4 h.7 within (result_is_safe c.f c.code h.0 w.0 w.1 a.value)

    pub stmts_keep : (b : Bool) (g : InScope) (all : Stmts) (targets : List Target) (scope : LoweringScope) (p : LoweringPoint)
        (scope2 : LoweringScope) (q : LoweringPoint) → StmtsAt c.functions c.f all targets scope p scope2 q
        → AreStmts (environment b) g all → Agrees c scope → TargetsExist targets → Inside c q.instr → Keeps c p q
    stmts_keep b g tree.no_stmts targets scope p scope2 q h w agrees known within = nothing c.code c.f p q h.1
    stmts_keep b g (tree.a_stmt s all) targets scope p scope2 q h w agrees known within =
        let between = stmt_agrees b g s targets scope p h.0 h.1 h.2 w.0 agrees in
        let rest = stmts_keep b (scope_after g s) all targets h.0 h.1 scope2 q h.3 w.1 between known within in
        chain c.code c.f p h.1 q
        (stmt_keeps b g s targets scope p h.0 h.1 h.2 w.0 agrees known (omega (arith, rest.grows, within))) rest
