-- Instructions whose variables have the right types keep the first two rules.
use Rattle.std.proofs.Common.{◌≡◌, ◌⊎◌, ⊎_elim, ℕ, ◌<◌, ◌≤◌, List, [], ◌∷◌, ◌++◌, length, map, take}
use Rattle.std.proofs.Common.{Contains, slice_get, Some, None, is_some, refl, sym, ap, ◌∙◌, subst}
use Rattle.std.specs.List.{AllByRecursion}
use Rattle.std.proofs.lemmas.Option.{slice_get_within}
use Rattle.rgo_typed.specs.declared.actions.Action.{Action}
use Rattle.rgo_typed.specs.declared.actions.Action.TheVariants as action
use Rattle.rgo_typed.specs.declared.programs.Struct.{Struct}
use Rattle.rgo_typed.specs.declared.statements.Piece.{Piece}
use Rattle.rgo_typed.specs.declared.statements.Piece.TheVariants as piece
use Rattle.rgo_typed.specs.declared.types.Base.{Base}
use Rattle.rgo_typed.specs.declared.types.Base.TheVariants as base
use Rattle.rgo_typed.specs.declared.types.Type.{«Type»}
use Rattle.rgo_wellformed.specs.TypeRules as rules
use Rattle.rgo_wellformed.specs.TypeRules.{bool, pointer_to, Returns, Takes}
use Rattle.rgo_wellformed.specs.WellFormed.{IsPrinted, MatchPieces}
use Rattle.rgo_tac.specs.Code as op
use Rattle.rgo_tac.specs.Code.{TacFn, Tac}
use Rattle.rgo_code.specs.Exists.{declared_in_code, tac_signature, ActionExists, FieldExists, OperandHasField}
use Rattle.rgo_code.specs.Types.{VariableHasType, VariablesHaveTypes, ReturnsType, ArgumentsFit, TargetFits}
use Rattle.rgo_lowering_laws.proofs.Liveness.{Among, among}
use Rattle.rgo_lowering_laws.proofs.Lists.{some_is, none_is, unmapped_at, mapped_within, mapped_length, same_length}
use Rattle.rgo_lowering_laws.proofs.Lists.{taken_length, head_same, tail_same, no_items}
use Rattle.rgo_lowering_laws.proofs.Kept.{Safe}

-- ---- types

abbrev struct_of_base : Base → ℕ
struct_of_base (base.Pointer n) = n
struct_of_base _ = 0

same_struct : (m n : ℕ) → pointer_to m ≡ pointer_to n → m ≡ n
same_struct m n e = ap (λ (t : «Type»). struct_of_base t.base) e

-- what an action of typed trees returns is the same in code
pub returns_type : (code : Tac) (a : Action) (operands : List «Type») (t : «Type»)
    → Returns (declared_in_code code) a operands t → ReturnsType code a operands t
returns_type code action.Copy operands t h = absurd h
returns_type code _ operands t h = h

module _ (f : TacFn) where
  pub no_types : VariablesHaveTypes f [] []
  no_types = refl

  pub and_type : (d : ℕ) (t : «Type») (ds : List ℕ) (ts : List «Type») → VariableHasType f d t → VariablesHaveTypes f ds ts
      → VariablesHaveTypes f (d ∷ ds) (t ∷ ts)
  and_type d t ds ts h k = λ i. h i ∷ k i

  pub one_type : (d : ℕ) (t : «Type») → VariableHasType f d t → VariablesHaveTypes f (d ∷ []) (t ∷ [])
  one_type d t h = and_type d t [] [] h refl

  pub two_types : (d e : ℕ) (t u : «Type») → VariableHasType f d t → VariableHasType f e u → VariablesHaveTypes f (d ∷ e ∷ []) (t ∷ u ∷ [])
  two_types d e t u h k = and_type d t (e ∷ []) (u ∷ []) h (one_type e u k)

  pub push_type : (ds : List ℕ) (ts : List «Type») (d : ℕ) (t : «Type») → VariablesHaveTypes f ds ts → VariableHasType f d t
      → VariablesHaveTypes f (ds ++ d ∷ []) (ts ++ t ∷ [])
  push_type [] [] d t h k = one_type d t k
  push_type (x ∷ ds) (u ∷ ts) d t h k =
      and_type x u (ds ++ d ∷ []) (ts ++ t ∷ []) (head_same _ _ _ _ h) (push_type ds ts d t (tail_same _ _ _ _ h) k)
  push_type [] (u ∷ ts) d t h k = absurd (no_items (Some u) (map Some ts) (sym h))
  push_type (x ∷ ds) [] d t h k = absurd (no_items _ _ h)

  -- each variable has the type at its index, which satisfies P
  each : (P : «Type» → Type 0) (ds : List ℕ) (ts : List «Type») → VariablesHaveTypes f ds ts → AllByRecursion P ts
      → (v : ℕ) → Among ds v → (t : «Type») × VariableHasType f v t × P t
  each P [] ts h all v a = absurd a
  each P (d ∷ ds) [] h all v a = absurd (no_items _ _ h)
  each P (d ∷ ds) (t ∷ ts) h all v a =
      ⊎_elim (λ e. (t, subst (λ z. VariableHasType f z t) (sym e) (head_same _ _ _ _ h), all.0))
      (λ more. each P ds ts (tail_same _ _ _ _ h) all.1 v more) a

  any_type : (ts : List «Type») → AllByRecursion (λ t. Unit {0}) ts
  any_type [] = tt
  any_type (t ∷ ts) = (tt, any_type ts)

  typed_within : (v : ℕ) (t : «Type») → VariableHasType f v t → v < length f.variables
  typed_within v t h = slice_get_within f.variables v t h

  read_within : (ds : List ℕ) (ts : List «Type») → VariablesHaveTypes f ds ts → (v : ℕ) → Contains ds v
      → v < length f.variables
  read_within ds ts h v c =
      let t = each (λ t. Unit {0}) ds ts h (any_type ts) v (among ds v c) in typed_within v t.0 t.1

  written_within : (d v : ℕ) (t : «Type») → VariableHasType f d t → Some d ≡ Some v → v < length f.variables
  written_within d v t h e = subst (λ z. z < length f.variables) (some_is d v e) (typed_within d t h)

  -- the variables that an instruction uses which reads these and writes d
  uses : (ds : List ℕ) (ts : List «Type») (d : ℕ) (t : «Type») → VariablesHaveTypes f ds ts → VariableHasType f d t
      → (v : ℕ) → Contains ds v ⊎ (Some d ≡ Some v) → v < length f.variables
  uses ds ts d t h k v u = ⊎_elim (read_within ds ts h v) (written_within d v t k) u

  reads_only : (ds : List ℕ) (ts : List «Type») → VariablesHaveTypes f ds ts
      → (v : ℕ) → Contains ds v ⊎ (None ≡ Some v) → v < length f.variables
  reads_only ds ts h v u = ⊎_elim (read_within ds ts h v) (λ e. absurd (none_is v e)) u

  module _ (code : Tac) where
    -- ---- actions

    field_exists : (k n : ℕ) (t : «Type») (ds : List ℕ) (ts rest : List «Type») → VariablesHaveTypes f ds ts
        → ts ≡ pointer_to n ∷ rest → rules.HasField (declared_in_code code) n k t → OperandHasField code f k ds
    field_exists k n t [] ts rest h e has = tt
    field_exists k n t (a ∷ others) ts rest h e has = λ m s is at.
        let whole : VariablesHaveTypes f (a ∷ others) (pointer_to n ∷ rest) = subst (VariablesHaveTypes f (a ∷ others)) e h in
        let pointer = head_same _ _ _ _ whole in
        let same = same_struct m n (some_is (pointer_to m) (pointer_to n) (sym is ∙ pointer)) in
        let source = unmapped_at (λ (z : Struct). z.fields) code.structs n has.0 has.1 in
        let there = ap (slice_get code.structs) (sym same) in
        let one = some_is source.item s (sym source.at ∙ (there ∙ at)) in
        let fields = sym source.is ∙ ap (λ (z : Struct). z.fields) one in
        subst (λ l. k < length l) fields (slice_get_within has.0 k t has.2)

    value_action : (a : Action) (ts : List «Type») (t : «Type») → ReturnsType code a ts t → ActionExists code a
    value_action (action.New n) ts t h =
        subst (λ z. n < z) (mapped_length (λ (z : Struct). z.fields) code.structs) h.2
    value_action (action.Get n) ts t h = mapped_within _ code.variables n t h.1
    value_action (action.Set n) ts t h = absurd h
    value_action _ ts t h = tt

    value_field : (a : Action) (ds : List ℕ) (ts : List «Type») (t : «Type») → VariablesHaveTypes f ds ts
        → ReturnsType code a ts t → FieldExists code f a ds
    value_field (action.Load k) ds ts t h r = field_exists k r.0 t ds ts [] h r.1 r.2
    value_field (action.Store k) ds ts t h r = absurd r
    value_field _ ds ts t h r = tt

    pub value_is_safe : (a : Action) (ds : List ℕ) (ts : List «Type») (d : ℕ) (t : «Type») → VariablesHaveTypes f ds ts
        → VariableHasType f d t → ReturnsType code a ts t → Safe code f (op.Do (Some d) a ds)
    value_is_safe a ds ts d t h k r = record {
      variables = uses ds ts d t h k;
      exists = (value_action a ts t r, value_field a ds ts t h r);
      fits = (ts, h, (t, k, r));
      start = tt;
      prints = tt;
    }

    pub copy_is_safe : (d x : ℕ) (t : «Type») → VariableHasType f d t → VariableHasType f x t
        → Safe code f (op.Do (Some x) action.Copy (d ∷ []))
    copy_is_safe d x t h k = value_is_safe action.Copy (d ∷ []) (t ∷ []) x t (one_type d t h) k refl

    effect_action : (a : Action) (ts : List «Type») → Takes (declared_in_code code) a ts → ActionExists code a
    effect_action (action.New n) ts h = absurd h
    effect_action (action.Get n) ts h = absurd h
    effect_action (action.Set n) ts h = mapped_within _ code.variables n h.0 h.2
    effect_action _ ts h = tt

    effect_field : (a : Action) (ds : List ℕ) (ts : List «Type») → VariablesHaveTypes f ds ts
        → Takes (declared_in_code code) a ts → FieldExists code f a ds
    effect_field (action.Load k) ds ts h r = absurd r
    effect_field (action.Store k) ds ts h r = field_exists k r.0 r.1 ds ts (r.1 ∷ []) h r.2 r.3
    effect_field _ ds ts h r = tt

    pub effect_is_safe : (a : Action) (ds : List ℕ) (ts : List «Type») → VariablesHaveTypes f ds ts
        → Takes (declared_in_code code) a ts → Safe code f (op.Do None a ds)
    effect_is_safe a ds ts h r = record {
      variables = reads_only ds ts h;
      exists = (effect_action a ts r, effect_field a ds ts h r);
      fits = (ts, h, r);
      start = tt;
      prints = tt;
    }

    -- ---- calls

    arguments_long : (ds : List ℕ) (callee : TacFn) → callee.params ≤ length callee.variables
        → VariablesHaveTypes f ds (tac_signature callee).params → length ds ≡ callee.params
    arguments_long ds callee le h =
        same_length (slice_get f.variables) Some ds (take callee.params callee.variables) h
        ∙ taken_length callee.params callee.variables le

    module _ (n : ℕ) (callee : TacFn) (at : slice_get code.functions n ≡ Some callee) where
      arguments_fit : (ds : List ℕ) → VariablesHaveTypes f ds (tac_signature callee).params
          → ArgumentsFit f (slice_get code.functions n) ds
      arguments_fit ds h = subst (λ z. ArgumentsFit f z ds) (sym at) h

      module _ (le : callee.params ≤ length callee.variables) where
        pub call_is_safe : (ds : List ℕ) (d : ℕ) (t : «Type») → VariablesHaveTypes f ds (tac_signature callee).params
            → callee.result_type ≡ Some t → VariableHasType f d t → Safe code f (op.Call (Some d) n ds)
        call_is_safe ds d t h r k = record {
          variables = uses ds (tac_signature callee).params d t h k;
          exists = record {
            callee = callee;
            declared = at;
            arguments = arguments_long ds callee le h;
            target = sym (ap is_some r);
          };
          fits = (
            arguments_fit ds h,
            subst (λ z. TargetFits f z (Some d)) (sym at) (λ u e.
                subst (VariableHasType f d) (some_is t u (sym r ∙ e)) k),
          );
          start = tt;
          prints = tt;
        }

        pub invoke_is_safe : (ds : List ℕ) → VariablesHaveTypes f ds (tac_signature callee).params → callee.result_type ≡ None
            → Safe code f (op.Call None n ds)
        invoke_is_safe ds h r = record {
          variables = reads_only ds (tac_signature callee).params h;
          exists = record {
            callee = callee;
            declared = at;
            arguments = arguments_long ds callee le h;
            target = sym (ap is_some r);
          };
          fits = (arguments_fit ds h, subst (λ z. TargetFits f z None) (sym at) tt);
          start = tt;
          prints = tt;
        }

        pub start_is_safe : (ds : List ℕ) → VariablesHaveTypes f ds (tac_signature callee).params → callee.result_type ≡ None
            → Safe code f (op.Go n ds)
        start_is_safe ds h r = record {
          variables = reads_only ds (tac_signature callee).params h;
          exists = record { callee = callee; declared = at; arguments = arguments_long ds callee le h };
          fits = arguments_fit ds h;
          start = λ g e. subst (λ (z : TacFn). z.result_type ≡ None) (some_is callee g (sym at ∙ e)) r;
          prints = tt;
        }

    -- ---- the others

    printed : (pieces : List Piece) (ts : List «Type») → MatchPieces pieces ts → AllByRecursion IsPrinted ts
    printed [] ts h = subst (AllByRecursion IsPrinted) (sym h) tt
    printed (piece.Text bytes ∷ pieces) ts h = printed pieces ts h
    printed (piece.Value ∷ pieces) ts h =
        subst (AllByRecursion IsPrinted) (sym h.2) (h.3, printed pieces h.1 h.4)

    pub print_is_safe : (pieces : List Piece) (ds : List ℕ) (ts : List «Type») → VariablesHaveTypes f ds ts
        → MatchPieces pieces ts → Safe code f (op.Print pieces ds)
    print_is_safe pieces ds ts h m = record {
      variables = reads_only ds ts h;
      exists = tt;
      fits = λ v c. each IsPrinted ds ts h (printed pieces ts m) v (among ds v c);
      start = tt;
      prints = (ts, h, m);
    }

    pub jump_is_safe : (target : ℕ) → target < length f.body → Safe code f (op.Jump target)
    jump_is_safe target within = record {
      variables = reads_only [] [] refl;
      exists = within;
      fits = tt;
      start = tt;
      prints = tt;
    }

    pub branch_is_safe : (d a b : ℕ) → VariableHasType f d bool → a < length f.body → b < length f.body
        → Safe code f (op.Branch d a b)
    branch_is_safe d a b h k l = record {
      variables = reads_only (d ∷ []) (bool ∷ []) (one_type d bool h);
      exists = (k, l);
      fits = h;
      start = tt;
      prints = tt;
    }

    pub return_is_safe : f.result_type ≡ None → Safe code f (op.Return None)
    return_is_safe e = record { variables = reads_only [] [] refl; exists = tt; fits = e; start = tt; prints = tt }

    pub result_is_safe : (d : ℕ) (t : «Type») → f.result_type ≡ Some t → VariableHasType f d t
        → Safe code f (op.Return (Some d))
    result_is_safe d t e h = record {
      variables = reads_only (d ∷ []) (t ∷ []) (one_type d t h);
      exists = tt;
      fits = (t, e, h);
      start = tt;
      prints = tt;
    }
