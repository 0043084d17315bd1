-- The code of a well-formed program is typed code, and its prints have the variables that their pieces print.
use Rattle.std.proofs.Common.{◌≡◌, ⊎_elim, ℕ, zero, suc, ◌<◌, ◌≤◌, Bool, true, false, List, [], length, map}
use Rattle.std.proofs.Common.{slice_get, nat_eq, if◌then◌else◌, Option, Some, None, refl, sym, ap, ◌∙◌, subst, arith}
use Rattle.std.specs.List.{AllByRecursion}
use Rattle.std.proofs.lemmas.Bool.{cases_lt}
use Rattle.std.proofs.lemmas.Option.{slice_get_within}
use Rattle.rgo_typed.specs.declared.programs.Struct.{Struct}
use Rattle.rgo_typed.specs.declared.programs.Variable.{Variable}
use Rattle.rgo_typed.specs.declared.types.Type.{«Type»}
use Rattle.rgo_typed.specs.Tree.{Function, Typed, stmts_of}
use Rattle.rgo_wellformed.specs.TypeRules.{IsType}
use Rattle.rgo_wellformed.specs.WellFormed as typed
use Rattle.rgo_wellformed.specs.WellFormed.{IsFunction, IsResult, IsWellFormed, AreStmts, AreDistinct, first_numbers}
use Rattle.rgo_tac.specs.Code.{Instr, TacFn, Tac}
use Rattle.rgo_lower.specs.Lowered.{LoweringPoint, variable_of_local, parameters, closing_op, IsLoweredFn, IsLowered}
use Rattle.rgo_lower.proofs.follows.Grows.{tested_eq, stmts_grow}
use Rattle.rgo_code.specs.Exists.{declared_in_code, TypeExists, StructExists, VariableExists, HasMain}
use Rattle.rgo_code.specs.TypedCode.{IsTypedFn}
use Rattle.rgo_lowering_laws.specs.Laws.{LoweredIsTyped, LoweredPrints, PrintsFit}
use Rattle.rgo_lowering_laws.proofs.Lists.{some_is, none_is, holds_there, taken_at}
use Rattle.rgo_lowering_laws.proofs.Kept.{Kept, Right, at_place}
use Rattle.rgo_lowering_laws.proofs.Safety.{jump_is_safe, return_is_safe}
use Rattle.rgo_lowering_laws.proofs.Terms.{Setting, Agrees, inside}
use Rattle.rgo_lowering_laws.proofs.Statements.{stmts_keep}
use Rattle.rgo_lowering_laws.proofs.Declarations.{is_new, same_signatures, same_names, Lowering, source_of, code_of}
use Rattle.rgo_lowering_laws.proofs.LiveStatements.{writes_first}

-- each parameter is the variable of the same number
parameter_is : (k n d : ℕ) → variable_of_local (parameters k) n ≡ Some d → (n ≡ d) × (n < k)
parameter_is zero n d e = absurd (none_is d e)
parameter_is (suc k) n d e = go (parameter_is k n d) (nat_eq k n) refl e
  where
    go : (variable_of_local (parameters k) n ≡ Some d → (n ≡ d) × (n < k)) → (b : Bool) → nat_eq k n ≡ b
        → (if b then Some k else variable_of_local (parameters k) n) ≡ Some d → (n ≡ d) × (n < suc k)
    go before true t e =
        let same = tested_eq k n t in let is = some_is k d e in (sym same ∙ is, omega (arith, same))
    go before false t e = let r = before e in (r.0, omega (arith, r.1))

module _ (program : Typed) (code : Tac) (w : IsWellFormed program) (h : IsLowered program code) where
  same_declared : declared_in_code code ≡ typed.declared_by program
  same_declared =
      let functions = same_signatures program.functions program.functions code.functions h.functions in
      λ i. record {
        structs = map (λ (s : Struct). s.fields) (h.structs i);
        variables = map (λ (v : Variable). v.ty) (h.variables i);
        functions = functions i;
      }

  exists : (t : «Type») → IsType (typed.declared_by program) t → TypeExists code t
  exists t k = subst (λ d. IsType d t) (sym same_declared) k

  function_is : (n : ℕ) (source : Function) → slice_get program.functions n ≡ Some source
      → IsFunction (declared_in_code code) source
  function_is n source at =
      subst (λ d. IsFunction d source) (sym same_declared)
      (holds_there (IsFunction (typed.declared_by program)) program.functions n source at w.functions)

  result_exists : (ty : Option «Type») → IsResult (declared_in_code code) ty → (t : «Type») → ty ≡ Some t
      → TypeExists code t
  result_exists None k t e = absurd (none_is t e)
  result_exists (Some u) k t e = subst (TypeExists code) (some_is u t e) k

  -- ---- one function

  source_at : (n : ℕ) (f : TacFn) → slice_get code.functions n ≡ Some f
      → Lowering program.functions program.functions n f
  source_at n f at = source_of program.functions program.functions code.functions n f h.functions at

  params_fit : (n : ℕ) (f : TacFn) → slice_get code.functions n ≡ Some f → f.params ≤ length f.variables
  params_fit n f at =
      let s = source_at n f at in
      let l = s.lowered in
      let grows =
      stmts_grow program.functions f (stmts_of s.source.body) [] (parameters s.source.params)
      (record { instr = 0; variable = s.source.params }) l.scope l.last l.body in
      omega (arith, grows, l.params, l.variables)

  result_types : (n : ℕ) (f : TacFn) → slice_get code.functions n ≡ Some f → (t : «Type») → f.result_type ≡ Some t
      → TypeExists code t
  result_types n f at t e =
      let s = source_at n f at in
      let is = function_is n s.source s.at in
      result_exists s.source.result_type is.result_type t (sym s.lowered.result_type ∙ e)

  module _ (f : TacFn) (source : Function) (is : IsFunction (declared_in_code code) source)
      (l : IsLoweredFn program.functions source f) where
    abbrev setting : Setting
    setting = record {
      functions = program.functions;
      code = code;
      f = f;
      locals = source.locals;
      local_types = λ n t e. holds_there (IsType (declared_in_code code)) source.locals n t e is.locals;
      result_types = result_types;
      params = params_fit;
    }

    parameter_at : (n : ℕ) → n < source.params → slice_get f.variables n ≡ slice_get source.locals n
    parameter_at n lt =
        sym (taken_at source.params f.variables n lt)
        ∙ (ap (λ (ts : List «Type»). slice_get ts n) l.param_types ∙ taken_at source.params source.locals n lt)

    parameters_agree : Agrees setting (parameters source.params)
    parameters_agree = record {
      has = λ n d t e there.
          let p = parameter_is source.params n d e in
          ap (slice_get f.variables) (sym p.0) ∙ (parameter_at n p.1 ∙ there);
    }

    at_end : l.last.instr < length f.body
    at_end = inside setting l.last.instr (closing_op source.result_type l.last.instr) source.end l.closing

    abbrev start : LoweringPoint
    start = record { instr = 0; variable = source.params }

    kept : Kept code f start l.last
    kept =
        let body =
        subst (λ ty. AreStmts (record {
          declared = declared_in_code code;
          locals = source.locals;
          result_type = ty;
          in_loop = false;
        }) (first_numbers source.params) (stmts_of source.body)) (sym l.result_type) is.body in
        stmts_keep setting false (first_numbers source.params) (stmts_of source.body) [] (parameters source.params)
        start l.scope l.last l.body body parameters_agree tt at_end

    closes : (ty : Option «Type») → f.result_type ≡ ty → (i : ℕ) → i < length f.body
        → Right code f i (closing_op ty i)
    closes None e i within =
        let s = return_is_safe f code e in
        record {
          typed = record {
            exists = record { variables = s.variables; exists = s.exists; last = λ end. refl };
            fits = s.fits;
            start = s.start;
          };
          prints = s.prints;
        }
    closes (Some ty) e i within =
        let s = jump_is_safe f code i within in
        record {
          typed = record {
            exists = record { variables = s.variables; exists = s.exists; last = λ end. refl };
            fits = s.fits;
            start = s.start;
          };
          prints = s.prints;
        }

    right_instr : (i : ℕ) (instr : Instr) → slice_get f.body i ≡ Some instr → Right code f i instr.op
    right_instr i instr e =
        let within = slice_get_within f.body i instr e in
        ⊎_elim (λ less. kept.instrs i instr (omega arith) less e)
        (λ more.
        at_place code f l.last.instr i _ source.end instr l.closing more (omega (arith, within, l.instrs)) e
        (closes source.result_type l.result_type l.last.instr at_end))
        (cases_lt i l.last.instr)

    typed_variable : (v : ℕ) (t : «Type») → slice_get f.variables v ≡ Some t → TypeExists code t
    typed_variable v t e =
        let within = slice_get_within f.variables v t e in
        ⊎_elim (λ less.
        holds_there (IsType (declared_in_code code)) source.locals v t (sym (parameter_at v less) ∙ e) is.locals)
        (λ more. kept.variables v t more (omega (arith, within, l.variables)) e)
        (cases_lt v source.params)

    typed_fn : (n : ℕ) → slice_get code.functions n ≡ Some f → IsTypedFn code n f
    typed_fn n at = record {
      head = record {
        is_new =
            is_new (map (λ (g : TacFn). g.name) code.functions)
            (subst AreDistinct
            (sym (same_names program.functions program.functions code.functions h.functions)) w.function_names) n;
        params = params_fit n f at;
        result = result_types n f at;
      };
      variables = typed_variable;
      has_instr = λ e. let none = ap length e in absurd (omega (arith, none, l.instrs));
      instrs = λ i instr e. (right_instr i instr e).typed;
      writes_first = writes_first program.functions f source l;
    }

  -- ---- the program

  typed_function : (n : ℕ) (f : TacFn) → slice_get code.functions n ≡ Some f → IsTypedFn code n f
  typed_function n f at =
      let s = source_at n f at in typed_fn f s.source (function_is n s.source s.at) s.lowered n at

  print_fits : (n : ℕ) (f : TacFn) → slice_get code.functions n ≡ Some f → (i : ℕ) (instr : Instr)
      → slice_get f.body i ≡ Some instr → PrintsFit f instr.op
  print_fits n f at i instr e =
      let s = source_at n f at in (right_instr f s.source (function_is n s.source s.at) s.lowered i instr e).prints

  typed_struct : (n : ℕ) (s : Struct) → slice_get code.structs n ≡ Some s → StructExists code n s
  typed_struct n s at =
      let there : slice_get program.structs n ≡ Some s = ap (λ l. slice_get l n) (sym h.structs) ∙ at in
      let fields =
      holds_there (λ (z : Struct). AllByRecursion (IsType (typed.declared_by program)) z.fields) program.structs n s
      there w.structs in
      record {
        is_new =
            is_new (map (λ (z : Struct). z.name) code.structs)
            (subst (λ l. AreDistinct (map (λ (z : Struct). z.name) l)) (sym h.structs) w.struct_names) n;
        fields = λ k ty e.
            exists ty (holds_there (IsType (typed.declared_by program)) s.fields k ty e fields);
      }

  typed_package_variable : (n : ℕ) (v : Variable) → slice_get code.variables n ≡ Some v → VariableExists code n v
  typed_package_variable n v at =
      let there : slice_get program.variables n ≡ Some v = ap (λ l. slice_get l n) (sym h.variables) ∙ at in
      record {
        is_new =
            is_new (map (λ (z : Variable). z.name) code.variables)
            (subst (λ l. AreDistinct (map (λ (z : Variable). z.name) l)) (sym h.variables) w.variable_names) n;
        ty =
            exists v.ty
            (holds_there (λ (z : Variable). IsType (typed.declared_by program) z.ty) program.variables n v there
            w.variables);
      }

  main : HasMain code
  main =
      let m = w.has_main in
      let c = code_of program.functions program.functions code.functions m.0 m.1 h.functions m.2 in
      record {
        number = m.0;
        main = c.f;
        declared = c.at;
        named = c.lowered.name ∙ m.3.name;
        no_params = c.lowered.params ∙ m.3.params;
        no_result = c.lowered.result_type ∙ m.3.result_type;
      }

pub lowered_is_typed : LoweredIsTyped
lowered_is_typed program code w h = record {
  structs = typed_struct program code w h;
  variables = typed_package_variable program code w h;
  functions = typed_function program code w h;
  has_main = main program code w h;
}

pub lowered_prints : LoweredPrints
lowered_prints program code w h = print_fits program code w h
