-- A program has one code. By `AgreeingStatements` two codes of a function agree instruction by instruction, and by the lengths in
-- `IsLoweredFn` they have no other instructions or variables.
use Rattle.std.proofs.Common.{◌≡◌, ⊎_elim, ℕ, zero, suc, ◌<◌, List, [], ◌∷◌, length, take}
use Rattle.std.proofs.Common.{slice_get, refl, ap, sym, ◌∙◌, arith}
use Rattle.std.proofs.lemmas.Bool.{cases_lt}
use Rattle.rgo_typed.specs.Tree.{Function, stmts_of}
use Rattle.rgo_tac.specs.Code.{TacFn}
use Rattle.rgo_lower.specs.Laws.{LoweringIsDetermined}
use Rattle.rgo_lower.specs.Lowered.{LoweringPoint, next_point, parameters, Target, closing_op, IsLoweredFn, AreLowered}
use Rattle.rgo_lower.proofs.Agreeing.{Agree, then, one}
use Rattle.rgo_lower.proofs.AgreeingStatements.{SameStmt, stmts_same}
use Rattle.rgo_simulation.proofs.Together.{some_injective}

-- ---- lists

same_items : {X : Type 0} (xs ys : List X) → length ys ≡ length xs
    → ((i : ℕ) → i < length xs → slice_get ys i ≡ slice_get xs i) → ys ≡ xs
same_items [] [] e same = refl
same_items [] (y ∷ ys) e same = cc
same_items (x ∷ xs) [] e same = cc
same_items (x ∷ xs) (y ∷ ys) e same =
    let rest = same_items xs ys (omega (arith, e)) (λ i less. same (suc i) (omega (arith, less))) in
    λ i. some_injective y x (same 0 (omega arith)) i ∷ rest i

taken : {X : Type 0} (n : ℕ) (xs : List X) (i : ℕ) → i < n → slice_get (take n xs) i ≡ slice_get xs i
taken zero xs i less = absurd (omega (arith, less))
taken (suc n) [] i less = refl
taken (suc n) (x ∷ xs) zero less = refl
taken (suc n) (x ∷ xs) (suc i) less = taken n xs i (omega (arith, less))

-- ---- functions

module _ (functions : List Function) (source : Function) (f g : TacFn) (x : IsLoweredFn functions source f)
    (y : IsLoweredFn functions source g) where
  abbrev start : LoweringPoint
  start = record { instr = 0; variable = source.params }

  abbrev outside : List Target
  outside = []

  body_same : SameStmt functions f g start x.scope y.scope x.last y.last (outside ≡ outside)
  body_same =
      stmts_same functions f g (stmts_of source.body) outside outside (parameters source.params)
      (parameters source.params) refl start start refl x.scope y.scope x.last y.last x.body y.body

  whole : Agree f g start (next_point x.last)
  whole =
      then f g start x.last (next_point x.last) (body_same.code refl)
      (one f g x.last y.last _ _ source.end body_same.last
      (λ i. closing_op source.result_type ((body_same.last i).instr)) x.closing y.closing)

  instrs_same : g.body ≡ f.body
  instrs_same =
      let many : y.last.instr ≡ x.last.instr = ap (λ (z : LoweringPoint). z.instr) body_same.last in
      same_items f.body g.body (omega (arith, many, x.instrs, y.instrs))
      (λ i less. whole.instrs i (omega arith) (omega (arith, less, x.instrs)))

  parameters_same : (i : ℕ) → i < source.params → slice_get g.variables i ≡ slice_get f.variables i
  parameters_same i less =
      sym (taken source.params g.variables i less) ∙ ap (λ l. slice_get l i) (y.param_types ∙ sym x.param_types)
      ∙ taken source.params f.variables i less

  variables_same : g.variables ≡ f.variables
  variables_same =
      let many : y.last.variable ≡ x.last.variable = ap (λ (z : LoweringPoint). z.variable) body_same.last in
      same_items f.variables g.variables (omega (arith, many, x.variables, y.variables))
      (λ i less.
      ⊎_elim (λ low. parameters_same i low)
      (λ high. whole.variables i high (omega (arith, less, x.variables)))
      (cases_lt i source.params))

  function_same : g ≡ f
  function_same = λ i. record {
    name = (y.name ∙ sym x.name) i;
    params = (y.params ∙ sym x.params) i;
    result_type = (y.result_type ∙ sym x.result_type) i;
    variables = variables_same i;
    body = instrs_same i;
  }

-- ---- programs

functions_same : (functions sources : List Function) (fs gs : List TacFn) → AreLowered functions sources fs
    → AreLowered functions sources gs → gs ≡ fs
functions_same functions [] [] [] x y = refl
functions_same functions (s ∷ sources) (f ∷ fs) (g ∷ gs) x y =
    let rest = functions_same functions sources fs gs x.1 y.1 in
    λ i. function_same functions s f g x.0 y.0 i ∷ rest i
functions_same functions [] [] (g ∷ gs) x y = absurd y
functions_same functions (s ∷ sources) (f ∷ fs) [] x y = absurd y
functions_same functions _ _ gs x y = absurd x

pub lowering_is_determined : LoweringIsDetermined
lowering_is_determined program code other x y = λ i. record {
  structs = (y.structs ∙ sym x.structs) i;
  variables = (y.variables ∙ sym x.variables) i;
  functions =
      functions_same program.functions program.functions code.functions other.functions x.functions y.functions i;
}
