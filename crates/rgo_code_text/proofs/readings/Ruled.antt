-- Code that keeps the rules, and whose parts are printable, has a text. The longest part: an action whose operands have the right types has
-- words.
use Rattle.std.proofs.Common.{◌≡◌, ◌≢◌, ℕ, zero, suc, ◌+◌, List, [], ◌∷◌, map, length, Option, Some, None, slice_get, refl, sym, ap, ◌∙◌, subst, arith}
use Rattle.std.specs.List.{All, Contains}
use Rattle.std.specs.List.Sorted.{IsStrictlyIncreasing}
use Rattle.std.proofs.lemmas.List.{length-map}
use Rattle.std.proofs.lemmas.List.Elements.{All-head, All-tail}
use Rattle.std.proofs.lemmas.Option.{same_Some, none-some}
use Rattle.rgo_ast.specs.declared.ops.BinaryOp.{BinaryOp}
use Rattle.rgo_ast.specs.declared.ops.BinaryOp.TheVariants as binary
use Rattle.rgo_typed.specs.declared.actions.Action.{Action}
use Rattle.rgo_typed.specs.declared.actions.Action.TheVariants as action
use Rattle.rgo_typed.specs.declared.types.Type.{«Type»}
use Rattle.rgo_wellformed.specs.TypeRules.{Computes, Takes}
use Rattle.rgo_tac.specs.Code.{Tac, TacFn}
use Rattle.rgo_code.specs.declared.rules.Line.TheVariants as line
use Rattle.rgo_code.specs.declared.rules.Rule.TheVariants as rule
use Rattle.rgo_code.specs.Code.{CodeOp, CodeInstr, CodeFn, Do, Call, Go, Print, Jump, Branch, Return}
use Rattle.rgo_code.specs.Erasure.{erased_op, erased_fn, erased}
use Rattle.rgo_code.specs.Exists.{declared_in_code}
use Rattle.rgo_code.specs.NameRules.{InstrAscends, protected_names}
use Rattle.rgo_code.specs.Names.{edges}
use Rattle.rgo_code.specs.Types.{VariablesHaveTypes, ReturnsType, DoFits}
use Rattle.rgo_code.specs.Types as types
use Rattle.rgo_code_text.specs.Laws.{RulesSuffice}
use Rattle.rgo_code_text.specs.Printable.{ActionPrints, OpPrints, InstrPrints, FnPrints}
use Rattle.rgo_code_text.specs.Written.{ActionHasText, IsInstruction, OpHasText, InstrHasText, FnHasText}
use Rattle.rgo_code_words.specs.Worded.{OperatorFits}
use Rattle.rgo_code_text.proofs.readings.RuledUses.{each, kind, structs_first, variables_first, functions_first}

-- ---- an action has words

abbrev Worded : Option ℕ → Action → List ℕ → Type 0
Worded to a from = IsInstruction a to from

some_word : {A : Type 0} (w : A) (ws : List A) → w ∷ ws ≢ []
some_word w ws e = cc

-- lists by their lengths
of_none : (P : List ℕ → Type 0) (xs : List ℕ) → length xs ≡ 0 → P [] → P xs
of_none P [] e p = p
of_none P (x ∷ xs) e p = absurd (omega (arith, e))

of_one : (P : List ℕ → Type 0) (xs : List ℕ) → length xs ≡ 1 → ((a : ℕ) → P (a ∷ [])) → P xs
of_one P [] e p = absurd (omega (arith, e))
of_one P (a ∷ []) e p = p a
of_one P (a ∷ b ∷ xs) e p = absurd (omega (arith, e))

of_two : (P : List ℕ → Type 0) (xs : List ℕ) → length xs ≡ 2 → ((a b : ℕ) → P (a ∷ b ∷ [])) → P xs
of_two P [] e p = absurd (omega (arith, e))
of_two P (a ∷ []) e p = absurd (omega (arith, e))
of_two P (a ∷ b ∷ []) e p = p a b
of_two P (a ∷ b ∷ c ∷ xs) e p = absurd (omega (arith, e))

of_three : (P : List ℕ → Type 0) (xs : List ℕ) → length xs ≡ 3 → ((a b c : ℕ) → P (a ∷ b ∷ c ∷ [])) → P xs
of_three P [] e p = absurd (omega (arith, e))
of_three P (a ∷ []) e p = absurd (omega (arith, e))
of_three P (a ∷ b ∷ []) e p = absurd (omega (arith, e))
of_three P (a ∷ b ∷ c ∷ []) e p = p a b c
of_three P (a ∷ b ∷ c ∷ d ∷ xs) e p = absurd (omega (arith, e))

module _ (from : List ℕ) (operands : List «Type») (same : length from ≡ length operands) where
  long : (ts : List «Type») → operands ≡ ts → length from ≡ length ts
  long ts e = same ∙ ap length e

  -- an operator that computes takes two values, and is neither `&&` nor `||`
  computes : (d : ℕ) (op : BinaryOp) (t : «Type») → Computes op operands t
      → Worded (Some d) (action.Binary op) from × OperatorFits op
  computes d binary.And t h = absurd h
  computes d binary.Or t h = absurd h
  computes d binary.Eq t h = (of_two (Worded (Some d) (action.Binary binary.Eq)) from (long _ h.1) (λ a b. some_word _ _), tt)
  computes d binary.Ne t h = (of_two (Worded (Some d) (action.Binary binary.Ne)) from (long _ h.1) (λ a b. some_word _ _), tt)
  computes d binary.Lt t h = (of_two (Worded (Some d) (action.Binary binary.Lt)) from (long _ h.0) (λ a b. some_word _ _), tt)
  computes d binary.Le t h = (of_two (Worded (Some d) (action.Binary binary.Le)) from (long _ h.0) (λ a b. some_word _ _), tt)
  computes d binary.Gt t h = (of_two (Worded (Some d) (action.Binary binary.Gt)) from (long _ h.0) (λ a b. some_word _ _), tt)
  computes d binary.Ge t h = (of_two (Worded (Some d) (action.Binary binary.Ge)) from (long _ h.0) (λ a b. some_word _ _), tt)
  computes d binary.Add t h = (of_two (Worded (Some d) (action.Binary binary.Add)) from (long _ h.0) (λ a b. some_word _ _), tt)
  computes d binary.Sub t h = (of_two (Worded (Some d) (action.Binary binary.Sub)) from (long _ h.0) (λ a b. some_word _ _), tt)
  computes d binary.Mul t h = (of_two (Worded (Some d) (action.Binary binary.Mul)) from (long _ h.0) (λ a b. some_word _ _), tt)
  computes d binary.Div t h = (of_two (Worded (Some d) (action.Binary binary.Div)) from (long _ h.0) (λ a b. some_word _ _), tt)
  computes d binary.Rem t h = (of_two (Worded (Some d) (action.Binary binary.Rem)) from (long _ h.0) (λ a b. some_word _ _), tt)

  returns : (code : Tac) (d : ℕ) (a : Action) (t : «Type») → ReturnsType code a operands t → ActionPrints a
      → Worded (Some d) a from × ActionHasText a
  returns code d (action.Int k) t h p = (of_none (Worded (Some d) (action.Int k)) from (long _ h.0) (some_word _ _), p)
  returns code d (action.Bool b) t h p = (of_none (Worded (Some d) (action.Bool b)) from (long _ h.0) (some_word _ _), tt)
  returns code d action.Nil t h p = (of_none (Worded (Some d) action.Nil) from (long _ h.0) (some_word _ _), tt)
  returns code d action.Copy t h p = (of_one (Worded (Some d) action.Copy) from (long _ h) (λ a. some_word _ _), tt)
  returns code d (action.Binary op) t h p = computes d op t h
  returns code d action.Neg t h p = (of_one (Worded (Some d) action.Neg) from (long _ h.0) (λ a. some_word _ _), tt)
  returns code d action.Not t h p = (of_one (Worded (Some d) action.Not) from (long _ h.0) (λ a. some_word _ _), tt)
  returns code d action.IsNil t h p = (of_one (Worded (Some d) action.IsNil) from (long _ h.1) (λ a. some_word _ _), tt)
  returns code d action.Len t h p = (of_one (Worded (Some d) action.Len) from (long _ h.1) (λ a. some_word _ _), tt)
  returns code d (action.Load k) t h p = (of_one (Worded (Some d) (action.Load k)) from (long _ h.1) (λ a. some_word _ _), p)
  returns code d action.At t h p = (of_two (Worded (Some d) action.At) from (long _ h) (λ a b. some_word _ _), tt)
  returns code d (action.New n) t h p = (of_none (Worded (Some d) (action.New n)) from (long _ h.0) (some_word _ _), tt)
  returns code d action.Slice t h p = (of_one (Worded (Some d) action.Slice) from (long _ h.0) (λ a. some_word _ _), tt)
  returns code d action.Chan t h p = (of_one (Worded (Some d) action.Chan) from (long _ h.0) (λ a. some_word _ _), tt)
  returns code d action.Recv t h p = (of_one (Worded (Some d) action.Recv) from (long _ h) (λ a. some_word _ _), tt)
  returns code d (action.Get n) t h p = (of_none (Worded (Some d) (action.Get n)) from (long _ h.0) (some_word _ _), tt)
  returns code d (action.Store k) t h p = absurd h
  returns code d action.Put t h p = absurd h
  returns code d action.Send t h p = absurd h
  returns code d action.Close t h p = absurd h
  returns code d (action.Set n) t h p = absurd h

  takes : (code : Tac) (a : Action) → Takes (declared_in_code code) a operands → ActionPrints a → Worded None a from × ActionHasText a
  takes code (action.Store k) h p = (of_two (Worded None (action.Store k)) from (long _ h.2) (λ a b. some_word _ _), p)
  takes code action.Put h p = (of_three (Worded None action.Put) from (long _ h.1) (λ a b c. some_word _ _), tt)
  takes code action.Send h p = (of_two (Worded None action.Send) from (long _ h.1) (λ a b. some_word _ _), tt)
  takes code action.Close h p = (of_one (Worded None action.Close) from (long _ h.1) (λ a. some_word _ _), tt)
  takes code (action.Set n) h p = (of_one (Worded None (action.Set n)) from (long _ h.1) (λ a. some_word _ _), tt)
  takes code (action.Int k) h p = absurd h
  takes code (action.Bool b) h p = absurd h
  takes code action.Nil h p = absurd h
  takes code action.Copy h p = absurd h
  takes code (action.Binary op) h p = absurd h
  takes code action.Neg h p = absurd h
  takes code action.Not h p = absurd h
  takes code action.IsNil h p = absurd h
  takes code action.Len h p = absurd h
  takes code (action.Load k) h p = absurd h
  takes code action.At h p = absurd h
  takes code (action.New n) h p = absurd h
  takes code action.Slice h p = absurd h
  takes code action.Chan h p = absurd h
  takes code action.Recv h p = absurd h
  takes code (action.Get n) h p = absurd h

-- as many operands as types
as_many : (f : TacFn) (from : List ℕ) (operands : List «Type») → VariablesHaveTypes f from operands → length from ≡ length operands
as_many f from operands e =
    sym (length-map from (slice_get f.variables)) ∙ ap length e ∙ length-map operands Some

does : (code : Tac) (f : TacFn) (to : Option ℕ) (a : Action) (from : List ℕ) (operands : List «Type») → VariablesHaveTypes f from operands
    → DoFits code f to a operands → ActionPrints a → Worded to a from × ActionHasText a
does code f None a from operands have h p = takes from operands (as_many f from operands have) code a h p
does code f (Some d) a from operands have h p = returns from operands (as_many f from operands have) code d a h.0 h.2 p

-- ---- operations, instructions and functions

-- a way of an instruction is among its ways
first : {A : Type 0} (w : A) (ws : List A) → Contains (w ∷ ws) w
first w ws = (0, omega arith, refl)

second : {A : Type 0} (v w : A) → Contains (v ∷ w ∷ []) w
second v w = (1, omega arith, refl)

module _ (code : Tac) (f : TacFn) where
  op_fits : (i : ℕ) (instr : CodeInstr) → types.IsWellTypedOp code f (erased_op instr.op) → InstrAscends i instr → OpPrints instr.op
      → OpHasText instr.op
  op_fits i instr typed up p = by instr.op typed up.protects up.removes p
    where
      by : (op : CodeOp) → types.IsWellTypedOp code f (erased_op op) → IsStrictlyIncreasing (protected_names op)
          → ((j : ℕ) (removes : List ℕ) → Contains (edges op i) (j, removes) → IsStrictlyIncreasing removes) → OpPrints op → OpHasText op
      by (Do to act from removes) t rises up p =
          let d = does code f to act from t.0 t.1 t.2 p.0 in
          (d.0, d.1, p.1, p.2, (up (i + 1) removes (first (i + 1, removes) []), p.3))
      by (Call to n from passes protects removes) t rises up p =
          (p.0, p.1, p.2, (rises, p.3), (up (i + 1) removes (first (i + 1, removes) []), p.4))
      by (Go n from passes removes) t rises up p = (p.0, p.1, (up (i + 1) removes (first (i + 1, removes) []), p.2))
      by (Print pieces from removes) t rises up p =
          (p.0, p.1, p.2, (up (i + 1) removes (first (i + 1, removes) []), p.3))
      by (Jump target removes) t rises up p = (p.0, (up target removes (first (target, removes) []), p.1))
      by (Branch test target removes other otherwise) t rises up p = (
        p.0,
        p.1,
        (up target removes (first (target, removes) ((other, otherwise) ∷ [])), p.2),
        p.3,
        (up other otherwise (second (target, removes) (other, otherwise)), p.4),
      )
      by (Return value) t rises up p = p

-- what holds of each item by its number, and of all
with_all : {A : Type 0} (P Q : A → Type 0) (xs : List A) → All P xs
    → ((i : ℕ) (x : A) → slice_get xs i ≡ Some x → P x → Q x) → All Q xs
with_all {A} P Q xs p h = each Q xs (λ i x e. h i x e (at xs i x e p))
  where
    at : (xs : List A) (i : ℕ) (x : A) → slice_get xs i ≡ Some x → All P xs → P x
    at [] i x e p = absurd (none-some x e)
    at (y ∷ xs) zero x e p = subst P (same_Some y x e) (All-head P y xs p)
    at (y ∷ xs) (suc i) x e p = at xs i x e (All-tail P y xs p)

pub rules_suffice : RulesSuffice
rules_suffice code checked ascends structs_none variables_none functions_none p = record {
  structs = kind (map (λ s. s.name) code.structs) code.undeclared.structs _ structs_none p.structs (structs_first code checked);
  variables =
      kind (map (λ v. v.name) code.variables) code.undeclared.variables _ variables_none p.variables
      (variables_first code checked);
  functions =
      kind (map (λ f. f.name) code.functions) code.undeclared.functions _ functions_none p.functions
      (functions_first code checked);
  fits = with_all FnPrints FnHasText code.functions p.fits fits;
}
  where
    fits : (n : ℕ) (f : CodeFn) → slice_get code.functions n ≡ Some f → FnPrints f → FnHasText f
    fits n f there q = record {
      params = q.params;
      result = q.result;
      variables = q.variables;
      entry = ((ascends n f there).entry, q.entry);
      indexes = q.indexes;
      body = with_all InstrPrints InstrHasText f.body q.body (λ i x e r.
          let up = (ascends n f there).body i x e in (
            r.0,
            (up.creates, r.1),
            op_fits (erased code) (erased_fn f) i x (checked rule.Types (line.Instr n i) f x there e) up r.2,
          ));
    }
