-- How many operands each action has in checked code: the typing rule of each action names its operands.
use Rattle.std.proofs.Common.{◌≡◌, ◌≢◌, ◌∙◌, ℕ, List, length, Option, Some, None, refl, sym, ap, subst}
use Rattle.std.proofs.lemmas.List.{length-map}
use Rattle.rgo_sound.specs.Ast.declared.ops.BinaryOp.TheVariants as binary
use Rattle.rgo_sound.specs.Ast.declared.ops.BinaryOp.{BinaryOp}
use Rattle.rgo_sound.specs.Code.Code.{Branch, Call, CodeOp, Do, Go, Jump, Print, Return}
use Rattle.rgo_sound.specs.Code.Erasure.{erased, erased_fn, erased_op}
use Rattle.rgo_sound.specs.Code.Exists.{declared_in_code}
use Rattle.rgo_sound.specs.Code.Types.{DoFits, VariablesHaveTypes, IsWellTypedOp, ReturnsType}
use Rattle.rgo_sound.specs.Code.declared.rules.Line.TheVariants as line
use Rattle.rgo_sound.specs.Code.declared.rules.Rule.TheVariants as rule
use Rattle.rgo_sound.specs.Tac.Code.{Tac, TacFn}
use Rattle.rgo_sound.specs.Typed.declared.actions.Action.TheVariants as action
use Rattle.rgo_sound.specs.Typed.declared.actions.Action.{Action}
use Rattle.rgo_sound.specs.Typed.declared.types.Type.{«Type»}
use Rattle.rgo_sound.specs.WellFormed.TypeRules.{Computes, Declared, Takes}
use Rattle.rgo_core_facts.specs.ControlShapes.{ActionsShaped, HasShape, IsShaped}

have_long : (f : TacFn) (vs : List ℕ) (tys : List «Type») → VariablesHaveTypes f vs tys → length vs ≡ length tys
have_long f vs tys h = sym (length-map vs _) ∙ ap length h ∙ length-map tys _

no_operator : (act : Action) → ((op : BinaryOp) → act ≡ action.Binary op → ⊥) → (op : BinaryOp) → act ≡ action.Binary op
    → (op ≢ binary.And) × (op ≢ binary.Or)
no_operator act other op e = absurd (other op e)

computes_two : (op : BinaryOp) (tys : List «Type») (t : «Type») → Computes op tys t → length tys ≡ 2
computes_two binary.Eq tys t h = ap length h.1
computes_two binary.Ne tys t h = ap length h.1
computes_two binary.Lt tys t h = ap length h.0
computes_two binary.Le tys t h = ap length h.0
computes_two binary.Gt tys t h = ap length h.0
computes_two binary.Ge tys t h = ap length h.0
computes_two binary.Add tys t h = ap length h.0
computes_two binary.Sub tys t h = ap length h.0
computes_two binary.Mul tys t h = ap length h.0
computes_two binary.Div tys t h = ap length h.0
computes_two binary.Rem tys t h = ap length h.0
computes_two binary.And tys t h = absurd h
computes_two binary.Or tys t h = absurd h

computes_strictly : (op : BinaryOp) (tys : List «Type») (t : «Type») → Computes op tys t → (op ≢ binary.And) × (op ≢ binary.Or)
computes_strictly op tys t h = (
  (λ e. subst (λ o. Computes o tys t) e h),
  (λ e. subst (λ o. Computes o tys t) e h),
)

same_operator : (op op' : BinaryOp) → action.Binary op ≡ action.Binary op' → op ≡ op'
same_operator op op' e = cc

-- an action with a value
with_value : (code : Tac) (d : ℕ) (act : Action) (from : List ℕ) (tys : List «Type») (t : «Type») → length from ≡ length tys
    → ReturnsType code act tys t → IsShaped (Some d) act from
with_value code d (action.Int k) from tys t l h = record { operands = l ∙ ap length h.0; target = refl; operator = no_operator _ (λ op e. cc) }
with_value code d (action.Bool b) from tys t l h = record { operands = l ∙ ap length h.0; target = refl; operator = no_operator _ (λ op e. cc) }
with_value code d action.Nil from tys t l h = record { operands = l ∙ ap length h.0; target = refl; operator = no_operator _ (λ op e. cc) }
with_value code d action.Copy from tys t l h = record { operands = l ∙ ap length h; target = refl; operator = no_operator _ (λ op e. cc) }
with_value code d (action.Binary op) from tys t l h = record {
  operands = l ∙ computes_two op tys t h;
  target = refl;
  operator = λ op' e. subst (λ o. (o ≢ binary.And) × (o ≢ binary.Or)) (same_operator op op' e) (computes_strictly op tys t h);
}
with_value code d action.Neg from tys t l h = record { operands = l ∙ ap length h.0; target = refl; operator = no_operator _ (λ op e. cc) }
with_value code d action.Not from tys t l h = record { operands = l ∙ ap length h.0; target = refl; operator = no_operator _ (λ op e. cc) }
with_value code d action.IsNil from tys t l h = record { operands = l ∙ ap length h.1; target = refl; operator = no_operator _ (λ op e. cc) }
with_value code d action.Len from tys t l h = record { operands = l ∙ ap length h.1; target = refl; operator = no_operator _ (λ op e. cc) }
with_value code d (action.Load k) from tys t l h = record { operands = l ∙ ap length h.1; target = refl; operator = no_operator _ (λ op e. cc) }
with_value code d action.At from tys t l h = record { operands = l ∙ ap length h; target = refl; operator = no_operator _ (λ op e. cc) }
with_value code d (action.New n) from tys t l h = record { operands = l ∙ ap length h.0; target = refl; operator = no_operator _ (λ op e. cc) }
with_value code d action.Slice from tys t l h = record { operands = l ∙ ap length h.0; target = refl; operator = no_operator _ (λ op e. cc) }
with_value code d action.Chan from tys t l h = record { operands = l ∙ ap length h.0; target = refl; operator = no_operator _ (λ op e. cc) }
with_value code d action.Recv from tys t l h = record { operands = l ∙ ap length h; target = refl; operator = no_operator _ (λ op e. cc) }
with_value code d (action.Get n) from tys t l h = record { operands = l ∙ ap length h.0; target = refl; operator = no_operator _ (λ op e. cc) }
with_value code d (action.Store k) from tys t l h = absurd h
with_value code d action.Put from tys t l h = absurd h
with_value code d action.Send from tys t l h = absurd h
with_value code d action.Close from tys t l h = absurd h
with_value code d (action.Set n) from tys t l h = absurd h

-- and one without
without_value : (d : Declared) (act : Action) (from : List ℕ) (tys : List «Type») → length from ≡ length tys → Takes d act tys
    → IsShaped None act from
without_value d (action.Store k) from tys l h = record { operands = l ∙ ap length h.2; target = refl; operator = no_operator _ (λ op e. cc) }
without_value d action.Put from tys l h = record { operands = l ∙ ap length h.1; target = refl; operator = no_operator _ (λ op e. cc) }
without_value d action.Send from tys l h = record { operands = l ∙ ap length h.1; target = refl; operator = no_operator _ (λ op e. cc) }
without_value d action.Close from tys l h = record { operands = l ∙ ap length h.1; target = refl; operator = no_operator _ (λ op e. cc) }
without_value d (action.Set n) from tys l h = record { operands = l ∙ ap length h.1; target = refl; operator = no_operator _ (λ op e. cc) }
without_value d (action.Int k) from tys l h = absurd h
without_value d (action.Bool b) from tys l h = absurd h
without_value d action.Nil from tys l h = absurd h
without_value d action.Copy from tys l h = absurd h
without_value d (action.Binary op) from tys l h = absurd h
without_value d action.Neg from tys l h = absurd h
without_value d action.Not from tys l h = absurd h
without_value d action.IsNil from tys l h = absurd h
without_value d action.Len from tys l h = absurd h
without_value d (action.Load k) from tys l h = absurd h
without_value d action.At from tys l h = absurd h
without_value d (action.New n) from tys l h = absurd h
without_value d action.Slice from tys l h = absurd h
without_value d action.Chan from tys l h = absurd h
without_value d action.Recv from tys l h = absurd h
without_value d (action.Get n) from tys l h = absurd h

shaped : (code : Tac) (f : TacFn) (to : Option ℕ) (act : Action) (from : List ℕ) (tys : List «Type») → VariablesHaveTypes f from tys
    → DoFits code f to act tys → IsShaped to act from
shaped code f None act from tys have fits = without_value (declared_in_code code) act from tys (have_long f from tys have) fits
shaped code f (Some d) act from tys have fits = with_value code d act from tys fits.0 (have_long f from tys have) fits.2

by_op : (code : Tac) (f : TacFn) (op : CodeOp) → IsWellTypedOp code f (erased_op op) → HasShape op
by_op code f (Do to act from removes) fits = shaped code f to act from fits.0 fits.1 fits.2
by_op code f (Call to n from passes protects removes) fits = tt
by_op code f (Go n from passes removes) fits = tt
by_op code f (Print pieces from removes) fits = tt
by_op code f (Jump target removes) fits = tt
by_op code f (Branch test target removes other otherwise) fits = tt
by_op code f (Return value) fits = tt

pub actions_shaped : ActionsShaped
actions_shaped code n i fn instr checked known there =
    by_op (erased code) (erased_fn fn) instr.op (checked rule.Types (line.Instr n i) fn instr known there)
