-- What the rules of checked code require of each instruction: a rule for each fact, applied to the instruction by its number.
use Rattle.std.proofs.Common.{◌≡◌, ◌≢◌, ◌<◌, ◌≤◌, ◌+◌, ◌∙◌, ℕ, Bool, true, false, List, [], ◌∷◌, length, Option, Some, None, is_some, option_map, slice_get, refl, sym, ap, subst, arith}
use Rattle.std.proofs.lemmas.List.{length-map}
use Rattle.std.proofs.lemmas.Option.{slice_get_within}
use Rattle.rgo_sound.specs.Code.Checked.{IsChecked}
use Rattle.rgo_sound.specs.Code.ClassRules.{CallPasses, CallsPass, PassesClasses, StartPasses, StartsPass}
use Rattle.rgo_sound.specs.Code.Code.{Branch, Call, Code, CodeFn, CodeInstr, CodeOp, Do, Go, Jump, Print, Return, Slot}
use Rattle.rgo_sound.specs.Code.Erasure.{erased, erased_fn, erased_instr, erased_op}
use Rattle.rgo_sound.specs.Code.Exists.{InstrExists, leaves}
use Rattle.rgo_sound.specs.Code.Types.{IsWellTypedOp}
use Rattle.rgo_sound.specs.Code.declared.rules.Line.TheVariants as line
use Rattle.rgo_sound.specs.Code.declared.rules.Rule.TheVariants as rule
use Rattle.rgo_sound.specs.RegionMachine.Owed.{code_function}
use Rattle.rgo_sound.proofs.names.Ruled.{CallIsThere, StartIsThere, call_is_there, start_is_there}
use Rattle.rgo_core_facts.specs.ControlCode.{BodiesBegin, CalleesExist, HasCallee, IsFollowed, NextExists, ResultsReturned, ReturnsResult, VariablesExist}

not_last : (i n : ℕ) (b : Bool) → b ≡ false → (i + 1 ≡ n → b ≡ true) → i < n → i + 1 < n
not_last i n b e last within = by (λ same. let t = sym e ∙ last same in cc)
  where
    by : i + 1 ≢ n → i + 1 < n
    by other = omega (arith, within, other)

result_typed : (r : Option Slot) → is_some (option_map (λ (s : Slot). s.ty) r) ≡ is_some r
result_typed None = refl
result_typed (Some s) = refl

not_empty : (body : List CodeInstr) → body ≢ [] → 0 < length body
not_empty [] none = absurd (none refl)
not_empty (i ∷ body) none = omega arith

module _ (code : Code) (n i : ℕ) (fn : CodeFn) (instr : CodeInstr) (checked : IsChecked code) (known : code_function code n ≡ Some fn)
    (there : slice_get fn.body i ≡ Some instr) where
  exists : InstrExists (erased code) (erased_fn fn) i (erased_op instr.op)
  exists = checked rule.Exists (line.Instr n i) fn instr known there

  exists_as : (op : CodeOp) → instr.op ≡ op → InstrExists (erased code) (erased_fn fn) i (erased_op op)
  exists_as op is = subst (λ (o : CodeOp). InstrExists (erased code) (erased_fn fn) i (erased_op o)) is exists

  many_variables : length (erased_fn fn).variables ≡ length fn.variables
  many_variables = length-map fn.variables (λ s. s.ty)

  many_instrs : length (erased_fn fn).body ≡ length fn.body
  many_instrs = length-map fn.body erased_instr

  next_within : (op : CodeOp) → instr.op ≡ op → leaves (erased_op op) ≡ false → i + 1 < length fn.body
  next_within op is stays = not_last i (length fn.body) (leaves (erased_op op)) stays
      (λ same. (exists_as op is).last (same ∙ sym many_instrs)) (slice_get_within fn.body i instr there)

  followed : (op : CodeOp) → instr.op ≡ op → IsFollowed fn i op
  followed (Do to action from removes) is = next_within (Do to action from removes) is refl
  followed (Call to m from passes protects removes) is = next_within (Call to m from passes protects removes) is refl
  followed (Go m from passes removes) is = next_within (Go m from passes removes) is refl
  followed (Print pieces from removes) is = next_within (Print pieces from removes) is refl
  followed (Jump target removes) is =
      let t = (exists_as (Jump target removes) is).exists in omega (arith, t, many_instrs)
  followed (Branch test target removes other otherwise) is =
      let t = (exists_as (Branch test target removes other otherwise) is).exists.0 in
      let o = (exists_as (Branch test target removes other otherwise) is).exists.1 in
      (omega (arith, t, many_instrs), omega (arith, o, many_instrs))
  followed (Return value) is = tt

  -- ---- callees

  parameters_fit : (m : ℕ) (callee : CodeFn) → code_function code m ≡ Some callee → callee.params ≤ length callee.variables
  parameters_fit m callee found =
      let h = (checked rule.Exists (line.Function m) callee found).params in
      let l = length-map callee.variables (λ (s : Slot). s.ty) in omega (arith, h, l)

  has_callee : (op : CodeOp) → instr.op ≡ op → HasCallee code op
  has_callee (Call to m from passes protects removes) is =
      let c : CallIsThere code to m from = call_is_there code to m from (exists_as (Call to m from passes protects removes) is).exists in
      let p : PassesClasses fn c.callee to from passes = subst (λ o. CallPasses fn o to from passes) c.found
      (subst (λ o. CallsPass code fn o) is (checked rule.Calls (line.Instr n i) fn instr known there)) in
      record {
        callee = c.callee;
        found = c.found;
        arguments = c.arguments_fit;
        parameters = parameters_fit m c.callee c.found;
        regions = p.len;
        result = c.value_fits;
      }
  has_callee (Go m from passes removes) is =
      let c : StartIsThere code m from = start_is_there code m from (exists_as (Go m from passes removes) is).exists in
      let p : (c.callee.result ≡ None) × PassesClasses fn c.callee None from passes = subst (λ o. StartPasses fn o from passes) c.found
      (subst (λ o. StartsPass code fn o) is (checked rule.Starts (line.Instr n i) fn instr known there)) in
      record {
        callee = c.callee;
        found = c.found;
        arguments = c.arguments_fit;
        parameters = parameters_fit m c.callee c.found;
        regions = p.1.len;
        result = sym (ap is_some p.0);
      }
  has_callee (Do to action from removes) is = tt
  has_callee (Print pieces from removes) is = tt
  has_callee (Jump target removes) is = tt
  has_callee (Branch test target removes other otherwise) is = tt
  has_callee (Return value) is = tt

  -- ---- results

  types_as : (op : CodeOp) → instr.op ≡ op → IsWellTypedOp (erased code) (erased_fn fn) (erased_op op)
  types_as op is = subst (λ (o : CodeOp). IsWellTypedOp (erased code) (erased_fn fn) (erased_op o)) is
      (checked rule.Types (line.Instr n i) fn instr known there)

  returned : (value : Option ℕ) → instr.op ≡ Return value → is_some value ≡ is_some fn.result
  returned None is = let t = types_as (Return None) is in sym (ap is_some t) ∙ result_typed fn.result
  returned (Some v) is = let t = types_as (Return (Some v)) is in sym (ap is_some t.1) ∙ result_typed fn.result

  returns_result : (op : CodeOp) → instr.op ≡ op → ReturnsResult fn op
  returns_result (Return value) is = returned value is
  returns_result (Do to action from removes) is = tt
  returns_result (Call to m from passes protects removes) is = tt
  returns_result (Go m from passes removes) is = tt
  returns_result (Print pieces from removes) is = tt
  returns_result (Jump target removes) is = tt
  returns_result (Branch test target removes other otherwise) is = tt

pub variables_exist : VariablesExist
variables_exist code n i fn instr checked known there v uses =
    let e = (exists code n i fn instr checked known there).variables v uses in
    let m = many_variables code n i fn instr checked known there in omega (arith, e, m)

pub next_exists : NextExists
next_exists code n i fn instr checked known there = followed code n i fn instr checked known there instr.op refl

pub callees_exist : CalleesExist
callees_exist code n i fn instr checked known there = has_callee code n i fn instr checked known there instr.op refl

pub results_returned : ResultsReturned
results_returned code n i fn instr checked known there = returns_result code n i fn instr checked known there instr.op refl

pub bodies_begin : BodiesBegin
bodies_begin code n fn checked known = not_empty fn.body (checked rule.Exists (line.End n) fn known)
