-- The tests on existence decide the first rule.
use Rattle.std.proofs.Common.{◌≡◌, inl, inr, ℕ, suc, ◌+◌, ◌<◌, ◌≤◌, Bool, true, false, ◌&&◌, ◌||◌, not, List, [], ◌∷◌, length, map, Option, Some, None, is_some, slice_get, nat_lt, nat_le, nat_eq, refl, sym, ap, ◌∙◌, subst, Contains, arith}
use Rattle.std.proofs.lemmas.Bool.{false≢true}
use Rattle.std.proofs.lemmas.Bool.Decides.{Decides-and, Decides-like}
use Rattle.std.proofs.lemmas.Option.{same_Some, none-some}
use Rattle.std.specs.Bool.{Decides}
use Rattle.rgo_typed.specs.declared.actions.Action.{Action}
use Rattle.rgo_typed.specs.declared.actions.Action.TheVariants as action
use Rattle.rgo_typed.specs.declared.programs.Struct.{Struct}
use Rattle.rgo_typed.specs.declared.types.Base.{Base}
use Rattle.rgo_typed.specs.declared.types.Base.TheVariants as base
use Rattle.rgo_typed.specs.declared.types.Type.{«Type»}
use Rattle.rgo_wellformed.specs.TypeRules.{IsBase, pointer_to}
use Rattle.rgo_tac.specs.Code.{Op, TacFn, Tac, Do, Call, Go, Print, Jump, Branch, Return}
use Rattle.rgo_tac.specs.Flow.{reads, writes}
use Rattle.rgo_code.specs.Exists.{declared_in_code, TypeExists, UsesVariable, ActionExists, OperandHasField, FieldExists, CallExists, StartExists, OpExists, leaves, InstrExists}
use Rattle.rgo_checker.specs.Tests.{base_exists, type_exists, types_exist, result_exists, head_exists, action_exists, has_fields, struct_has_field, pointed_by, variable_has_field, field_exists, both_or_neither, call_exists, start_exists, op_exists, are_below, is_below, variables_exist, ends_right, instr_exists}
use Rattle.rgo_checker.proofs.Deciding.{always, never, decides_less, decides_at_most, decides_same}
use Rattle.rgo_checker.proofs.Listing.{all_decided, all_at_decided}
use Rattle.rgo_checker.proofs.decides.TypeLaws.{pointed_some}

-- ---- types

map_length : {A B : Type 0} (g : A → B) (xs : List A) → length (map g xs) ≡ length xs
map_length g [] = refl
map_length g (x ∷ xs) = ap suc (map_length g xs)

pub type_decided : (code : Tac) (ty : «Type») → Decides (type_exists code ty) (TypeExists code ty)
type_decided code ty = by ty.base
  where
    by : (b : Base) → Decides (base_exists (length code.structs) b) (IsBase (declared_in_code code) b)
    by base.Int = always tt
    by base.Bool = always tt
    by (base.Pointer n) =
        let e = map_length (λ s. s.fields) code.structs in
        Decides-like (nat_lt n (length code.structs)) (λ l. omega (arith, l, e)) (λ l. omega (arith, l, e))
        (decides_less n (length code.structs))

pub types_decided : (code : Tac) (types : List «Type»)
    → Decides (types_exist code types) ((k : ℕ) (ty : «Type») → slice_get types k ≡ Some ty → TypeExists code ty)
types_decided code types = all_at_decided (type_exists code) (TypeExists code) (type_decided code) types

result_decided : (code : Tac) (o : Option «Type»)
    → Decides (result_exists code o) ((ty : «Type») → o ≡ Some ty → TypeExists code ty)
result_decided code None = always (λ ty e. absurd (none-some ty e))
result_decided code (Some ty) =
    Decides-like (type_exists code ty) (λ h u e. subst (TypeExists code) (same_Some ty u e) h) (λ h. h ty refl)
    (type_decided code ty)

pub head_decided : (code : Tac) (f : TacFn) → Decides (head_exists code f)
    ((f.params ≤ length f.variables) × ((ty : «Type») → f.result_type ≡ Some ty → TypeExists code ty))
head_decided code f =
    Decides-and (nat_le f.params (length f.variables)) (result_exists code f.result_type)
    (decides_at_most f.params (length f.variables)) (result_decided code f.result_type)

-- ---- actions

action_decided : (code : Tac) (act : Action) → Decides (action_exists code act) (ActionExists code act)
action_decided code (action.New n) = decides_less n (length code.structs)
action_decided code (action.Get n) = decides_less n (length code.variables)
action_decided code (action.Set n) = decides_less n (length code.variables)
action_decided code _ = always tt

module _ (code : Tac) (f : TacFn) (k : ℕ) where
  abbrev HasFieldIn : Option Struct → Type 0
  HasFieldIn o = (s : Struct) → o ≡ Some s → k < length s.fields

  fields_decided : (o : Option Struct) → Decides (has_fields k o) (HasFieldIn o)
  fields_decided None = always (λ s e. absurd (none-some s e))
  fields_decided (Some s) =
      Decides-like (nat_lt k (length s.fields)) (λ l u e. subst (λ x. k < length x.fields) (same_Some s u e) l)
      (λ h. h s refl) (decides_less k (length s.fields))

  struct_decided : (o : Option ℕ)
      → Decides (struct_has_field code k o) ((n : ℕ) → o ≡ Some n → HasFieldIn (slice_get code.structs n))
  struct_decided None = always (λ n e. absurd (none-some n e))
  struct_decided (Some n) =
      Decides-like (has_fields k (slice_get code.structs n))
      (λ h m e. subst (λ x. HasFieldIn (slice_get code.structs x)) (same_Some n m e) h) (λ h. h n refl)
      (fields_decided (slice_get code.structs n))

  pointed_is_some : (o : Option «Type») (n : ℕ) → pointed_by o ≡ Some n → o ≡ Some (pointer_to n)
  pointed_is_some None n e = absurd (none-some n e)
  pointed_is_some (Some t) n e = ap Some (pointed_some t n e)

  pub has_field_decided : (from : List ℕ)
      → Decides (variable_has_field code f k (slice_get from 0)) (OperandHasField code f k from)
  has_field_decided [] = always tt
  has_field_decided (a ∷ others) =
      let o = slice_get f.variables a in
      Decides-like (struct_has_field code k (pointed_by o))
      (λ h n s e q. h n (ap pointed_by e) s q) (λ h n e s q. h n s (pointed_is_some o n e) q)
      (struct_decided (pointed_by o))

field_decided : (code : Tac) (f : TacFn) (act : Action) (from : List ℕ)
    → Decides (field_exists code f act from) (FieldExists code f act from)
field_decided code f (action.Load k) from = has_field_decided code f k from
field_decided code f (action.Store k) from = has_field_decided code f k from
field_decided code f _ from = always tt

-- ---- calls

both_decided : (to : Option ℕ) (o : Option «Type») → Decides (both_or_neither to o) (is_some to ≡ is_some o)
both_decided None None = always refl
both_decided None (Some t) = never (λ e. false≢true e)
both_decided (Some d) None = never (λ e. false≢true (sym e))
both_decided (Some d) (Some t) = always refl

module _ (code : Tac) (n : ℕ) (from : List ℕ) where
  call_decided : (to : Option ℕ)
      → Decides (call_exists (slice_get code.functions n) to from) (CallExists code to n from)
  call_decided to = by (slice_get code.functions n) refl
    where
      by : (o : Option TacFn) → slice_get code.functions n ≡ o
          → Decides (call_exists o to from) (CallExists code to n from)
      by None e = never (λ p. none-some p.callee (sym e ∙ p.declared))
      by (Some g) e =
          Decides-like (call_exists (Some g) to from)
          (λ p. record { callee = g; declared = e; arguments = p.0; target = p.1 })
          (λ p. let q = same_Some p.callee g (sym p.declared ∙ e) in
          (p.arguments ∙ ap (λ x. x.params) q, p.target ∙ ap (λ x. is_some x.result_type) q))
          (Decides-and (nat_eq (length from) g.params) (both_or_neither to g.result_type)
          (decides_same (length from) g.params) (both_decided to g.result_type))

  start_decided : Decides (start_exists (slice_get code.functions n) from) (StartExists code n from)
  start_decided = by (slice_get code.functions n) refl
    where
      by : (o : Option TacFn) → slice_get code.functions n ≡ o → Decides (start_exists o from) (StartExists code n from)
      by None e = never (λ p. none-some p.callee (sym e ∙ p.declared))
      by (Some g) e =
          Decides-like (start_exists (Some g) from) (λ p. record { callee = g; declared = e; arguments = p })
          (λ p. p.arguments ∙ ap (λ x. x.params) (same_Some p.callee g (sym p.declared ∙ e)))
          (decides_same (length from) g.params)

-- ---- instructions

op_decided : (code : Tac) (f : TacFn) (op : Op) → Decides (op_exists code f op) (OpExists code f op)
op_decided code f (Do to act from) =
    Decides-and (action_exists code act) (field_exists code f act from) (action_decided code act)
    (field_decided code f act from)
op_decided code f (Call to n from) = call_decided code n from to
op_decided code f (Go n from) = start_decided code n from
op_decided code f (Print pieces from) = always tt
op_decided code f (Jump target) = decides_less target (length f.body)
op_decided code f (Branch test target other) =
    Decides-and (nat_lt target (length f.body)) (nat_lt other (length f.body)) (decides_less target (length f.body))
    (decides_less other (length f.body))
op_decided code f (Return value) = always tt

variables_decided : (op : Op) (count : ℕ) → Decides (variables_exist op count) ((v : ℕ) → UsesVariable op v → v < count)
variables_decided op count =
    Decides-like (variables_exist op count) (λ p v u. go p.0 p.1 v u) (λ h. (λ v c. h v (inl c), λ v e. h v (inr e)))
    (Decides-and (are_below count (reads op)) (is_below count (writes op))
    (all_decided (λ v. nat_lt v count) (λ v. v < count) (λ v. decides_less v count) (reads op)) (written (writes op)))
  where
    written : (o : Option ℕ) → Decides (is_below count o) ((v : ℕ) → o ≡ Some v → v < count)
    written None = always (λ v e. absurd (none-some v e))
    written (Some w) =
        Decides-like (nat_lt w count) (λ l v e. subst (λ x. x < count) (same_Some w v e) l) (λ h. h w refl)
        (decides_less w count)

    go : ((v : ℕ) → Contains (reads op) v → v < count) → ((v : ℕ) → writes op ≡ Some v → v < count)
        → (v : ℕ) → UsesVariable op v → v < count
    go r w v (inl c) = r v c
    go r w v (inr e) = w v e

last_decided : (i count : ℕ) (op : Op) → Decides (ends_right i count op) (i + 1 ≡ count → leaves op ≡ true)
last_decided i count op = by (nat_eq (i + 1) count) (decides_same (i + 1) count)
  where
    by : (b : Bool) → Decides b (i + 1 ≡ count) → Decides (not b || leaves op) (i + 1 ≡ count → leaves op ≡ true)
    by true d = (λ t e. t, λ h. h (d.0 refl))
    by false d = always (λ e. absurd (false≢true (d.1 e)))

pub instr_decided : (code : Tac) (f : TacFn) (i : ℕ) (op : Op)
    → Decides (instr_exists code f i op) (InstrExists code f i op)
instr_decided code f i op =
    Decides-like (instr_exists code f i op)
    (λ p. record { variables = p.0; exists = p.1.0; last = p.1.1 }) (λ p. (p.variables, (p.exists, p.last)))
    (Decides-and (variables_exist op (length f.variables)) (op_exists code f op && ends_right i (length f.body) op)
    (variables_decided op (length f.variables))
    (Decides-and (op_exists code f op) (ends_right i (length f.body) op) (op_decided code f op)
    (last_decided i (length f.body) op)))
