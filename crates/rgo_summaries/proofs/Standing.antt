-- What corresponds to a class of a callee, by the numbers of its members, and what calls join.
use Rattle.std.proofs.Common.{◌≡◌, ◌≢◌, ◌⊎◌, inl, inr, ⊎_elim, ℕ, zero, suc, Bool, true, false, ◌&&◌, List, Option, Some, None, slice_get, refl, sym, ap, ◌∙◌, subst}
use Rattle.std.specs.Prelude.{if◌then◌else◌}
use Rattle.std.specs.Option.{option_map}
use Rattle.std.proofs.lemmas.Option.{same_Some, none-some}
use Rattle.rgo_tac.specs.declared.regions.Class.{Class}
use Rattle.rgo_tac.specs.declared.regions.Class.TheVariants as class
use Rattle.rgo_tac.specs.declared.regions.Member.{Member}
use Rattle.rgo_tac.specs.declared.regions.Member.TheVariants.{Variable, Result, Global}
use Rattle.rgo_tac.specs.Code.{Op, Do, Call, Go, Print, Jump, Branch, Return, Instr, TacFn, Tac}
use Rattle.rgo_tac.specs.Joins.{op_joins, joins, if_pointer_like, is_pointer_like_member}
use Rattle.rgo_classes.specs.declared.classes.Summary.{Summary}
use Rattle.rgo_classes.specs.Joins.{CorrespondsInCall, CallJoins, OpJoins, IsPointerLike, Joins}
use Rattle.rgo_summaries.specs.Calls.{CallParts, call_of_op, call_in, call_with_callee, call_and_callee_at, passed_member}
use Rattle.rgo_summaries.specs.Names.{class_at}

-- two members of a callee have one class
pub record Together (s : Summary) (i j : ℕ) : Type 0 where
  pub named : Class
  pub some : named ≢ class.NoClass
  pub first : class_at s i ≡ Some named
  pub second : class_at s j ≡ Some named

-- what is passed for a member of a class
abbrev pub OfClass : Summary → CallParts → Class → Member → Type 0
OfClass s call c a = (i : ℕ) × (class_at s i ≡ Some c) × (passed_member call i ≡ Some a)

pub stands : (s : Summary) (call : CallParts) (c : Class) (a : Member) → CorrespondsInCall s call.to call.from c a
    → OfClass s call c a
stands s call c (Variable v) h = ⊎_elim
    (λ p. (suc (suc p.0), p.1, ap (option_map Variable) p.2))
    (λ p. (1, ap Some p.0, ap (option_map Variable) p.1))
    h
stands s call c Result h = absurd h
stands s call c Global h = (0, ap Some (sym h), refl)

variable_back : (o : Option ℕ) (a : Member) → option_map Variable o ≡ Some a → (v : ℕ) × (o ≡ Some v) × (a ≡ Variable v)
variable_back None a e = absurd (none-some a e)
variable_back (Some v) a e = (v, refl, sym (same_Some (Variable v) a e))

pub stands_back : (s : Summary) (call : CallParts) (c : Class) (a : Member) (i : ℕ) → class_at s i ≡ Some c
    → passed_member call i ≡ Some a
    → CorrespondsInCall s call.to call.from c a
stands_back s call c a zero e p =
    subst (CorrespondsInCall s call.to call.from c) (same_Some Global a p) (sym (same_Some class.Global c e))
stands_back s call c a (suc zero) e p =
    let v = variable_back call.to a p in
    subst (CorrespondsInCall s call.to call.from c) (sym v.2) (inr (same_Some s.result c e, v.1))
stands_back s call c a (suc (suc i)) e p =
    let v = variable_back (slice_get call.from i) a p in
    subst (CorrespondsInCall s call.to call.from c) (sym v.2) (inl (i, e, v.1))

-- ---- what an instruction joins

joins_of_call : (sums : List Summary) (op : Op) (call : CallParts) (a b : Member) → call_of_op op ≡ Some call
    → CallJoins (slice_get sums call.function) call.to call.from a b → OpJoins sums op a b
joins_of_call sums (Call to n from) call a b e h =
    subst (λ (c : CallParts). CallJoins (slice_get sums c.function) c.to c.from a b)
    (sym (same_Some (record { to = to; function = n; from = from }) call e)) h
joins_of_call sums (Go n from) call a b e h =
    subst (λ (c : CallParts). CallJoins (slice_get sums c.function) c.to c.from a b)
    (sym (same_Some (record { to = None; function = n; from = from }) call e)) h
joins_of_call sums (Do to action from) call a b e h = absurd (none-some call e)
joins_of_call sums (Print pieces from) call a b e h = absurd (none-some call e)
joins_of_call sums (Jump target) call a b e h = absurd (none-some call e)
joins_of_call sums (Branch test target other) call a b e h = absurd (none-some call e)
joins_of_call sums (Return value) call a b e h = absurd (none-some call e)

joins_by_itself : (sums : List Summary) (op : Op) (a b : Member) → op_joins op ≡ Some (a, b) → OpJoins sums op a b
joins_by_itself sums (Call to n from) a b e = absurd (none-some (a, b) e)
joins_by_itself sums (Go n from) a b e = absurd (none-some (a, b) e)
joins_by_itself sums (Do to action from) a b e = e
joins_by_itself sums (Print pieces from) a b e = e
joins_by_itself sums (Jump target) a b e = e
joins_by_itself sums (Branch test target other) a b e = e
joins_by_itself sums (Return value) a b e = e

abbrev pub ByCall : List Summary → Op → Member → Member → Type 0
ByCall sums op a b =
    (call : CallParts) × (call_of_op op ≡ Some call) × CallJoins (slice_get sums call.function) call.to call.from a b

pub either_joins : (sums : List Summary) (op : Op) (a b : Member) → OpJoins sums op a b → ByCall sums op a b
    ⊎ (op_joins op ≡ Some (a, b))
either_joins sums (Call to n from) a b h = inl (record { to = to; function = n; from = from }, refl, h)
either_joins sums (Go n from) a b h = inl (record { to = None; function = n; from = from }, refl, h)
either_joins sums (Do to action from) a b h = inr h
either_joins sums (Print pieces from) a b h = inr h
either_joins sums (Jump target) a b h = inr h
either_joins sums (Branch test target other) a b h = inr h
either_joins sums (Return value) a b h = inr h

-- ---- of pointer-like members

abbrev Pair : Type 0
Pair = Member × Member

and_both : (x y : Bool) → x && y ≡ true → (x ≡ true) × (y ≡ true)
and_both true true e = (refl, refl)
and_both true false e = absurd cc
and_both false y e = absurd cc

guarded : (x : Bool) (p q : Pair) → (if x then Some p else None) ≡ Some q → (x ≡ true) × (p ≡ q)
guarded true p q e = (refl, same_Some p q e)
guarded false p q e = absurd (none-some q e)

pointer_like_both : (f : TacFn) (o : Option Pair) (a b : Member) → if_pointer_like f o ≡ Some (a, b)
    → (o ≡ Some (a, b)) × IsPointerLike f a × IsPointerLike f b
pointer_like_both f None a b e = absurd (none-some (a, b) e)
pointer_like_both f (Some p) a b e =
    let g = guarded (is_pointer_like_member f p.0 && is_pointer_like_member f p.1) p (a, b) e in
    let both = and_both (is_pointer_like_member f p.0) (is_pointer_like_member f p.1) g.0 in (
      ap Some g.1,
      subst (λ (q : Pair). IsPointerLike f q.0) g.1 both.0,
      subst (λ (q : Pair). IsPointerLike f q.1) g.1 both.1,
    )

pub pointer_like_joined : (f : TacFn) (op : Op) (a b : Member) → joins f op ≡ Some (a, b)
    → (op_joins op ≡ Some (a, b)) × IsPointerLike f a × IsPointerLike f b
pointer_like_joined f op a b e = pointer_like_both f (op_joins op) a b e

guard_true : (x y : Bool) (p : Pair) → x ≡ true → y ≡ true → (if x && y then Some p else None) ≡ Some p
guard_true x y p e g = ap (λ z. if z && y then Some p else None) e ∙ ap (λ z. if true && z then Some p else None) g

pub joined_pointer_like : (f : TacFn) (op : Op) (a b : Member) → op_joins op ≡ Some (a, b) → IsPointerLike f a
    → IsPointerLike f b → joins f op ≡ Some (a, b)
joined_pointer_like f op a b e p q =
    ap (if_pointer_like f) e ∙ guard_true (is_pointer_like_member f a) (is_pointer_like_member f b) (a, b) p q

-- ---- calls

-- the parts of a call that is found
pub record CallHere (code : Tac) (f : TacFn) (at : ℕ) (call : CallParts) (callee : TacFn) : Type 0 where
  pub instr : Instr
  pub here : slice_get f.body at ≡ Some instr
  pub calls : call_of_op instr.op ≡ Some call
  pub known : slice_get code.functions call.function ≡ Some callee

abbrev pair_of : CallParts → TacFn → CallParts × TacFn
pair_of c g = (c, g)

with_function : (o : Option TacFn) (c call : CallParts) (callee : TacFn)
    → option_map (pair_of c) o ≡ Some (call, callee) → (c ≡ call) × (o ≡ Some callee)
with_function None c call callee e = absurd (none-some (call, callee) e)
with_function (Some g) c call callee e =
    let pair = same_Some (c, g) (call, callee) e in
    (ap (λ (p : CallParts × TacFn). p.0) pair, ap (λ (p : CallParts × TacFn). Some p.1) pair)

with_call : (code : Tac) (o : Option CallParts) (call : CallParts) (callee : TacFn) → call_with_callee code o ≡ Some (call, callee)
    → (o ≡ Some call) × (slice_get code.functions call.function ≡ Some callee)
with_call code None call callee e = absurd (none-some (call, callee) e)
with_call code (Some c) call callee e =
    let w = with_function (slice_get code.functions c.function) c call callee e in
    (ap Some w.0, ap (λ (k : CallParts). slice_get code.functions k.function) (sym w.0) ∙ w.1)

with_instr : (o : Option Instr) (call : CallParts) → call_in o ≡ Some call
    → (instr : Instr) × (o ≡ Some instr) × (call_of_op instr.op ≡ Some call)
with_instr None call e = absurd (none-some call e)
with_instr (Some instr) call e = (instr, refl, e)

pub call_here : (code : Tac) (f : TacFn) (at : ℕ) (call : CallParts) (callee : TacFn)
    → call_and_callee_at code f at ≡ Some (call, callee)
    → CallHere code f at call callee
call_here code f at call callee e =
    let w = with_call code (call_in (slice_get f.body at)) call callee e in
    let i = with_instr (slice_get f.body at) call w.0 in
    record { instr = i.0; here = i.1; calls = i.2; known = w.1 }

pub call_found : (code : Tac) (f : TacFn) (at : ℕ) (call : CallParts) (callee : TacFn) → CallHere code f at call callee
    → call_and_callee_at code f at ≡ Some (call, callee)
call_found code f at call callee h =
    ap (λ o. call_with_callee code (call_in o)) h.here ∙ ap (call_with_callee code) h.calls
    ∙ ap (option_map (pair_of call)) h.known

-- what a call joins by the classes of its callee
pub joined_by_call : (code : Tac) (sums : List Summary) (f : TacFn) (at : ℕ) (call : CallParts) (callee : TacFn)
    (s : Summary)
    (i j : ℕ) (a b : Member) → call_and_callee_at code f at ≡ Some (call, callee) → slice_get sums call.function ≡ Some s
    → Together s i j → passed_member call i ≡ Some a → passed_member call j ≡ Some b → IsPointerLike f a → IsPointerLike f b
    → Joins sums f a b
joined_by_call code sums f at call callee s i j a b e known t p q pa pb =
    let c = call_here code f at call callee e in
    let h : CallJoins (Some s) call.to call.from a b =
    (t.named, t.some, stands_back s call t.named a i t.first p, stands_back s call t.named b j t.second q)
    in record {
      at = at;
      instr = c.instr;
      here = c.here;
      joined =
          joins_of_call sums c.instr.op call a b c.calls
          (subst (λ o. CallJoins o call.to call.from a b) (sym known) h);
      first = pa;
      second = pb;
    }

-- what an instruction joins by itself
pub joined_own : (sums : List Summary) (f : TacFn) (at : ℕ) (instr : Instr) (a b : Member)
    → slice_get f.body at ≡ Some instr
    → joins f instr.op ≡ Some (a, b) → Joins sums f a b
joined_own sums f at instr a b here e =
    let p = pointer_like_joined f instr.op a b e in
    record {
      at = at;
      instr = instr;
      here = here;
      joined = joins_by_itself sums instr.op a b p.0;
      first = p.1;
      second = p.2;
    }
