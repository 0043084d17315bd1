-- What nodes represent, by their numbers.
use Rattle.std.proofs.Common.{◌≡◌, inl, inr, ⊎_elim, ℕ, zero, suc, ◌<◌, ◌≤◌, ◌+◌, List, [], ◌∷◌, ◌++◌, Option, Some, None, length, slice_get, refl, sym, ap, ◌∙◌, subst, arith, length-append}
use Rattle.std.proofs.lemmas.Bool.{cases_lt}
use Rattle.std.proofs.lemmas.Option.{none-some, slice_get_within}
use Rattle.rgo_tac.specs.Code.{Op, Do, Call, Go, Print, Jump, Branch, Return, Instr, TacFn, Tac}
use Rattle.rgo_tac.specs.Joins.{if_pointer_like, joins, op_joins}
use Rattle.rgo_tac.specs.declared.regions.Member.{Member}
use Rattle.rgo_classes.specs.Joins.{IsPointerLike}
use Rattle.rgo_classes.specs.Labels.{member_index}
use Rattle.rgo_summaries.specs.Beginning.{BeginsHere, OwnHere, PassedHere, own_in}
use Rattle.rgo_summaries.specs.Calls.{CallParts, call_of_op, call_and_callee_at, member}
use Rattle.rgo_summaries.specs.Kinds.{call_kinds, kinds_of, kinds_to, numbered_nodes, own_node, width_of}
use Rattle.rgo_summaries.specs.Nodes.{JoinsAtFirst, Callee, IsOuter, JoinsOwn, JoinsPassed, NodeKind, Own}
use Rattle.rgo_summaries.proofs.Outer.{get_last, get_left}
use Rattle.rgo_summaries.proofs.Passing.{like_below, member_number}
use Rattle.rgo_summaries.proofs.Standing.{call_here, pointer_like_joined}

-- ---- numbered nodes

pub numbered_len : (make : ℕ → NodeKind) (n : ℕ) → length (numbered_nodes make n) ≡ n
numbered_len make zero = refl
numbered_len make (suc n) = omega (arith, length-append (numbered_nodes make n) (make n ∷ []), numbered_len make n)

numbered_get : (make : ℕ → NodeKind) (n i : ℕ) → i < n → slice_get (numbered_nodes make n) i ≡ Some (make i)
numbered_get make zero i l = absurd (omega (arith, l))
numbered_get make (suc n) i l = ⊎_elim
    (λ b. get_left (numbered_nodes make n) (make n ∷ []) i (omega (arith, b, numbered_len make n)) ∙ numbered_get make n i b)
    (λ b.
    let e : i ≡ n = omega (arith, l, b) in
    let at = ap (slice_get (numbered_nodes make n ++ make n ∷ [])) (e ∙ sym (numbered_len make n)) in
    at ∙ get_last (numbered_nodes make n) (make n) ∙ ap (λ k. Some (make k)) (sym e))
    (cases_lt i n)

get_right : {X : Type 0} (xs ys : List X) (i : ℕ) → slice_get (xs ++ ys) (length xs + i) ≡ slice_get ys i
get_right [] ys i = let e : 0 + i ≡ i = omega arith in ap (slice_get ys) e
get_right (x ∷ xs) ys i =
    let e : suc (length xs) + i ≡ suc (length xs + i) = omega arith in
    ap (slice_get (x ∷ (xs ++ ys))) e ∙ get_right xs ys i

-- a member that callers see is below the width
pub outer_width : (f : TacFn) (i : ℕ) → IsOuter f i → i < width_of f
outer_width f zero o = omega arith
outer_width f (suc zero) o = omega arith
outer_width f (suc (suc v)) o = omega (arith, o.0, like_below f (member (suc (suc v))) o.1)

module _ (code : Tac) (f : TacFn) where
  pub kinds_next : (at : ℕ) → kinds_to code f (at + 1) ≡ kinds_to code f at ++ call_kinds at (call_and_callee_at code f at)
  kinds_next at = ap (kinds_to code f) next
    where
      next : at + 1 ≡ suc at
      next = omega arith

  pub kinds_before : (at to x : ℕ) (k : NodeKind) → at ≤ to → slice_get (kinds_to code f at) x ≡ Some k
      → slice_get (kinds_to code f to) x ≡ Some k
  kinds_before at zero x k l e = let same : at ≡ 0 = omega (arith, l) in
      subst (λ i. slice_get (kinds_to code f i) x ≡ Some k) same e
  kinds_before at (suc to) x k l e = ⊎_elim
      (λ b. let before = kinds_before at to x k (omega (arith, b)) e in
      get_left (kinds_to code f to) (call_kinds to (call_and_callee_at code f to)) x
      (slice_get_within (kinds_to code f to) x k before) ∙ before)
      (λ b. let same : at ≡ suc to = omega (arith, l, b) in
      subst (λ i. slice_get (kinds_to code f i) x ≡ Some k) same e)
      (cases_lt at (suc to))

  pub kinds_longer : (at to : ℕ) → at ≤ to → length (kinds_to code f at) ≤ length (kinds_to code f to)
  kinds_longer at zero l = let same : at ≡ 0 = omega (arith, l) in
      omega (arith, ap (λ i. length (kinds_to code f i)) same)
  kinds_longer at (suc to) l = ⊎_elim
      (λ b. omega (
        arith,
        kinds_longer at to (omega (arith, b)),
        length-append (kinds_to code f to) (call_kinds to (call_and_callee_at code f to)),
      ))
      (λ b. let same : at ≡ suc to = omega (arith, l, b) in omega (arith, ap (λ i. length (kinds_to code f i)) same))
      (cases_lt at (suc to))

  pub kinds_first : length (kinds_to code f 0) ≡ length f.variables + 2
  kinds_first = numbered_len own_node (length f.variables + 2)

  pub kinds_own : (to i : ℕ) → i < length f.variables + 2 → slice_get (kinds_to code f to) i ≡ Some (own_node i)
  kinds_own to i l = kinds_before 0 to i (own_node i) (omega arith) (numbered_get own_node (length f.variables + 2) i l)

  module _ (at : ℕ) (call : CallParts) (callee : TacFn) (here : call_and_callee_at code f at ≡ Some (call, callee)) where
    pub call_len : length (call_kinds at (call_and_callee_at code f at)) ≡ width_of callee
    call_len = ap (λ o. length (call_kinds at o)) here ∙ numbered_len (Callee at) (width_of callee)

    pub kinds_call : (to i : ℕ) → at < to → i < width_of callee
        → slice_get (kinds_to code f to) (length (kinds_to code f at) + i) ≡ Some (Callee at i)
    kinds_call to i l b =
        kinds_before (suc at) to (length (kinds_to code f at) + i) (Callee at i) (omega (arith, l))
        (get_right (kinds_to code f at) (call_kinds at (call_and_callee_at code f at)) i
        ∙ ap (λ o. slice_get (call_kinds at o) i) here ∙ numbered_get (Callee at) (width_of callee) i b)

    pub call_within : at < length f.body
    call_within = let c = call_here code f at call callee here in slice_get_within f.body at c.instr c.here

    pub call_room : length (kinds_to code f at) + width_of callee ≤ length (kinds_of code f)
    call_room =
        let longer = kinds_longer (at + 1) (length f.body) (omega (arith, call_within)) in
        let long = ap (λ (k : List NodeKind). length k) (kinds_next at) in
        omega (arith, longer, long, length-append (kinds_to code f at) (call_kinds at (call_and_callee_at code f at)), call_len)

  -- ---- what begins by an instruction begins

  own_instr : (o : Option Instr) (a b : Member) → own_in f o ≡ Some (a, b) → (instr : Instr) × (o ≡ Some instr)
      × (joins f instr.op ≡ Some (a, b))
  own_instr None a b e = absurd (none-some (a, b) e)
  own_instr (Some instr) a b e = (instr, refl, e)

  kind_of : (m : Member) (x : ℕ) → IsPointerLike f m → x ≡ member_index m → slice_get (kinds_of code f) x ≡ Some (Own m)
  kind_of m x like e =
      ap (slice_get (kinds_of code f)) e ∙ kinds_own (length f.body) (member_index m) (like_below f m like)
      ∙ ap (λ k. Some (Own k)) (member_number m)

  own_begins : (at x y : ℕ) → OwnHere f at x y → JoinsOwn f (slice_get (kinds_of code f)) x y
  own_begins at x y h =
      let i = own_instr (slice_get f.body at) h.one h.other h.joined in
      let like = pointer_like_joined f i.0.op h.one h.other i.2 in
      record {
        at = at;
        instr = i.0;
        one = h.one;
        other = h.other;
        here = i.1;
        joined = i.2;
        x_is = kind_of h.one x like.1 h.x_is;
        y_is = kind_of h.other y like.2 h.y_is;
      }

  passed_begins : (at x y : ℕ) → PassedHere code f at x y → JoinsPassed code f (slice_get (kinds_of code f)) x y
  passed_begins at x y h = record {
    at = at;
    call = h.call;
    callee = h.callee;
    number = h.number;
    actual = h.passes.actual;
    here = h.here;
    outer = h.passes.outer;
    passes = h.passes.passes;
    pointer_like = h.passes.pointer_like;
    x_is =
        ap (slice_get (kinds_of code f)) h.passes.x_is
        ∙ kinds_call at h.call h.callee h.here (length f.body) h.number (call_within at h.call h.callee h.here)
        (outer_width h.callee h.number h.passes.outer);
    y_is = kind_of h.passes.actual y h.passes.pointer_like h.passes.y_is;
  }

  pub begins : (at x y : ℕ) → BeginsHere code f at x y → JoinsAtFirst code f (slice_get (kinds_of code f)) x y
  begins at x y h = ⊎_elim (λ o. inl (own_begins at x y o)) (λ p. inr (passed_begins at x y p)) h

-- ---- a call joins nothing by itself

call_joins_none : (op : Op) (call : CallParts) → call_of_op op ≡ Some call → op_joins op ≡ None
call_joins_none (Call to n from) call e = refl
call_joins_none (Go n from) call e = refl
call_joins_none (Do to action from) call e = absurd (none-some call e)
call_joins_none (Print pieces from) call e = absurd (none-some call e)
call_joins_none (Jump target) call e = absurd (none-some call e)
call_joins_none (Branch test target other) call e = absurd (none-some call e)
call_joins_none (Return value) call e = absurd (none-some call e)

pub no_own_in_call : (code : Tac) (f : TacFn) (at : ℕ) (call : CallParts) (callee : TacFn)
    → call_and_callee_at code f at ≡ Some (call, callee)
    → own_in f (slice_get f.body at) ≡ None
no_own_in_call code f at call callee here =
    let c = call_here code f at call callee here in
    ap (own_in f) c.here ∙ ap (if_pointer_like f) (call_joins_none c.instr.op call c.calls)
