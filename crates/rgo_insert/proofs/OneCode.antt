-- Three-address code with given classes has one code that keeps the rules.
use Rattle.std.proofs.Common.{◌≡◌, ◌≤◌, ℕ, List, [], ◌∷◌, map, length, Option, Some, None, slice_get, refl, sym, ap, ◌∙◌, subst, arith}
use Rattle.std.specs.Prelude.{is_some}
use Rattle.std.specs.Option.{option_map}
use Rattle.std.proofs.lemmas.List.{length-map}
use Rattle.std.proofs.lemmas.Option.{same_Some, none-some, slice_get-map}
use Rattle.rgo_tac.specs.declared.regions.Class.{Class}
use Rattle.rgo_tac.specs.Code as tac
use Rattle.rgo_classes.specs.declared.classes.Classes.{Classes}
use Rattle.rgo_tac.specs.Code.{Instr, Op, TacFn, Tac}
use Rattle.rgo_code.specs.declared.rules.Line.TheVariants as line
use Rattle.rgo_code.specs.declared.rules.Rule.TheVariants as rule
use Rattle.rgo_code.specs.Checked.{IsChecked}
use Rattle.rgo_code.specs.ClassRules.{CallPasses, StartPasses}
use Rattle.rgo_code.specs.Code.{Code, CodeFn, CodeInstr, Slot}
use Rattle.rgo_code.specs.Erasure.{erased, erased_fn, erased_instr, erased_op}
use Rattle.rgo_code.specs.Exists.{OpExists}
use Rattle.rgo_code.specs.Lists.{passes_of}
use Rattle.rgo_code.specs.Names.{slot_class}
use Rattle.rgo_code.specs.NameRules.{Ascends}
use Rattle.rgo_region_sets.proofs.SameLists.{same_list}
use Rattle.rgo_insert.specs.Inserted.{classes_in}
use Rattle.rgo_insert.specs.Laws.{HaveSameClasses, OneCode}
use Rattle.rgo_insert.proofs.Alike.{AreAlike, AreLikeCallees, holds, like_none, like_some, own, parameter_name}
use Rattle.rgo_insert.proofs.OneInstr.{PassesAt, one_instr, passes_at}
use Rattle.rgo_insert.proofs.OnePassing.{IsCalled, lists_same, one_passing}

-- ---- functions with the same types and classes

slots_same : (xs ys : List Slot) → map (λ s. s.ty) xs ≡ map (λ s. s.ty) ys
    → map (λ s. s.class) xs ≡ map (λ s. s.class) ys → xs ≡ ys
slots_same [] [] t c = refl
slots_same [] (y ∷ ys) t c = absurd cc
slots_same (x ∷ xs) [] t c = absurd cc
slots_same (x ∷ xs) (y ∷ ys) t c =
    let ty : x.ty ≡ y.ty = cc in
    let class : x.class ≡ y.class = cc in
    let types : map (λ (s : Slot). s.ty) xs ≡ map (λ (s : Slot). s.ty) ys = cc in
    let classes : map (λ (s : Slot). s.class) xs ≡ map (λ (s : Slot). s.class) ys = cc in
    ap (λ z. record { ty = z; class = x.class } ∷ xs) ty
    ∙ ap (λ z. record { ty = y.ty; class = z } ∷ xs) class
    ∙ ap (λ zs. y ∷ zs) (slots_same xs ys types classes)

result_same : (x y : Option Slot) → option_map (λ s. s.ty) x ≡ option_map (λ s. s.ty) y
    → slot_class x ≡ slot_class y → x ≡ y
result_same None None t c = refl
result_same None (Some y) t c = absurd cc
result_same (Some x) None t c = absurd cc
result_same (Some x) (Some y) t c =
    ap (λ z. Some (record { ty = z; class = x.class })) (same_Some x.ty y.ty t)
    ∙ ap (λ z. Some (record { ty = y.ty; class = z })) c

abbrev fn_of : List ℕ → ℕ → Option Slot → List Slot → List ℕ → List CodeInstr → CodeFn
fn_of name params result variables entry body = record {
  name = name;
  params = params;
  result = result;
  variables = variables;
  entry = entry;
  body = body;
}

fn_alike : (f g : CodeFn) → erased_fn f ≡ erased_fn g → classes_in f ≡ classes_in g → AreAlike f g
fn_alike f g e c = record {
  params = ap (λ (t : TacFn). t.params) e;
  result = result_same f.result g.result (ap (λ (t : TacFn). t.result_type) e) (ap (λ (k : Classes). k.result) c);
  variables = slots_same f.variables g.variables (ap (λ (t : TacFn). t.variables) e)
      (ap (λ (k : Classes). k.variables) c);
  tac = e;
}

some_of_map : {A B : Type 0} (h : A → B) (o : Option A) (y : B) → option_map h o ≡ Some y
    → (x : A) × (o ≡ Some x) × (h x ≡ y)
some_of_map h None y e = absurd (none-some y e)
some_of_map h (Some x) y e = (x, refl, same_Some (h x) y e)

-- an item of the list of which this is the image
item_of_map : {A B : Type 0} (h : A → B) (xs : List A) (n : ℕ) (y : B) → slice_get (map h xs) n ≡ Some y
    → (x : A) × (slice_get xs n ≡ Some x) × (h x ≡ y)
item_of_map h xs n y e = some_of_map h (slice_get xs n) y (sym (slice_get-map h xs n) ∙ e)

module _ (a b : Code) (a_checked : IsChecked a) (b_checked : IsChecked b) (a_ascends : Ascends a)
    (b_ascends : Ascends b) (erasure : erased a ≡ erased b) (undeclared : a.undeclared ≡ b.undeclared)
    (classes : HaveSameClasses a b) where
  fns_erased : map erased_fn a.functions ≡ map erased_fn b.functions
  fns_erased = ap (λ (t : Tac). t.functions) erasure

  alike : (n : ℕ) (f g : CodeFn) → slice_get a.functions n ≡ Some f → slice_get b.functions n ≡ Some g → AreAlike f g
  alike n f g at_f at_g =
      fn_alike f g
      (same_Some (erased_fn f) (erased_fn g)
      (sym (slice_get-map erased_fn a.functions n ∙ ap (option_map erased_fn) at_f)
      ∙ ap (λ l. slice_get l n) fns_erased
      ∙ slice_get-map erased_fn b.functions n ∙ ap (option_map erased_fn) at_g))
      (classes n f g at_f at_g)

  no_item : (h : CodeFn → TacFn) (o : Option CodeFn) → option_map h o ≡ None → o ≡ None
  no_item h None e = refl
  no_item h (Some x) e = absurd (none-some (h x) (sym e))

  other : (n : ℕ) (f : CodeFn) → slice_get a.functions n ≡ Some f → (g : CodeFn) × (slice_get b.functions n ≡ Some g)
  other n f at_f =
      let i = item_of_map erased_fn b.functions n (erased_fn f)
      (ap (λ l. slice_get l n) (sym fns_erased) ∙ slice_get-map erased_fn a.functions n
      ∙ ap (option_map erased_fn) at_f) in
      (i.0, i.1)

  no_other : (n : ℕ) → slice_get a.functions n ≡ None → slice_get b.functions n ≡ None
  no_other n none =
      no_item erased_fn (slice_get b.functions n)
      (sym (slice_get-map erased_fn b.functions n) ∙ ap (λ l. slice_get l n) (sym fns_erased)
      ∙ slice_get-map erased_fn a.functions n ∙ ap (option_map erased_fn) none)

  like_callees : (n : ℕ) → AreLikeCallees (slice_get a.functions n) (slice_get b.functions n)
  like_callees n = by (slice_get a.functions n) refl
    where
      by : (o : Option CodeFn) → slice_get a.functions n ≡ o
          → AreLikeCallees (slice_get a.functions n) (slice_get b.functions n)
      by None none =
          subst (λ x. AreLikeCallees x (slice_get b.functions n)) (sym none)
          (subst (λ y. AreLikeCallees None y) (sym (no_other n none)) like_none)
      by (Some f) some =
          let g = other n f some in
          subst (λ x. AreLikeCallees x (slice_get b.functions n)) (sym some)
          (subst (λ y. AreLikeCallees (Some f) y) (sym g.1) (like_some f g.0 (alike n f g.0 some g.1)))

  -- ---- what is passed

  is_some_of_map : (o : Option Slot) → is_some (option_map (λ s. s.ty) o) ≡ is_some o
  is_some_of_map None = refl
  is_some_of_map (Some s) = refl

  fits : (n : ℕ) (one : CodeFn) → slice_get a.functions n ≡ Some one → one.params ≤ length one.variables
  fits n one at =
      let head = a_checked rule.Exists (line.Function n) one at in
      omega (arith, head.params, length-map one.variables (λ (s : Slot). s.ty))

  -- the function of the code that is called
  callee_of : (n : ℕ) (callee : TacFn) → slice_get (erased a).functions n ≡ Some callee
      → (one : CodeFn) × (slice_get a.functions n ≡ Some one) × (erased_fn one ≡ callee)
  callee_of n callee e = item_of_map erased_fn a.functions n callee e

  module _ (f g : CodeFn) (like : AreAlike f g) where
    passes_same : (op : Op) → OpExists (erased a) (erased_fn f) op → (p q : List Class) → PassesAt a f op p
        → PassesAt b g op q → p ≡ q
    passes_same (tac.Do to action from) exists p q x y = x ∙ sym y
    passes_same (tac.Call to n from) exists p q x y =
        let one = callee_of n exists.callee exists.declared in
        let there = other n one.0 one.1 in
        let called : IsCalled one.0 (record { to = to; function = n; from = from }) = record {
          arguments = exists.arguments ∙ sym (ap (λ (t : TacFn). t.params) one.2);
          params = fits n one.0 one.1;
          target = exists.target ∙ sym (ap (λ (t : TacFn). is_some t.result_type) one.2) ∙ is_some_of_map one.0.result;
        } in
        one_passing f g one.0 there.0 (record { to = to; function = n; from = from }) like
        (alike n one.0 there.0 one.1 there.1) called p q
        (subst (λ o. CallPasses f o to from p) one.1 x) (subst (λ o. CallPasses g o to from q) there.1 y)
    passes_same (tac.Go n from) exists p q x y =
        let one = callee_of n exists.callee exists.declared in
        let there = other n one.0 one.1 in
        let px = subst (λ o. StartPasses f o from p) one.1 x in
        let py = subst (λ o. StartPasses g o from q) there.1 y in
        let called : IsCalled one.0 (record { to = None; function = n; from = from }) = record {
          arguments = exists.arguments ∙ sym (ap (λ (t : TacFn). t.params) one.2);
          params = fits n one.0 one.1;
          target = ap is_some (sym px.0);
        } in
        one_passing f g one.0 there.0 (record { to = None; function = n; from = from }) like
        (alike n one.0 there.0 one.1 there.1) called p q px.1 py.1
    passes_same (tac.Print pieces from) exists p q x y = x ∙ sym y
    passes_same (tac.Jump target) exists p q x y = x ∙ sym y
    passes_same (tac.Branch test target other) exists p q x y = x ∙ sym y
    passes_same (tac.Return value) exists p q x y = x ∙ sym y

  -- ---- one function

  module _ (n : ℕ) (f g : CodeFn) (at_f : slice_get a.functions n ≡ Some f)
      (at_g : slice_get b.functions n ≡ Some g) where
    like : AreAlike f g
    like = alike n f g at_f at_g

    instr_same : (i : ℕ) (x y : CodeInstr) → slice_get f.body i ≡ Some x → slice_get g.body i ≡ Some y → x ≡ y
    instr_same i x y at_x at_y =
        let erasure : erased_instr x ≡ erased_instr y =
        same_Some (erased_instr x) (erased_instr y)
        (sym (slice_get-map erased_instr f.body i ∙ ap (option_map erased_instr) at_x)
        ∙ ap (λ (t : TacFn). slice_get t.body i) like.tac
        ∙ slice_get-map erased_instr g.body i ∙ ap (option_map erased_instr) at_y) in
        let ops : erased_op x.op ≡ erased_op y.op = ap (λ (z : Instr). z.op) erasure in
        let passes = passes_same f g like (erased_op y.op)
        (subst (OpExists (erased a) (erased_fn f)) ops (a_checked rule.Exists (line.Instr n i) f x at_f at_x).exists)
        (passes_of x.op) (passes_of y.op)
        (subst (λ o. PassesAt a f o (passes_of x.op)) ops (passes_at a f x.op
        (a_checked rule.Calls (line.Instr n i) f x at_f at_x) (a_checked rule.Starts (line.Instr n i) f x at_f at_x)))
        (passes_at b g y.op
        (b_checked rule.Calls (line.Instr n i) g y at_g at_y) (b_checked rule.Starts (line.Instr n i) g y at_g at_y)) in
        one_instr a b f g i x y like like_callees erasure passes
        (record {
          creates = a_checked rule.Creations (line.Instr n i) f x at_f at_x;
          protects = a_checked rule.Protections (line.Instr n i) f x at_f at_x;
          removes = a_checked rule.Removals (line.Instr n i) f x at_f at_x;
          ascends = (a_ascends n f at_f).body i x at_x;
        })
        (record {
          creates = b_checked rule.Creations (line.Instr n i) g y at_g at_y;
          protects = b_checked rule.Protections (line.Instr n i) g y at_g at_y;
          removes = b_checked rule.Removals (line.Instr n i) g y at_g at_y;
          ascends = (b_ascends n g at_g).body i y at_y;
        })

    body_same : f.body ≡ g.body
    body_same = lists_same f.body g.body
        (sym (length-map f.body erased_instr) ∙ ap (λ (t : TacFn). length t.body) like.tac
        ∙ length-map g.body erased_instr)
        instr_same

    entry_same : f.entry ≡ g.entry
    entry_same = same_list f.entry g.entry (a_ascends n f at_f).entry (b_ascends n g at_g).entry (λ k.
        let x = a_checked rule.Removals (line.Entry n) f at_f k in
        let y = b_checked rule.Removals (line.Entry n) g at_g k in
        let o = own f g like k in
        let p = parameter_name f g like k in
        let h = holds f g like k 0 in (
          λ c. let r = x.0 c in y.1 (o.0 r.0, p.0 r.1, λ z. r.2 (h.1 z)),
          λ c. let r = y.0 c in x.1 (o.1 r.0, p.1 r.1, λ z. r.2 (h.0 z)),
        ))

    fn_same : f ≡ g
    fn_same =
        ap (λ x. fn_of x f.params f.result f.variables f.entry f.body) (ap (λ (t : TacFn). t.name) like.tac)
        ∙ ap (λ x. fn_of g.name x f.result f.variables f.entry f.body) like.params
        ∙ ap (λ x. fn_of g.name g.params x f.variables f.entry f.body) like.result
        ∙ ap (λ x. fn_of g.name g.params g.result x f.entry f.body) like.variables
        ∙ ap (λ x. fn_of g.name g.params g.result g.variables x f.body) entry_same
        ∙ ap (λ x. fn_of g.name g.params g.result g.variables g.entry x) body_same

  functions_same : a.functions ≡ b.functions
  functions_same = lists_same a.functions b.functions
      (sym (length-map a.functions erased_fn) ∙ ap length fns_erased ∙ length-map b.functions erased_fn) fn_same

  code_same : a ≡ b
  code_same =
      ap (λ x. record { structs = x; variables = a.variables; functions = a.functions; undeclared = a.undeclared })
      (ap (λ (t : Tac). t.structs) erasure)
      ∙ ap (λ x. record { structs = b.structs; variables = x; functions = a.functions; undeclared = a.undeclared })
      (ap (λ (t : Tac). t.variables) erasure)
      ∙ ap (λ x. record { structs = b.structs; variables = b.variables; functions = x; undeclared = a.undeclared })
      functions_same
      ∙ ap (λ x. record { structs = b.structs; variables = b.variables; functions = b.functions; undeclared = x })
      undeclared

pub one_code : OneCode
one_code a b a_checked b_checked a_ascends b_ascends erasure undeclared classes =
    code_same a b a_checked b_checked a_ascends b_ascends erasure undeclared classes
