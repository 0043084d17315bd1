-- Checked code gives the facts that the steps ask for. The fourteen rules speak of whole code; here each becomes a fact on one
-- instruction (`IsRuled`), so that no other file takes the rules apart.
use Rattle.std.proofs.Common.{◌≡◌, ◌≢◌, ℕ, zero, suc, ◌+◌, ◌<◌, Bool, true, false, List, [], ◌∷◌, ◌++◌, length, Option}
use Rattle.std.proofs.Common.{Some, None, is_some, refl, sym, ap, ◌∙◌, subst, nat_eq, if◌then◌else◌, arith, ◌⊎◌, inl}
use Rattle.std.proofs.Common.{inr, true≢false, slice_get, Contains, option_map}
use Rattle.std.proofs.lemmas.Option.{slice_get_within, same_Some, slice_get-map}
use Rattle.std.proofs.lemmas.List.Elements.{Contains-append_cases}
use Rattle.std.proofs.lemmas.List.{length-map}
use Rattle.std.specs.List.{list_any}
use Rattle.rgo_sound.proofs.Places.{contains_get, get_contains, contains_here, contains_there, contains_cases}
use Rattle.rgo_sound.proofs.Places.{contains_nil, contains_one, get_some}
use Rattle.rgo_sound.proofs.Tests.{split, eq_of}
use Rattle.rgo_sound.proofs.names.Edges.{asked_names}
use Rattle.rgo_sound.proofs.duties.Instructs.{IsRuled}
use Rattle.rgo_code.specs.Checked.{IsChecked}
use Rattle.rgo_code.specs.ClassRules.{CallPasses, CallsPass, IsPassedFor, PassesClasses, StartPasses, StartsPass}
use Rattle.rgo_code.specs.Code.{Branch, Call, Code, CodeFn, CodeInstr, CodeOp, Do, Go, Jump, Print, Return, Slot}
use Rattle.rgo_code.specs.Erasure.{erased, erased_fn, erased_instr, erased_op}
use Rattle.rgo_code.specs.Exists.{CallExists, InstrExists, OpExists, StartExists, UsesVariable, leaves}
use Rattle.rgo_code.specs.NameRules.{Ascends, ProtectsUsed}
use Rattle.rgo_code.specs.Names.{UsesRegionName, class_of, distinct_names, edges, is_class_named, parameter_classes, region_parameters}
use Rattle.rgo_code.specs.Names.{result_class, slot_class}
use Rattle.rgo_region_machine.specs.Owed.{current, current_in, function_at, code_function, regions_named}
use Rattle.rgo_sound.specs.Invariant.{HasInstr}
use Rattle.rgo_tac.specs.Code.{TacFn}
use Rattle.rgo_tac.specs.Frames.{TacFrame}
use Rattle.rgo_tac.specs.declared.regions.Class.{Class}
use Rattle.rgo_tac.specs.declared.regions.Class.TheVariants.{Global, Name, NoClass}
use Rattle.rgo_code.specs.declared.rules.Line.TheVariants as line
use Rattle.rgo_code.specs.declared.rules.Rule.TheVariants as rule

-- ---- functions of the erased code

-- a function of the erased code is one of the code, erased
pub erased_function : (code : Code) (n : ℕ) (f : TacFn) → slice_get (erased code).functions n ≡ Some f → (g : CodeFn)
    × (code_function code n ≡ Some g) × (f ≡ erased_fn g)
erased_function code n f e = go (code_function code n) refl
  where
    is : slice_get (erased code).functions n ≡ option_map erased_fn (code_function code n)
    is = slice_get-map erased_fn code.functions n

    go : (o : Option CodeFn) → code_function code n ≡ o → (g : CodeFn) × (code_function code n ≡ Some g) × (f ≡ erased_fn g)
    go None q = let x : Some f ≡ None = sym e ∙ is ∙ ap (option_map erased_fn) q in cc
    go (Some g) q = (g, q, same_Some f (erased_fn g) (sym e ∙ is ∙ ap (option_map erased_fn) q))

-- and each function of the code is in the erased code
pub erased_found : (code : Code) (n : ℕ) (g : CodeFn) → code_function code n ≡ Some g
    → slice_get (erased code).functions n ≡ Some (erased_fn g)
erased_found code n g e = slice_get-map erased_fn code.functions n ∙ ap (option_map erased_fn) e

-- ---- the function that a call or a `go` names

-- the first rule, on a call
pub record CallIsThere (code : Code) (to : Option ℕ) (n : ℕ) (from : List ℕ) : Type 0 where
  pub callee : CodeFn
  pub found : code_function code n ≡ Some callee
  pub arguments_fit : length from ≡ callee.params
  pub value_fits : is_some to ≡ is_some callee.result

-- and on a `go`; that its function has no result is a matter of the rule on starts
pub record StartIsThere (code : Code) (n : ℕ) (from : List ℕ) : Type 0 where
  pub callee : CodeFn
  pub found : code_function code n ≡ Some callee
  pub arguments_fit : length from ≡ callee.params

pub call_is_there : (code : Code) (to : Option ℕ) (n : ℕ) (from : List ℕ) → CallExists (erased code) to n from
    → CallIsThere code to n from
call_is_there code to n from x = go (erased_function code n x.callee x.declared)
  where
    result : (r : Option Slot) → is_some (option_map (λ (s : Slot). s.ty) r) ≡ is_some r
    result None = refl
    result (Some s) = refl

    go : (g : CodeFn) × (code_function code n ≡ Some g) × (x.callee ≡ erased_fn g) → CallIsThere code to n from
    go (g, found, is) = record {
      callee = g;
      found = found;
      arguments_fit = x.arguments ∙ ap (λ (f : TacFn). f.params) is;
      value_fits = x.target ∙ ap (λ (f : TacFn). is_some f.result_type) is ∙ result g.result;
    }

pub start_is_there : (code : Code) (n : ℕ) (from : List ℕ) → StartExists (erased code) n from → StartIsThere code n from
start_is_there code n from x = go (erased_function code n x.callee x.declared)
  where
    go : (g : CodeFn) × (code_function code n ≡ Some g) × (x.callee ≡ erased_fn g) → StartIsThere code n from
    go (g, found, is) = record {
      callee = g;
      found = found;
      arguments_fit =
          x.arguments ∙ ap (λ (f : TacFn). f.params) is;
    }

-- ---- the instruction of a frame

-- the next instruction of a frame is one of its function
pub record IsAt (code : Code) (frame : TacFrame) (instr : CodeInstr) : Type 0 where
  pub fn : CodeFn
  pub is_fn : function_at code frame ≡ Some fn
  pub is_instr : HasInstr fn frame.next instr

pub is_at : (code : Code) (frame : TacFrame) (instr : CodeInstr) → current code frame ≡ Some instr → IsAt code frame instr
is_at code frame instr e = go (function_at code frame) refl
  where
    go : (o : Option CodeFn) → function_at code frame ≡ o → IsAt code frame instr
    go None q = let x : None ≡ Some instr = sym (ap (λ o. current_in o frame.next) q) ∙ e in cc
    go (Some fn) q = record { fn = fn; is_fn = q; is_instr = sym (ap (λ o. current_in o frame.next) q) ∙ e }

-- ---- a function's region parameters are classes of its parameters, or its result's

-- each of the distinct names is one of the classes, and a name
pub distinct_member : (seen cs : List Class) (p : ℕ) (c : Class) → slice_get (distinct_names seen cs) p ≡ Some c
    → Contains cs c × ((m : ℕ) × (c ≡ Name m))
distinct_member seen [] p c e = cc
distinct_member seen (NoClass ∷ cs) p c e = let x = distinct_member seen cs p c e in
    (contains_there NoClass cs c x.0, x.1)
distinct_member seen (Global ∷ cs) p c e = let x = distinct_member seen cs p c e in
    (contains_there Global cs c x.0, x.1)
distinct_member seen (Name k ∷ cs) p c e = go (list_any (is_class_named k) seen) p e (λ p' e'. distinct_member seen cs p' c e')
    (λ p' e'. distinct_member (Name k ∷ seen) cs p' c e')
  where
    go : (b : Bool) (p : ℕ) → slice_get (if b then distinct_names seen cs else Name k ∷ distinct_names (Name k ∷ seen)
        cs) p ≡ Some c → ((p' : ℕ) → slice_get (distinct_names seen cs) p' ≡ Some c → Contains cs c
        × ((m : ℕ) × (c ≡ Name m))) → ((p' : ℕ) → slice_get (distinct_names (Name k ∷ seen) cs) p' ≡ Some c
        → Contains cs c × ((m : ℕ) × (c ≡ Name m))) → Contains (Name k ∷ cs) c × ((m : ℕ) × (c ≡ Name m))
    go true p e one two = let x = one p e in (contains_there (Name k) cs c x.0, x.1)
    go false zero e one two = (
      subst (λ x. Contains (Name k ∷ cs) x) (same_Some (Name k) c e)
          (contains_here (Name k) cs),
      (k, sym (same_Some (Name k) c e)),
    )
    go false (suc p) e one two = let x = two p e in (contains_there (Name k) cs c x.0, x.1)

-- a parameter's class is that of a variable below the number of parameters, and the other way round
pub parameter_member : (n : ℕ) (slots : List Slot) (c : Class) → Contains (parameter_classes n slots) c → (i : ℕ)
    × (i < n) × (slot_class (slice_get slots i) ≡ c)
parameter_member zero slots c e = absurd (contains_nil c e)
parameter_member (suc n) [] c e = absurd (contains_nil c e)
parameter_member (suc n) (s ∷ slots) c e = go (contains_cases s.class (parameter_classes n slots) c e)
    (λ d. parameter_member n slots c d)
  where
    go : (s.class ≡ c) ⊎ Contains (parameter_classes n slots) c
        → (Contains (parameter_classes n slots) c → (i : ℕ) × (i < n) × (slot_class (slice_get slots i) ≡ c)) → (i : ℕ)
        × (i < suc n) × (slot_class (slice_get (s ∷ slots) i) ≡ c)
    go (inl q) next = (zero, omega arith, q)
    go (inr d) next = let x = next d in (suc x.0, omega (arith, x.1), x.2)

-- the class of a parameter is listed
pub parameter_listed : (n : ℕ) (slots : List Slot) (i k : ℕ) → i < n → slot_class (slice_get slots i) ≡ Name k
    → Contains (parameter_classes n slots) (Name k)
parameter_listed zero slots i k h e = absurd (omega (arith, h))
parameter_listed (suc n) [] i k h e = cc
parameter_listed (suc n) (s ∷ slots) zero k h e = subst (λ x. Contains (s.class ∷ parameter_classes n slots) x) e
    (contains_here s.class (parameter_classes n slots))
parameter_listed (suc n) (s ∷ slots) (suc i) k h e = contains_there s.class (parameter_classes n slots) (Name k)
    (parameter_listed n slots i k (omega (arith, h)) e)

-- ---- what a call or a `go` passes is the class of a variable that it names

-- the class is that of an argument, or of the target
passed_is_named : (fn g : CodeFn) (to : Option ℕ) (arguments : List ℕ) (regions : List Class) (k : ℕ) → length arguments
    ≡ g.params → is_some to ≡ is_some g.result → PassesClasses fn g to arguments regions → Contains regions (Name k)
    → ((v : ℕ) × Contains arguments v × (class_of fn v ≡ Name k)) ⊎ ((d : ℕ) × (to ≡ Some d) × (class_of fn d ≡ Name k))
passed_is_named fn g to arguments regions k args res passes c =
    at (contains_get regions (Name k) c)
  where
    at : (p : ℕ) × (slice_get regions p ≡ Some (Name k)) → ((v : ℕ) × Contains arguments v × (class_of fn v ≡ Name k))
        ⊎ ((d : ℕ) × (to ≡ Some d) × (class_of fn d ≡ Name k))
    at (p, e) = formal (get_some (region_parameters g) p (let x = slice_get_within regions p (Name k) e in let y =
        passes.len in omega (arith, x, y)))
      where
        formal : (f : Class) × (slice_get (region_parameters g) p ≡ Some f)
            → ((v : ℕ) × Contains arguments v × (class_of fn v ≡ Name k))
            ⊎ ((d : ℕ) × (to ≡ Some d) × (class_of fn d ≡ Name k))
        formal (f, q) = of (Contains-append_cases (parameter_classes g.params g.variables) (result_class g ∷ []) f m.0)
          where
            m : Contains (parameter_classes g.params g.variables ++ result_class g ∷ []) f × ((j : ℕ) × (f ≡ Name j))
            m = distinct_member [] (parameter_classes g.params g.variables ++ result_class g ∷ []) p f q

            fits : (actual c : Class) → c ≡ f → IsPassedFor (region_parameters g) regions c actual → actual ≡ Name k
            fits actual c is h =
                let h' : IsPassedFor (region_parameters g) regions (Name m.1.0) actual =
                subst (λ x. IsPassedFor (region_parameters g) regions x actual) (is ∙ m.1.1) h in
                same_Some actual (Name k) (sym (h' p (q ∙ ap Some m.1.1)) ∙ e)

            result : (r : Option Slot) → g.result ≡ r → slot_class r ≡ f → (o : Option ℕ) → to ≡ o → (d : ℕ)
                × (to ≡ Some d)
            result None gr is o t = let x : NoClass ≡ Name m.1.0 = is ∙ m.1.1 in cc
            result (Some s) gr is None t = let x : is_some {T = ℕ} None ≡ is_some (Some s) =
                ap is_some (sym t) ∙ res ∙ ap is_some gr in absurd (true≢false (sym x))
            result (Some s) gr is (Some d) t = (d, t)

            of : Contains (parameter_classes g.params g.variables) f ⊎ Contains (result_class g ∷ []) f
                → ((v : ℕ) × Contains arguments v × (class_of fn v ≡ Name k))
                ⊎ ((d : ℕ) × (to ≡ Some d) × (class_of fn d ≡ Name k))
            of (inl d) =
                let i = parameter_member g.params g.variables f d in
                let v = get_some arguments i.0 (let x = i.1 in omega (arith, x, args)) in
                inl (
                  v.0,
                  get_contains arguments i.0 v.0 v.1,
                  fits (class_of fn v.0) (class_of g i.0) i.2
                      (passes.arguments i.0 v.0 i.1 v.1),
                )
            of (inr d) =
                let is : result_class g ≡ f = contains_one (result_class g) f d in
                let t = result g.result refl is to refl in
                inr (t.0, t.1, fits (class_of fn t.0) (result_class g) is (passes.result t.0 t.1))

-- ---- from the rules

regions_contain : (regions : List Class) (k : ℕ) → Contains (regions_named regions) k → Contains regions (Name k)
regions_contain [] k c = absurd (contains_nil k c)
regions_contain (Name j ∷ regions) k c = go (contains_cases j (regions_named regions) k c)
    (λ d. regions_contain regions k d)
  where
    go : (j ≡ k) ⊎ Contains (regions_named regions) k → (Contains (regions_named regions) k → Contains regions (Name k))
        → Contains (Name j ∷ regions) (Name k)
    go (inl e) next = subst (λ x. Contains (Name j ∷ regions) (Name x)) e (contains_here (Name j) regions)
    go (inr d) next = contains_there (Name j) regions (Name k) (next d)
regions_contain (Global ∷ regions) k c = contains_there Global regions (Name k) (regions_contain regions k c)
regions_contain (NoClass ∷ regions) k c = contains_there NoClass regions (Name k) (regions_contain regions k c)

-- what an instruction shares or protects, it names
asked_named : (code : Code) (fn : CodeFn) (i : ℕ) (instr : CodeInstr) (op : CodeOp) → instr.op ≡ op
    → OpExists (erased code) (erased_fn fn) (erased_op op) → CallsPass code fn op → StartsPass code fn op
    → ProtectsUsed fn i op → (k : ℕ) → Contains (asked_names op) k → UsesRegionName fn instr.op k
asked_named code fn i instr (Call to n from passes protects removes) is exists calls starts rightly k c =
    go (passed_is_named fn there.callee to from passes k there.arguments_fit there.value_fits fits ((rightly k).0 c).0)
  where
    there : CallIsThere code to n from
    there = call_is_there code to n from exists

    fits : PassesClasses fn there.callee to from passes
    fits = subst (λ (o : Option CodeFn). CallPasses fn o to from passes) there.found calls

    go : ((v : ℕ) × Contains from v × (class_of fn v ≡ Name k)) ⊎ ((d : ℕ) × (to ≡ Some d) × (class_of fn d ≡ Name k))
        → UsesRegionName fn instr.op k
    go (inl (v, a, q)) = record { variable = v; used = subst (λ x. UsesVariable (erased_op x) v) (sym is) (inl a); named = q }
    go (inr (d, a, q)) = record { variable = d; used = subst (λ x. UsesVariable (erased_op x) d) (sym is) (inr a); named = q }
asked_named code fn i instr (Go n from passes removes) is exists calls starts rightly k c =
    go (passed_is_named fn there.callee None from passes k there.arguments_fit (ap is_some (sym fits.0)) fits.1
    (regions_contain passes k c))
  where
    there : StartIsThere code n from
    there = start_is_there code n from exists

    fits : (there.callee.result ≡ None) × PassesClasses fn there.callee None from passes
    fits = subst (λ (o : Option CodeFn). StartPasses fn o from passes) there.found starts

    go : ((v : ℕ) × Contains from v × (class_of fn v ≡ Name k)) ⊎ ((d : ℕ) × (None ≡ Some d) × (class_of fn d ≡ Name k))
        → UsesRegionName fn instr.op k
    go (inl (v, a, q)) = record { variable = v; used = subst (λ x. UsesVariable (erased_op x) v) (sym is) (inl a); named = q }
    go (inr (d, a, q)) = cc
asked_named code fn i instr (Do to action from removes) is exists calls starts p k c = absurd (contains_nil k c)
asked_named code fn i instr (Print pieces from removes) is exists calls starts p k c = absurd (contains_nil k c)
asked_named code fn i instr (Jump j removes) is exists calls starts p k c = absurd (contains_nil k c)
asked_named code fn i instr (Branch v j removes j' others) is exists calls starts p k c = absurd (contains_nil k c)
asked_named code fn i instr (Return value) is exists calls starts p k c = absurd (contains_nil k c)

-- control continues at an instruction: a jump does not lead out of its function
next_is_there : (fn : CodeFn) (i j : ℕ) (code : Code) (instr : CodeInstr) (op : CodeOp) (removes : List ℕ) → instr.op
    ≡ op → HasInstr fn i instr → InstrExists (erased code) (erased_fn fn) i (erased_op instr.op)
    → Contains {X = ℕ × List ℕ} (edges op i) (j, removes) → j < length fn.body
next_is_there fn i j code instr op removes is here there c = go op is c
  where
    below : i < length fn.body
    below = slice_get_within fn.body i instr here

    as_long : length (erased_fn fn).body ≡ length fn.body
    as_long = length-map fn.body erased_instr

    straight : leaves (erased_op instr.op) ≡ false → (x : List ℕ)
        → Contains {X = ℕ × List ℕ} ((i + 1, x) ∷ []) (j, removes) → j < length fn.body
    straight f x c = decide (eq_or (i + 1) (length fn.body))
      where
        to : i + 1 ≡ j
        to = ap (λ (p : ℕ × List ℕ). p.0) (contains_one {X = ℕ × List ℕ} (i + 1, x) (j, removes) c)

        eq_or : (a b : ℕ) → (a ≡ b) ⊎ (a ≢ b)
        eq_or a b = split (nat_eq a b) (λ t. inl (eq_of a b t)) (λ n. inr (λ e. differs a b n e))
          where
            differs : (a b : ℕ) → nat_eq a b ≡ false → a ≡ b → ⊥
            differs a b n e = grind arith

        decide : (i + 1 ≡ length fn.body) ⊎ (i + 1 ≢ length fn.body) → j < length fn.body
        decide (inl e) = absurd (true≢false (sym (there.last (e ∙ sym as_long)) ∙ f))
        decide (inr n) = omega (arith, below, n, to)

    target : (o : CodeOp) → instr.op ≡ o → OpExists (erased code) (erased_fn fn) (erased_op o)
    target o e = subst (λ x. OpExists (erased code) (erased_fn fn) (erased_op x)) e there.exists

    within : (t : ℕ) → t ≡ j → t < length (erased_fn fn).body → j < length fn.body
    within t q h = omega (arith, q, h, as_long)

    go : (o : CodeOp) → instr.op ≡ o → Contains {X = ℕ × List ℕ} (edges o i) (j, removes) → j < length fn.body
    go (Do to action from x) e c = straight (ap (λ x. leaves (erased_op x)) e) x c
    go (Call to n from passes protects x) e c = straight (ap (λ x. leaves (erased_op x)) e) x c
    go (Go n from passes x) e c = straight (ap (λ x. leaves (erased_op x)) e) x c
    go (Print pieces from x) e c = straight (ap (λ x. leaves (erased_op x)) e) x c
    go (Jump t x) e c = let q : t ≡ j = ap (λ (p : ℕ × List ℕ). p.0)
        (contains_one {X = ℕ × List ℕ} (t, x) (j, removes) c) in within t q (target (Jump t x) e)
    go (Branch v t x u y) e c = by (contains_cases {X = ℕ × List ℕ} (t, x) ((u, y) ∷ []) (j, removes) c)
      where
        by : (◌≡◌ {A = ℕ × List ℕ} (t, x) (j, removes)) ⊎ Contains {X = ℕ × List ℕ} ((u, y) ∷ []) (j, removes)
            → j < length fn.body
        by (inl q) = within t (ap (λ (p : ℕ × List ℕ). p.0) q) (target (Branch v t x u y) e).0
        by (inr d) = within u (ap (λ (p : ℕ × List ℕ). p.0) (contains_one {X = ℕ × List ℕ} (u, y) (j, removes) d))
            (target (Branch v t x u y) e).1
    go (Return value) e c = absurd (contains_nil {X = ℕ × List ℕ} (j, removes) c)

-- checked code has the facts of the rules at each instruction
pub ruled : (code : Code) → IsChecked code → Ascends code → IsRuled code
ruled code checked written =
    record {
      kept = λ n i fn instr is here. record {
        here = here;
        creates = checked rule.Creations (line.Instr n i) fn instr is here;
        removes = checked rule.Removals (line.Instr n i) fn instr is here;
        protects = checked rule.Protections (line.Instr n i) fn instr is here;
        written = (written n fn is).body i instr here;
        asked = asked_named code fn i instr instr.op refl (checked rule.Exists (line.Instr n i) fn instr is here).exists
            (checked rule.Calls (line.Instr n i) fn instr is here)
            (checked rule.Starts (line.Instr n i) fn instr is here)
            (checked rule.Protections (line.Instr n i) fn instr is here);
      };
      goes_on = λ n i j fn instr removes is here c. get_some fn.body j
          (next_is_there fn i j code instr instr.op removes refl here
          (checked rule.Exists (line.Instr n i) fn instr is here) c);
    }
