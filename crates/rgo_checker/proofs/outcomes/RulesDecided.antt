-- Whether a rule is kept at a line is decided, for each rule and line: what a rule quantifies over is in a list, or bounded by one. No code
-- runs this; the logic has no excluded middle, and `SomeOutcome` needs it.
use Rattle.std.proofs.Common.{◌≡◌, ◌≢◌, ◌↔◌, ◌⊎◌, inl, inr, ℕ, zero, suc, ◌+◌, ◌<◌, List, [], ◌∷◌, ◌++◌, length, map, Option, Some, None, slice_get, refl, sym, ap, ◌∙◌, subst, codes, Contains}
use Rattle.std.proofs.lemmas.List.Elements.{Contains-append_left, Contains-append_right}
use Rattle.std.proofs.lemmas.Option.{same_Some, none-some, slice_get-map}
use Rattle.std.specs.Option.{option_map}
use Rattle.rgo_typed.specs.declared.programs.Struct.{Struct}
use Rattle.rgo_typed.specs.declared.programs.Variable.{Variable}
use Rattle.rgo_tac.specs.declared.regions.Class.{Class}
use Rattle.rgo_tac.specs.declared.regions.Class.TheVariants.{NoClass, Global, Name}
use Rattle.rgo_tac.specs.Code.{Op, TacFn}
use Rattle.rgo_tac.specs.Flow.{reads, writes}
use Rattle.rgo_code.specs.declared.rules.Line.{Line}
use Rattle.rgo_code.specs.declared.rules.Line.TheVariants as line
use Rattle.rgo_code.specs.declared.rules.Rule.{Rule}
use Rattle.rgo_code.specs.declared.rules.Rule.TheVariants as rule
use Rattle.rgo_code.specs.Checked.{KeptByInstr, KeptByEntry, KeptByHead, KeptBySlot, KeptByStruct, KeptByVariable, KeptByEnd, KeptAfterLast, KeptAt}
use Rattle.rgo_code.specs.ClassRules.{ResultFits, IsPassedFor, PassesClasses, CallPasses, StartPasses, CallsPass, StartsPass, EntryIsKnown}
use Rattle.rgo_code.specs.Code.{Slot, CodeOp, CodeInstr, CodeFn, Code, Do, Call, Go, Print, Jump, Branch, Return}
use Rattle.rgo_code.specs.Erasure.{erased_op, erased_fn, erased}
use Rattle.rgo_code.specs.Exists.{IsNew, HasMain, UsesVariable, StructExists, VariableExists, HeadExists}
use Rattle.rgo_code.specs.Lists.{removes_of, otherwise_of}
use Rattle.rgo_code.specs.NameRules.{CreatesUsed, ProtectsUsed, MayRemove, RemovesDead, EntryRemovesDead}
use Rattle.rgo_code.specs.Names.{slot_class, class_of, result_class, region_parameters, parameter_classes, IsParameterName, IsOwn, IsLiveName, Holds, UsesRegionName, callee_result, callee_regions, IsPassedForResult, LeavesToCallee, IsPassedTwice, edges}
use Rattle.rgo_flow.specs.Live.{Live}
use Rattle.rgo_checker.specs.ClassTests.{class_fits, joins_agree, globals_agree, return_agrees, is_free, lends, ends_empty}
use Rattle.rgo_checker.specs.Tests.{type_exists, types_exist, head_exists, instr_exists, op_fits}
use Rattle.rgo_checker.proofs.decides.ClassLaws.{class_fits_decided, joins_decided, globals_decided, return_decided}
use Rattle.rgo_checker.proofs.Decided.{Decided, by_test, like, both, one_of, negated, premised, same_number, is_less, same_bytes, one_class, is_some_of, is_none, each_in, each_at, some_at, SomeAt, contains_or_not, same_set}
use Rattle.rgo_checker.proofs.decides.ExistenceLaws.{type_decided, types_decided, head_decided, instr_decided}
use Rattle.rgo_checker.proofs.decides.LendingLaws.{lends_decided, entry_lends_decided, ends_decided}
use Rattle.rgo_checker.proofs.Listing.{contains_none, contains_here, contains_there, contains_cases}
use Rattle.rgo_checker.proofs.decides.LiveDecided.{live_or_not}
use Rattle.rgo_checker.proofs.decides.OperandLaws.{op_fits_decided}

-- ---- names of regions

-- the names among classes
abbrev with_name : Class → List ℕ → List ℕ
with_name (Name k) names = k ∷ names
with_name NoClass names = names
with_name Global names = names

abbrev names_among : List Class → List ℕ
names_among [] = []
names_among (c ∷ classes) = with_name c (names_among classes)

among_more : (c : Class) (names : List ℕ) (k : ℕ) → Contains names k → Contains (with_name c names) k
among_more (Name j) names k h = contains_there j names k h
among_more NoClass names k h = h
among_more Global names k h = h

named_among : (classes : List Class) (k : ℕ) → Contains classes (Name k) → Contains (names_among classes) k
named_among [] k h = absurd (contains_none (Name k) h)
named_among (c ∷ classes) k h = by (contains_cases c classes (Name k) h) (named_among classes k)
  where
    by : (c ≡ Name k) ⊎ Contains classes (Name k) → (Contains classes (Name k) → Contains (names_among classes) k)
        → Contains (with_name c (names_among classes)) k
    by (inl e) more =
        subst (λ d. Contains (with_name d (names_among classes)) k) (sym e) (contains_here k (names_among classes))
    by (inr h) more = among_more c (names_among classes) k (more h)

contains_at : {A : Type 0} (xs : List A) (i : ℕ) (a : A) → slice_get xs i ≡ Some a → Contains xs a
contains_at [] i a e = absurd (none-some a e)
contains_at (x ∷ xs) zero a e = subst (Contains (x ∷ xs)) (same_Some x a e) (contains_here x xs)
contains_at (x ∷ xs) (suc i) a e = contains_there x xs a (contains_at xs i a e)

has_name : (classes : List Class) (k : ℕ) → Decided (Contains classes (Name k))
has_name classes k = contains_or_not one_class classes (Name k)

-- the names of a function's variables
abbrev names_in : CodeFn → List ℕ
names_in f = names_among (map (λ s. s.class) f.variables)

-- the variables of a class
record HasClass (f : CodeFn) (v k : ℕ) : Type 0 where
  slot : Slot
  here : slice_get f.variables v ≡ Some slot
  named : slot.class ≡ Name k

has_class : (f : CodeFn) (v k : ℕ) → class_of f v ≡ Name k → HasClass f v k
has_class f v k e = by (slice_get f.variables v) refl e
  where
    by : (o : Option Slot) → slice_get f.variables v ≡ o → slot_class o ≡ Name k → HasClass f v k
    by None here named = absurd (let no : NoClass ≡ Name k = named in cc)
    by (Some s) here named = record { slot = s; here = here; named = named }

in_function : (f : CodeFn) (v k : ℕ) → class_of f v ≡ Name k → Contains (names_in f) k
in_function f v k e =
    let h = has_class f v k e in
    named_among (map (λ s. s.class) f.variables) k
    (contains_at (map (λ s. s.class) f.variables) v (Name k)
    (slice_get-map (λ s. s.class) f.variables v ∙ ap (option_map (λ (s : Slot). s.class)) h.here ∙ ap Some h.named))

-- a variable of this class of which a fact holds
some_variable : (f : CodeFn) (k : ℕ) (P : ℕ → Type 0) → ((v : ℕ) → Decided (P v))
    → Decided ((v : ℕ) × (class_of f v ≡ Name k) × P v)
some_variable f k P decided =
    like go back (some_at (λ v s. (s.class ≡ Name k) × P v) (λ v s. both (one_class s.class (Name k)) (decided v)) f.variables)
  where
    go : SomeAt (λ v s. (s.class ≡ Name k) × P v) f.variables → (v : ℕ) × (class_of f v ≡ Name k) × P v
    go h = (h.0, ap slot_class h.2 ∙ h.3.0, h.3.1)

    back : ((v : ℕ) × (class_of f v ≡ Name k) × P v) → SomeAt (λ v s. (s.class ≡ Name k) × P v) f.variables
    back h = let c = has_class f h.0 k h.1 in (h.0, c.slot, c.here, (c.named, h.2))

module _ (f : CodeFn) where
  is_own : (k : ℕ) → Decided (IsOwn f k)
  is_own k = negated (one_class (result_class f) (Name k))

  is_live_name : (k i : ℕ) → Decided (IsLiveName f k i)
  is_live_name k i =
      like (λ h. record { variable = h.0; named = h.1; live = h.2 }) (λ h. (h.variable, h.named, h.live))
      (some_variable f k (λ v. Live (erased_fn f) v i) (λ v. live_or_not (erased_fn f) v i))

  holds : (k i : ℕ) → Decided (Holds f k i)
  holds k i = both (is_own k) (is_live_name k i)

  held_in : (k i : ℕ) → Holds f k i → Contains (names_in f) k
  held_in k i h = in_function f h.1.variable k h.1.named

  uses : (op : Op) (v : ℕ) → Decided (UsesVariable op v)
  uses op v = one_of (contains_or_not same_number (reads op) v) (is_some_of same_number (writes op) v)

  names : (op : CodeOp) (k : ℕ) → Decided (UsesRegionName f op k)
  names op k =
      like (λ h. record { variable = h.0; used = h.2; named = h.1 }) (λ h. (h.variable, h.named, h.used))
      (some_variable f k (UsesVariable (erased_op op)) (uses (erased_op op)))

  is_parameter : (k : ℕ) → Decided (IsParameterName f k)
  is_parameter k = has_name (parameter_classes f.params f.variables) k

  -- ---- rules 8, 9 and 13

  entry_is_known : Decided (EntryIsKnown f)
  entry_is_known =
      like (λ all k h. all k (held_in k 0 h) h) (λ h k c. h k)
      (each_in (λ k. Holds f k 0 → IsParameterName f k) (λ k. premised (holds k 0) (is_parameter k)) (names_in f))

  entry_removes_dead : Decided (EntryRemovesDead f)
  entry_removes_dead =
      same_set f.entry (names_among (parameter_classes f.params f.variables))
      (λ k. IsOwn f k × IsParameterName f k × (Holds f k 0 → ⊥))
      (λ k. both3 (is_own k) (is_parameter k) (negated (holds k 0)))
      (λ k h. named_among (parameter_classes f.params f.variables) k h.1)
    where
      both3 : {P Q R : Type 0} → Decided P → Decided Q → Decided R → Decided (P × Q × R)
      both3 p q r = like (λ h. (h.0, h.1.0, h.1.1)) (λ h. (h.0, (h.1, h.2))) (both p (both q r))

  creates_used : (i : ℕ) (instr : CodeInstr) → Decided (CreatesUsed f i instr)
  creates_used i instr =
      same_set instr.creates (names_in f) (λ k. IsOwn f k × UsesRegionName f instr.op k × (Holds f k i → ⊥))
      (λ k. like (λ h. (h.0, h.1.0, h.1.1)) (λ h. (h.0, (h.1, h.2)))
      (both (is_own k) (both (names instr.op k) (negated (holds k i)))))
      (λ k h. in_function f h.1.variable k h.1.named)

  -- another place of the same name
  abbrev Other : ℕ → ℕ → ℕ → Class → Type 0
  Other k i j d = (i ≡ j → ⊥) × (d ≡ Name k)

  passed_twice : (passes : List Class) (k : ℕ) → Decided (IsPassedTwice passes k)
  passed_twice passes k =
      like go back (some_at (λ i c. (c ≡ Name k) × SomeAt (Other k i) passes)
      (λ i c. both (one_class c (Name k))
      (some_at (Other k i) (λ j d. both (negated (same_number i j)) (one_class d (Name k))) passes)) passes)
    where
      go : SomeAt (λ i c. (c ≡ Name k) × SomeAt (Other k i) passes) passes → IsPassedTwice passes k
      go h = record {
        one = h.0;
        other = h.3.1.0;
        differ = h.3.1.3.0;
        first = h.2 ∙ ap Some h.3.0;
        second = h.3.1.2 ∙ ap Some h.3.1.3.1;
      }

      back : IsPassedTwice passes k → SomeAt (λ i c. (c ≡ Name k) × SomeAt (Other k i) passes) passes
      back h = (h.one, Name k, h.first, (refl, (h.other, Name k, h.second, (h.differ, refl))))

  protects_used : (i : ℕ) (op : CodeOp) → Decided (ProtectsUsed f i op)
  protects_used i (Call to n from passes protects removes) =
      same_set protects (names_among passes)
      (λ k. Contains passes (Name k) × (IsLiveName f k (i + 1) ⊎ ((result_class f ≡ Name k) ⊎ IsPassedTwice passes k)))
      (λ k. both (has_name passes k)
      (one_of (is_live_name k (i + 1)) (one_of (one_class (result_class f) (Name k)) (passed_twice passes k))))
      (λ k h. named_among passes k h.0)
  protects_used i (Do to action from removes) = inl tt
  protects_used i (Go n from passes removes) = inl tt
  protects_used i (Print pieces from removes) = inl tt
  protects_used i (Jump target removes) = inl tt
  protects_used i (Branch test target removes other otherwise) = inl tt
  protects_used i (Return value) = inl tt

  -- the name at the place of the result
  abbrev ForResult : Option CodeFn → ℕ → ℕ → Class → Type 0
  ForResult callee k i c = (c ≡ Name k) × (slice_get (callee_regions callee) i ≡ Some (callee_result callee))

  passed_for_result : (callee : Option CodeFn) (passes : List Class) (k : ℕ) → Decided (IsPassedForResult callee passes k)
  passed_for_result callee passes k =
      like go (λ h. (h.at, Name k, h.passed, (refl, h.parameter)))
      (some_at (ForResult callee k)
      (λ i c. both (one_class c (Name k)) (is_some_of one_class (slice_get (callee_regions callee) i) (callee_result callee)))
      passes)
    where
      go : SomeAt (ForResult callee k) passes → IsPassedForResult callee passes k
      go h = record { at = h.0; parameter = h.3.1; passed = h.2 ∙ ap Some h.3.0 }

  gives : (code : Code) (op : CodeOp) (k : ℕ) → Decided (LeavesToCallee code op k)
  gives code (Call to n from passes protects removes) k =
      like (λ h. (h.0, h.1.0, h.1.1)) (λ h. (h.0, (h.1, h.2)))
      (both (has_name passes k) (both (negated (contains_or_not same_number protects k))
      (negated (passed_for_result (slice_get code.functions n) passes k))))
  gives code (Do to action from removes) k = inr (λ h. h)
  gives code (Go n from passes removes) k = inr (λ h. h)
  gives code (Print pieces from removes) k = inr (λ h. h)
  gives code (Jump target removes) k = inr (λ h. h)
  gives code (Branch test target removes other otherwise) k = inr (λ h. h)
  gives code (Return value) k = inr (λ h. h)

  module _ (code : Code) (i : ℕ) (instr : CodeInstr) where
    may_remove : (k : ℕ) → Decided (MayRemove code f i instr k)
    may_remove k =
        both (one_of (holds k i) (contains_or_not same_number instr.creates k)) (negated (gives code instr.op k))

    removed_in : (k : ℕ) → MayRemove code f i instr k → Contains (names_in f ++ instr.creates) k
    removed_in k h = by h.0
      where
        by : Holds f k i ⊎ Contains instr.creates k → Contains (names_in f ++ instr.creates) k
        by (inl p) = Contains-append_left (names_in f) instr.creates k (held_in k i p)
        by (inr c) = Contains-append_right (names_in f) instr.creates k c

    abbrev WayRemoves : ℕ × List ℕ → Type 0
    WayRemoves way = (k : ℕ) → Contains way.1 k ↔ (MayRemove code f i instr k × (Holds f k way.0 → ⊥))

    removes_dead : Decided (RemovesDead code f i instr)
    removes_dead =
        like (λ h j removes c. h (j, removes) c) (λ h way c. h way.0 way.1 c)
        (each_in WayRemoves (λ way. same_set way.1 (names_in f ++ instr.creates)
        (λ k. MayRemove code f i instr k × (Holds f k way.0 → ⊥)) (λ k. both (may_remove k) (negated (holds k way.0)))
        (λ k h. removed_in k h.0)) (edges instr.op i))

  -- ---- rules 6 and 7

  passed_for : (parameters passes : List Class) (parameter argument : Class)
      → Decided (IsPassedFor parameters passes parameter argument)
  passed_for parameters passes NoClass argument = inl tt
  passed_for parameters passes Global argument = one_class argument Global
  passed_for parameters passes (Name k) argument =
      like (λ h p e. h p (Name k) e refl) (λ h p c e q. h p (e ∙ ap Some q))
      (each_at (λ p c. c ≡ Name k → slice_get passes p ≡ Some argument)
      (λ p c. premised (one_class c (Name k)) (is_some_of one_class (slice_get passes p) argument)) parameters)

  passes_or_not : (callee : CodeFn) (to : Option ℕ) (from : List ℕ) (passes : List Class) → Decided (PassesClasses f callee to from passes)
  passes_or_not callee to from passes =
      like (λ h. record { len = h.0; arguments = λ i v l e. h.1.0 i v e l; result = h.1.1 })
      (λ h. (h.len, ((λ i v e l. h.arguments i v l e), h.result)))
      (both (same_number (length passes) (length (region_parameters callee))) (both arguments (target to)))
    where
      arguments : Decided ((i v : ℕ) → slice_get from i ≡ Some v → i < callee.params
          → IsPassedFor (region_parameters callee) passes (class_of callee i) (class_of f v))
      arguments =
          each_at (λ i v. i < callee.params
          → IsPassedFor (region_parameters callee) passes (class_of callee i) (class_of f v))
          (λ i v. premised (is_less i callee.params)
          (passed_for (region_parameters callee) passes (class_of callee i) (class_of f v))) from

      target : (to : Option ℕ) → Decided ((d : ℕ) → to ≡ Some d
          → IsPassedFor (region_parameters callee) passes (result_class callee) (class_of f d))
      target None = inl (λ d e. absurd (none-some d e))
      target (Some c) =
          like (λ p d e. subst (λ x. IsPassedFor (region_parameters callee) passes (result_class callee) (class_of f x))
          (same_Some c d e) p) (λ h. h c refl)
          (passed_for (region_parameters callee) passes (result_class callee) (class_of f c))

  call_passes : (callee : Option CodeFn) (to : Option ℕ) (from : List ℕ) (passes : List Class)
      → Decided (CallPasses f callee to from passes)
  call_passes None to from passes = inl tt
  call_passes (Some callee) to from passes = passes_or_not callee to from passes

  start_passes : (callee : Option CodeFn) (from : List ℕ) (passes : List Class) → Decided (StartPasses f callee from passes)
  start_passes None from passes = inl tt
  start_passes (Some callee) from passes = both (is_none callee.result) (passes_or_not callee None from passes)

  calls_pass : (code : Code) (op : CodeOp) → Decided (CallsPass code f op)
  calls_pass code (Call to n from passes protects removes) = call_passes (slice_get code.functions n) to from passes
  calls_pass code (Do to action from removes) = inl tt
  calls_pass code (Go n from passes removes) = inl tt
  calls_pass code (Print pieces from removes) = inl tt
  calls_pass code (Jump target removes) = inl tt
  calls_pass code (Branch test target removes other otherwise) = inl tt
  calls_pass code (Return value) = inl tt

  starts_pass : (code : Code) (op : CodeOp) → Decided (StartsPass code f op)
  starts_pass code (Go n from passes removes) = start_passes (slice_get code.functions n) from passes
  starts_pass code (Do to action from removes) = inl tt
  starts_pass code (Call to n from passes protects removes) = inl tt
  starts_pass code (Print pieces from removes) = inl tt
  starts_pass code (Jump target removes) = inl tt
  starts_pass code (Branch test target removes other otherwise) = inl tt
  starts_pass code (Return value) = inl tt

-- ---- the first rule

-- the names before number n differ from this one
abbrev Differs : List (List ℕ) → ℕ → List ℕ → Type 0
Differs names n name = (m : ℕ) (other : List ℕ) → slice_get names m ≡ Some other → m < n → other ≡ name → ⊥

differs : (names : List (List ℕ)) (n : ℕ) (name : List ℕ) → Decided (Differs names n name)
differs names n name =
    each_at (λ m other. m < n → other ≡ name → ⊥) (λ m other. premised (is_less m n) (negated (same_bytes other name))) names

is_new : (names : List (List ℕ)) (n : ℕ) → Decided (IsNew names n)
is_new names n =
    like (λ h m name l at there. h n name at refl m name there l refl)
    (λ h i name at e m other there l same. h m name l (subst (λ k. slice_get names k ≡ Some name) e at)
    (there ∙ ap Some same))
    (each_at (λ i name. i ≡ n → Differs names n name) (λ i name. premised (same_number i n) (differs names n name)) names)

has_main : (code : Code) → Decided (HasMain (erased code))
has_main code =
    like (λ h. record {
      number = h.0;
      main = h.1;
      declared = h.2;
      named = h.3.0;
      no_params = h.3.1.0;
      no_result = h.3.1.1;
    }) (λ h. (h.number, h.main, h.declared, (h.named, (h.no_params, h.no_result))))
    (some_at (λ n g. (g.name ≡ codes "main") × ((g.params ≡ 0) × (g.result_type ≡ None)))
    (λ n g. both (same_bytes g.name (codes "main")) (both (same_number g.params 0) (is_none g.result_type)))
    (erased code).functions)

struct_exists : (code : Code) (n : ℕ) (s : Struct) → Decided (StructExists (erased code) n s)
struct_exists code n s =
    like (λ h. record { is_new = h.0; fields = h.1 }) (λ h. (h.is_new, h.fields))
    (both (is_new (map (λ s. s.name) code.structs) n)
    (by_test (types_exist (erased code) s.fields) (types_decided (erased code) s.fields)))

variable_exists : (code : Code) (n : ℕ) (v : Variable) → Decided (VariableExists (erased code) n v)
variable_exists code n v =
    like (λ h. record { is_new = h.0; ty = h.1 }) (λ h. (h.is_new, h.ty))
    (both (is_new (map (λ v. v.name) code.variables) n)
    (by_test (type_exists (erased code) v.ty) (type_decided (erased code) v.ty)))

head_exists_or_not : (code : Code) (n : ℕ) (f : TacFn) → Decided (HeadExists (erased code) n f)
head_exists_or_not code n f =
    like (λ h. record { is_new = h.0; params = h.1.0; result = h.1.1 }) (λ h. (h.is_new, (h.params, h.result)))
    (both (is_new (map (λ f. f.name) (erased code).functions) n)
    (by_test (head_exists (erased code) f) (head_decided (erased code) f)))

-- ---- by line

result_fits : (o : Option Slot) → Decided (ResultFits o)
result_fits None = inl tt
result_fits (Some s) = by_test (class_fits s.class s.ty) (class_fits_decided s)

module _ (code : Code) where
  by_instr : (r : Rule) (f : CodeFn) (i : ℕ) (instr : CodeInstr) → slice_get f.body i ≡ Some instr
      → Decided (KeptByInstr code r f i instr)
  by_instr rule.Exists f i instr e =
      by_test (instr_exists (erased code) (erased_fn f) i (erased_op instr.op))
      (instr_decided (erased code) (erased_fn f) i (erased_op instr.op))
  by_instr rule.Types f i instr e =
      by_test (op_fits (erased code) (erased_fn f) (erased_op instr.op))
      (op_fits_decided (erased code) (erased_fn f) (erased_op instr.op))
  by_instr rule.Joins f i instr e = by_test (joins_agree f (erased_op instr.op)) (joins_decided f instr.op)
  by_instr rule.Globals f i instr e = by_test (globals_agree f (erased_op instr.op)) (globals_decided f instr.op)
  by_instr rule.Calls f i instr e = calls_pass f code instr.op
  by_instr rule.Starts f i instr e = starts_pass f code instr.op
  by_instr rule.Creations f i instr e = creates_used f i instr
  by_instr rule.Protections f i instr e = protects_used f i instr.op
  by_instr rule.Returns f i instr e = by_test (return_agrees f (erased_op instr.op)) (return_decided f instr.op)
  by_instr rule.Lending f i instr e =
      by_test (lends (result_class f) instr.creates (removes_of instr.op) (otherwise_of instr.op)) (lends_decided f i instr)
  by_instr rule.Removals f i instr e = removes_dead f code i instr
  by_instr rule.Endings f i instr e =
      by_test (ends_empty f instr.creates (erased_op instr.op)) (ends_decided f i instr e)
  by_instr rule.Classes f i instr e = inl tt
  by_instr rule.Entry f i instr e = inl tt

  by_entry : (r : Rule) (f : CodeFn) → Decided (KeptByEntry r f)
  by_entry rule.Entry f = entry_is_known f
  by_entry rule.Lending f = by_test (is_free (result_class f) f.entry) (entry_lends_decided f)
  by_entry rule.Removals f = entry_removes_dead f
  by_entry _ f = inl tt

  by_head : (r : Rule) (n : ℕ) (f : CodeFn) → Decided (KeptByHead code r n f)
  by_head rule.Exists n f = head_exists_or_not code n (erased_fn f)
  by_head rule.Classes n f = result_fits f.result
  by_head _ n f = inl tt

  by_slot : (r : Rule) (s : Slot) → Decided (KeptBySlot code r s)
  by_slot rule.Exists s = by_test (type_exists (erased code) s.ty) (type_decided (erased code) s.ty)
  by_slot rule.Classes s = by_test (class_fits s.class s.ty) (class_fits_decided s)
  by_slot _ s = inl tt

  by_struct : (r : Rule) (n : ℕ) (s : Struct) → Decided (KeptByStruct code r n s)
  by_struct rule.Exists n s = struct_exists code n s
  by_struct _ n s = inl tt

  by_variable : (r : Rule) (n : ℕ) (v : Variable) → Decided (KeptByVariable code r n v)
  by_variable rule.Exists n v = variable_exists code n v
  by_variable _ n v = inl tt

  by_end : (r : Rule) (f : CodeFn) → Decided (KeptByEnd r f)
  by_end rule.Exists f = some f.body
    where
      some : (body : List CodeInstr) → Decided (body ≢ [])
      some [] = inr (λ n. n refl)
      some (instr ∷ body) = inl (λ e. cc)
  by_end _ f = inl tt

  after_last : (r : Rule) → Decided (KeptAfterLast code r)
  after_last rule.Exists = has_main code
  after_last _ = inl tt

  -- of what has a number, if there is something
  of_item : {A : Type 0} (o : Option A) (P : A → Type 0) → ((a : A) → o ≡ Some a → Decided (P a))
      → Decided ((a : A) → o ≡ Some a → P a)
  of_item None P decided = inl (λ a e. absurd (none-some a e))
  of_item (Some b) P decided =
      like (λ p a e. subst P (same_Some b a e) p) (λ h. h b refl) (decided b refl)

  pub kept_or_not : (r : Rule) (l : Line) → Decided (KeptAt code r l)
  kept_or_not r (line.Struct n) = of_item (slice_get code.structs n) (KeptByStruct code r n) (λ s e. by_struct r n s)
  kept_or_not r (line.Variable n) = of_item (slice_get code.variables n) (KeptByVariable code r n) (λ v e. by_variable r n v)
  kept_or_not r (line.Function n) = of_item (slice_get code.functions n) (KeptByHead code r n) (λ f e. by_head r n f)
  kept_or_not r (line.Slot n v) =
      like (λ h f s e q. h f e s q) (λ h f e s q. h f s e q)
      (of_item (slice_get code.functions n) (λ f. (s : Slot) → slice_get f.variables v ≡ Some s → KeptBySlot code r s)
      (λ f e. of_item (slice_get f.variables v) (KeptBySlot code r) (λ s q. by_slot r s)))
  kept_or_not r (line.Entry n) = of_item (slice_get code.functions n) (KeptByEntry r) (λ f e. by_entry r f)
  kept_or_not r (line.Instr n i) =
      like (λ h f x e q. h f e x q) (λ h f e x q. h f x e q)
      (of_item (slice_get code.functions n) (λ f. (x : CodeInstr) → slice_get f.body i ≡ Some x → KeptByInstr code r f i x)
      (λ f e. of_item (slice_get f.body i) (KeptByInstr code r f i) (λ x q. by_instr r f i x q)))
  kept_or_not r (line.End n) = of_item (slice_get code.functions n) (KeptByEnd r) (λ f e. by_end r f)
  kept_or_not r line.AfterLast = after_last r
