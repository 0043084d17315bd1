-- What the checker computes for the rules on classes and names.
use Rattle.std.specs.Prelude.{◌≡◌, ◌<◌, ℕ, Bool, true, false, ◌&&◌, ◌||◌, not, List, [], ◌∷◌, Option, Some, None, slice_get, nat_eq, if◌then◌else◌, ⊤}
use Rattle.std.specs.HashMap.{HashMap, get}
use Rattle.std.specs.List.{list_any}
use Rattle.rgo_typed.specs.declared.types.Type.{«Type»}
use Rattle.rgo_typed.specs.Types.{is_pointer_like}
use Rattle.rgo_tac.specs.declared.regions.Class.{Class}
use Rattle.rgo_tac.specs.declared.regions.Class.TheVariants.{NoClass, Global, Name}
use Rattle.rgo_tac.specs.declared.regions.Member.{Member}
use Rattle.rgo_tac.specs.Code.{Op, Do, Call, Go, Return, Print, Jump, Branch}
use Rattle.rgo_tac.specs.Joins.{joins}
use Rattle.rgo_code.specs.Code.{CodeFn, Code}
use Rattle.rgo_code.specs.ClassRules.{is_of_package, IsPassedFor, CallPasses, StartPasses}
use Rattle.rgo_code.specs.Erasure.{erased_fn}
use Rattle.rgo_code.specs.Names.{class_of, result_class, member_class}
use Rattle.rgo_checker.specs.declared.passing.Called.{Called}

abbrev pub equal_classes : Class → Class → Bool
equal_classes NoClass NoClass = true
equal_classes Global Global = true
equal_classes (Name m) (Name n) = nat_eq m n
equal_classes NoClass Global = false
equal_classes NoClass (Name n) = false
equal_classes Global NoClass = false
equal_classes Global (Name n) = false
equal_classes (Name m) NoClass = false
equal_classes (Name m) Global = false

-- ---- rule 3

abbrev pub has_class : Class → Bool
has_class NoClass = false
has_class Global = true
has_class (Name k) = true

abbrev pub class_fits : Class → «Type» → Bool
class_fits c ty = if has_class c then is_pointer_like ty else not (is_pointer_like ty)

abbrev pub result_fits : Class → Option «Type» → Bool
result_fits c None = true
result_fits c (Some ty) = class_fits c ty

-- ---- rules 4, 5 and 11

abbrev pub agree : CodeFn → Option (Member × Member) → Bool
agree f None = true
agree f (Some pair) = equal_classes (member_class f pair.0) (member_class f pair.1)

abbrev pub op_agrees : CodeFn → Op → Bool
op_agrees f op = agree f (joins (erased_fn f) op)

abbrev pub joins_agree : CodeFn → Op → Bool
joins_agree f (Do to action from) = is_of_package action || op_agrees f (Do to action from)
joins_agree f (Call to n from) = true
joins_agree f (Go n from) = true
joins_agree f (Print pieces from) = true
joins_agree f (Jump target) = true
joins_agree f (Branch test target other) = true
joins_agree f (Return value) = true

abbrev pub globals_agree : CodeFn → Op → Bool
globals_agree f (Do to action from) = not (is_of_package action) || op_agrees f (Do to action from)
globals_agree f (Call to n from) = true
globals_agree f (Go n from) = true
globals_agree f (Print pieces from) = true
globals_agree f (Jump target) = true
globals_agree f (Branch test target other) = true
globals_agree f (Return value) = true

abbrev pub return_agrees : CodeFn → Op → Bool
return_agrees f (Return value) = op_agrees f (Return value)
return_agrees f (Do to action from) = true
return_agrees f (Call to n from) = true
return_agrees f (Go n from) = true
return_agrees f (Print pieces from) = true
return_agrees f (Jump target) = true
return_agrees f (Branch test target other) = true

-- ---- rules 6 and 7

-- The map has the place of each name among the classes.
abbrev pub ArePlaces : {S : Type 0} → List Class → HashMap ℕ ℕ S → Type 0
ArePlaces classes places =
    (k p : ℕ) → (get nat_eq places k ≡ Some p → slice_get classes p ≡ Some (Name k))
    × (get nat_eq places k ≡ None → slice_get classes p ≡ Some (Name k) → ⊥)

-- each name has one place
abbrev pub AreDistinctClasses : List Class → Type 0
AreDistinctClasses classes =
    (k p q : ℕ) → slice_get classes p ≡ Some (Name k) → slice_get classes q ≡ Some (Name k) → p ≡ q

abbrev pub is_class : Option Class → Class → Bool
is_class None c = false
is_class (Some d) c = equal_classes d c

-- The class is passed at the place. Each name of a parameter or of the result has a place, so the first clause is never needed.
abbrev pub is_passed_at : Option ℕ → (passes : List Class) → Class → Bool
is_passed_at None passes c = true
is_passed_at (Some p) passes c = is_class (slice_get passes p) c

abbrev pub is_passed_for : {S : Type 0} → HashMap ℕ ℕ S → (passes : List Class) → (parameter argument : Class) → Bool
is_passed_for places passes NoClass argument = true
is_passed_for places passes Global argument = equal_classes argument Global
is_passed_for places passes (Name k) argument = is_passed_at (get nat_eq places k) passes argument

-- what is passed for the parameters
abbrev pub ArgumentsPass : (f callee : CodeFn) → (parameters passes : List Class) → (from : List ℕ) → Type 0
ArgumentsPass f callee parameters passes from =
    (i v : ℕ) → i < callee.params → slice_get from i ≡ Some v
    → IsPassedFor parameters passes (class_of callee i) (class_of f v)

abbrev pub TargetPasses : (f callee : CodeFn) → (parameters passes : List Class) → (to : Option ℕ) → Type 0
TargetPasses f callee parameters passes to =
    (d : ℕ) → to ≡ Some d → IsPassedFor parameters passes (result_class callee) (class_of f d)

abbrev pub ArgumentPasses : (f callee : CodeFn) → (parameters passes : List Class) → (i v : ℕ) → Type 0
ArgumentPasses f callee parameters passes i v =
    i < callee.params → IsPassedFor parameters passes (class_of callee i) (class_of f v)

-- calls and starts, by target, function and arguments
abbrev pub called_operands : Called → Option ℕ × ℕ × List ℕ
called_operands c = (c.to, c.function, c.from.now)

abbrev pub call_operands : Op → Option (Option ℕ × ℕ × List ℕ)
call_operands (Call to n from) = Some (to, n, from)
call_operands (Do to action from) = None
call_operands (Go n from) = None
call_operands (Print pieces from) = None
call_operands (Jump target) = None
call_operands (Branch test target other) = None
call_operands (Return value) = None

abbrev pub start_operands : Op → Option (Option ℕ × ℕ × List ℕ)
start_operands (Go n from) = Some (None, n, from)
start_operands (Do to action from) = None
start_operands (Call to n from) = None
start_operands (Print pieces from) = None
start_operands (Jump target) = None
start_operands (Branch test target other) = None
start_operands (Return value) = None

abbrev pub CalledPasses : Code → CodeFn → List Class → Option ℕ × ℕ × List ℕ → Type 0
CalledPasses code f passes call = CallPasses f (slice_get code.functions call.1) call.0 call.2 passes

abbrev pub StartedPasses : Code → CodeFn → List Class → Option ℕ × ℕ × List ℕ → Type 0
StartedPasses code f passes call = StartPasses f (slice_get code.functions call.1) call.2 passes

-- what is passed, of three-address code
abbrev pub CallPassesBy : Code → CodeFn → List Class → Op → Type 0
CallPassesBy code f passes (Call to n from) = CallPasses f (slice_get code.functions n) to from passes
CallPassesBy code f passes (Do to action from) = ⊤
CallPassesBy code f passes (Go n from) = ⊤
CallPassesBy code f passes (Print pieces from) = ⊤
CallPassesBy code f passes (Jump target) = ⊤
CallPassesBy code f passes (Branch test target other) = ⊤
CallPassesBy code f passes (Return value) = ⊤

abbrev pub StartPassesBy : Code → CodeFn → List Class → Op → Type 0
StartPassesBy code f passes (Go n from) = StartPasses f (slice_get code.functions n) from passes
StartPassesBy code f passes (Do to action from) = ⊤
StartPassesBy code f passes (Call to n from) = ⊤
StartPassesBy code f passes (Print pieces from) = ⊤
StartPassesBy code f passes (Jump target) = ⊤
StartPassesBy code f passes (Branch test target other) = ⊤
StartPassesBy code f passes (Return value) = ⊤

-- ---- rules 12 and 14

-- the name is not among these
abbrev pub is_free : Class → List ℕ → Bool
is_free (Name k) names = not (list_any (λ j. nat_eq j k) names)
is_free NoClass names = true
is_free Global names = true

abbrev pub lends : Class → (creates removes otherwise : List ℕ) → Bool
lends c creates removes otherwise = is_free c creates && (is_free c removes && is_free c otherwise)

abbrev pub has_no_names : List ℕ → Bool
has_no_names [] = true
has_no_names (k ∷ ks) = false

-- No name, or that of the result. What is live at a return is what it returns, so this says that no own name is held.
abbrev pub is_lent : Class → Class → Bool
is_lent result (Name k) = equal_classes result (Name k)
is_lent result NoClass = true
is_lent result Global = true

abbrev pub value_is_lent : CodeFn → Option ℕ → Bool
value_is_lent f None = true
value_is_lent f (Some v) = is_lent (result_class f) (class_of f v)

abbrev pub ends_empty : CodeFn → (creates : List ℕ) → Op → Bool
ends_empty f creates (Return value) = has_no_names creates && value_is_lent f value
ends_empty f creates (Do to action from) = true
ends_empty f creates (Call to n from) = true
ends_empty f creates (Go n from) = true
ends_empty f creates (Print pieces from) = true
ends_empty f creates (Jump target) = true
ends_empty f creates (Branch test target other) = true
