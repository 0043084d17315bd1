-- What calls and starts pass for the region parameters of their callees.
use Rattle.std.specs.Prelude.{◌≡◌, ◌≢◌, ◌<◌, ℕ, Bool, true, false, List, [], ◌∷◌, ◌++◌, map, Option, Some, None, length, get_or, slice_get, nat_eq}
use Rattle.std.specs.HashMap.{HashMap, get}
use Rattle.rgo_tac.specs.declared.regions.Class.{Class}
use Rattle.rgo_tac.specs.declared.regions.Class.TheVariants.{NoClass, Name, Global}
use Rattle.rgo_tac.specs.Code.{Op, Call, Go, Do, Print, Jump, Branch, Return}
use Rattle.rgo_code.specs.Code.{CodeFn}
use Rattle.rgo_code.specs.Names.{class_of, is_class_named, parameter_classes, region_parameters, result_class}

-- the classes of the callee's parameters, then that of its result
abbrev pub formal_classes : CodeFn → List Class
formal_classes callee = parameter_classes callee.params callee.variables ++ result_class callee ∷ []

abbrev pub class_of_target : CodeFn → Option ℕ → Class
class_of_target f None = NoClass
class_of_target f (Some d) = class_of f d

-- the classes of the arguments, then that of the target
abbrev pub actual_classes : CodeFn → (to : Option ℕ) → (from : List ℕ) → List Class
actual_classes f to from = map (class_of f) from ++ class_of_target f to ∷ []

-- For each region parameter, the class of an actual for a formal of this class. Any such actual will do: the caller's classes join all
-- that is passed for one class of the callee.
pub record AreClassesPassed (formals actuals regions passes : List Class) : Type 0 where
  pub len : length passes ≡ length regions
  pub each : (p i k : ℕ) → slice_get regions p ≡ Some (Name k) → slice_get formals i ≡ Some (Name k)
      → (j : ℕ) × (slice_get formals j ≡ Some (Name k)) × (slice_get passes p ≡ Some (get_or actuals j NoClass))

abbrev pub ArePassedTo : (f : CodeFn) → (callee : Option CodeFn) → (to : Option ℕ) → (from : List ℕ) → List Class
    → Type 0
ArePassedTo f None to from passes = passes ≡ []
ArePassedTo f (Some callee) to from passes =
    AreClassesPassed (formal_classes callee) (actual_classes f to from) (region_parameters callee) passes

-- what an instruction passes, where the functions are these
abbrev pub PassesFor : List CodeFn → CodeFn → Op → List Class → Type 0
PassesFor functions f (Call to n from) passes = ArePassedTo f (slice_get functions n) to from passes
PassesFor functions f (Go n from) passes = ArePassedTo f (slice_get functions n) None from passes
PassesFor functions f (Do to action from) passes = passes ≡ []
PassesFor functions f (Print pieces from) passes = passes ≡ []
PassesFor functions f (Jump target) passes = passes ≡ []
PassesFor functions f (Branch test target other) passes = passes ≡ []
PassesFor functions f (Return value) passes = passes ≡ []

-- ---- actuals by name

-- the class, if the test passed
abbrev pub class_if : Bool → Class → Option Class → Option Class
class_if true class other = Some class
class_if false class other = other

-- a formal gets its actual
abbrev pub AddsActual : {S : Type 0} → HashMap ℕ Class S → HashMap ℕ Class S → (formal actual : Class) → Type 0
AddsActual old new formal actual = (k : ℕ) → get nat_eq new k ≡ class_if (is_class_named k formal) actual (get nat_eq old k)

-- the map has an actual for each name among the first formals
pub record AreActuals {S : Type 0} (found : HashMap ℕ Class S) (formals actuals : List Class) (count : ℕ) : Type 0 where
  pub sound : (k : ℕ) (class : Class) → get nat_eq found k ≡ Some class
      → (i : ℕ) × (slice_get formals i ≡ Some (Name k)) × (get_or actuals i NoClass ≡ class)
  pub complete : (i k : ℕ) → i < count → slice_get formals i ≡ Some (Name k) → get nat_eq found k ≢ None

-- what is passed for a class
abbrev pub passed_for : Option Class → Class
passed_for None = NoClass
passed_for (Some class) = class

abbrev pub passed_by : {S : Type 0} → HashMap ℕ Class S → Class → Class
passed_by found (Name k) = passed_for (get nat_eq found k)
passed_by found NoClass = NoClass
passed_by found Global = NoClass
