-- The rules on classes: what has one, what joins two, what is passed to callees.
use Rattle.std.specs.Prelude.{◌≡◌, ◌≢◌, ◌↔◌, ◌<◌, ℕ, Bool, true, false, List, Option, Some, None, length, slice_get, ⊤}
use Rattle.rgo_typed.specs.declared.actions.Action.{Action}
use Rattle.rgo_typed.specs.declared.actions.Action.TheVariants as action
use Rattle.rgo_typed.specs.Types.{is_pointer_like}
use Rattle.rgo_tac.specs.declared.regions.Class.{Class}
use Rattle.rgo_tac.specs.declared.regions.Class.TheVariants.{NoClass, Global, Name}
use Rattle.rgo_tac.specs.declared.regions.Member.{Member}
use Rattle.rgo_tac.specs.Joins.{joins}
use Rattle.rgo_code.specs.Code.{Slot, CodeOp, CodeFn, Code, Do, Call, Go, Return, Print, Jump, Branch}
use Rattle.rgo_code.specs.Erasure.{erased_op, erased_fn}
use Rattle.rgo_code.specs.Names.{class_of, result_class, member_class, region_parameters, Holds, IsParameterName}

-- ---- rule 3: a variable or result has a class exactly where its type is pointer-like, since no other value leads into a region

-- a variable has a class if its type is a pointer, a slice or a channel, and none otherwise
abbrev pub SlotClassFitsType : Slot → Type 0
SlotClassFitsType s = (s.class ≢ NoClass) ↔ (is_pointer_like s.ty ≡ true)

-- the same of the result of a function, if it has one
abbrev pub ResultFits : Option Slot → Type 0
ResultFits None = ⊤
ResultFits (Some s) = SlotClassFitsType s

-- ---- rules 4, 5 and 11: the two that an instruction joins have one class

-- whether the action reads or writes a package variable: rule 5 is about these actions, rule 4 about all others
abbrev pub is_of_package : Action → Bool
is_of_package (action.Get n) = true
is_of_package (action.Set n) = true
is_of_package (action.Int k) = false
is_of_package (action.Bool b) = false
is_of_package action.Nil = false
is_of_package action.Copy = false
is_of_package (action.Binary op) = false
is_of_package action.Neg = false
is_of_package action.Not = false
is_of_package action.IsNil = false
is_of_package action.Len = false
is_of_package (action.Load k) = false
is_of_package (action.Store k) = false
is_of_package action.At = false
is_of_package action.Put = false
is_of_package (action.New n) = false
is_of_package action.Slice = false
is_of_package action.Chan = false
is_of_package action.Recv = false
is_of_package action.Send = false
is_of_package action.Close = false

-- the two members of the pair have one class in f; where no pair is joined, nothing is required
abbrev pub Agree : CodeFn → Option (Member × Member) → Type 0
Agree f None = ⊤
Agree f (Some pair) = member_class f pair.0 ≡ member_class f pair.1

-- the two members that the operation joins in f have one class
abbrev pub OpAgrees : CodeFn → CodeOp → Type 0
OpAgrees f op = Agree f (joins (erased_fn f) (erased_op op))

-- rule 4, of actions but those on package variables
abbrev pub JoinsAgree : CodeFn → CodeOp → Type 0
JoinsAgree f (Do to action from removes) = is_of_package action ≡ false → OpAgrees f (Do to action from removes)
JoinsAgree f (Call to n from passes protects removes) = ⊤
JoinsAgree f (Go n from passes removes) = ⊤
JoinsAgree f (Print pieces from removes) = ⊤
JoinsAgree f (Jump target removes) = ⊤
JoinsAgree f (Branch test target removes other otherwise) = ⊤
JoinsAgree f (Return value) = ⊤

-- rule 5, of actions on package variables, whose class is Global
abbrev pub GlobalsAgree : CodeFn → CodeOp → Type 0
GlobalsAgree f (Do to action from removes) = is_of_package action ≡ true → OpAgrees f (Do to action from removes)
GlobalsAgree f (Call to n from passes protects removes) = ⊤
GlobalsAgree f (Go n from passes removes) = ⊤
GlobalsAgree f (Print pieces from removes) = ⊤
GlobalsAgree f (Jump target removes) = ⊤
GlobalsAgree f (Branch test target removes other otherwise) = ⊤
GlobalsAgree f (Return value) = ⊤

-- rule 11, of a returned variable and the result
abbrev pub ReturnsAgree : CodeFn → CodeOp → Type 0
ReturnsAgree f (Return value) = OpAgrees f (Return value)
ReturnsAgree f (Do to action from removes) = ⊤
ReturnsAgree f (Call to n from passes protects removes) = ⊤
ReturnsAgree f (Go n from passes removes) = ⊤
ReturnsAgree f (Print pieces from removes) = ⊤
ReturnsAgree f (Jump target removes) = ⊤
ReturnsAgree f (Branch test target removes other otherwise) = ⊤

-- ---- rules 6 and 7: what is passed

-- The class of an argument is what is passed for the class of its parameter. A parameter without a class asks for nothing: rules 2
-- and 3 leave its argument none either.
abbrev pub IsPassedFor : (parameters passes : List Class) → (parameter argument : Class) → Type 0
IsPassedFor parameters passes NoClass argument = ⊤
IsPassedFor parameters passes Global argument = argument ≡ Global
IsPassedFor parameters passes (Name k) argument =
    (p : ℕ) → slice_get parameters p ≡ Some (Name k) → slice_get passes p ≡ Some argument

-- The classes that f passes to the callee are one for each region parameter. The class of each argument, and that of the target if
-- there is one, is what is passed for the class of its parameter or of the result.
pub record PassesClasses (f callee : CodeFn) (to : Option ℕ) (from : List ℕ) (passes : List Class) : Type 0 where
  pub len : length passes ≡ length (region_parameters callee)
  pub arguments : (i v : ℕ) → i < callee.params → slice_get from i ≡ Some v
      → IsPassedFor (region_parameters callee) passes (class_of callee i) (class_of f v)
  pub result : (d : ℕ) → to ≡ Some d → IsPassedFor (region_parameters callee) passes (result_class callee)
      (class_of f d)

-- f passes to the callee by `PassesClasses`; where the callee does not exist, rule 1 is broken, and nothing is required here
abbrev pub CallPasses : CodeFn → Option CodeFn → (to : Option ℕ) → (from : List ℕ) → (passes : List Class) → Type 0
CallPasses f None to from passes = ⊤
CallPasses f (Some callee) to from passes = PassesClasses f callee to from passes

-- a function that is started has no result
abbrev pub StartPasses : CodeFn → Option CodeFn → (from : List ℕ) → (passes : List Class) → Type 0
StartPasses f None from passes = ⊤
StartPasses f (Some callee) from passes = (callee.result ≡ None) × PassesClasses f callee None from passes

-- rule 6, which only a call can break
abbrev pub CallsPass : Code → CodeFn → CodeOp → Type 0
CallsPass code f (Call to n from passes protects removes) = CallPasses f (slice_get code.functions n) to from passes
CallsPass code f (Do to action from removes) = ⊤
CallsPass code f (Go n from passes removes) = ⊤
CallsPass code f (Print pieces from removes) = ⊤
CallsPass code f (Jump target removes) = ⊤
CallsPass code f (Branch test target removes other otherwise) = ⊤
CallsPass code f (Return value) = ⊤

-- rule 7, which only a `go` can break
abbrev pub StartsPass : Code → CodeFn → CodeOp → Type 0
StartsPass code f (Go n from passes removes) = StartPasses f (slice_get code.functions n) from passes
StartsPass code f (Do to action from removes) = ⊤
StartsPass code f (Call to n from passes protects removes) = ⊤
StartsPass code f (Print pieces from removes) = ⊤
StartsPass code f (Jump target removes) = ⊤
StartsPass code f (Branch test target removes other otherwise) = ⊤
StartsPass code f (Return value) = ⊤

-- ---- rule 8: each name that the first instruction holds is that of a parameter

-- The own names that are live at instruction 0 are those of parameters. Any other would be used without a region: no caller passes one
-- for it, and by rule 9 no instruction creates one while the name is held.
abbrev pub EntryIsKnown : CodeFn → Type 0
EntryIsKnown f = (k : ℕ) → Holds f k 0 → IsParameterName f k
