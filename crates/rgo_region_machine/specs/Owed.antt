-- Which steps with regions a goroutine owes around its instructions. All of them are written in the code; the machine adds only the
-- end of a goroutine's base, which no instruction can name.
use Rattle.std.specs.Prelude.{ℕ, Bool, true, false, not, ◌&&◌, ◌||◌, List, [], ◌∷◌, ◌++◌, map, Option, Some, None}
use Rattle.std.specs.Prelude.{slice_get, nat_eq, if◌then◌else◌}
use Rattle.std.specs.List.{list_any}
use Rattle.rgo_machine.specs.Actions.{is_true}
use Rattle.rgo_tac.specs.declared.regions.Class.{Class}
use Rattle.rgo_tac.specs.declared.regions.Class.TheVariants.{NoClass, Global, Name}
use Rattle.rgo_tac.specs.Frames.{TacFrame, value_at}
use Rattle.rgo_code.specs.Code.{CodeOp, CodeInstr, CodeFn, Code, Do, Call, Go, Print, Jump, Branch, Return}
use Rattle.rgo_code.specs.Names.{is_class_named, region_parameters, result_class}
use Rattle.rgo_region_machine.specs.declared.regions.Region.{Region}
use Rattle.rgo_region_machine.specs.declared.regions.Region.TheVariants.{Global as GlobalRegion, Numbered}
use Rattle.rgo_region_machine.specs.Regions.{same_region, Bindings, class_region}
use Rattle.rgo_region_machine.specs.States.{Duty, Create, Share, Protect, Unprotect, Remove, EndBase, Holder}

-- ---- the code of a frame

-- the function of this number
abbrev pub code_function : Code → ℕ → Option CodeFn
code_function code n = slice_get code.functions n

-- the function of a frame
abbrev pub function_at : Code → TacFrame → Option CodeFn
function_at code frame = code_function code frame.function

-- instruction i of a function that was looked up
abbrev pub current_in : Option CodeFn → ℕ → Option CodeInstr
current_in None i = None
current_in (Some f) i = slice_get f.body i

-- the next instruction of a frame; none at the end of the body
abbrev pub current : Code → TacFrame → Option CodeInstr
current code frame = current_in (function_at code frame) frame.next

-- the names that a function removes at its entry, before its first instruction
abbrev pub entry_removes : Option CodeFn → List ℕ
entry_removes None = []
entry_removes (Some f) = f.entry

-- the classes for which a caller of the function passes regions
abbrev pub formals_of : Option CodeFn → List Class
formals_of None = []
formals_of (Some f) = region_parameters f

-- the class of the function's result; NoClass if there is no such function
abbrev pub function_result_class : Option CodeFn → Class
function_result_class None = NoClass
function_result_class (Some f) = result_class f

-- ---- before an instruction

-- the names among these classes; NoClass has no region, and in Global nobody needs a stake
abbrev pub regions_named : List Class → List ℕ
regions_named [] = []
regions_named (Name k ∷ classes) = k ∷ regions_named classes
regions_named (NoClass ∷ classes) = regions_named classes
regions_named (Global ∷ classes) = regions_named classes

-- what is owed before an instruction of this kind, after its creations: only a call and a `go` owe anything
abbrev pub duties_of_op : CodeOp → List Duty
duties_of_op (Call to n from passes protects removes) = map Protect protects
duties_of_op (Go n from passes removes) = map Share (regions_named passes)
duties_of_op (Do to action from removes) = []
duties_of_op (Print pieces from removes) = []
duties_of_op (Jump target removes) = []
duties_of_op (Branch test target removes other otherwise) = []
duties_of_op (Return value) = []

-- the creations come first, since a call may protect, and a `go` share, what was just created
abbrev pub duties_before : Option CodeInstr → List Duty
duties_before None = []
duties_before (Some i) = map Create i.creates ++ duties_of_op i.op

-- what a goroutine with these frames owes before its next instruction; nothing if it has returned
abbrev pub next_duties : Code → List TacFrame → List Duty
next_duties code [] = []
next_duties code (frame ∷ callers) = duties_before (current code frame)

-- ---- after an instruction

-- The names that are removed on the way that a frame takes. Those of a call come later, when it has returned, and those of a return
-- are none: rule 14 wants every name to be gone before it.
abbrev pub removes_behind : TacFrame → CodeOp → List ℕ
removes_behind frame (Do to action from removes) = removes
removes_behind frame (Call to n from passes protects removes) = removes
removes_behind frame (Go n from passes removes) = removes
removes_behind frame (Print pieces from removes) = removes
removes_behind frame (Jump target removes) = removes
removes_behind frame (Branch test target removes other otherwise) =
    if is_true (value_at frame test) then removes else otherwise
removes_behind frame (Return value) = []

-- after a call has returned, the end of its protections comes first: under a protection the removals would do nothing
abbrev pub duties_behind : CodeOp → List Duty
duties_behind (Call to n from passes protects removes) = map Unprotect protects ++ map Remove removes
duties_behind (Do to action from removes) = []
duties_behind (Go n from passes removes) = []
duties_behind (Print pieces from removes) = []
duties_behind (Jump target removes) = []
duties_behind (Branch test target removes other otherwise) = []
duties_behind (Return value) = []

-- the same for an instruction that was looked up
abbrev pub duties_behind_call : Option CodeInstr → List Duty
duties_behind_call None = []
duties_behind_call (Some i) = duties_behind i.op

-- what is owed after a return to these callers; without a caller, the end of the goroutine's base
abbrev pub caller_duties : Code → Holder → List TacFrame → List Duty
caller_duties code h [] = map EndBase h.base
caller_duties code h (caller ∷ callers) = duties_behind_call (current code caller)

-- ---- what is passed to a function

-- The names of a called function: its region parameters, for the regions passed. A parameter for which no region is passed denotes
-- none; in checked code each one has a region (rule 6).
abbrev pub passed : List Class → List (Option Region) → Bindings
passed (Name k ∷ formals) (Some r ∷ regions) = (k, r) ∷ passed formals regions
passed (Name k ∷ formals) (None ∷ regions) = passed formals regions
passed (NoClass ∷ formals) (region ∷ regions) = passed formals regions
passed (Global ∷ formals) (region ∷ regions) = passed formals regions
passed (formal ∷ formals) [] = []
passed [] regions = []

-- the region passed at each position, by the names of the caller
abbrev pub passed_regions : Bindings → List Class → List (Option Region)
passed_regions names passes = map (class_region names) passes

-- whether a parameter is that of the result's class; NoClass is never, since it has no region that could be the result's
abbrev pub same_class : Class → Class → Bool
same_class NoClass c = false
same_class Global Global = true
same_class Global NoClass = false
same_class Global (Name k) = false
same_class (Name k) c = is_class_named k c

-- The names that a call gives to its callee: passed, not protected, and not for the callee's result, whose region the caller needs
-- after the call. Each of them is removed by the callee.
abbrev pub given_names : (result : Class) → (formals passes : List Class) → (protects : List ℕ) → List ℕ
given_names result (formal ∷ formals) (Name k ∷ passes) protects =
    if list_any (nat_eq k) protects || same_class formal result
    then given_names result formals passes protects else k ∷ given_names result formals passes protects
given_names result (formal ∷ formals) (NoClass ∷ passes) protects = given_names result formals passes protects
given_names result (formal ∷ formals) (Global ∷ passes) protects = given_names result formals passes protects
given_names result _ _ protects = []

-- whether the region is passed at one of these positions
abbrev pub stands_in : Region → List (Option Region) → Bool
stands_in r [] = false
stands_in r (None ∷ others) = stands_in r others
stands_in r (Some s ∷ others) = same_region r s || stands_in r others

-- the regions that are passed at two or more positions, each once; not Global, which needs no protection
abbrev pub twice : List (Option Region) → List Region
twice [] = []
twice (Some (Numbered r) ∷ others) =
    if stands_in (Numbered r) others && not (list_any (same_region (Numbered r)) (twice others))
    then Numbered r ∷ twice others else twice others
twice (Some GlobalRegion ∷ others) = twice others
twice (None ∷ others) = twice others
