-- What a call passes, and what it gives to its callee, of the names that the code keeps. Where the machine has lists of bindings, the
-- code has tables; the two are compared name by name (`NamesStandFor`), so their order does not matter.
use Rattle.std.specs.Prelude.{◌≡◌, ℕ, List, [], ◌∷◌, ◌++◌, map, Option, Some, None, nat_eq, if◌then◌else◌}
use Rattle.std.specs.Prelude.{slice_get, slice_set}
use Rattle.std.specs.List.{list_any}
use Rattle.rgo_tac.specs.declared.regions.Class.{Class}
use Rattle.rgo_tac.specs.declared.regions.Class.TheVariants.{NoClass, Global, Name}
use Rattle.rgo_code.specs.Code.{CodeFn, CodeInstr}
use Rattle.rgo_code.specs.Lists.{passes_in, protects_in}
use Rattle.rgo_region_machine.specs.declared.regions.Region.{Region}
use Rattle.rgo_region_machine.specs.declared.regions.Region.TheVariants.{Global as GlobalRegion, Numbered}
use Rattle.rgo_region_machine.specs.Owed.{formals_of, given_names, passed, passed_regions, function_result_class, twice}
use Rattle.rgo_region_machine.specs.Regions.{Bindings, bound}
use Rattle.rgo_region_interpreter.specs.declared.holders.Holder.{Holder}
use Rattle.rgo_region_interpreter.specs.declared.worlds.World.{World}
use Rattle.rgo_region_interpreter.specs.Holders.{FrameNames, bound_in, Renames, HolderEnters, HolderBegins, HolderReturns, frame_names_of, newest_frame_names}

-- these names are bound to what those of the machine are bound to
abbrev pub NamesStandFor : FrameNames → Bindings → Type 0
NamesStandFor names bindings = (k : ℕ) → bound_in names k ≡ bound bindings k

abbrev pub or_no_elements : {X : Type 0} → Option (List X) → List X
or_no_elements None = []
or_no_elements (Some xs) = xs

-- the one, or if it is nothing, the other
abbrev pub or_region : Option Region → Option Region → Option Region
or_region (Some r) other = Some r
or_region None other = other

-- what name k is bound to once `name` is bound to the region that is passed for it, if it was bound to none
abbrev pub bound_first : FrameNames → (name : ℕ) → (passed : Option Region) → (k : ℕ) → Option Region
bound_first names name passed k = or_region (bound_in names k) (if nat_eq name k then passed else None)

-- the region of a class
abbrev pub class_region_in : FrameNames → Class → Option Region
class_region_in names NoClass = None
class_region_in names Global = Some GlobalRegion
class_region_in names (Name k) = bound_in names k

-- what a name is bound to, without these
abbrev pub bound_except : List ℕ → FrameNames → (k : ℕ) → Option Region
bound_except given names k = if list_any (nat_eq k) given then None else bound_in names k

-- the newest frame no longer has these names
abbrev pub UnbindsAll : Holder → Holder → List ℕ → Type 0
UnbindsAll c d given = Renames c d (bound_except given)

-- ---- what goroutines have after a call, a start and a return; nothing else changed

-- a caller without what it gives, and above it the callee's names, which are bound to the regions that were passed
pub record HolderCalled (c d : Holder) (function : Option CodeFn) (passes : List Class) (protects : List ℕ) : Type 0 where
  pub caller : Holder
  pub leaves : UnbindsAll c caller (given_names (function_result_class function) (formals_of function) passes protects)
  pub names : FrameNames
  pub enters : HolderEnters caller d names
  pub stand : (bindings : Bindings) → NamesStandFor (newest_frame_names (frame_names_of c)) bindings
      → NamesStandFor names (passed (formals_of function) (passed_regions bindings passes))

-- the same for a goroutine that starts: its base has the regions that it was passed at two positions
pub record HolderStarted (c d : Holder) (function : Option CodeFn) (passes : List Class) : Type 0 where
  pub names : FrameNames
  pub base : List ℕ
  pub begins : HolderBegins d names base
  pub stand : (bindings : Bindings) → NamesStandFor (newest_frame_names (frame_names_of c)) bindings
      → NamesStandFor names (passed (formals_of function) (passed_regions bindings passes))
      × (map Numbered base ≡ twice (passed_regions bindings passes))

-- goroutine g has called a function by this instruction
pub record EntersCall (w v : World) (g : ℕ) (function : Option CodeFn) (instr : Option CodeInstr) : Type 0 where
  pub same : v ≡ record w { holders = v.holders }
  pub called : (c : Holder) → slice_get w.holders.items g ≡ Some c → (d : Holder)
      × (v.holders.items ≡ slice_set w.holders.items g d) × HolderCalled c d function (passes_in instr) (protects_in instr)

-- it has started another one
pub record BeginsOther (w v : World) (g : ℕ) (function : Option CodeFn) (instr : Option CodeInstr) : Type 0 where
  pub same : v ≡ record w { holders = v.holders }
  pub started : (c : Holder) → slice_get w.holders.items g ≡ Some c
      → (d : Holder) × (v.holders.items ≡ w.holders.items ++ d ∷ []) × HolderStarted c d function (passes_in instr)

-- its newest function has returned
pub record LeavesCall (w v : World) (g : ℕ) : Type 0 where
  pub same : v ≡ record w { holders = v.holders }
  pub back : (c : Holder) → slice_get w.holders.items g ≡ Some c
      → (d : Holder) × (v.holders.items ≡ slice_set w.holders.items g d) × HolderReturns c d
