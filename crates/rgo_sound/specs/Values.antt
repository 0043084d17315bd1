-- The invariant of region runs of checked code: where pointers lead. Variables that are not live are left out: their classes may
-- name regions that were removed, and the rules allow that because nobody reads them again.
use Rattle.std.specs.Prelude.{List, None, Option, Some, [], length, slice_get, ℕ, ◌+◌, ◌∷◌, ◌≡◌, ◌≢◌}
use Rattle.rgo_code.specs.Code.{Call, Code, CodeFn, CodeInstr, CodeOp, Do, Go, Print, Jump, Branch, Return}
use Rattle.rgo_code.specs.Erasure.{erased_fn}
use Rattle.rgo_code.specs.Names.{class_of}
use Rattle.rgo_flow.specs.Live.{Live}
use Rattle.rgo_memory.specs.Memory.{Memory, Object}
use Rattle.rgo_memory.specs.declared.values.Value.{Value}
use Rattle.rgo_region_machine.specs.Owed.{current, function_at}
use Rattle.rgo_region_machine.specs.Regions.{Bindings, class_region}
use Rattle.rgo_region_machine.specs.States.{RegionEnvironment, Holder, RegionState, frames_of}
use Rattle.rgo_region_machine.specs.declared.regions.Region.{Region}
use Rattle.rgo_region_machine.specs.declared.regions.Region.TheVariants.{Global as GlobalRegion}
use Rattle.rgo_sound.specs.Safety.{cells_of}
use Rattle.rgo_sound.specs.Types.{Each}
use Rattle.rgo_tac.specs.Frames.{TacFrame, value_at}
use Rattle.rgo_tac.specs.declared.regions.Class.{Class}
use Rattle.rgo_tac.specs.declared.regions.Class.TheVariants.{NoClass}
use Rattle.rgo_memory.specs.declared.values.Value.TheVariants as value

-- a pointer leads into the region; a value that is not a pointer leads everywhere
abbrev pub LeadsInto : List Region → Region → Value → Type 0
LeadsInto owners r (value.Int i) = Unit {0}
LeadsInto owners r (value.Bool b) = Unit {0}
LeadsInto owners r value.Nil = Unit {0}
LeadsInto owners r (value.Object o) = slice_get owners o ≡ Some r

-- a pointer leads into the region of its variable's class
abbrev pub LeadsHome : List Region → Bindings → Class → Value → Type 0
LeadsHome owners names class (value.Int i) = Unit {0}
LeadsHome owners names class (value.Bool b) = Unit {0}
LeadsHome owners names class value.Nil = Unit {0}
LeadsHome owners names class (value.Object o) = (r : Region) × (class_region names class ≡ Some r)
    × (slice_get owners o ≡ Some r)

-- What the objects of a region hold stays there, whether the region is live or not: so a removal needs no proof, since it changes
-- no owner and no cell. What package variables hold is in Global.
pub record MemoryHome (owners : List Region) (m : Memory) : Type 0 where
  pub owned : length owners ≡ length m.heap
  pub cells : (o : ℕ) (object : Object) (r : Region) → slice_get m.heap o ≡ Some object → slice_get owners o ≡ Some r
      → Each (LeadsInto owners r) (cells_of object)
  pub variables : Each (LeadsInto owners GlobalRegion) m.variables

-- the variable that waits for the result of a call
abbrev pub call_target : CodeOp → Option ℕ
call_target (Call to n from passes protects removes) = to
call_target (Do to action from removes) = None
call_target (Go n from passes removes) = None
call_target (Print pieces from removes) = None
call_target (Jump target removes) = None
call_target (Branch test target removes other otherwise) = None
call_target (Return value) = None

-- of the newest frame: what is live before its instruction
abbrev pub TopLeads : Code → List Region → TacFrame → Bindings → Type 0
TopLeads code owners frame names = (fn : CodeFn) → function_at code frame ≡ Some fn → (v : ℕ)
    → Live (erased_fn fn) v frame.next → LeadsHome owners names (class_of fn v) (value_at frame v)

-- of a caller: what is live after its call, except the call's own target, which gets its value only at the return
abbrev pub CallerLeads : Code → List Region → TacFrame → Bindings → Type 0
CallerLeads code owners frame names =
    (fn : CodeFn) (call : CodeInstr) → function_at code frame ≡ Some fn → current code frame ≡ Some call → (v : ℕ)
    → call_target call.op ≢ Some v → Live (erased_fn fn) v (frame.next + 1) →
    LeadsHome owners names (class_of fn v) (value_at frame v)

-- what is lent for a result is the region of the variable that waits for it, so the returned pointer leads home there
abbrev pub IsLinked : Code → RegionEnvironment → TacFrame → RegionEnvironment → Type 0
IsLinked code f caller d =
    (fn : CodeFn) (call : CodeInstr) (to : ℕ) → function_at code caller ≡ Some fn → current code caller ≡ Some call
    → call_target call.op ≡ Some to →
    f.lent ≢ NoClass → class_region f.names f.lent ≡ class_region d.names (class_of fn to)

abbrev pub CallersLead : Code → List Region → RegionEnvironment → List TacFrame → List RegionEnvironment → Type 0
CallersLead code owners f [] [] = Unit {0}
CallersLead code owners f [] (d ∷ ds) = ⊥
CallersLead code owners f (caller ∷ callers) [] = ⊥
CallersLead code owners f (caller ∷ callers) (d ∷ ds) =
    CallerLeads code owners caller d.names × IsLinked code f caller d × CallersLead code owners d callers ds

abbrev pub FramesLead : Code → List Region → List TacFrame → List RegionEnvironment → Type 0
FramesLead code owners [] environments = Unit {0}
FramesLead code owners (frame ∷ callers) [] = ⊥
FramesLead code owners (frame ∷ callers) (f ∷ fs) = TopLeads code owners frame f.names
    × CallersLead code owners f callers fs

-- pointers stay in their regions
pub record ValuesStay (code : Code) (s : RegionState) : Type 0 where
  pub memory : MemoryHome s.owners s.plain.memory
  pub frames : (g : ℕ) (h : Holder) → slice_get s.holders g ≡ Some h
      → FramesLead code s.owners (frames_of s.plain g) h.environments
