-- A run with its regions: which run of the region machine it is at.
use Rattle.std.specs.Prelude.{◌≡◌, ◌≤◌, ◌<◌, ℕ, Bool, false, List, [], ◌∷◌, ◌++◌, drop, length, map, Option, Some, None}
use Rattle.std.specs.Prelude.{if◌then◌else◌, slice_get}
use Rattle.rgo_machine.specs.declared.limits.Shortage.{Shortage}
use Rattle.rgo_tac_interpreter.specs.declared.marks.Mark.{Mark as WayMark}
use Rattle.rgo_tac.specs.Frames.{TacFrame}
use Rattle.rgo_tac_interpreter.specs.Stretches.{is_marked}
use Rattle.rgo_tac.specs.Tac.{TacState}
use Rattle.rgo_code.specs.Checked.{IsChecked}
use Rattle.rgo_code.specs.Code.{CodeInstr, CodeFn, Code}
use Rattle.rgo_code.specs.Lists.{creates_in, removes_in, otherwise_in}
use Rattle.rgo_code.specs.NameRules.{Ascends}
use Rattle.rgo_code.specs.Names.{region_parameters}
use Rattle.rgo_region_machine.specs.Machine.{Event}
use Rattle.rgo_region_machine.specs.declared.regions.Region.TheVariants.{Numbered}
use Rattle.rgo_region_machine.specs.Objects.{fill_of}
use Rattle.rgo_region_machine.specs.Owed.{current, next_duties}
use Rattle.rgo_region_machine.specs.Room.{roomy_run, LacksIn}
use Rattle.rgo_region_machine.specs.States.{RegionState, frames_of, end_in, plain_at}
use Rattle.rgo_region_machine.specs.States as spec
use Rattle.rgo_region_interpreter.specs.declared.holders.Holder.{Holder}
use Rattle.rgo_region_interpreter.specs.declared.worlds.World.{World}
use Rattle.rgo_region_interpreter.specs.Holders.{HolderShows, fill_in}
use Rattle.rgo_region_interpreter.specs.Tables.{RegionTableShows, MemoryShows}

-- ---- what the code keeps of a state

-- of each goroutine
pub record HoldersShow (w : World) (s : RegionState) : Type 0 where
  pub as_many : length w.holders.items ≡ length s.holders
  pub each : (g : ℕ) (c : Holder) (h : spec.Holder) → slice_get w.holders.items g ≡ Some c
      → slice_get s.holders g ≡ Some h → HolderShows c h
  -- Both say the same of a region that is not made yet. Without this a creation would have to look at the fills of every goroutine.
  pub unmade : (g : ℕ) (c : Holder) (h : spec.Holder) → slice_get w.holders.items g ≡ Some c
      → slice_get s.holders g ≡ Some h → (r : ℕ) → length s.regions ≤ r
      → fill_in c (Numbered r) ≡ fill_of h.fills (Numbered r)

-- What was printed before the print was last cleared is forgotten, as is what the objects of removed regions held. Once
-- the run has ended, it says nothing of what goroutines have of the regions.
pub record Shown (w : World) (s : RegionState) : Type 0 where
  pub goroutines : w.state.goroutines ≡ s.plain.goroutines
  pub memory : MemoryShows w.state.memory s.regions s.owners s.plain.memory
  pub before : List ℕ
  pub printed : s.plain.printed ≡ before ++ w.state.printed
  pub ended : w.state.ended ≡ end_in s.mark
  -- the region machine keeps no end but its mark
  pub goes_on : s.plain.ended ≡ None
  pub table : RegionTableShows w.table s.regions s.global_pages s.owners
  pub holders : s.mark ≡ None → HoldersShow w s

-- ---- what is known of the code

-- an instruction that is left by its first way, or by the other, has nothing to do with regions
abbrev pub HasNoRegionSteps : (first : Bool) → Option CodeInstr → Type 0
HasNoRegionSteps first instr =
    (creates_in instr ≡ []) × ((if first then removes_in instr else otherwise_in instr) ≡ [])

-- this holds for each way that is not marked
abbrev pub Marks : WayMark → Option CodeInstr → Type 0
Marks mark instr = (first : Bool) → is_marked mark first ≡ false → HasNoRegionSteps first instr

-- these are the marks of a function's instructions, and of all functions'
abbrev pub MarksAll : List WayMark → CodeFn → Type 0
MarksAll marks f = (i : ℕ) (mark : WayMark) → slice_get marks i ≡ Some mark → Marks mark (slice_get f.body i)

abbrev pub AreMarks : Code → List (List WayMark) → Type 0
AreMarks code all = (n : ℕ) (marks : List WayMark) (f : CodeFn) → slice_get all n ≡ Some marks
    → slice_get code.functions n ≡ Some f → MarksAll marks f

pub record Prepared (w : World) : Type 0 where
  pub checked : IsChecked w.code.now
  pub ascends : Ascends w.code.now
  pub marks : AreMarks w.code.now (map (λ v. v.items) w.marks.items)
  pub formals : map (λ v. v.items) w.formals.items ≡ map region_parameters w.code.now.functions

-- ---- between instructions

-- the names that are created before the next instruction
abbrev pub next_creates : Code → List TacFrame → List ℕ
next_creates code [] = []
next_creates code (frame ∷ callers) = creates_in (current code frame)

-- A goroutine owes what is left of the steps before its next instruction. Those that follow the creations are done together, since no
-- room can be lacking for them.
pub record OwesNext (code : Code) (s : RegionState) (g : ℕ) (c : Holder) (h : spec.Holder) : Type 0 where
  pub left : h.duties ≡ drop c.done (next_duties code (frames_of s.plain g))
  pub within : c.done ≤ length (next_duties code (frames_of s.plain g))
  pub together : length (next_creates code (frames_of s.plain g)) < c.done → h.duties ≡ []

abbrev pub AllOweNext : World → RegionState → Type 0
AllOweNext w s = (g : ℕ) (c : Holder) (h : spec.Holder) → slice_get w.holders.items g ≡ Some c
    → slice_get s.holders g ≡ Some h → OwesNext w.code.now s g c h

-- A run of the region machine over the world's code, with room for each of its steps, has come to this state of the
-- three-address machine. The print of the run is what was given out before, and then that of the world.
pub record WorldReaches (w : World) (given : List ℕ) (p : TacState) : Type 0 where
  pub checked : IsChecked w.code.now
  pub ascends : Ascends w.code.now
  pub events : List Event
  pub state : RegionState
  pub run : roomy_run w.code.now w.sizes events ≡ Some state
  pub is : p ≡ plain_at state w.state.printed
  pub print : state.plain.printed ≡ given ++ w.state.printed

-- and the world is at the state of that run
pub record IsWorldAt (w : World) (given : List ℕ) (p : TacState) : Type 0 where
  pub reaches : WorldReaches w given p
  pub prepared : Prepared w
  pub shown : Shown w reaches.state
  pub owes : reaches.state.mark ≡ None → AllOweNext w reaches.state
  -- no limit of the region machine has stopped it
  pub unstopped : end_in reaches.state.mark ≡ None → reaches.state.mark ≡ None

-- ---- what it means to lack room

abbrev pub WorldLacks : World → Shortage → (given : List ℕ) → TacState → Type 0
WorldLacks w why given p = (at : IsWorldAt w given p) × LacksIn w.code.now w.sizes why at.reaches.state
