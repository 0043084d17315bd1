-- The objects that instructions make: to which variable, how large they are, and their region.
use Rattle.std.specs.Prelude.{◌≡◌, ℕ, ◌+◌, max, List, [], ◌∷◌, length, pos, Option, Some, None}
use Rattle.std.specs.Prelude.{Bool, true, false, slice_get, slice_set, unwrap_or}
use Rattle.std.specs.Option.{option_map}
use Rattle.rgo_typed.specs.declared.actions.Action.{Action}
use Rattle.rgo_typed.specs.declared.actions.Action.TheVariants as action
use Rattle.rgo_typed.specs.declared.programs.Struct.{Struct}
use Rattle.rgo_memory.specs.declared.values.Value.{Value}
use Rattle.rgo_memory.specs.declared.values.Value.TheVariants as value
use Rattle.rgo_tac.specs.declared.regions.Class.{Class}
use Rattle.rgo_tac.specs.declared.regions.Class.TheVariants.{NoClass, Global, Name}
use Rattle.rgo_tac.specs.Code.{Op, Do, Call, Go, Print, Jump, Branch, Return}
use Rattle.rgo_tac.specs.Frames.{TacFrame, operand_values}
use Rattle.rgo_tac.specs.Ops.{operation_of}
use Rattle.rgo_code.specs.Names.{class_of}
use Rattle.rgo_region_machine.specs.declared.regions.Region.{Region}
use Rattle.rgo_region_machine.specs.declared.regions.Region.TheVariants.{Global as GlobalRegion}
use Rattle.rgo_region_machine.specs.Objects.{making_region, fill_of}
use Rattle.rgo_region_machine.specs.Owed.{removes_behind}
use Rattle.rgo_region_machine.specs.States.{RegionState, top_names}
use Rattle.rgo_region_interpreter.specs.declared.holders.Holder.{Holder}
use Rattle.rgo_region_interpreter.specs.declared.objects.Extent.{Extent}
use Rattle.rgo_region_interpreter.specs.declared.objects.Making.{Making}
use Rattle.rgo_region_interpreter.specs.declared.worlds.Halt.{Halt}
use Rattle.rgo_region_interpreter.specs.declared.worlds.Halt.TheVariants as halt
use Rattle.rgo_region_interpreter.specs.declared.worlds.Next.{Next}
use Rattle.rgo_region_interpreter.specs.declared.worlds.World.{World}
use Rattle.rgo_region_interpreter.specs.Extents.{extent_is_spread, extent_is_too_large, pages_wanted}
use Rattle.rgo_region_interpreter.specs.Holders.{Fills, Reserves, fill_in, region_in}
use Rattle.rgo_region_interpreter.specs.Tables.{TableOwns, TableTakesPage}
use Rattle.rgo_region_interpreter.specs.Works.{Attended, IsNextInWorld, Ready, SameRun, StopsShort}

-- ---- which object an instruction makes

abbrev pub struct_extent : Option Struct → Option Extent
struct_extent None = None
struct_extent (Some s) = Some (record { cells = length s.fields; words = max 1 (length s.fields) })

abbrev pub slice_extent : ℕ → Extent
slice_extent n = record { cells = n; words = 1 + n }

abbrev pub channel_extent : ℕ → Extent
channel_extent n = record { cells = max 1 n; words = 2 + max 1 n }

-- how many cells an object of this size has; nothing is made at a negative size
abbrev pub cells_for_size : Value → Option ℕ
cells_for_size (value.Int (pos n)) = Some n
cells_for_size _ = None

abbrev pub sized_extent : (ℕ → Extent) → Value → Option Extent
sized_extent extent size = option_map extent (cells_for_size size)

-- how large the object is that an action on these values makes
abbrev pub extent_made : List Struct → Action → List Value → Option Extent
extent_made structs (action.New n) [] = struct_extent (slice_get structs n)
extent_made structs action.Slice (size ∷ []) = sized_extent slice_extent size
extent_made structs action.Chan (size ∷ []) = sized_extent channel_extent size
extent_made structs (action.New n) _ = None
extent_made structs action.Slice _ = None
extent_made structs action.Chan _ = None
extent_made structs (action.Int k) vs = None
extent_made structs (action.Bool b) vs = None
extent_made structs action.Nil vs = None
extent_made structs action.Copy vs = None
extent_made structs (action.Binary op) vs = None
extent_made structs action.Neg vs = None
extent_made structs action.Not vs = None
extent_made structs action.IsNil vs = None
extent_made structs action.Len vs = None
extent_made structs (action.Load k) vs = None
extent_made structs (action.Store k) vs = None
extent_made structs action.At vs = None
extent_made structs action.Put vs = None
extent_made structs action.Recv vs = None
extent_made structs action.Send vs = None
extent_made structs action.Close vs = None
extent_made structs (action.Get n) vs = None
extent_made structs (action.Set n) vs = None

abbrev pub making_of : (to : Option ℕ) → Option Extent → Option Making
making_of (Some to) (Some extent) = Some (record { to = to; extent = extent })
making_of _ _ = None

-- the object that an instruction of a frame makes
abbrev pub making_by : List Struct → TacFrame → Op → Option Making
making_by structs frame (Do to action from) = making_of to (extent_made structs action (operand_values frame from))
making_by structs frame (Call to n from) = None
making_by structs frame (Go n from) = None
making_by structs frame (Print pieces from) = None
making_by structs frame (Jump target) = None
making_by structs frame (Branch test target other) = None
making_by structs frame (Return value) = None

-- goroutine g makes this object by its next instruction
pub record GoroutineMakesNext (w : World) (g : ℕ) (next : Next) (making : Making) : Type 0 where
  pub at : IsNextInWorld w g next
  pub is : making_by w.code.now.structs at.frame (operation_of next.op) ≡ Some making

-- it makes none
pub record MakesNone (w : World) (g : ℕ) (next : Next) : Type 0 where
  pub at : IsNextInWorld w g next
  pub is : making_by w.code.now.structs at.frame (operation_of next.op) ≡ None

-- these names are removed on the way that goroutine g takes from its next instruction
abbrev pub RemovesBehind : World → ℕ → Next → List ℕ → Type 0
RemovesBehind w g next removes = (at : IsNextInWorld w g next) → removes ≡ removes_behind at.frame at.is.instr.op

-- ---- its region

abbrev pub named_region : Option Holder → ℕ → Option Region
named_region None k = None
named_region (Some c) k = region_in c k

-- the region of a class, for the newest frame of a goroutine
abbrev pub region_of_class : World → ℕ → Class → Option Region
region_of_class w g NoClass = None
region_of_class w g Global = Some GlobalRegion
region_of_class w g (Name k) = named_region (slice_get w.holders.items g) k

abbrev pub region_for : World → ℕ → Next → Making → Option Region
region_for w g next making = region_of_class w g (class_of next.function making.to)

-- ---- its pages

-- goroutine g's holder changes like this, and no other holder changes
abbrev pub IsChanged : World → World → (g : ℕ) → (change : Holder → Holder → Type 0) → Type 0
IsChanged w v g change = (c : Holder) → slice_get w.holders.items g ≡ Some c
    → (d : Holder) × (v.holders.items ≡ slice_set w.holders.items g d) × change c d

-- and nothing else
pub record ChangesHolder (w v : World) (g : ℕ) (change : Holder → Holder → Type 0) : Type 0 where
  pub same : v ≡ record w { holders = v.holders }
  pub changed : IsChanged w v g change

-- a page that was taken for a spread object is reserved; another is the own page, to be filled from its beginning
abbrev pub WithPage : (spread : Bool) → Holder → Holder → Region → Type 0
WithPage true c d region = Reserves c d (c.reserved + 1)
WithPage false c d region = Fills c d region 0

-- goroutine g has taken a page in a region for an object
pub record AddsPage (w v : World) (g : ℕ) (region : Region) (extent : Extent) : Type 0 where
  pub same : v ≡ record w { table = v.table; holders = v.holders }
  pub changed : IsChanged w v g (λ c d. WithPage (extent_is_spread w.sizes.page_words extent) c d region)
  pub taken : TableTakesPage w.table v.table region

abbrev pub fill_held : Option Holder → Region → Option ℕ
fill_held None region = None
fill_held (Some c) region = fill_in c region

-- how many words are used of the page that a goroutine fills in a region
abbrev pub fill_for : World → ℕ → Region → Option ℕ
fill_for w g region = fill_held (slice_get w.holders.items g) region

abbrev pub reserved_held : Option Holder → ℕ
reserved_held None = 0
reserved_held (Some c) = c.reserved

-- how many pages a goroutine has reserved
abbrev pub reserved_for : World → ℕ → ℕ
reserved_for w g = reserved_held (slice_get w.holders.items g)

-- how many pages a goroutine is to take in a region before an object
abbrev pub pages_wanted_for : World → ℕ → Region → Extent → ℕ
pages_wanted_for w g region extent =
    pages_wanted w.sizes.page_words (reserved_for w g) (fill_for w g region) extent

-- a spread object takes the pages that were reserved, and any other takes this many words of the own page
abbrev pub Placed : (spread : Bool) → Holder → Holder → Region → (words : ℕ) → Type 0
Placed true c d region words = Reserves c d 0
Placed false c d region words = Fills c d region (unwrap_or (fill_in c region) 0 + words)

-- an object is placed in goroutine g's pages of a region
pub record PlacesObject (w v : World) (g : ℕ) (region : Region) (extent : Extent) (object : ℕ) : Type 0 where
  pub same : v ≡ record w { table = v.table; holders = v.holders }
  pub changed : IsChanged w v g (λ c d. Placed (extent_is_spread w.sizes.page_words extent) c d region extent.words)
  pub owned : TableOwns w.table v.table region object

-- a state at which goroutine g is ready, and has all pages of a region that are taken for the object that it makes
pub record IsRoomy (w : World) (s : RegionState) (g : ℕ) (next : Next) (making : Making) : Type 0 where
  pub ready : Ready w s g
  pub makes : GoroutineMakesNext w g next making
  pub region : Region
  pub is_region : making_region (Some next.function) (top_names ready.works.holder.environments) makes.at.is.instr.op
      ≡ Some region
  pub small : extent_is_too_large w.sizes.page_words making.extent ≡ false
  pub has_pages : pages_wanted w.sizes.page_words ready.works.holder.reserved
      (fill_of ready.works.holder.fills region) making.extent ≡ 0

-- the world is at such a state after some steps with regions
pub record ObjectHasRoom (w v : World) (s : RegionState) (g : ℕ) (next : Next) (making : Making) : Type 0 where
  pub attended : Attended w v s g []
  pub roomy : IsRoomy v attended.state g next making

-- there is no room, after some pages at most; or memory ran out
abbrev pub ObjectHasNoRoom : Halt → World → World → ℕ → Type 0
ObjectHasNoRoom halt.NoMemory w v g = SameRun w v
ObjectHasNoRoom (halt.NoRoom why) w v g = (s : RegionState) → Ready w s g → StopsShort w v s g why
