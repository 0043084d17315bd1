-- Which goroutines have reserved pages, by their records: only those that owe nothing and make a spread object next. This is an invariant
-- of runs, proved from their first state on, hence the events.
use Rattle.rgo_sound.specs.Memory.Memory.{Object}
use Rattle.rgo_sound.specs.RegionMachine.Machine.{Event, next_object, region_run}
use Rattle.rgo_sound.specs.RegionMachine.Objects.{allotted, is_spread}
use Rattle.rgo_sound.specs.RegionMachine.Room.{pages_of}
use Rattle.rgo_sound.specs.RegionMachine.States.{Duty, Holder}
use Rattle.rgo_sound.specs.RegionMachine.declared.regions.Region.{Region}
use Rattle.std.specs.Prelude.{List, None, Some, [], false, slice_get, true, ◌∷◌, ◌≡◌, ◌≤◌}
use Rattle.rgo_core_frames.specs.States.{AtInstruction, Here}

-- a run leads to this state
abbrev pub IsReached : Here → List Event → Type 0
IsReached x events = region_run x.code x.page_words events ≡ Some x.s

pub record ReservedLaw : Type 0 where
  -- none by a goroutine whose record owes something
  pub owing : (x : Here) (events : List Event) (h : Holder) (d : Duty) (ds : List Duty) → IsReached x events
      → slice_get x.s.holders x.g ≡ Some h → x.c.holder.duties ≡ d ∷ ds → h.reserved ≡ 0
  -- none before an instruction that makes no object
  pub unmade : (x : AtInstruction) (events : List Event) → IsReached x.here events
      → next_object x.here.code x.here.s x.here.g ≡ None → x.before.h.reserved ≡ 0
  -- nor before one whose object is not spread
  pub unspread : (x : AtInstruction) (events : List Event) (object : Object) → IsReached x.here events
      → next_object x.here.code x.here.s x.here.g ≡ Some object → is_spread x.here.page_words object ≡ false
      → x.before.h.reserved ≡ 0
  -- no more than the lead page and the data pages of the object
  pub within : (x : AtInstruction) (events : List Event) (object : Object) → IsReached x.here events
      → next_object x.here.code x.here.s x.here.g ≡ Some object
      → x.before.h.reserved ≤ pages_of x.here.page_words object
  -- When all of them are reserved, the object is placed in them: none is reserved after it, and the own pages stay.
  pub has_place : (x : AtInstruction) (events : List Event) (object : Object) (r : Region) → IsReached x.here events
      → next_object x.here.code x.here.s x.here.g ≡ Some object → is_spread x.here.page_words object ≡ true
      → x.before.h.reserved ≡ pages_of x.here.page_words object
      → allotted x.here.page_words x.before.h (Some r) (Some object) ≡ Some (record x.before.h { reserved = 0 }, r ∷ [])
