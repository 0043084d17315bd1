-- Reserved pages are for the spread object that their goroutine makes next, and it has no more of them than it needs. The machine
-- counts reserved pages without saying for which object. This law makes the count enough: no other object can come between.
use Rattle.std.specs.Prelude.{List, Some, [], false, slice_get, true, ℕ, ◌<◌, ◌≡◌, ◌≤◌}
use Rattle.rgo_code.specs.Checked.{IsChecked}
use Rattle.rgo_code.specs.Code.{Code}
use Rattle.rgo_code.specs.NameRules.{Ascends}
use Rattle.rgo_memory.specs.Memory.{Object}
use Rattle.rgo_region_machine.specs.Machine.{Event, next_object, region_run}
use Rattle.rgo_region_machine.specs.Objects.{is_spread, is_too_large}
use Rattle.rgo_region_machine.specs.Room.{pages_of}
use Rattle.rgo_region_machine.specs.States.{Holder, RegionState}

-- the goroutine owes nothing, and makes a spread object next that has at least the pages which are reserved
pub record IsReserved (code : Code) (page_words : ℕ) (s : RegionState) (g : ℕ) (h : Holder) : Type 0 where
  pub none : h.duties ≡ []
  pub object : Object
  pub next : next_object code s g ≡ Some object
  pub spread : is_spread page_words object ≡ true
  pub small : is_too_large page_words object ≡ false
  pub within : h.reserved ≤ pages_of page_words object

-- this holds in every state of a run in which the goroutine has reserved pages
abbrev pub ReservedForNext : Type 0
ReservedForNext =
    (code : Code) (page_words : ℕ) (events : List Event) (s : RegionState) (g : ℕ) (h : Holder) →
    IsChecked code → Ascends code → region_run code page_words events ≡ Some s → slice_get s.holders g ≡ Some h →
    0 < h.reserved → IsReserved code page_words s g h
