-- No step is missing: each step of the three-address machine can be done after some region steps. Without this law the tests of the
-- region machine could be met by doing nothing at all.
use Rattle.std.specs.Prelude.{IsSome, List, Some, [], ℕ, ◌∷◌, ◌≡◌}
use Rattle.rgo_code.specs.Checked.{IsChecked}
use Rattle.rgo_code.specs.Code.{Code}
use Rattle.rgo_code.specs.Erasure.{erased}
use Rattle.rgo_code.specs.NameRules.{Ascends}
use Rattle.rgo_machine.specs.Runs.{Leads}
use Rattle.rgo_machine.specs.declared.picks.Pick.{Pick}
use Rattle.rgo_machine.specs.declared.picks.Pick.TheVariants.{Meet, One}
use Rattle.rgo_region_machine.specs.Machine.{Event, Finish, Instruct, region_run, region_step, Attend, TakePage, MakeOffer, Acknowledge}
use Rattle.rgo_region_machine.specs.Room.{MakesTooLarge}
use Rattle.rgo_region_machine.specs.States.{RegionState}
use Rattle.rgo_tac.specs.Tac.{TacState, tac_step}

-- neither an instruction nor an end, so the three-address machine does not notice it
abbrev pub IsRegionStep : Event → Type 0
IsRegionStep (Instruct pick) = ⊥
IsRegionStep (Finish end) = ⊥
IsRegionStep (Attend g) = Unit {0}
IsRegionStep (TakePage g) = Unit {0}
IsRegionStep (MakeOffer g) = Unit {0}
IsRegionStep (Acknowledge g) = Unit {0}

abbrev pub AreRegionSteps : List Event → Type 0
AreRegionSteps [] = Unit {0}
AreRegionSteps (event ∷ events) = IsRegionStep event × AreRegionSteps events

-- A pick of the same kind: the same goroutine, or a meeting of the same receiver. The sender may be another one, since a channel has
-- one offer at a time, and another sender's may be there already.
abbrev pub IsLike : Pick → Pick → Type 0
IsLike (One g) pick = pick ≡ One g
IsLike (Meet r t) pick = (u : ℕ) × (pick ≡ Meet r u)

-- After some region steps, an instruction like the pick can be done. The steps may be those of several goroutines: both sides of a
-- meeting must be ready.
pub record CanInstruct (code : Code) (page_words : ℕ) (s : RegionState) (like : Pick) : Type 0 where
  pub pick : Pick
  pub is_like : IsLike like pick
  pub before : List Event
  pub only_regions : AreRegionSteps before
  pub ready : RegionState
  pub leads : Leads (region_step code page_words) s before ready
  pub steps : IsSome (region_step code page_words ready (Instruct pick))

-- Checked code never gets stuck on a region. The only step that is excluded makes an object of too many data pages, and a run that
-- comes to one ends with a limit of its own.
abbrev pub NoStepMissing : Type 0
NoStepMissing =
    (code : Code) (page_words : ℕ) (events : List Event) (s : RegionState) (pick : Pick) (next : TacState) →
    IsChecked code → Ascends code → region_run code page_words events ≡ Some s →
    tac_step (erased code) s.plain pick ≡ Some next → ¬ (MakesTooLarge page_words s.plain next) →
    CanInstruct code page_words s pick
