-- What a goroutine names next is live, with a stake of its own. The stake matters as much as being live: a region that only others
-- keep could be removed by them before the step is taken.
use Rattle.std.specs.Prelude.{Contains, List, Some, [], slice_get, true, ℕ, ◌∷◌, ◌≡◌, ◌⊎◌}
use Rattle.rgo_code.specs.Checked.{IsChecked}
use Rattle.rgo_code.specs.Code.{Code, CodeInstr}
use Rattle.rgo_code.specs.NameRules.{Ascends}
use Rattle.rgo_region_machine.specs.Machine.{Event, region_run}
use Rattle.rgo_region_machine.specs.Objects.{making_region, touched}
use Rattle.rgo_region_machine.specs.Owed.{current, function_at}
use Rattle.rgo_region_machine.specs.Regions.{bound, is_live}
use Rattle.rgo_region_machine.specs.States.{Create, Duty, EndBase, Holder, Offer, Protect, RegionState, Remove, Share}
use Rattle.rgo_region_machine.specs.States.{NoOffer, Standing, Taken, Unprotect, frames_of, top_names}
use Rattle.rgo_region_machine.specs.declared.regions.Region.{Region}
use Rattle.rgo_region_machine.specs.declared.regions.Region.TheVariants.{Global as GlobalRegion, Numbered}
use Rattle.rgo_tac.specs.Frames.{TacFrame}

-- a duty names a region; a creation names none, since the region does not exist yet
abbrev pub DutyNames : Holder → Duty → Region → Type 0
DutyNames h (Create k) r = ⊥
DutyNames h (Share k) r = bound (top_names h.environments) k ≡ Some r
DutyNames h (Protect k) r = bound (top_names h.environments) k ≡ Some r
DutyNames h (Unprotect k) r = bound (top_names h.environments) k ≡ Some r
DutyNames h (Remove k) r = bound (top_names h.environments) k ≡ Some r
DutyNames h (EndBase q) r = q ≡ r

-- an instruction names a region: it makes an object there, or touches one there
abbrev pub InstructionNames : Code → RegionState → Holder → List TacFrame → Region → Type 0
InstructionNames code s h [] r = ⊥
InstructionNames code s h (frame ∷ callers) r =
    (i : CodeInstr) × (current code frame ≡ Some i)
    × ((making_region (function_at code frame) (top_names h.environments) i.op ≡ Some r)
    ⊎ ((o : ℕ) × (touched frame i.op ≡ Some o) × (slice_get s.owners o ≡ Some r)))

-- The goroutine's next step names the region: its acknowledgement, its first duty, or its instruction. While an offer has to be
-- acknowledged, the first duty is not next, but its region counts as well: the law is stronger for it.
abbrev pub NextNames : Code → RegionState → ℕ → Holder → List Duty → Offer → Region → Type 0
NextNames code s g h (duty ∷ duties) (Taken o) r = (slice_get s.owners o ≡ Some r) ⊎ DutyNames h duty r
NextNames code s g h [] (Taken o) r = slice_get s.owners o ≡ Some r
NextNames code s g h (duty ∷ duties) NoOffer r = DutyNames h duty r
NextNames code s g h (duty ∷ duties) (Standing o) r = DutyNames h duty r
NextNames code s g h [] NoOffer r = InstructionNames code s h (frames_of s.plain g) r
NextNames code s g h [] (Standing o) r = InstructionNames code s h (frames_of s.plain g) r

-- the region is Global, or live with a stake of the goroutine
abbrev pub HasStake : RegionState → Holder → Region → Type 0
HasStake s h GlobalRegion = Unit {0}
HasStake s h (Numbered r) = (is_live s.regions (Numbered r) ≡ true) × Contains h.stakes r

-- what a goroutine names next is live, in every state of a run of checked code
abbrev pub NamesOnlyLive : Type 0
NamesOnlyLive =
    (code : Code) (page_words : ℕ) (events : List Event) (s : RegionState) (g : ℕ) (h : Holder) (r : Region) →
    IsChecked code → Ascends code → region_run code page_words events ≡ Some s → slice_get s.holders g ≡ Some h →
    NextNames code s g h h.duties h.offer r → HasStake s h r
