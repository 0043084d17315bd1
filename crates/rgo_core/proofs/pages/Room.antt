-- A page or a slot that was found free: the step that takes it has room, since fewer than all are in use at that moment.
use Rattle.std.proofs.Common.{◌≡◌, ℕ, ◌<◌, true, nat_lt, List, [], ◌∷◌, length, map, Option, Some, None, slice_get, slice_index, refl, ap, ◌∙◌, arith}
use Rattle.std.proofs.lemmas.Bool.Decides.{nat_tests}
use Rattle.rgo_sound.specs.Code.Code.{Code}
use Rattle.rgo_core_memory.proofs.pages.InUse.{some_left}
use Rattle.rgo_core_memory.specs.Words.{count_at, state_at}
use Rattle.rgo_sound.specs.Machine.declared.limits.Sizes.{Sizes}
use Rattle.rgo_sound.specs.RegionMachine.Counts.{Counts}
use Rattle.rgo_sound.specs.RegionMachine.Machine.{Attend, TakePage, region_step}
use Rattle.rgo_sound.specs.RegionMachine.Room.{has_room, has_room_for, has_room_for_first, has_room_to_attend, live_regions, pages_in_use}
use Rattle.rgo_sound.specs.RegionMachine.States.{Create, Duty, EndBase, Holder, Protect, RegionState, Remove, Share, Unprotect}
use Rattle.rgo_sound.proofs.counts.Tally.{tally_adds}
use Rattle.rgo_sound.specs.Tally.{share_of_duty, share_of_first, share_of_holder}
use Rattle.rgo_core.proofs.image.Parts.{I}
use Rattle.rgo_core.specs.Core.{Situation, Setup, layout}
use Rattle.rgo_core.specs.Records.{Record, memory_of}

less_so : (n m : ℕ) → n < m → nat_lt n m ≡ true
less_so n m l = grind (arith, nat_tests)

-- ---- a duty that creates no region

module _ (sizes : Sizes) (s : RegionState) where
  for_duty : (h : Holder) (d : Duty) → (share_of_duty s h d).made ≡ 0 → has_room_for sizes s d ≡ true
  for_duty h (Create k) e = absurd (omega (arith, e))
  for_duty h (Share k) e = refl
  for_duty h (Protect k) e = refl
  for_duty h (Unprotect k) e = refl
  for_duty h (Remove k) e = refl
  for_duty h (EndBase r) e = refl

  for_first : (h : Holder) (ds : List Duty) → (share_of_first s h ds).made ≡ 0 → has_room_for_first sizes s ds ≡ true
  for_first h [] e = refl
  for_first h (d ∷ ds) e = for_duty (record h { duties = ds }) d e

  for_holder : (o : Option Holder) → (share_of_holder s o).made ≡ 0 → has_room_to_attend sizes s o ≡ true
  for_holder None e = refl
  for_holder (Some h) e = for_first h h.duties e

pub no_creation : (code : Code) (sizes : Sizes) (s t : RegionState) (g : ℕ) → region_step code sizes.page_words s (Attend g) ≡ Some t
    → length t.regions ≡ length s.regions → has_room sizes s (Attend g) ≡ true
no_creation code sizes s t g step same =
    let adds = ap (λ (c : Counts). c.made) (tally_adds code sizes.page_words s t (Attend g) step) in
    for_holder sizes s (slice_get s.holders g) (omega (arith, adds, same))

-- ---- what is left

module _ {T : Setup} {g : ℕ} {c : Record} (x : Situation T g c) where
  pub page_there : (p : ℕ) → p < T.sizes.pages → slice_index x.words (state_at (layout T) p) ≡ 0 → has_room T.sizes x.s (TakePage g) ≡ true
  page_there p low free = less_so (pages_in_use x.s) T.sizes.pages
      ((some_left (layout T) x.words (map memory_of x.recs) x.s (I x).places (I x).memory).0 p low free)

  pub slot_there : (p : ℕ) → p < T.sizes.regions → slice_index x.words (count_at (layout T) p) ≡ 0 → (h : Holder) (k : ℕ) (ds : List Duty)
      → slice_get x.s.holders g ≡ Some h → h.duties ≡ Create k ∷ ds → has_room T.sizes x.s (Attend g) ≡ true
  slot_there p low free h k ds there owes =
      ap (has_room_to_attend T.sizes x.s) there
      ∙ (ap (has_room_for_first T.sizes x.s) owes
      ∙ less_so (live_regions x.s) T.sizes.regions
      ((some_left (layout T) x.words (map memory_of x.recs) x.s (I x).places (I x).memory).1 p low free))
