-- The duties of a goroutine that touch the count of a region: the end of a stake, and a stake for a coming child. By the record it is
-- known which slot's count changes. How many stakes are left, only the word shows.
use Rattle.rgo_sound.specs.RegionMachine.Duties.{guards}
use Rattle.rgo_sound.specs.RegionMachine.Machine.{Attend}
use Rattle.rgo_sound.specs.RegionMachine.Regions.{RegionInfo, bound, is_live, one_fewer, with_added_stake, removed_once, unbind, with_info, without}
use Rattle.rgo_sound.specs.RegionMachine.States.{Create, Duty, EndBase, Holder, Protect, Remove, Share, Unprotect, top_names, with_top}
use Rattle.rgo_sound.specs.RegionMachine.declared.regions.Region.TheVariants.{Global as GlobalRegion, Numbered}
use Rattle.rgo_sound.specs.RegionMachine.declared.regions.Region.{Region}
use Rattle.std.specs.List.{list_any}
use Rattle.std.specs.Prelude.{List, None, Option, Some, if◌then◌else◌, nat_eq, option_and_then, slice_set, true, ℕ, ◌∷◌, ◌≡◌, slice_get}
use Rattle.rgo_core_frames.specs.Records.{FramesRec}
use Rattle.rgo_core_frames.specs.States.{Here}
use Rattle.rgo_core_frames.specs.steps.Bookkept.{HasStep}
use Rattle.rgo_sound.specs.Code.Code.{Code}
use Rattle.rgo_sound.specs.RegionMachine.States.{RegionState}

-- the slot of the region in which a removal ends a stake, and the holder after it; none if it ends no stake
abbrev pub ended : Holder → Region → Option (ℕ × Holder)
ended h GlobalRegion = None
ended h (Numbered p) =
    if guards h.base h.environments (Numbered p) then None else Some (p, record h { stakes = without p h.stakes })

-- the same of a duty; h has the others left
abbrev pub stake_ended : Holder → Duty → Option (ℕ × Holder)
stake_ended h (Remove k) =
    option_and_then (ended (record h { environments = with_top h.environments (unbind (top_names h.environments) k) }))
    (bound (top_names h.environments) k)
stake_ended h (EndBase r) = ended (record h { base = removed_once r h.base }) r
stake_ended h (Create k) = None
stake_ended h (Share k) = None
stake_ended h (Protect k) = None
stake_ended h (Unprotect k) = None

-- the slot of the region in which a child is to have a stake, and the holder after it; none if one is pending already
abbrev pub shared_in : Holder → Region → Option (ℕ × Holder)
shared_in h GlobalRegion = None
shared_in h (Numbered p) = if list_any (nat_eq p) h.pending then None else Some (p, record h { pending = p ∷ h.pending })

abbrev pub stake_shared : Holder → Duty → Option (ℕ × Holder)
stake_shared h (Share k) = option_and_then (shared_in h) (bound (top_names h.environments) k)
stake_shared h (Create k) = None
stake_shared h (Protect k) = None
stake_shared h (Unprotect k) = None
stake_shared h (Remove k) = None
stake_shared h (EndBase r) = None

-- The region machine has the duty, which changes the stakes of the live region of this slot, and the records fit after it. The region is
-- determined by its slot, since it is live.
pub record ChangesStakes
    (code : Code) (page_words : ℕ) (slot_of : ℕ → ℕ) (addresses : List ℕ) (s : RegionState) (g p : ℕ)
    (by : Holder → Duty → Option (ℕ × Holder)) (change : RegionInfo → RegionInfo) (records : List FramesRec) : Type 0 where
  pub region : ℕ
  pub slot_is : slot_of region ≡ p
  pub live : is_live s.regions (Numbered region) ≡ true
  -- what the duty does to the record, it does to the goroutine's own holder, with the region's number in place of its slot
  pub h : Holder
  pub there : slice_get s.holders g ≡ Some h
  pub duty : Duty
  pub others : List Duty
  pub owed : h.duties ≡ duty ∷ others
  pub after : Holder
  pub does : by (record h { duties = others }) duty ≡ Some (region, after)
  pub step : HasStep code page_words slot_of addresses s (Attend g) (with_info s.regions region change) s.mark records

abbrev pub StakesChange : Here → (Holder → Duty → Option (ℕ × Holder)) → ℕ → (RegionInfo → RegionInfo) → List FramesRec → Type 0
StakesChange x by p change records =
    ChangesStakes x.code x.page_words x.slot_of x.addresses x.s x.g p by change records

abbrev pub StakeEndLaw : Type 0
StakeEndLaw =
    (x : Here) (d : Duty) (ds : List Duty) (p : ℕ) (k : Holder) → x.c.holder.duties ≡ d ∷ ds
    → stake_ended (record x.c.holder { duties = ds }) d ≡ Some (p, k)
    → StakesChange x stake_ended p one_fewer (slice_set x.records x.g (record x.c { holder = k }))

abbrev pub ShareLaw : Type 0
ShareLaw =
    (x : Here) (d : Duty) (ds : List Duty) (p : ℕ) (k : Holder) → x.c.holder.duties ≡ d ∷ ds
    → stake_shared (record x.c.holder { duties = ds }) d ≡ Some (p, k)
    → StakesChange x stake_shared p with_added_stake (slice_set x.records x.g (record x.c { holder = k }))
