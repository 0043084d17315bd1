-- What each duty does. A share, a protection and a removal have a step only if their region is live. A creation names no region,
-- and the end of a protection needs no test: a goroutine has a stake in what it protects (`NameInvariant` of rgo_sound).
use Rattle.std.specs.Prelude.{ℕ, Bool, true, false, ◌||◌, List, [], ◌∷◌, ◌++◌, length, Option, Some, None}
use Rattle.std.specs.Prelude.{slice_set, nat_eq, option_and_then, if◌then◌else◌}
use Rattle.std.specs.List.{list_any}
use Rattle.rgo_region_machine.specs.declared.regions.Region.{Region}
use Rattle.rgo_region_machine.specs.declared.regions.Region.TheVariants.{Global as GlobalRegion, Numbered}
use Rattle.rgo_region_machine.specs.Regions.{same_region, is_live, with_info, with_added_stake, one_fewer, bound, unbind}
use Rattle.rgo_region_machine.specs.Regions.{removed_once, without}
use Rattle.rgo_region_machine.specs.States.{Duty, Create, Share, Protect, Unprotect, Remove, EndBase}
use Rattle.rgo_region_machine.specs.States.{Offer, Taken, RegionEnvironment, Holder, RegionState, top_names, with_top, NoOffer, Standing}

-- the state with another holder
abbrev pub attended : RegionState → ℕ → Holder → RegionState
attended s g h = record s { holders = slice_set s.holders g h }

-- ---- protections

-- the environments after the newest frame has protected r once more
abbrev pub with_protection : List RegionEnvironment → Region → List RegionEnvironment
with_protection [] r = []
with_protection (e ∷ es) r = record e { protections = r ∷ e.protections } ∷ es

-- the environments after one protection of r by the newest frame has ended
abbrev pub without_protection : List RegionEnvironment → Region → List RegionEnvironment
without_protection [] r = []
without_protection (e ∷ es) r = record e { protections = removed_once r e.protections } ∷ es

-- Whether a goroutine with this base and these environments protects the region, in any frame: a caller's protection also holds
-- for what the functions above its callee do.
abbrev pub guards : List Region → List RegionEnvironment → Region → Bool
guards base [] r = list_any (same_region r) base
guards base (e ∷ es) r = list_any (same_region r) e.protections || guards base es r

-- the state after the newest frame of goroutine g, whose holder is h, has protected r; none if r is not live
abbrev pub protected : RegionState → ℕ → Holder → Region → Option RegionState
protected s g h r =
    if is_live s.regions r
    then Some (attended s g (record h { environments = with_protection h.environments r })) else None

-- the holder after one protection of r by its newest frame has ended
abbrev pub unprotected : Holder → Region → Holder
unprotected h r = record h { environments = without_protection h.environments r }

-- ---- stakes

-- A new region, in which its creator has a stake. Its number is the length of the list, so a number is never used twice. The name
-- is unbound first, so that a frame has one entry for it.
abbrev pub created : RegionState → ℕ → Holder → ℕ → RegionState
created s g h k =
    let r = length s.regions in
    record (attended s g (record h {
      stakes = r ∷ h.stakes;
      environments = with_top h.environments ((k, Numbered r) ∷ unbind (top_names h.environments) k);
    })) {
      regions = s.regions ++ record { stakes = 1; pages = 0 } ∷ [];
    }

-- A removal does nothing to Global, nor to a region that the goroutine itself protects: an older frame still uses that one and
-- removes it later. Otherwise the goroutine's stake ends, and with the last stake the region is removed. What other goroutines
-- protect does not matter: they have stakes of their own.
abbrev pub removal : RegionState → ℕ → Holder → Region → Option RegionState
removal s g h GlobalRegion = Some (attended s g h)
removal s g h (Numbered r) =
    if is_live s.regions (Numbered r)
    then
    (if guards h.base h.environments (Numbered r)
    then Some (attended s g h)
    else Some (record (attended s g (record h { stakes = without r h.stakes })) {
      regions = with_info s.regions r one_fewer;
    }))
    else None

-- A stake for a goroutine that is about to start: one for each region, however often it is passed. It is taken before the start
-- because the parent might remove the region before the child has done a step.
abbrev pub shared : RegionState → ℕ → Holder → Region → Option RegionState
shared s g h GlobalRegion = Some (attended s g h)
shared s g h (Numbered r) =
    if is_live s.regions (Numbered r)
    then
    (if list_any (nat_eq r) h.pending
    then Some (attended s g h)
    else Some (record (attended s g (record h { pending = r ∷ h.pending })) {
      regions = with_info s.regions r with_added_stake;
    }))
    else None

-- ---- duties

-- one duty; h has the others left; a duty whose name denotes no region has no step
abbrev pub duty_done : RegionState → ℕ → Holder → Duty → Option RegionState
duty_done s g h (Create k) = Some (created s g h k)
duty_done s g h (Share k) = option_and_then (shared s g h) (bound (top_names h.environments) k)
duty_done s g h (Protect k) = option_and_then (protected s g h) (bound (top_names h.environments) k)
duty_done s g h (Unprotect k) =
    option_and_then (λ r. Some (attended s g (unprotected h r))) (bound (top_names h.environments) k)
duty_done s g h (Remove k) =
    option_and_then
    (removal s g (record h { environments = with_top h.environments (unbind (top_names h.environments) k) }))
    (bound (top_names h.environments) k)
duty_done s g h (EndBase r) = removal s g (record h { base = removed_once r h.base }) r

-- An offer that was taken is acknowledged before anything else: a duty might end the stake that keeps its channel live.
abbrev pub may_go : Offer → Bool
may_go (Taken channel) = false
may_go NoOffer = true
may_go (Standing channel) = true

-- the first of the duties
abbrev pub attend : RegionState → ℕ → Holder → List Duty → Option RegionState
attend s g h [] = None
attend s g h (duty ∷ duties) = if may_go h.offer then duty_done s g (record h { duties = duties }) duty else None
