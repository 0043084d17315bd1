-- What the first duty of a goroutine does: it is a local step, or it changes the count of a region. Which of the two, the record decides,
-- so the code knows before it does anything whether an access is needed.
use Rattle.std.specs.List.{list_any}
use Rattle.std.specs.Prelude.{◌≡◌, ℕ, true, false, List, ◌∷◌, Some, nat_eq}
use Rattle.rgo_core.specs.Channels.Records.{at_rest}
use Rattle.rgo_core.specs.Frames.steps.Local.{local_duty}
use Rattle.rgo_core.specs.Frames.steps.Quiet.{is_exit}
use Rattle.rgo_core.specs.Frames.regions.Stakes.{stake_ended, stake_shared}
use Rattle.rgo_sound.specs.RegionMachine.Duties.{guards, unprotected, with_protection}
use Rattle.rgo_sound.specs.RegionMachine.Regions.{bound, removed_once, unbind, without}
use Rattle.rgo_sound.specs.RegionMachine.States.{Duty, EndBase, Holder, Protect, Remove, Share, Unprotect, top_names, with_top}
use Rattle.rgo_sound.specs.RegionMachine.declared.regions.Region.{Region}
use Rattle.rgo_sound.specs.RegionMachine.declared.regions.Region.TheVariants.{Global as GlobalRegion, Numbered}
use Rattle.rgo_core.specs.Core.{Situation, Setup}
use Rattle.rgo_core.specs.Records.{Record}
use Rattle.rgo_core_steps.specs.Seats.{SettlesBy, settled_by}

-- ---- local steps

-- a duty is never done after the return of `main`, which owes none
abbrev pub NoneAfterExit : Type 0
NoneAfterExit = (T : Setup) (g : ℕ) (c : Record) (d : Duty) (ds : List Duty) → Situation T g c → c.frame.holder.duties ≡ d ∷ ds
    → is_exit g c.frame.frames ≡ false

-- The next step of the goroutine is a local one. Its record has this holder after it, and is otherwise the same.
pub record LocalStepTo (T : Setup) (g : ℕ) (c : Record) (k : Holder) : Type 0 where
  pub settles : SettlesBy T g 1 c
  pub becomes : settled_by T g 1 c ≡ record c { frame = record c.frame { holder = k } }

abbrev pub LocalDuty : Type 0
LocalDuty = (T : Setup) (g : ℕ) (c : Record) (d : Duty) (ds : List Duty) (k : Holder) → Situation T g c → c.side ≡ at_rest
    → c.frame.holder.duties ≡ d ∷ ds → local_duty (record c.frame.holder { duties = ds }) d ≡ Some k → LocalStepTo T g c k

-- ---- what a duty leaves of a holder, which has the others left

-- the newest frame no longer has this name
abbrev pub unnamed : Holder → (name : ℕ) → Holder
unnamed h k = record h { environments = with_top h.environments (unbind (top_names h.environments) k) }

-- one of the protections since its start has ended
abbrev pub unbased : Holder → Region → Holder
unbased h r = record h { base = removed_once r h.base }

abbrev pub IsNameOf : Holder → (name : ℕ) → Region → Type 0
IsNameOf h k r = bound (top_names h.environments) k ≡ Some r

pub record DutyLaws : Type 0 where
  pub protect : (h : Holder) (k : ℕ) (r : Region) → IsNameOf h k r
      → local_duty h (Protect k) ≡ Some (record h { environments = with_protection h.environments r })
  pub unprotect : (h : Holder) (k : ℕ) (r : Region) → IsNameOf h k r → local_duty h (Unprotect k) ≡ Some (unprotected h r)
  -- a stake for a child: none in Global, and one in each other region, however many names lead to it
  pub share_global : (h : Holder) (k : ℕ) → IsNameOf h k GlobalRegion → local_duty h (Share k) ≡ Some h
  pub share_again : (h : Holder) (k p : ℕ) → IsNameOf h k (Numbered p) → list_any (nat_eq p) h.pending ≡ true
      → local_duty h (Share k) ≡ Some h
  pub share_first : (h : Holder) (k p : ℕ) → IsNameOf h k (Numbered p) → list_any (nat_eq p) h.pending ≡ false
      → stake_shared h (Share k) ≡ Some (p, record h { pending = p ∷ h.pending })
  -- a removal ends no stake in Global, nor in a region that is protected; otherwise it ends one
  pub remove_global : (h : Holder) (k : ℕ) → IsNameOf h k GlobalRegion → local_duty h (Remove k) ≡ Some (unnamed h k)
  pub remove_guarded : (h : Holder) (k p : ℕ) → IsNameOf h k (Numbered p) → guards h.base h.environments (Numbered p) ≡ true
      → local_duty h (Remove k) ≡ Some (unnamed h k)
  pub remove_last : (h : Holder) (k p : ℕ) → IsNameOf h k (Numbered p) → guards h.base h.environments (Numbered p) ≡ false
      → stake_ended h (Remove k) ≡ Some (p, record (unnamed h k) { stakes = without p h.stakes })
  -- so does the end of a protection since the start
  pub end_global : (h : Holder) → local_duty h (EndBase GlobalRegion) ≡ Some (unbased h GlobalRegion)
  pub end_guarded : (h : Holder) (p : ℕ) → guards (removed_once (Numbered p) h.base) h.environments (Numbered p) ≡ true
      → local_duty h (EndBase (Numbered p)) ≡ Some (unbased h (Numbered p))
  pub end_last : (h : Holder) (p : ℕ) → guards (removed_once (Numbered p) h.base) h.environments (Numbered p) ≡ false
      → stake_ended h (EndBase (Numbered p)) ≡ Some (p, record (unbased h (Numbered p)) { stakes = without p h.stakes })
