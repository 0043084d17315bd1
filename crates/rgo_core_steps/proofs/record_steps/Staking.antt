-- Accesses to the counts of regions, by the functions of the record alone: the first duty decides what each does.
use prog.Atomic.{either}
use Rattle.std.specs.Option.{option_map_or}
use Rattle.std.proofs.Common.{◌≡◌, ℕ, ◌+◌, ◌-◌, ◌%◌, ◌^◌, ◌<◌, ◌==◌, Bool, true, false, List, [], ◌∷◌, Option, Some, if◌then◌else◌, refl, ap, sym, subst, ◌∙◌}
use Rattle.std.proofs.lemmas.Option.{none-some}
use Rattle.rgo_sound.specs.RegionMachine.States.{Duty, Holder}
use Rattle.rgo_sound.specs.Stakes.{is_in}
use Rattle.rgo_core.specs.Channels.Records.{at_rest}
use Rattle.rgo_core.specs.Frames.regions.Stakes.{stake_ended, stake_shared}
use Rattle.rgo_core.specs.Memory.Words.{count_at}
use Rattle.rgo_core.specs.Core.{Setup, layout}
use Rattle.rgo_core.specs.Records.{Record}
use Rattle.rgo_core.specs.moves.Regions.{with_holder}
use Rattle.rgo_core.specs.Steps.{Moves}
use Rattle.rgo_core.proofs.regions.Regions.{create_move, leave_move, share_move}
use Rattle.rgo_core_steps.specs.Counts.{IsCreating, IsLeaving, IsSharing, Leaving, by_first, created_with, shared_record, tried_slot, tries_slot}
use Rattle.rgo_core_steps.proofs.accesses.Telling.{tells_more}

-- ---- exchanges

choice : (b : Bool) (x y : ℕ) → (if b then x else y) ≡ either b x y
choice true x y = refl
choice false x y = refl

-- what an exchange leaves, as the laws write it and as the table does
pub exchanges : (T : Setup) (g : ℕ) (c : Record) (i old new : ℕ) (tells : ℕ → Record → Type 0)
    → Moves T g c i (λ n. if n == old then new else n) tells → Moves T g c i (λ n. either (n == old) new n) tells
exchanges T g c i old new tells = subst (λ (f : ℕ → ℕ). Moves T g c i f tells) (λ j n. choice (n == old) new n j)

-- ---- the first duty

record First (by : Holder → Duty → Option (ℕ × Holder)) (h : Holder) (duties : List Duty) (p : ℕ) (k : Holder) : Type 0 where
  pub d : Duty
  pub ds : List Duty
  pub are : duties ≡ d ∷ ds
  pub does : by (record h { duties = ds }) d ≡ Some (p, k)

first : (by : Holder → Duty → Option (ℕ × Holder)) (h : Holder) (duties : List Duty) (p : ℕ) (k : Holder) → by_first by h duties ≡ Some (p, k)
    → First by h duties p k
first by h [] p k e = absurd (none-some (p, k) e)
first by h (d ∷ ds) p k e = record { d = d; ds = ds; are = refl; does = e }

module _ (T : Setup) (g : ℕ) (c : Record) (rests : c.side ≡ at_rest) (p : ℕ) where
  pub create_moves : IsCreating c → p < T.sizes.regions
      → Moves T g c (count_at (layout T) p) (λ n. either (n == 0) 2 n)
      (λ n d. (d ≡ tries_slot c p n) × (n ≡ 0 → is_in p c.frame.holder.stakes ≡ false))
  create_moves (name, ds, are) low = exchanges T g c (count_at (layout T) p) 0 2
      (λ n d. (d ≡ tries_slot c p n) × (n ≡ 0 → is_in p c.frame.holder.stakes ≡ false))
      (tells_more T g c (count_at (layout T) p) (λ n. if n == 0 then 2 else n)
      (λ n d e. (e.0 ∙ ap (λ (x : Record). if n == 0 then x else tried_slot c p) (sym (ap (created_with c p) are)), e.1))
      (create_move T g c name p ds rests are low))

  pub share_moves : IsSharing c p
      → Moves T g c (count_at (layout T) p) (λ n. (n + 1) % 2 ^ 64) (λ n d. d ≡ shared_record c)
  share_moves (k, is) =
      let f = first stake_shared c.frame.holder c.frame.holder.duties p k is in
      tells_more T g c (count_at (layout T) p) (λ n. (n + 1) % 2 ^ 64)
      (λ n d e. e ∙ sym (ap (λ (o : Option (ℕ × Holder)). option_map_or (λ (t : ℕ × Holder). with_holder c t.1) o c) is))
      (share_move T g c f.d f.ds p k rests f.are f.does)

  pub leave_moves : IsLeaving c p
      → Moves T g c (count_at (layout T) p) (λ n. (n + (2 ^ 64 - 1)) % 2 ^ 64) (Leaving c p)
  leave_moves l =
      let f = first stake_ended c.frame.holder c.frame.holder.duties p l.holder l.is in
      tells_more T g c (count_at (layout T) p) (λ n. (n + (2 ^ 64 - 1)) % 2 ^ 64) (λ n d e. (l.holder, l.is, e))
      (leave_move T g c f.d f.ds p l.holder rests f.are f.does l.free l.calm)
