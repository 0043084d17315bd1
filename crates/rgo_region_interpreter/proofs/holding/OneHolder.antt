-- One goroutine has something else of the regions, and the others have what they had: the frame of all proofs about a step with a
-- region.
use Rattle.std.proofs.Common.{◌≡◌, ℕ, ◌≤◌, ◌<◌, false, drop, length, None, Some, sym, ap, ◌∙◌, subst, nat_eq, arith}
use Rattle.std.proofs.Common.{slice_get, slice_set}
use Rattle.rgo_code.specs.Code.{Code}
use Rattle.rgo_region_machine.specs.declared.regions.Region.TheVariants.{Numbered}
use Rattle.rgo_region_machine.specs.Objects.{fill_of}
use Rattle.rgo_region_machine.specs.Owed.{next_duties}
use Rattle.rgo_region_machine.specs.States as spec
use Rattle.rgo_region_machine.specs.States.{RegionState, frames_of}
use Rattle.rgo_sound.proofs.Places.{get_set_other, get_set_same, length_set}
use Rattle.rgo_sound.proofs.Tests.{eq_of, split}
use Rattle.rgo_region_interpreter.specs.declared.holders.Holder.{Holder}
use Rattle.rgo_region_interpreter.specs.declared.worlds.World.{World}
use Rattle.rgo_region_interpreter.specs.Holders.{HolderShows, fill_in}
use Rattle.rgo_region_interpreter.specs.Worlds.{HoldersShow, OwesNext, next_creates}

pub differs : (g j : ℕ) → (j ≡ g → ⊥) → nat_eq g j ≡ false
differs g j n = split (nat_eq g j) (λ t. absurd (n (sym (eq_of g j t)))) (λ f. f)

pub the_same : {X : Type 0} (x y : X) → Some x ≡ Some y → x ≡ y
the_same x y e = cc

pub none_some : {X : Type 0} {x : X} → None ≡ Some x → ⊥
none_some e = cc

-- goroutine g has d in place of c, and k in place of h
pub record Changes (w v : World) (s t : RegionState) (g : ℕ) (c d : Holder) (h k : spec.Holder) : Type 0 where
  pub c_there : slice_get w.holders.items g ≡ Some c
  pub h_there : slice_get s.holders g ≡ Some h
  pub v_is : v.holders.items ≡ slice_set w.holders.items g d
  pub t_is : t.holders ≡ slice_set s.holders g k

module _ {w v : World} {s t : RegionState} {g : ℕ} {c d : Holder} {h k : spec.Holder}
    (x : Changes w v s t g c d h k) where
  pub d_is : (j : ℕ) (z : Holder) → g ≡ j → slice_get v.holders.items j ≡ Some z → d ≡ z
  d_is j z q e = the_same d z
      (sym (get_set_same w.holders.items g c d x.c_there) ∙ ap (slice_get (slice_set w.holders.items g d)) q
      ∙ sym (ap (λ l. slice_get l j) x.v_is) ∙ e)

  pub k_is : (j : ℕ) (y : spec.Holder) → g ≡ j → slice_get t.holders j ≡ Some y → k ≡ y
  k_is j y q e = the_same k y
      (sym (get_set_same s.holders g h k x.h_there) ∙ ap (slice_get (slice_set s.holders g k)) q
      ∙ sym (ap (λ l. slice_get l j) x.t_is) ∙ e)

  pub d_there : slice_get v.holders.items g ≡ Some d
  d_there = ap (λ l. slice_get l g) x.v_is ∙ get_set_same w.holders.items g c d x.c_there

  pub k_there : slice_get t.holders g ≡ Some k
  k_there = ap (λ l. slice_get l g) x.t_is ∙ get_set_same s.holders g h k x.h_there

  pub other_in_v : (j : ℕ) (z : Holder) → nat_eq g j ≡ false → slice_get v.holders.items j ≡ Some z
      → slice_get w.holders.items j ≡ Some z
  other_in_v j z n e = sym (get_set_other w.holders.items g j d n) ∙ sym (ap (λ l. slice_get l j) x.v_is) ∙ e

  pub other_in_t : (j : ℕ) (y : spec.Holder) → nat_eq g j ≡ false → slice_get t.holders j ≡ Some y
      → slice_get s.holders j ≡ Some y
  other_in_t j y n e = sym (get_set_other s.holders g j k n) ∙ sym (ap (λ l. slice_get l j) x.t_is) ∙ e

  pub one_shows : HoldersShow w s → length s.regions ≤ length t.regions → HolderShows d k
      → ((r : ℕ) → length t.regions ≤ r → fill_in d (Numbered r) ≡ fill_of k.fills (Numbered r)) → HoldersShow v t
  one_shows old more shows fills = record { as_many = as_many; each = each; unmade = unmade }
    where
      as_many : length v.holders.items ≡ length t.holders
      as_many =
          ap length x.v_is ∙ length_set w.holders.items g d ∙ old.as_many ∙ sym (length_set s.holders g k)
          ∙ sym (ap length x.t_is)

      each : (j : ℕ) (z : Holder) (y : spec.Holder) → slice_get v.holders.items j ≡ Some z
          → slice_get t.holders j ≡ Some y → HolderShows z y
      each j z y e f = split (nat_eq g j)
          (λ q. subst (λ i. HolderShows i y) (d_is j z (eq_of g j q) e)
          (subst (HolderShows d) (k_is j y (eq_of g j q) f) shows))
          (λ n. old.each j z y (other_in_v j z n e) (other_in_t j y n f))

      unmade : (j : ℕ) (z : Holder) (y : spec.Holder) → slice_get v.holders.items j ≡ Some z
          → slice_get t.holders j ≡ Some y → (r : ℕ) → length t.regions ≤ r
          → fill_in z (Numbered r) ≡ fill_of y.fills (Numbered r)
      unmade j z y e f r l = split (nat_eq g j)
          (λ q. subst (λ (i : Holder). fill_in i (Numbered r) ≡ fill_of y.fills (Numbered r)) (d_is j z (eq_of g j q) e)
          (subst (λ (i : spec.Holder). fill_in d (Numbered r) ≡ fill_of i.fills (Numbered r)) (k_is j y (eq_of g j q) f)
          (fills r l)))
          (λ n. old.unmade j z y (other_in_v j z n e) (other_in_t j y n f) r (omega (arith, more, l)))

  -- the others owe what they owed, if they have the same frames
  pub others_owe : (code : Code) → ((j : ℕ) → nat_eq g j ≡ false → frames_of t.plain j ≡ frames_of s.plain j)
      → ((j : ℕ) (z : Holder) (y : spec.Holder) → (j ≡ g → ⊥) → slice_get w.holders.items j ≡ Some z
      → slice_get s.holders j ≡ Some y → OwesNext code s j z y)
      → (j : ℕ) (z : Holder) (y : spec.Holder) → (j ≡ g → ⊥) → slice_get v.holders.items j ≡ Some z
      → slice_get t.holders j ≡ Some y → OwesNext code t j z y
  others_owe code frames old j z y n e f = record {
    left = was.left ∙ ap (λ fs. drop z.done (next_duties code fs)) (sym (frames j apart));
    within = subst (λ fs. z.done ≤ length (next_duties code fs)) (sym (frames j apart)) was.within;
    together = λ l. was.together (subst (λ fs. length (next_creates code fs) < z.done) (frames j apart) l);
  }
    where
      apart : nat_eq g j ≡ false
      apart = differs g j n

      was : OwesNext code s j z y
      was = old j z y n (other_in_v j z apart e) (other_in_t j y apart f)
