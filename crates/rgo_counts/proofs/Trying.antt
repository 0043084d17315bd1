-- Exchanges of counts, by what each found. A miss changes nothing of the record but its list of tried slots, so the premises of one
-- exchange hold of the next one, too.
use prog.Atomic.{either}
use Rattle.std.proofs.Common.{◌≡◌, ◌≢◌, ◌<◌, ◌+◌, ℕ, suc, ◌==◌, false, List, [], ◌∷◌, Option, Some, None, add-one, arith, refl, ap, sym, ◌∙◌}
use Rattle.rgo_sound.specs.RegionMachine.States.{Duty}
use Rattle.rgo_sound.specs.Stakes.{is_in}
use Rattle.rgo_core.specs.Channels.Records.{at_rest}
use Rattle.rgo_core.specs.Frames.Records.{FramesRec as FrameRec}
use Rattle.rgo_core.specs.Rule.Views.{Me, number_of}
use Rattle.rgo_core.specs.Rule.declared.accesses.Kind.TheVariants.{CreateRegion}
use Rattle.rgo_core.specs.Memory.Words.{count_at}
use Rattle.rgo_core.specs.Memory.declared.layout.TableSizes.{TableSizes}
use Rattle.rgo_core.specs.Core.{Setup}
use Rattle.rgo_core.specs.runs.Opening.{first_of}
use Rattle.rgo_core.specs.Records.{Record, accesses}
use Rattle.rgo_core_steps.specs.Counts.{IsCreating, created_in_slot, created_with, tried_slot, tries_slot}
use Rattle.rgo_core_steps.specs.Searches.{Miss, TookFreePlace, Tried, missing}
use Rattle.rgo_core_steps.specs.Seats.{HasAccessed, Settles, mine, settled}
use Rattle.rgo_core_steps.proofs.searching.Exchanges.{found_free, found_taken, took_above, took_below, took_one, tried_all, tried_one}
use Rattle.rgo_core_steps.proofs.record_steps.Settling.{settled_counts}
use Rattle.rgo_counts.specs.Creation.{SlotOrNone, SlotTaken, SlotsTried}

-- ---- what tries leave of a record

missing_frame : (ts : List Miss) (c : Record) → (missing tried_slot c ts).frame ≡ c.frame
missing_frame [] c = refl
missing_frame (t ∷ ts) c = missing_frame ts (tried_slot c t.place)

pub missing_side : (ts : List Miss) (c : Record) → c.side ≡ at_rest → (missing tried_slot c ts).side ≡ at_rest
missing_side [] c rests = rests
missing_side (t ∷ ts) c rests = missing_side ts (tried_slot c t.place) rests

pub missing_creates : (ts : List Miss) (c : Record) → IsCreating c → IsCreating (missing tried_slot c ts)
missing_creates ts c (name, ds, are) = (name, ds, ap (λ (f : FrameRec). f.holder.duties) (missing_frame ts c) ∙ are)

-- what was found of a record's stakes after some tries was so before them
pub still_fresh : (ts : List Miss) (c d : Record) (s : ℕ) → d ≡ missing tried_slot c ts → is_in s d.frame.holder.stakes ≡ false
    → is_in s c.frame.holder.stakes ≡ false
still_fresh ts c d s e f =
    ap (λ (r : FrameRec). is_in s r.holder.stakes) (sym (ap (λ (x : Record). x.frame) e ∙ missing_frame ts c)) ∙ f

created_counts : (c : Record) (p : ℕ) → IsCreating c → accesses (created_in_slot c p) ≡ suc (accesses c)
created_counts c p (name, ds, are) = ap (λ (l : List Duty). accesses (created_with c p l)) are

-- ---- one exchange

module _ (T : Setup) (z : TableSizes) (q : ℕ) (m : Me Record) (p n : ℕ) (w : Me Record) (s : Settles T q m)
    (l : HasAccessed T CreateRegion (count_at z p) (λ n. either (n == 0) 2 n) (λ n d. d ≡ tries_slot (settled T q m) p n) m n w) where
  counts : accesses (settled T q m) ≡ accesses (mine T m)
  counts = settled_counts T (number_of m) q (mine T m) s

  pub slot_tried : n ≢ 0 → Tried accesses (first_of T.code) CreateRegion (count_at z) tried_slot (settled T q m) (p ∷ []) m w
  slot_tried some =
      tried_one accesses (first_of T.code) CreateRegion (count_at z) tried_slot (settled T q m) p n m w some
      (found_taken accesses (first_of T.code) CreateRegion (count_at z p) 2 (created_in_slot (settled T q m) p) (tried_slot (settled T q m) p) m n w l
      some (ap suc counts))

  pub slot_taken : n ≡ 0 → IsCreating (settled T q m)
      → TookFreePlace accesses (first_of T.code) CreateRegion (count_at z) tried_slot (settled T q m) [] p 2 (λ d. created_in_slot d p) m w
  slot_taken none creates =
      took_one accesses (first_of T.code) CreateRegion (count_at z) tried_slot (settled T q m) p 2 (λ d. created_in_slot d p) m w
      (found_free accesses (first_of T.code) CreateRegion (count_at z p) 2 (created_in_slot (settled T q m) p) (tried_slot (settled T q m) p) m n w l
      none (created_counts (settled T q m) p creates ∙ ap suc counts))

-- ---- after the first exchange

module _ (T : Setup) (z : TableSizes) (c : Record) (start : ℕ) (low : start < z.slots) (m v : Me Record)
    (first : Tried accesses (first_of T.code) CreateRegion (count_at z) tried_slot c (start ∷ []) m v) where
  pub then_above : (s : ℕ) (w : Me Record) → SlotsTried T z (start + 1) z.slots (mine T v) (Some s) v w → SlotTaken T z c s m w
  then_above s w t = (
    t.1,
    took_above accesses (first_of T.code) CreateRegion (count_at z) tried_slot c z.slots start low m v (start + 1) (add-one start) first
        s 2 (λ d. created_in_slot d s) w t.0 t.1 t.2,
  )

  pub then_below : (u : Me Record) → SlotsTried T z (start + 1) z.slots (mine T v) None v u
      → (r : Option ℕ) (w : Me Record) → SlotsTried T z 0 start (mine T u) r u w → SlotOrNone T z c r m w
  then_below u above None w t =
      tried_all accesses (first_of T.code) CreateRegion (count_at z) tried_slot c z.slots start low m v (start + 1) (add-one start) first u above w t
  then_below u above (Some s) w t = (
    (let l = t.1 in omega (arith, l, low)),
    took_below accesses (first_of T.code) CreateRegion (count_at z) tried_slot c z.slots start low m v (start + 1) (add-one start) first u above
        s 2 (λ d. created_in_slot d s) w t.1 t.2,
  )
