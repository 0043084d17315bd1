-- Exchanges of the states of pages, by what each found. A miss changes nothing of the record but its list of tried pages, so what the
-- instruction needs is the same at the next exchange.
use prog.Atomic.{either}
use Rattle.std.proofs.Common.{◌≡◌, ◌≢◌, ◌<◌, ℕ, suc, ◌+◌, ◌==◌, Bool, true, false, List, [], ◌∷◌, Option, Some, None, if◌then◌else◌, add-one, arith, ap, refl, ◌∙◌, inl, inr}
use Rattle.rgo_sound.specs.Memory.Memory.{Object}
use Rattle.rgo_core.specs.Rule.Views.{Me, number_of}
use Rattle.rgo_core.specs.Rule.declared.accesses.Kind.TheVariants.{ClaimPage}
use Rattle.rgo_core.specs.Memory.Words.{state_at}
use Rattle.rgo_core.specs.Memory.declared.layout.TableSizes.{TableSizes}
use Rattle.rgo_core.specs.Memory.Records.{Got}
use Rattle.rgo_core.specs.moves.Claims.{claims, reserves}
use Rattle.rgo_core.specs.Core.{Setup}
use Rattle.rgo_core.specs.runs.Opening.{first_of}
use Rattle.rgo_core.specs.Records.{Record, accesses}
use Rattle.rgo_core_steps.specs.Making.{IsCalm, RecordMakesNext, NeedsPage, next_is_spread}
use Rattle.rgo_core_steps.specs.Pages.{claims_or_reserves, tried_page, tries_page}
use Rattle.rgo_core_steps.specs.Searches.{Miss, TookFreePlace, Tried, missing}
use Rattle.rgo_core_steps.specs.Seats.{HasAccessed, Settles, mine, settled}
use Rattle.rgo_core_steps.proofs.searching.Exchanges.{found_free, found_taken, took_above, took_below, took_one, tried_all, tried_one}
use Rattle.rgo_core_steps.proofs.record_steps.Settling.{settled_counts}
use Rattle.rgo_pages.specs.Claiming.{PageOrNone, PagesTried}

-- ---- what tries leave of a record

pub missing_calm : (ts : List Miss) (c : Record) → IsCalm c → IsCalm (missing tried_page c ts)
missing_calm [] c calm = calm
missing_calm (t ∷ ts) c calm = missing_calm ts (tried_page c t.place) (record { side = calm.side; claim = calm.claim; make = calm.make })

one_next : (T : Setup) (s p : ℕ) (c : Record) (object : Object) → RecordMakesNext T c object s → RecordMakesNext T (tried_page c p) object s
one_next T s p c object next = record {
  to = next.to;
  act = next.act;
  from = next.from;
  removes = next.removes;
  here = record {
    w = next.here.w;
    ws = next.here.ws;
    frames = next.here.frames;
    fn = next.here.fn;
    in_fn = next.here.in_fn;
    instr = next.here.instr;
    cur = next.here.cur;
    is = next.here.is;
    none = next.here.none;
    free = next.here.free;
  };
  makes = next.makes;
  region = next.region;
  in_region = next.in_region;
  in_slot = next.in_slot;
}

one_needs : (T : Setup) (s p : ℕ) (c : Record) → NeedsPage T c s → NeedsPage T (tried_page c p) s
one_needs T s p c (inl needs) = inl (record {
  object = needs.object;
  next = one_next T s p c needs.object needs.next;
  fits = needs.fits;
  full = needs.full;
})
one_needs T s p c (inr needs) = inr (record {
  object = needs.object;
  next = one_next T s p c needs.object needs.next;
  spread = needs.spread;
  small = needs.small;
  more = needs.more;
})

pub missing_needs : (T : Setup) (s : ℕ) (ts : List Miss) (c : Record) → NeedsPage T c s → NeedsPage T (missing tried_page c ts) s
missing_needs T s [] c needs = needs
missing_needs T s (t ∷ ts) c needs = missing_needs T s ts (tried_page c t.place) (one_needs T s t.place c needs)

-- ---- what a claim leaves of one: the page is to be hung, and the access is counted

module _ (T : Setup) (c : Record) (p s : ℕ) where
  abbrev taken_if : Bool → Record
  taken_if b = if b then reserves c p s else claims c p s

  pub takes_got : (claims_or_reserves T c p s).memory.claim ≡ Got p s
  takes_got = by (next_is_spread T c)
    where
      by : (b : Bool) → (taken_if b).memory.claim ≡ Got p s
      by true = refl
      by false = refl

  pub takes_counts : accesses (claims_or_reserves T c p s) ≡ suc (accesses c)
  takes_counts = by (next_is_spread T c)
    where
      by : (b : Bool) → accesses (taken_if b) ≡ suc (accesses c)
      by true = refl
      by false = refl

-- ---- one exchange

module _ (T : Setup) (z : TableSizes) (slot q : ℕ) (m : Me Record) (p n : ℕ) (w : Me Record) (s : Settles T q m)
    (l : HasAccessed T ClaimPage (state_at z p) (λ n. either (n == 0) (slot + 1) n) (λ n d. d ≡ tries_page T (settled T q m) p slot n) m n w) where
  counts : accesses (settled T q m) ≡ accesses (mine T m)
  counts = settled_counts T (number_of m) q (mine T m) s

  pub page_tried : n ≢ 0 → Tried accesses (first_of T.code) ClaimPage (state_at z) tried_page (settled T q m) (p ∷ []) m w
  page_tried some =
      tried_one accesses (first_of T.code) ClaimPage (state_at z) tried_page (settled T q m) p n m w some
      (found_taken accesses (first_of T.code) ClaimPage (state_at z p) (slot + 1) (claims_or_reserves T (settled T q m) p slot) (tried_page (settled T q m) p)
      m n w l some (ap suc counts))

  pub page_taken : n ≡ 0
      → TookFreePlace accesses (first_of T.code) ClaimPage (state_at z) tried_page (settled T q m) [] p (slot + 1) (λ d. claims_or_reserves T d p slot) m w
  page_taken none =
      took_one accesses (first_of T.code) ClaimPage (state_at z) tried_page (settled T q m) p (slot + 1) (λ d. claims_or_reserves T d p slot) m w
      (found_free accesses (first_of T.code) ClaimPage (state_at z p) (slot + 1) (claims_or_reserves T (settled T q m) p slot) (tried_page (settled T q m) p)
      m n w l none (takes_counts T (settled T q m) p slot ∙ ap suc counts))

-- ---- after the first exchange

module _ (T : Setup) (z : TableSizes) (slot : ℕ) (c : Record) (start : ℕ) (low : start < z.pages) (m v : Me Record)
    (first : Tried accesses (first_of T.code) ClaimPage (state_at z) tried_page c (start ∷ []) m v) where
  pub then_above : (s : ℕ) (w : Me Record) → PagesTried T z slot (start + 1) z.pages (mine T v) (Some s) v w → PageOrNone T z slot c (Some s) m w
  then_above s w t = (
    t.1,
    took_above accesses (first_of T.code) ClaimPage (state_at z) tried_page c z.pages start low m v (start + 1) (add-one start) first
        s (slot + 1) (λ d. claims_or_reserves T d s slot) w t.0 t.1 t.2,
  )

  pub then_below : (u : Me Record) → PagesTried T z slot (start + 1) z.pages (mine T v) None v u
      → (r : Option ℕ) (w : Me Record) → PagesTried T z slot 0 start (mine T u) r u w → PageOrNone T z slot c r m w
  then_below u above None w t =
      tried_all accesses (first_of T.code) ClaimPage (state_at z) tried_page c z.pages start low m v (start + 1) (add-one start) first u above w t
  then_below u above (Some s) w t = (
    (let l = t.1 in omega (arith, l, low)),
    took_below accesses (first_of T.code) ClaimPage (state_at z) tried_page c z.pages start low m v (start + 1) (add-one start) first u above
        s (slot + 1) (λ d. claims_or_reserves T d s slot) w t.1 t.2,
  )
