-- A goroutine has reserved another number of pages, and fills its own pages as before. Its stakes stay, so it uses the same regions.
use Rattle.std.proofs.Common.{◌≡◌, ◌≢◌, ◌⊎◌, ℕ, ◌<◌, List, length, Some, slice_get, slice_set, refl, ap, sym, subst, ◌∙◌}
use Rattle.std.proofs.Common.{⊎_elim, arith}
use Rattle.std.proofs.lemmas.Option.{same_Some}
use mathlib.Core.Logic.{dite}
use native.Mathlib.Decide.{ℕ_discrete}
use Rattle.rgo_sound.specs.RegionMachine.Objects.{fill_of}
use Rattle.rgo_sound.specs.RegionMachine.declared.regions.Region.{Region}
use Rattle.rgo_sound.specs.RegionMachine.declared.regions.Region.TheVariants.{Global as GlobalRegion, Numbered}
use Rattle.rgo_core_memory.specs.declared.layout.TableSizes.{TableSizes}
use Rattle.rgo_core_memory.specs.Records.{Claims, Fill, HasRecord, Owns, Rec, Within}
use Rattle.rgo_core_memory.specs.Ground.{Held, MayUseRegion}
use Rattle.rgo_core_memory.specs.Parts.{OwnPagesFilled, StakeAt, slot_of}
use Rattle.rgo_core_memory.proofs.image.Keeping.{here, owns_was, stays, was}
use Rattle.rgo_core_memory.proofs.Rows.{at_set, set_else, set_here}

module _ (z : TableSizes) (recs : List Rec) (others : List Held) (many : ℕ) (slot : ℕ → ℕ)
    (k : OwnPagesFilled z recs others many slot) (g : ℕ) (h : Held) (hold : slice_get others g ≡ Some h) (m : ℕ) (c d : Rec)
    (own : HasRecord recs g c) (fills : d.fills ≡ c.fills) (reserved : m ≡ length d.reserved.pages)
    (used : 0 < m → (r : Region) × MayUseRegion h r × (slot_of z slot r ≡ d.reserved.slot))
    (claims : (s : ℕ) → Claims d.claim s → StakeAt z others slot g s) where
  abbrev h2 : Held
  h2 = record h { reserved = m }

  abbrev held : List Held
  held = slice_set others g h2

  abbrev recs2 : List Rec
  recs2 = slice_set recs g d

  hold2 : slice_get held g ≡ Some h2
  hold2 = set_here others g h2 h hold

  uses_same : (q : Region) → MayUseRegion h q → MayUseRegion h2 q
  uses_same GlobalRegion u = tt
  uses_same (Numbered j) u = u

  uses_back : (q : Region) → MayUseRegion h2 q → MayUseRegion h q
  uses_back GlobalRegion u = tt
  uses_back (Numbered j) u = u

  was_held : (i : ℕ) (y : Held) → slice_get held i ≡ Some y → ((i ≡ g) × (h2 ≡ y)) ⊎ ((i ≢ g) × (slice_get others i ≡ Some y))
  was_held i y e = at_set others g i h2 y e

  -- what a goroutine has still
  still : (i : ℕ) (y : Held) (q : Region) → slice_get others i ≡ Some y → MayUseRegion y q
      → (y2 : Held) × (slice_get held i ≡ Some y2) × MayUseRegion y2 q × (y2.fills ≡ y.fills)
  still i y q e u = dite (ℕ_discrete i g)
      (λ s. let same : y ≡ h = same_Some y h (sym e ∙ (ap (slice_get others) s ∙ hold)) in (
        h2,
        ap (slice_get held) s ∙ hold2,
        uses_same q (subst (λ (v : Held). MayUseRegion v q) same u),
        ap (λ (v : Held). v.fills) (sym same),
      ))
      (λ n. (y, set_else others g i h2 n ∙ e, u, refl))

  stake_still : (i s : ℕ) → StakeAt z others slot i s → StakeAt z held slot i s
  stake_still i s st = let y = still i st.0 st.1 st.2 st.3 in (y.0, st.1, y.1, y.2, st.4)

  old : (j : ℕ) (f : Fill) → Owns recs2 j f → Owns recs j f
  old j f w = ⊎_elim
      (λ (t : (j ≡ g) × Within f d.fills). subst (λ (n : ℕ). Owns recs n f) (sym t.0)
      (c, own, subst (λ (l : List Fill). Within f l) fills t.1))
      (λ (t : (j ≢ g) × Owns recs j f). t.1)
      (owns_was recs g c d own j f w)

  young : (j : ℕ) (f : Fill) → Owns recs j f → Owns recs2 j f
  young j f w = dite (ℕ_discrete j g)
      (λ e.
      let same : w.0 ≡ c = same_Some w.0 c (sym w.1 ∙ (ap (slice_get recs) e ∙ own)) in (
        d,
        subst (λ (n : ℕ). HasRecord recs2 n d) (sym e) (here recs g c d own),
        subst (λ (l : List Fill). Within f l) (ap (λ (y : Rec). y.fills) same ∙ sym fills) w.2,
      ))
      (λ n. (w.0, stays recs g c d own j w.0 n w.1, w.2))

  -- a holder afterwards has one before it with the same stakes and fills
  before : (i : ℕ) (y : Held) → slice_get held i ≡ Some y
      → (y1 : Held) × (slice_get others i ≡ Some y1) × (y1.fills ≡ y.fills) × ((q : Region) → MayUseRegion y q → MayUseRegion y1 q)
  before i y e = ⊎_elim
      (λ (t : (i ≡ g) × (h2 ≡ y)). (
        h,
        ap (slice_get others) t.0 ∙ hold,
        ap (λ (v : Held). v.fills) t.1,
        λ q u. uses_back q (subst (λ (v : Held). MayUseRegion v q) (sym t.1) u),
      ))
      (λ (t : (i ≢ g) × (slice_get others i ≡ Some y)). (y, t.1, refl, λ q u. u))
      (was_held i y e)

  pub rereserved : OwnPagesFilled z recs2 held many slot
  rereserved = record {
    fills = λ i f w.
        let t = k.fills i f (old i f w) in
        let y = still i t.0 t.1 t.2 t.3 in
        (y.0, t.1, y.1, y.2, t.4, ap (λ l. fill_of l t.1) y.3 ∙ t.5);
    owned = λ i n y q e u f.
        let b = before i y e in
        let o = k.owned i n b.0 q b.1 (b.3 q u) (ap (λ l. fill_of l q) b.2 ∙ f) in
        (o.0, young i o.0 o.1, o.2, o.3);
    single = λ i e f w v. k.single i e f (old i e w) (old i f v);
    claims = λ i s y e q. ⊎_elim
        (λ (t : (i ≡ g) × (d ≡ y)). stake_still i s (subst (λ (a : ℕ). StakeAt z others slot a s) (sym t.0)
        (claims s (subst (λ (v : Rec). Claims v.claim s) (sym t.1) q))))
        (λ (t : (i ≢ g) × HasRecord recs i y). stake_still i s (k.claims i s y t.1 q))
        (was recs g c d own i y e);
    reserved = λ i y e q. ⊎_elim
        (λ (t : (i ≡ g) × (d ≡ y)).
        let n : length y.reserved.pages ≡ length d.reserved.pages =
        ap (λ (v : Rec). length v.reserved.pages) (sym t.1) in
        let u = used (omega (arith, reserved, n, q)) in (
          h2,
          u.0,
          ap (slice_get held) t.0 ∙ hold2,
          uses_same u.0 u.1,
          u.2 ∙ ap (λ (v : Rec). v.reserved.slot) t.1,
          reserved ∙ sym n,
        ))
        (λ (t : (i ≢ g) × HasRecord recs i y).
        let u = k.reserved i y t.1 q in
        (u.0, u.1, set_else others g i h2 t.0 ∙ u.2, u.3, u.4, u.5))
        (was recs g c d own i y e);
    recorded = λ i y e q. ⊎_elim
        (λ (t : (i ≡ g) × (h2 ≡ y)). (
          d,
          subst (λ (n : ℕ). HasRecord recs2 n d) (sym t.0) (here recs g c d own),
          ap (λ (v : Held). v.reserved) (sym t.1) ∙ reserved,
        ))
        (λ (t : (i ≢ g) × (slice_get others i ≡ Some y)).
        let u = k.recorded i y t.1 q in (u.0, stays recs g c d own i u.0 t.0 u.1, u.2))
        (was_held i y e);
    made = λ i j n y e f.
        let b = before i y e in k.made i j n b.0 b.1 (ap (λ l. fill_of l (Numbered j)) b.2 ∙ f);
  }
