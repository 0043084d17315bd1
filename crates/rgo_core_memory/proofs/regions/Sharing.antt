-- A stake more in a region, and the end of a stake. The count is the number of stakes plus 1 (`found`), so the number found decides
-- whether the stake was the last. Then the region's objects are no longer live, and all parts that speak of them become weaker.
use Rattle.std.proofs.Common.{◌≡◌, ◌≢◌, ◌⊎◌, ℕ, zero, suc, ◌+◌, ◌-◌, ◌<◌, true, List, length, set, slice_index, Some, slice_get, slice_set, sum_by, refl, ap, sym, subst, ◌∙◌, ⊎_elim, arith, true≢false}
use Rattle.std.proofs.lemmas.Option.{same_Some}
use mathlib.Core.Logic.{dite}
use native.Mathlib.Decide.{ℕ_discrete}
use Rattle.rgo_sound.specs.Memory.Memory.{Object}
use Rattle.rgo_sound.specs.RegionMachine.Objects.{fill_of}
use Rattle.rgo_sound.specs.RegionMachine.Regions.{RegionInfo, is_live, with_info, with_added_stake, one_fewer, without}
use Rattle.rgo_sound.specs.RegionMachine.declared.regions.Region.{Region}
use Rattle.rgo_sound.specs.RegionMachine.declared.regions.Region.TheVariants.{Global as GlobalRegion, Numbered}
use Rattle.rgo_sound.proofs.duties.Attends.{length_with_info}
use Rattle.rgo_sound.proofs.names.Core.{in_without, not_in_without}
use Rattle.rgo_sound.proofs.Tests.{ne_of}
use Rattle.rgo_sound.specs.Stakes.{is_in}
use Rattle.rgo_sound.proofs.counts.Pages.{pages_kept}
use Rattle.rgo_core_memory.specs.declared.layout.TableSizes.{TableSizes}
use Rattle.rgo_core_memory.specs.Words.{put_at, count_at}
use Rattle.rgo_core_memory.specs.Records.{Fill, Amid, PageClaim, Give, Calm, Owes, Rec, HasRecord, Within, Owns, Claims, ClosesSlot, dropped}
use Rattle.rgo_core_memory.specs.Ground.{Ground, Held, IsLiveObject, MayUseRegion, Steady, region_shared, left, taken_of}
use Rattle.rgo_core_memory.specs.Parts.{Lies, Own, OwnPagesFilled, slot_of, StakeAt, Use, Vacant, Living, Closing, Taken}
use Rattle.rgo_core_memory.specs.Image.{MemoryImage, Where}
use Rattle.rgo_core_memory.proofs.regions.Counting.{taken_count}
use Rattle.rgo_core_memory.proofs.image.Frames.{lies_fewer, own_frame, stay_alike}
use Rattle.rgo_core_memory.proofs.regions.Infos.{info_here, info_else, info_fewer, stands_fewer, counts_change}
use Rattle.rgo_core_memory.proofs.image.Keeping.{here, was, stays, mine, owns_was, owns_mine, owns_other, owns_old, own_fewer, counts_calm, taken_same, pages_same, dropped_within, within_dropped}
use Rattle.rgo_core_memory.proofs.pages.Paging.{paged_change}
use Rattle.rgo_core_memory.proofs.Puts.{put_here, put_else}
use Rattle.rgo_core_memory.proofs.pages.Releases.{owes_now}
use Rattle.rgo_core_memory.proofs.Rows.{at_set, set_here, set_else}
use Rattle.rgo_core_memory.proofs.regions.Slots.{live_info, one_region, uses_live}
use Rattle.rgo_core_memory.proofs.Writes.{writes_count}
use Rattle.rgo_core_memory.specs.Records.{Reserved}
use Rattle.std.proofs.Common.{[]}

module _ (z : TableSizes) (words : List ℕ) (recs : List Rec) (x : Ground) (places : Where) (k : MemoryImage z words recs x places) (j : ℕ)
    (live : is_live x.regions (Numbered j) ≡ true) where
  abbrev info : (i : RegionInfo) × (slice_get x.regions j ≡ Some i) × (0 < i.stakes)
  info = live_info x.regions j live

  abbrev s : ℕ
  s = places.slot j

  slotted : (s < z.slots) × (places.uses s ≡ Living j)
  slotted = k.counts.lives j info.0 info.1 info.2

  below_all : s < suc z.slots
  below_all = let l = slotted.0 in omega arith

  abbrev n : ℕ
  n = slice_index words (count_at z s)

  -- the number found is the number of stakes plus 1
  pub found : n ≡ suc (info.0).stakes
  found =
      let t = k.counts.living s j slotted.0 slotted.1 in
      let same : t.1 ≡ info.0 = same_Some t.1 info.0 (sym t.2 ∙ info.1) in
      k.shows.count s below_all ∙ (t.4 ∙ ap (λ (i : RegionInfo). suc i.stakes) same)

  module _ (change : RegionInfo → RegionInfo) (same_pages : (i : RegionInfo) → (change i).pages ≡ i.pages) where
    abbrev infos : List RegionInfo
    infos = with_info x.regions j change

    fewer : (o : ℕ) (object : Object) (r : Region) → IsLiveObject x.heap x.owners infos o object r → IsLiveObject x.heap x.owners x.regions o object r
    fewer = stands_fewer x.heap x.owners x.regions infos (info_fewer x.regions j change live)

    same_length : length infos ≡ length x.regions
    same_length = length_with_info x.regions j change

    lies_changed : Lies z k.w.variable k.w.cell x.variables x.heap x.owners infos places.spot places.start
    lies_changed = lies_fewer z k.w.variable k.w.cell x.variables x.heap x.owners x.regions infos places.spot places.start k.lies fewer (omega
        (arith, same_length))

    own_changed : (more : List Rec) → Own z k.w.state k.w.cell more x.heap x.owners x.regions places.slot places.spot
        → Own z k.w.state k.w.cell more x.heap x.owners infos places.slot places.spot
    own_changed more o = own_frame z k.w.state k.w.cell more x.heap x.owners x.regions places.slot places.spot o k.w.cell x.heap x.owners infos
        (stay_alike x.heap x.owners x.regions infos fewer) (λ g i f w l. refl) (λ g p i c h w. refl)

    same_takes : x.global_pages + sum_by (λ (i : RegionInfo). i.pages) infos ≡ taken_of x
    same_takes = ap (λ (m : ℕ). x.global_pages + m) (pages_kept x.regions j change same_pages)

    taken_changed : (more : List Rec) (m : ℕ) → Taken z k.w.state k.w.count more (taken_of x) (length x.regions) places.slot places.page
        → Taken z k.w.state (put_at k.w.count s m) more (x.global_pages + sum_by (λ (i : RegionInfo). i.pages) infos)
        (length infos) places.slot places.page
    taken_changed more m t =
        subst (λ (a : ℕ). Taken z k.w.state (put_at k.w.count s m) more a (length infos) places.slot places.page) (sym same_takes)
        (subst (λ (b : ℕ). Taken z k.w.state (put_at k.w.count s m) more (taken_of x) b places.slot places.page) (sym same_length)
        (taken_count z k.w.state k.w.count more (taken_of x) (length x.regions) places.slot places.page s m
        (λ l. let t = k.counts.living s j slotted.0 slotted.1 in let q = t.4 in omega arith) t))

  -- a share
  pub one_shared : MemoryImage z (set words (count_at z s) (n + 1)) recs (region_shared x j) places
  one_shared = record {
    w = record k.w { count = put_at k.w.count s (n + 1) };
    shows = writes_count z words k.w k.shows s (n + 1) below_all;
    lies = lies_changed with_added_stake (λ i. refl);
    own = own_changed with_added_stake (λ i. refl) recs k.own;
    filled = subst (λ (m : ℕ). OwnPagesFilled z recs x.held m places.slot) (sym (same_length with_added_stake (λ i. refl))) k.filled;
    counts = counts_change z k.w.count (put_at k.w.count s
        (n + 1)) places.top recs x.regions places.slot places.uses j with_added_stake info.0 k.counts info.1 info.2
        (omega arith) (put_here k.w.count s (n + 1) s refl ∙ (let f = found in omega arith)) (λ r ne. put_else k.w.count s (n + 1) r ne);
    pages = k.pages;
    paged = paged_change z k.w.state x.regions x.global_pages places.slot j with_added_stake info.0 k.paged info.1 info.2 (λ i. refl);
    taken = taken_changed with_added_stake (λ i. refl) recs (n + 1) k.taken;
  }

  -- ---- the end of a stake

  module _ (steady : Steady x) (g : ℕ) (c d : Rec) (own : HasRecord recs g c) (fills : d.fills ≡ dropped s c.fills) (claim : d.claim ≡ c.claim)
      (reserved : d.reserved ≡ c.reserved) (none_reserved : c.reserved.pages ≡ [])
      (h : Held) (hold : slice_get x.held g ≡ Some h) (free : Claims c.claim s → ⊥) where
    abbrev h2 : Held
    h2 = record h { stakes = without j h.stakes }

    abbrev held : List Held
    held = slice_set x.held g h2

    abbrev recs2 : List Rec
    recs2 = slice_set recs g d

    fewer_fills : (f : Fill) → Within f d.fills → Within f c.fills × (f.slot ≢ s)
    fewer_fills f w = dropped_within s c.fills f (subst (λ (l : List Fill). Within f l) fills w)

    -- a region at another slot is still used
    uses_still : (r : Region) → MayUseRegion h r → slot_of z places.slot r ≢ s → MayUseRegion h2 r
    uses_still GlobalRegion u ne = tt
    uses_still (Numbered i) u ne = in_without j i h.stakes (ne_of j i (λ e. ne (ap places.slot (sym e)))) ∙ u

    used_before : (r : Region) → MayUseRegion h2 r → MayUseRegion h r × (r ≢ Numbered j)
    used_before GlobalRegion u = (tt, λ e. cc e)
    used_before (Numbered i) u = dite (ℕ_discrete i j)
        (λ e. absurd (true≢false (sym u ∙ (ap (λ (m : ℕ). is_in m (without j h.stakes)) e ∙ not_in_without j h.stakes))))
        (λ ne. (sym (in_without j i h.stakes (ne_of j i (λ e. ne (sym e)))) ∙ u, λ e. ne (cc e)))

    hold2 : slice_get held g ≡ Some h2
    hold2 = set_here x.held g h2 h hold

    was_held : (i : ℕ) (y : Held) → slice_get held i ≡ Some y → ((i ≡ g) × (h2 ≡ y)) ⊎ ((i ≢ g) × (slice_get x.held i ≡ Some y))
    was_held i y e = at_set x.held g i h2 y e

    owns_before : (i : ℕ) (f : Fill) → Owns recs2 i f → Owns recs i f
    owns_before i f w = ⊎_elim
        (λ (t : (i ≡ g) × Within f d.fills). subst (λ (m : ℕ). Owns recs m f) (sym t.0) (c, own, (fewer_fills f t.1).0))
        (λ (t : (i ≢ g) × Owns recs i f). t.1)
        (owns_was recs g c d own i f w)

    -- a stake at another slot
    stake_still : (i r : ℕ) → StakeAt z x.held places.slot i r → (i ≡ g → r ≢ s) → StakeAt z held places.slot i r
    stake_still i r st ne = dite (ℕ_discrete i g)
        (λ e.
        let same : st.0 ≡ h = same_Some st.0 h (sym st.2 ∙ (ap (slice_get x.held) e ∙ hold)) in
        (h2, st.1, ap (slice_get held) e ∙ hold2, uses_still st.1 (subst (λ (y : Held). MayUseRegion y st.1) same st.3) (λ q. ne e (sym st.4 ∙ q)), st.4))
        (λ m. (st.0, st.1, set_else x.held g i h2 m ∙ st.2, st.3, st.4))

    filled_left : (m : ℕ) → length x.regions ≡ m → OwnPagesFilled z recs2 held m places.slot
    filled_left m many = record {
      fills = λ i f w. ⊎_elim
          (λ (t : (i ≡ g) × Within f d.fills).
          let v = fewer_fills f t.1 in
          let q = k.filled.fills g f (c, own, v.0) in
          let same : q.0 ≡ h = same_Some q.0 h (sym q.2 ∙ hold) in (
            h2,
            q.1,
            ap (slice_get held) t.0 ∙ hold2,
            uses_still q.1 (subst (λ (y : Held). MayUseRegion y q.1) same q.3) (λ e. v.1 (sym q.4
                ∙ e)),
            q.4,
            subst (λ (y : Held). fill_of y.fills q.1 ≡ Some f.fill) same q.5,
          ))
          (λ (t : (i ≢ g) × Owns recs i f). let q = k.filled.fills i f t.1 in (q.0, q.1, set_else x.held g i h2 t.0 ∙ q.2, q.3, q.4, q.5))
          (owns_was recs g c d own i f w);
      owned = λ i n y r e u q. ⊎_elim
          (λ (t : (i ≡ g) × (h2 ≡ y)).
          let v = used_before r (subst (λ (y : Held). MayUseRegion y r) (sym t.1) u) in
          let o = k.filled.owned g n h r hold v.0 (subst (λ (y : Held). fill_of y.fills r ≡ Some n) (sym t.1) q) in
          let w : Within o.0 c.fills = owns_old recs g c d own g o.0 refl o.1 in
          let other : (o.0).slot ≢ s = λ e. v.1 (one_region z words recs x places k r (Numbered j)
          (uses_live z words recs x places k steady g h r hold v.0) live (sym o.2 ∙ e)) in
          let kept : Within o.0 d.fills = subst (λ (l : List Fill). Within o.0 l) (sym fills) (within_dropped s c.fills o.0 w other) in
          (o.0, subst (λ (m : ℕ). Owns recs2 m o.0) (sym t.0) (owns_mine recs g c d own o.0 kept), o.2, o.3))
          (λ (t : (i ≢ g) × (slice_get x.held i ≡ Some y)). let o = k.filled.owned i n y r t.1 u q in
          (o.0, owns_other recs g c d own i o.0 t.0 o.1, o.2, o.3))
          (was_held i y e);
      single = λ i e f w v. k.filled.single i e f (owns_before i e w) (owns_before i f v);
      claims = λ i r y e q. ⊎_elim
          (λ (t : (i ≡ g) × (d ≡ y)).
          let w : Claims c.claim r = subst (λ (v : PageClaim). Claims v r) (ap (λ (y : Rec). y.claim) (sym t.1) ∙ claim) q in
          stake_still i r (subst (λ (m : ℕ). StakeAt z x.held places.slot m r) (sym t.0) (k.filled.claims g r c own w)) (λ i' e'. free (subst
          (Claims c.claim) e' w)))
          (λ (t : (i ≢ g) × HasRecord recs i y). stake_still i r (k.filled.claims i r y t.1 q) (λ e. absurd (t.0 e)))
          (was recs g c d own i y e);
      reserved = λ i y e q. ⊎_elim
          (λ (t : (i ≡ g) × (d ≡ y)).
          let n : length y.reserved.pages ≡ 0 = ap (λ (v : Rec). length v.reserved.pages) (sym t.1)
          ∙ (ap (λ (v : Reserved). length v.pages) reserved ∙ ap (λ (l : List ℕ). length l) none_reserved) in
          absurd (omega (arith, n, q)))
          (λ (t : (i ≢ g) × HasRecord recs i y).
          let u = k.filled.reserved i y t.1 q in
          (u.0, u.1, set_else x.held g i h2 t.0 ∙ u.2, u.3, u.4, u.5))
          (was recs g c d own i y e);
      recorded = λ i y e q. ⊎_elim
          (λ (t : (i ≡ g) × (h2 ≡ y)).
          let u = k.filled.recorded g h hold (subst (λ (v : Held). 0 < v.reserved) (sym t.1) q) in
          let n : length (u.0).reserved.pages ≡ 0 =
          ap (λ (v : Rec). length v.reserved.pages) (same_Some u.0 c (sym u.1 ∙ own))
          ∙ ap (λ (l : List ℕ). length l) none_reserved in
          let m = ap (λ (v : Held). v.reserved) t.1 in
          let w = u.2 in
          absurd (omega (arith, n, m, w, q)))
          (λ (t : (i ≢ g) × (slice_get x.held i ≡ Some y)).
          let u = k.filled.recorded i y t.1 q in
          (u.0, stays recs g c d own i u.0 t.0 u.1, u.2))
          (was_held i y e);
      made = λ i r n y e q. subst (λ (b : ℕ). r < b) many (⊎_elim
          (λ (t : (i ≡ g) × (h2 ≡ y)). k.filled.made g r n h hold (subst (λ (v : Held). fill_of v.fills (Numbered r) ≡ Some n) (sym t.1) q))
          (λ (t : (i ≢ g) × (slice_get x.held i ≡ Some y)). k.filled.made i r n y t.1 q)
          (was_held i y e));
    }

    module _ (unmade : (f : Fill) (object : Object) (stored : List ℕ) → c.make ≡ Amid f object stored → f.slot ≢ s) (make : d.make ≡ c.make)
        (tried : d.tried_pages ≡ c.tried_pages) (tried_slots : d.tried_slots ≡ c.tried_slots) where
      own_left : Own z k.w.state k.w.cell recs2 x.heap x.owners x.regions places.slot places.spot
      own_left = own_fewer recs g c d own z k.w.state k.w.cell x.heap x.owners x.regions places.slot places.spot k.own
          (λ f w. (fewer_fills f w).0)
          (λ f object stored m.
          let e = sym make ∙ m in
          let a = k.own.amids g c f object stored own e in
          (e, subst (λ (l : List Fill). Within f l) (sym fills) (within_dropped s c.fills f a.0 (unmade f object stored e))))
          reserved (λ object stored m. sym make ∙ m)

      -- a leave while others have a stake
      pub other_left : d.give ≡ c.give → n ≢ 2 → MemoryImage z (set words (count_at z s) (n - 1)) recs2 (left x g h j) places
      other_left give more =
          let f = found in
          record {
            w = record k.w { count = put_at k.w.count s (n - 1) };
            shows = writes_count z words k.w k.shows s (n - 1) below_all;
            lies = lies_changed one_fewer (λ i. refl);
            own = own_changed one_fewer (λ i. refl) recs2 own_left;
            filled = filled_left (length (with_info x.regions j one_fewer)) (sym (same_length one_fewer (λ i. refl)));
            counts = counts_calm recs g c d own z (put_at k.w.count s (n - 1)) places.top (with_info x.regions j one_fewer) places.slot places.uses
                (counts_change z k.w.count (put_at k.w.count s
                (n - 1)) places.top recs x.regions places.slot places.uses j one_fewer info.0 k.counts info.1 info.2
                (two_left (info.0).stakes info.2 (λ e. more (f ∙ ap suc e)))
                (put_here k.w.count s (n - 1) s refl ∙ one_less n (info.0).stakes info.2 f) (λ r ne. put_else k.w.count s (n - 1) r ne)) give;
            pages = pages_same recs g c d own k.w.state k.w.next k.w.head places.at places.chain places.link places.top k.pages claim give;
            paged = paged_change z k.w.state x.regions x.global_pages places.slot j one_fewer info.0 k.paged info.1 info.2 (λ i. refl);
            taken = taken_changed one_fewer (λ i. refl) recs2 (n - 1)
                (taken_same recs g c d own z k.w.state k.w.count _ _ places.slot places.page k.taken tried tried_slots);
          }
        where
          two_left : (m : ℕ) → 0 < m → m ≢ 1 → 0 < m - 1
          two_left zero l n = absurd (omega arith)
          two_left (suc zero) l n = absurd (n refl)
          two_left (suc (suc m)) l n = omega arith

          one_less : (a m : ℕ) → 0 < m → a ≡ suc m → a - 1 ≡ suc (m - 1)
          one_less a m l e = omega arith

      -- a leave of the last stake: the region is removed, and its chain is to be returned
      pub last_left : c.give ≡ Calm → d.give ≡ Owes s → n ≡ 2
          → MemoryImage z (set words (count_at z s) (n - 1)) recs2 (left x g h j) (record places { uses = put_at places.uses s (Closing g) })
      last_left calm give last =
          let f = found in
          let one : (info.0).stakes ≡ 1 = omega (arith, f, last) in
          let away : (r : ℕ) (u : Use) → places.uses r ≡ u → Living j ≢ u → r ≢ s = λ r u e m q. m (sym slotted.1 ∙ (ap places.uses (sym q) ∙ e)) in
          record {
            w = record k.w { count = put_at k.w.count s (n - 1) };
            shows = writes_count z words k.w k.shows s (n - 1) below_all;
            lies = lies_changed one_fewer (λ i. refl);
            own = own_changed one_fewer (λ i. refl) recs2 own_left;
            filled = filled_left (length (with_info x.regions j one_fewer)) (sym (same_length one_fewer (λ i. refl)));
            counts = record {
              global = put_else k.w.count s (n - 1) z.slots (λ e. let l = slotted.0 in omega arith) ∙ k.counts.global;
              vacant = λ r l e. dite (ℕ_discrete r s)
                  (λ y. let v : Closing g ≡ Vacant = sym (put_here places.uses s (Closing g) r y) ∙ e in absurd (cc v))
                  (λ m. let t = k.counts.vacant r l (sym (put_else places.uses s (Closing g) r m) ∙ e) in (
                    put_else k.w.count s (n - 1) r m
                        ∙ t.0,
                    t.1,
                  ));
              living = λ r i l e. dite (ℕ_discrete r s)
                  (λ y. let v : Closing g ≡ Living i = sym (put_here places.uses s (Closing g) r y) ∙ e in absurd (cc v))
                  (λ m. let t = k.counts.living r i l (sym (put_else places.uses s (Closing g) r m) ∙ e) in (
                    t.0,
                    t.1,
                    info_else x.regions j i one_fewer (λ y. m (sym t.0 ∙ ap places.slot y)) ∙ t.2,
                    t.3,
                    put_else k.w.count s (n - 1) r m
                        ∙ t.4,
                  ));
              closing = λ r i l e. dite (ℕ_discrete r s)
                  (λ y.
                  let v : Closing g ≡ Closing i = sym (put_here places.uses s (Closing g) r y) ∙ e in
                  let same : g ≡ i = cc v in (
                    put_here k.w.count s (n - 1) r y
                        ∙ omega (arith, last),
                    d,
                    subst (λ (m : ℕ). HasRecord recs2 m d) same (here recs g c d own),
                    subst (λ (v : Give). ClosesSlot v r)
                        (sym give) (sym y),
                  ))
                  (λ m. let t = k.counts.closing r i l (sym (put_else places.uses s (Closing g) r m) ∙ e) in (
                    put_else k.w.count s (n - 1) r m
                        ∙ t.0,
                    t.1,
                    stays recs g c d own i t.1 (λ q. subst (λ (v : Give). ClosesSlot v r) (ap (λ (v : Rec). v.give)
                        (mine recs g c d own i t.1 q t.2) ∙ calm) t.3) t.2,
                    t.3,
                  ));
              lives = λ i other e q. dite (ℕ_discrete i j)
                  (λ y.
                  let v : one_fewer info.0 ≡ other = same_Some (one_fewer info.0) other (sym (info_here x.regions j one_fewer info.0 info.1)
                  ∙ (ap (slice_get (with_info x.regions j one_fewer)) (sym y) ∙ e)) in
                  let u : (info.0).stakes - 1 ≡ other.stakes = ap (λ (a : RegionInfo). a.stakes) v in absurd (omega (arith, u, one, q)))
                  (λ m. let t = k.counts.lives i other (sym (info_else x.regions j i one_fewer m) ∙ e) q in (
                    t.0,
                    put_else places.uses s (Closing g) (places.slot i) (away (places.slot i) (Living i) t.1 (λ y. m
                        (let v : j ≡ i = cc y in sym v))) ∙ t.1,
                  ));
              closes = λ i r y e q. ⊎_elim
                  (λ (t : (i ≡ g) × (d ≡ y)).
                  let v : s ≡ r = subst (λ (v : Give). ClosesSlot v r) (ap (λ (v : Rec). v.give) (sym t.1) ∙ give) q in
                  (subst (λ (m : ℕ). m < z.slots) v slotted.0, put_here places.uses s (Closing g) r (sym v) ∙ ap Closing (sym t.0)))
                  (λ (t : (i ≢ g) × HasRecord recs i y). let u = k.counts.closes i r y t.1 q in
                  (u.0, put_else places.uses s (Closing g) r (away r (Closing i) u.1 (λ y. cc y)) ∙ u.1))
                  (was recs g c d own i y e);
            };
            pages = owes_now k.w.state k.w.next k.w.head recs places.at places.chain places.link places.top k.pages g c d own claim s calm give;
            paged = paged_change z k.w.state x.regions x.global_pages places.slot j one_fewer info.0 k.paged info.1 info.2 (λ i. refl);
            taken = taken_changed one_fewer (λ i. refl) recs2 (n - 1)
                (taken_same recs g c d own z k.w.state k.w.count _ _ places.slot places.page k.taken tried tried_slots);
          }
