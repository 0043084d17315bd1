-- A page that was found free is claimed: the region machine takes a page. What both kinds of pages have in common is proved first, for
-- any record and holder afterwards. An own page and a reserved one then differ in who owns it.
use Rattle.std.proofs.Common.{◌≡◌, ◌≢◌, ◌⊎◌, ℕ, zero, suc, ◌+◌, ◌<◌, ◌≤◌, true, List, [], ◌∷◌, length, set, slice_index, Some, slice_get, slice_set, sum_by, refl, ap, sym, subst, ◌∙◌, inl, inr, ⊎_elim, arith}
use Rattle.std.proofs.lemmas.Option.{same_Some}
use Rattle.std.proofs.lemmas.List.Sums.{sum_by-cons}
use mathlib.Core.Logic.{dite}
use native.Mathlib.Decide.{ℕ_discrete}
use Rattle.rgo_sound.specs.RegionMachine.Objects.{with_fill}
use Rattle.rgo_sound.specs.RegionMachine.Regions.{RegionInfo, is_live, with_info, one_page_more}
use Rattle.rgo_sound.specs.RegionMachine.declared.regions.Region.{Region}
use Rattle.rgo_sound.specs.RegionMachine.declared.regions.Region.TheVariants.{Global as GlobalRegion, Numbered}
use Rattle.rgo_sound.proofs.duties.Attends.{length_with_info}
use Rattle.rgo_core_memory.specs.declared.layout.TableSizes.{TableSizes}
use Rattle.rgo_core_memory.specs.Words.{put_at, state_at}
use Rattle.rgo_core_memory.specs.Records.{Fill, Rest, Amid, Idle, Rec, HasRecord, Within, Owns, with_own_page}
use Rattle.rgo_core_memory.specs.Ground.{Ground, Held, MayUseRegion, Steady, own_page_taken, taken_of}
use Rattle.rgo_core_memory.specs.Pages.{Claimed}
use Rattle.rgo_core_memory.specs.Parts.{Own, OwnPagesFilled, slot_of, StakeAt, Living, SlotCounts, Paged, pages_at, Taken}
use Rattle.rgo_core_memory.specs.Image.{MemoryImage, Where}
use Rattle.rgo_core_memory.proofs.pages.Chains.{claims}
use Rattle.rgo_core_memory.proofs.image.Frames.{lies_fewer, own_frame, stay_alike}
use Rattle.rgo_core_memory.proofs.regions.Infos.{info_here, info_else, info_fewer, stands_fewer, counts_change}
use Rattle.rgo_core_memory.proofs.image.Keeping.{was, owns_was, counts_calm, taken_same, dropped_within, within_dropped}
use Rattle.rgo_core_memory.proofs.pages.Paging.{other_at, more_at}
use Rattle.rgo_core_memory.proofs.Puts.{put_here, put_else}
use Rattle.rgo_core_memory.proofs.pages.Refilling.{refilled}
use Rattle.rgo_core_memory.proofs.regions.Slots.{live_info, stake_slot, uses_live}
use Rattle.rgo_core_memory.proofs.Writes.{writes_state}
use Rattle.rgo_core_memory.specs.Records.{Across, Reserved}
use Rattle.rgo_core_memory.proofs.image.Keeping.{reserves}
use Rattle.rgo_core_memory.specs.Ground.{one_page, page_reserved}
use Rattle.rgo_core_memory.specs.Records.{Got, with_reserved}
use Rattle.rgo_core_memory.proofs.pages.Reserving.{rereserved}
use Rattle.rgo_core_memory.proofs.Rows.{snoc_at}
use Rattle.std.proofs.Common.{length-append}

pages_more : (regions : List RegionInfo) (k : ℕ) (info : RegionInfo) → slice_get regions k ≡ Some info
    → sum_by (λ (i : RegionInfo). i.pages) (with_info regions k one_page_more) ≡ suc (sum_by (λ (i : RegionInfo). i.pages) regions)
pages_more [] k info e = cc
pages_more (i ∷ is) zero info e =
    let a = sum_by-cons (λ (i : RegionInfo). i.pages) (one_page_more i) is in
    let b = sum_by-cons (λ (i : RegionInfo). i.pages) i is in
    omega (arith, a, b)
pages_more (i ∷ is) (suc k) info e =
    let a = sum_by-cons (λ (i : RegionInfo). i.pages) i (with_info is k one_page_more) in
    let b = sum_by-cons (λ (i : RegionInfo). i.pages) i is in
    let c = pages_more is k info e in
    omega (arith, a, b, c)

module _ (z : TableSizes) (words : List ℕ) (recs : List Rec) (x : Ground) (places : Where) (k : MemoryImage z words recs x places) (steady : Steady x)
    (g : ℕ) (c : Rec) (own : HasRecord recs g c) (h : Held) (hold : slice_get x.held g ≡ Some h) (r : Region) (used : MayUseRegion h r)
    (p : ℕ) (small : p < z.pages) (free : slice_index words (state_at z p) ≡ 0) (idle : c.claim ≡ Idle) where
  abbrev s : ℕ
  s = slot_of z places.slot r

  abbrev states : ℕ → ℕ
  states = put_at k.w.state p (suc s)

  zero_state : k.w.state p ≡ 0
  zero_state = sym (k.shows.state p small) ∙ free

  -- the slot of a region that is used
  slot_there : s ≤ z.slots
  slot_there = ⊎_elim
      (λ (e : s ≡ z.slots). omega (arith, e))
      (λ (u : (m : ℕ) × (s < z.slots) × (places.uses s ≡ Living m)). let l = u.1 in omega (arith, l))
      (stake_slot z words recs x places k steady g s (h, r, hold, used, refl))

  unclaimed : (q t : ℕ) → k.w.state q ≡ suc t → q ≢ p
  unclaimed q t e same = let y : k.w.state q ≡ 0 = ap k.w.state same ∙ zero_state in absurd (omega arith)

  other_state : (q t : ℕ) → k.w.state q ≡ suc t → states q ≡ suc t
  other_state q t e = put_else k.w.state p (suc s) q (unclaimed q t e) ∙ e

  stake : StakeAt z x.held places.slot g s
  stake = (h, r, hold, used, refl)

  -- ---- for any record and holder afterwards

  module _ (d : Rec) (h2 : Held) (claim : d.claim ≡ Got p s) (give : d.give ≡ c.give)
      (tried : d.tried_pages ≡ c.tried_pages) (tried_slots : d.tried_slots ≡ c.tried_slots)
      (own2 : Own z states k.w.cell (slice_set recs g d) x.heap x.owners x.regions places.slot places.spot)
      (filled2 : OwnPagesFilled z (slice_set recs g d) (slice_set x.held g h2) (length x.regions) places.slot) where
    abbrev recs2 : List Rec
    recs2 = slice_set recs g d

    taken_claimed : Taken z states k.w.count recs2 (suc (taken_of x)) (length x.regions) places.slot (put_at places.page (taken_of x) p)
    taken_claimed =
        let t = taken_same recs g c d own z k.w.state k.w.count (taken_of x) (length x.regions) places.slot places.page k.taken tried tried_slots in
        record {
          pages = λ q f. dite (ℕ_discrete q p)
              (λ e. (taken_of x, omega arith, put_here places.page (taken_of x) p (taken_of x) refl ∙ sym e))
              (λ n. let y = t.pages q (⊎_elim (λ l. inl (subst (λ (m : ℕ). 0 < m) (put_else k.w.state p (suc s) q n) l)) (λ u. inr u) f) in
              let l = y.1 in (y.0, omega arith, put_else places.page (taken_of x) p y.0 (λ e. omega arith) ∙ y.2));
          slots = t.slots;
        }

    -- the image, for regions in which one page more is counted
    with_infos : (infos : List RegionInfo) (globals : ℕ) → ((q : Region) → is_live infos q ≡ true → is_live x.regions q ≡ true)
        → length infos ≡ length x.regions
        → SlotCounts z k.w.count places.top recs infos places.slot places.uses → globals + sum_by (λ (i : RegionInfo). i.pages) infos ≡ suc (taken_of x)
        → Paged z states infos globals places.slot
        → MemoryImage z (set words (state_at z p) (suc s)) recs2 (record x {
          regions = infos;
          global_pages = globals;
          held = slice_set x.held g h2;
        })
        (record places { at = put_at places.at p (Claimed g); page = put_at places.page (taken_of x) p })
    with_infos infos globals live same counts more paged = record {
      w = record k.w { state = states };
      shows = writes_state z words k.w k.shows p (suc s) small;
      lies = lies_fewer z k.w.variable k.w.cell x.variables x.heap x.owners x.regions infos places.spot places.start k.lies
          (stands_fewer x.heap x.owners x.regions infos live) (omega (arith, same));
      own = own_frame z states k.w.cell recs2 x.heap x.owners x.regions places.slot places.spot own2 k.w.cell x.heap x.owners infos
          (stay_alike x.heap x.owners x.regions infos (stands_fewer x.heap x.owners x.regions infos live)) (λ i m f w l. refl) (λ i q m y h w. refl);
      filled = subst (λ (m : ℕ). OwnPagesFilled z recs2 (slice_set x.held g h2) m places.slot) (sym same) filled2;
      counts = counts_calm recs g c d own z k.w.count places.top infos places.slot places.uses counts give;
      pages = claims k.w.state k.w.next k.w.head recs places.at places.chain places.link places.top k.pages g c d own give p s idle claim zero_state;
      paged = paged;
      taken = subst (λ (m : ℕ). Taken z states k.w.count recs2 m (length infos) places.slot (put_at places.page (taken_of x) p)) (sym more)
          (subst (λ (m : ℕ). Taken z states k.w.count recs2 (suc (taken_of x)) m places.slot (put_at places.page (taken_of x) p))
          (sym same) taken_claimed);
    }

  -- ---- an own page

  module _ (rests : c.make ≡ Rest) where
    abbrev own_rec : Rec
    own_rec = with_own_page c p s

    abbrev recs3 : List Rec
    recs3 = slice_set recs g own_rec

    abbrev fresh : Fill
    fresh = record { slot = s; page = p; fill = 0 }

    only : (f : Fill) → Within f own_rec.fills → (f ≡ fresh) ⊎ (Within f c.fills × (f.slot ≢ s))
    only f (zero, e) = inl (sym (same_Some fresh f e))
    only f (suc i, e) = inr (dropped_within s c.fills f (i, e))

    others : (f : Fill) → Within f c.fills → f.slot ≢ s → Within f own_rec.fills
    others f w ne = let v = within_dropped s c.fills f w ne in (suc v.0, v.1)

    old : (i : ℕ) (f : Fill) → Owns recs3 i f → ((i ≡ g) × (f ≡ fresh)) ⊎ Owns recs i f
    old i f w = ⊎_elim
        (λ (t : (i ≡ g) × Within f own_rec.fills). ⊎_elim (λ (u : f ≡ fresh). inl (t.0, u)) (λ (u : Within f c.fills
        × (f.slot ≢ s)). inr (subst (λ (m : ℕ). Owns recs m f) (sym t.0) (c, own, u.0))) (only f t.1))
        (λ (t : (i ≢ g) × Owns recs i f). inr t.1)
        (owns_was recs g c own_rec own i f w)

    own_claimed : Own z states k.w.cell recs3 x.heap x.owners x.regions places.slot places.spot
    own_claimed = record {
      ranged = λ q l. dite (ℕ_discrete q p) (λ e. subst (λ (m : ℕ). m < z.pages) (sym e) small) (λ n. k.own.ranged q (subst (λ (m : ℕ). 0 < m)
          (put_else k.w.state p (suc s) q n) l));
      for_slots = λ q. dite (ℕ_discrete q p)
          (λ e. let y = put_here k.w.state p (suc s) q e in let h = slot_there in omega (arith, y, h))
          (λ n. let y = put_else k.w.state p (suc s) q n in let h = k.own.for_slots q in omega (arith, y, h));
      homes = λ o i object q t l. other_state (places.spot o i).page (slot_of z places.slot q) (k.own.homes o i object q t l);
      claimed = λ i f w. ⊎_elim
          (λ (t : (i ≡ g) × (f ≡ fresh)). subst (λ (y : Fill). states y.page ≡ suc y.slot) (sym t.1) (put_here k.w.state p (suc s) p refl))
          (λ t. other_state f.page f.slot (k.own.claimed i f t))
          (old i f w);
      alone = λ i j e f w v q. ⊎_elim
          (λ (t : (i ≡ g) × (e ≡ fresh)). ⊎_elim
          (λ (u : (j ≡ g) × (f ≡ fresh)). (t.0 ∙ sym u.0, t.1 ∙ sym u.1))
          (λ u. absurd (unclaimed f.page f.slot (k.own.claimed j f u) (sym q ∙ ap (λ (y : Fill). y.page) t.1)))
          (old j f v))
          (λ t. ⊎_elim
          (λ (u : (j ≡ g) × (f ≡ fresh)). absurd (unclaimed e.page e.slot (k.own.claimed i e t) (q ∙ ap (λ (y : Fill). y.page) u.1)))
          (λ u. k.own.alone i j e f t u q)
          (old j f v))
          (old i e w);
      room = λ i f w. ⊎_elim (λ (t : (i ≡ g)
          × (f ≡ fresh)). subst (λ (y : Fill). y.fill ≤ z.page_words) (sym t.1) (omega arith)) (λ t. k.own.room i f t) (old i f w);
      under = λ i o m f object q w t l e. ⊎_elim
          (λ (u : (i ≡ g) × (f ≡ fresh)). absurd (unclaimed (places.spot o m).page (slot_of z places.slot q) (k.own.homes o m object q t l) (e
          ∙ ap (λ (y : Fill). y.page) u.1)))
          (λ u. k.own.under i o m f object q u t l e)
          (old i f w);
      amids = λ i y f object stored e m. ⊎_elim
          (λ (t : (i ≡ g) × (own_rec ≡ y)). let v : Rest ≡ Amid f object stored = sym rests ∙ (ap (λ (u : Rec). u.make) t.1 ∙ m) in absurd (cc v))
          (λ (t : (i ≢ g) × HasRecord recs i y). k.own.amids i y f object stored t.1 m)
          (was recs g c own_rec own i y e);
      apart = record {
        nobody = λ i o m f object q w t sp l. ⊎_elim
            (λ (u : (i ≡ g) × (f ≡ fresh)). λ e. absurd (unclaimed (places.spot o m).page (slot_of z places.slot q)
            (k.own.homes o m object q t l) (e ∙ ap (λ (y : Fill). y.page) u.1)))
            (λ u. k.own.apart.nobody i o m f object q u t sp l)
            (old i f w);
        claimed = λ i q y e w.
            let u = reserves recs g c own_rec own refl i y e in
            other_state q y.reserved.slot (k.own.apart.claimed i q u.0 u.1 (subst (λ (v : Reserved). Within q v.pages) u.2 w)
            ∙ ap (λ (v : Reserved). suc v.slot) (sym u.2));
        unowned = λ i j q y f e w v.
            let u = reserves recs g c own_rec own refl i y e in
            let w2 = subst (λ (v : Reserved). Within q v.pages) u.2 w in
            ⊎_elim
            (λ (t : (j ≡ g) × (f ≡ fresh)). λ s. unclaimed q (u.0).reserved.slot (k.own.apart.claimed i q u.0 u.1 w2)
            (sym s ∙ ap (λ (y : Fill). y.page) t.1))
            (λ t. k.own.apart.unowned i j q u.0 f u.1 w2 t)
            (old j f v);
        once = λ i j m n q y y2 e e2 a b.
            let u = reserves recs g c own_rec own refl i y e in
            let v = reserves recs g c own_rec own refl j y2 e2 in
            k.own.apart.once i j m n q u.0 v.0 u.1 v.1
            (subst (λ (v : Reserved). slice_get v.pages m ≡ Some q) u.2 a)
            (subst (λ (v : Reserved). slice_get v.pages n ≡ Some q) v.2 b);
        empty = λ i o m q y object t e w.
            let u = reserves recs g c own_rec own refl i y e in
            k.own.apart.empty i o m q u.0 object t u.1 (subst (λ (v : Reserved). Within q v.pages) u.2 w);
        strewn = λ i y object stored e m. ⊎_elim
            (λ (t : (i ≡ g) × (own_rec ≡ y)). let v : Rest ≡ Across object stored = sym rests ∙ (ap (λ (u : Rec). u.make) t.1 ∙ m) in absurd (cc v))
            (λ (t : (i ≢ g) × HasRecord recs i y). k.own.apart.strewn i y object stored t.1 m)
            (was recs g c own_rec own i y e);
      };
    }

    filled_claimed : OwnPagesFilled z recs3 (slice_set x.held g (record h { fills = with_fill h.fills r 0 })) (length x.regions)
        places.slot
    filled_claimed = refilled z words recs x places k steady g h hold r used 0 c own_rec own fresh refl refl (zero, refl) only
        others (λ t q. subst (λ (m : ℕ). StakeAt z x.held places.slot g m) q stake) refl

  -- ---- a page for a spread object

  module _ (rests : c.make ≡ Rest) (same_slot : 0 < length c.reserved.pages → c.reserved.slot ≡ s) where
    abbrev reserving : Rec
    reserving = with_reserved c p s

    abbrev recs4 : List Rec
    recs4 = slice_set recs g reserving

    before : (i : ℕ) (f : Fill) → Owns recs4 i f → Owns recs i f
    before i f w = ⊎_elim
        (λ (t : (i ≡ g) × Within f reserving.fills). subst (λ (m : ℕ). Owns recs m f) (sym t.0) (c, own, t.1))
        (λ (t : (i ≢ g) × Owns recs i f). t.1)
        (owns_was recs g c reserving own i f w)

    -- a reserved page afterwards is the new one, or one from before
    which : (i m q : ℕ) (y : Rec) → HasRecord recs4 i y → slice_get y.reserved.pages m ≡ Some q
        → ((i ≡ g) × (q ≡ p) × (m ≡ length c.reserved.pages) × (y.reserved.slot ≡ s))
        ⊎ ((u : Rec) × HasRecord recs i u × (slice_get u.reserved.pages m ≡ Some q) × (y.reserved.slot ≡ u.reserved.slot))
    which i m q y e a = ⊎_elim
        (λ (t : (i ≡ g) × (reserving ≡ y)).
        let slot : y.reserved.slot ≡ s = ap (λ (v : Rec). v.reserved.slot) (sym t.1) in
        ⊎_elim
        (λ (v : (m < length c.reserved.pages) × (slice_get c.reserved.pages m ≡ Some q)). inr (
          c,
          subst (λ (n : ℕ). HasRecord recs n c) (sym t.0) own,
          v.1,
          slot ∙ sym (same_slot (let l = v.0 in omega (arith, l))),
        ))
        (λ (v : (m ≡ length c.reserved.pages) × (p ≡ q)). inl (t.0, sym v.1, v.0, slot))
        (snoc_at c.reserved.pages p q m (ap (λ (v : Rec). slice_get v.reserved.pages m) t.1 ∙ a)))
        (λ (t : (i ≢ g) × HasRecord recs i y). inr (y, t.1, a, refl))
        (was recs g c reserving own i y e)

    not_new : (i m : ℕ) (u : Rec) → HasRecord recs i u → slice_get u.reserved.pages m ≡ Some p → ⊥
    not_new i m u e a = unclaimed p u.reserved.slot (k.own.apart.claimed i p u e (m, a)) refl

    own_reserved : Own z states k.w.cell recs4 x.heap x.owners x.regions places.slot places.spot
    own_reserved = record {
      ranged = λ q l. dite (ℕ_discrete q p) (λ e. subst (λ (m : ℕ). m < z.pages) (sym e) small) (λ n. k.own.ranged q (subst (λ (m : ℕ). 0 < m)
          (put_else k.w.state p (suc s) q n) l));
      for_slots = λ q. dite (ℕ_discrete q p)
          (λ e. let y = put_here k.w.state p (suc s) q e in let h = slot_there in omega (arith, y, h))
          (λ n. let y = put_else k.w.state p (suc s) q n in let h = k.own.for_slots q in omega (arith, y, h));
      homes = λ o i object q t l. other_state (places.spot o i).page (slot_of z places.slot q) (k.own.homes o i object q t l);
      claimed = λ i f w. other_state f.page f.slot (k.own.claimed i f (before i f w));
      alone = λ i j e f w v. k.own.alone i j e f (before i e w) (before j f v);
      room = λ i f w. k.own.room i f (before i f w);
      under = λ i o m f object q w. k.own.under i o m f object q (before i f w);
      amids = λ i y f object stored e m. ⊎_elim
          (λ (t : (i ≡ g) × (reserving ≡ y)). let v : Rest ≡ Amid f object stored = sym rests ∙ (ap (λ (u : Rec). u.make) t.1 ∙ m) in absurd (cc v))
          (λ (t : (i ≢ g) × HasRecord recs i y). k.own.amids i y f object stored t.1 m)
          (was recs g c reserving own i y e);
      apart = record {
        nobody = λ i o m f object q w. k.own.apart.nobody i o m f object q (before i f w);
        claimed = λ i q y e w. ⊎_elim
            (λ (t : (i ≡ g) × (q ≡ p) × (w.0 ≡ length c.reserved.pages) × (y.reserved.slot ≡ s)).
            put_here k.w.state p (suc s) q t.1 ∙ ap suc (sym t.3))
            (λ (t : (u : Rec) × HasRecord recs i u × (slice_get u.reserved.pages w.0 ≡ Some q)
            × (y.reserved.slot ≡ u.reserved.slot)).
            other_state q y.reserved.slot (k.own.apart.claimed i q t.0 t.1 (w.0, t.2) ∙ ap suc (sym t.3)))
            (which i w.0 q y e w.1);
        unowned = λ i j q y f e w v. ⊎_elim
            (λ (t : (i ≡ g) × (q ≡ p) × (w.0 ≡ length c.reserved.pages) × (y.reserved.slot ≡ s)). λ a.
            unclaimed f.page f.slot (k.own.claimed j f (before j f v)) (a ∙ t.1))
            (λ (t : (u : Rec) × HasRecord recs i u × (slice_get u.reserved.pages w.0 ≡ Some q)
            × (y.reserved.slot ≡ u.reserved.slot)). k.own.apart.unowned i j q t.0 f t.1 (w.0, t.2) (before j f v))
            (which i w.0 q y e w.1);
        once = λ i j m n q y y2 e e2 a b. ⊎_elim
            (λ (t : (i ≡ g) × (q ≡ p) × (m ≡ length c.reserved.pages) × (y.reserved.slot ≡ s)). ⊎_elim
            (λ (v : (j ≡ g) × (q ≡ p) × (n ≡ length c.reserved.pages) × (y2.reserved.slot ≡ s)).
            (t.0 ∙ sym v.0, t.2 ∙ sym v.2))
            (λ (v : (u : Rec) × HasRecord recs j u × (slice_get u.reserved.pages n ≡ Some q)
            × (y2.reserved.slot ≡ u.reserved.slot)). absurd (not_new j n v.0 v.1 (v.2 ∙ ap Some t.1)))
            (which j n q y2 e2 b))
            (λ (t : (u : Rec) × HasRecord recs i u × (slice_get u.reserved.pages m ≡ Some q)
            × (y.reserved.slot ≡ u.reserved.slot)). ⊎_elim
            (λ (v : (j ≡ g) × (q ≡ p) × (n ≡ length c.reserved.pages) × (y2.reserved.slot ≡ s)).
            absurd (not_new i m t.0 t.1 (t.2 ∙ ap Some v.1)))
            (λ (v : (u : Rec) × HasRecord recs j u × (slice_get u.reserved.pages n ≡ Some q)
            × (y2.reserved.slot ≡ u.reserved.slot)). k.own.apart.once i j m n q t.0 v.0 t.1 v.1 t.2 v.2)
            (which j n q y2 e2 b))
            (which i m q y e a);
        empty = λ i o m q y object t e w v l. ⊎_elim
            (λ (a : (i ≡ g) × (q ≡ p) × (w.0 ≡ length c.reserved.pages) × (y.reserved.slot ≡ s)). λ b.
            unclaimed (places.spot o m).page (slot_of z places.slot t) (k.own.homes o m object t v l) (b ∙ a.1))
            (λ (a : (u : Rec) × HasRecord recs i u × (slice_get u.reserved.pages w.0 ≡ Some q)
            × (y.reserved.slot ≡ u.reserved.slot)). k.own.apart.empty i o m q a.0 object t a.1 (w.0, a.2) v l)
            (which i w.0 q y e w.1);
        strewn = λ i y object stored e m. ⊎_elim
            (λ (t : (i ≡ g) × (reserving ≡ y)). let v : Rest ≡ Across object stored = sym rests ∙ (ap (λ (u : Rec). u.make) t.1 ∙ m) in absurd (cc v))
            (λ (t : (i ≢ g) × HasRecord recs i y). k.own.apart.strewn i y object stored t.1 m)
            (was recs g c reserving own i y e);
      };
    }

    -- one more than before
    counted : h.reserved + 1 ≡ length reserving.reserved.pages
    counted = by (length c.reserved.pages) refl ∙ sym (length-append c.reserved.pages (p ∷ []))
      where
        none_held : (n : ℕ) → h.reserved ≡ n → length c.reserved.pages ≡ 0 → h.reserved ≡ 0
        none_held zero e l = e
        none_held (suc n) e l =
            let u = k.filled.recorded g h hold (omega (arith, e)) in
            let v = ap (λ (y : Rec). length y.reserved.pages) (same_Some u.0 c (sym u.1 ∙ own)) in
            let w = u.2 in
            omega (arith, v, w, l)

        by : (n : ℕ) → length c.reserved.pages ≡ n → h.reserved + 1 ≡ length c.reserved.pages + 1
        by zero l = let a = none_held h.reserved refl l in omega (arith, a, l)
        by (suc n) l =
            let u = k.filled.reserved g c own (omega (arith, l)) in
            let v = ap (λ (y : Held). y.reserved) (same_Some u.0 h (sym u.2 ∙ hold)) in
            let w = u.5 in
            omega (arith, v, w)

    filled_reserved : OwnPagesFilled z recs4 (slice_set x.held g (record h { reserved = h.reserved + 1 })) (length x.regions)
        places.slot
    filled_reserved = rereserved z recs x.held (length x.regions) places.slot k.filled g h hold (h.reserved + 1) c reserving own
        refl counted (λ l. (r, used, refl)) (λ t q. subst (λ (m : ℕ). StakeAt z x.held places.slot g m) q stake)

-- a claim that found 0
claimed_by : (z : TableSizes) (words : List ℕ) (recs : List Rec) (x : Ground) (places : Where) (k : MemoryImage z words recs x places) → Steady x
    → (g : ℕ) (c : Rec) → HasRecord recs g c → (h : Held) → slice_get x.held g ≡ Some h → (r : Region) → MayUseRegion h r → (p : ℕ) → p < z.pages
    → slice_index words (state_at z p) ≡ 0 → c.claim ≡ Idle
    → (d : Rec) (h2 : Held) → d.claim ≡ Got p (slot_of z places.slot r) → d.give ≡ c.give → d.tried_pages ≡ c.tried_pages
    → d.tried_slots ≡ c.tried_slots
    → Own z (put_at k.w.state p (suc (slot_of z places.slot r))) k.w.cell (slice_set recs g d) x.heap x.owners x.regions
    places.slot places.spot
    → OwnPagesFilled z (slice_set recs g d) (slice_set x.held g h2) (length x.regions) places.slot
    → MemoryImage z (set words (state_at z p) (suc (slot_of z places.slot r))) (slice_set recs g d) (one_page x g h2 r)
    (record places { at = put_at places.at p (Claimed g); page = put_at places.page (taken_of x) p })
claimed_by z words recs x places k steady g c own h hold GlobalRegion used p small free idle d h2 cl gi tr ts own2 filled2 =
    with_infos z words recs x places k steady g c own h hold GlobalRegion used p small free idle d h2 cl gi tr ts own2 filled2 x.regions (x.global_pages + 1)
    (λ q l. l) refl k.counts (omega arith)
    (record {
      live = λ j info e l.
          let u = (k.counts.lives j info e l).0 in
          k.paged.live j info e l
          ∙ sym (other_at k.w.state p (suc z.slots) z.pages (places.slot j) (unclaimed_at (places.slot j)) (λ y. omega (arith, u, y)));
      global = let a = more_at k.w.state p z.pages z.slots small (unclaimed_at z.slots) in let b = k.paged.global in omega (arith, a, b);
    })
  where
    unclaimed_at : (s : ℕ) → k.w.state p ≢ suc s
    unclaimed_at s e = let y = k.shows.state p small in omega (arith, free, y, e)
claimed_by z words recs x places k steady g c own h hold (Numbered j) used p small free idle d h2 cl gi tr ts own2 filled2 =
    let live = uses_live z words recs x places k steady g h (Numbered j) hold used in
    let i = live_info x.regions j live in
    let l = k.counts.lives j i.0 i.1 i.2 in
    let t = k.counts.living (places.slot j) j l.0 l.1 in
    let same : t.1 ≡ i.0 = same_Some t.1 i.0 (sym t.2 ∙ i.1) in
    let more = pages_more x.regions j i.0 i.1 in
    with_infos z words recs x places k steady g c own h hold (Numbered j) used p small free idle d h2 cl gi tr ts own2 filled2
    (with_info x.regions j one_page_more) x.global_pages
    (info_fewer x.regions j one_page_more live) (length_with_info x.regions j one_page_more)
    (counts_change z k.w.count k.w.count places.top recs x.regions places.slot places.uses j one_page_more i.0 k.counts i.1 i.2 i.2
    (t.4 ∙ ap (λ (y : RegionInfo). suc y.stakes) same) (λ s n. refl)) (omega (arith, more))
    (record {
      live = λ m info e q. dite (ℕ_discrete m j)
          (λ y.
          let is : one_page_more i.0 ≡ info = same_Some (one_page_more i.0) info (sym (info_here x.regions j one_page_more i.0 i.1)
          ∙ (ap (slice_get (with_info x.regions j one_page_more)) (sym y) ∙ e)) in
          let v : (i.0).pages + 1 ≡ info.pages = ap (λ (i : RegionInfo). i.pages) is in
          let a = more_at k.w.state p z.pages (places.slot j) small (unclaimed_at (places.slot j)) in
          let b = k.paged.live j i.0 i.1 i.2 in
          subst (λ (n : ℕ). info.pages ≡ pages_at (put_at k.w.state p (suc (places.slot j))) z.pages (places.slot n)) (sym y) (omega (arith, a, b, v)))
          (λ n.
          let old : slice_get x.regions m ≡ Some info = sym (info_else x.regions j m one_page_more n) ∙ e in
          let u = k.counts.lives m info old q in
          let ne : places.slot m ≢ places.slot j = λ y. let v : Living m ≡ Living j = sym u.1 ∙ (ap places.uses y ∙ l.1) in n (cc v) in
          k.paged.live m info old q
          ∙ sym (other_at k.w.state p (suc (places.slot j)) z.pages (places.slot m) (unclaimed_at (places.slot m)) (λ y. ne (omega (arith, y)))));
      global = k.paged.global
          ∙ sym (other_at k.w.state p (suc (places.slot j)) z.pages z.slots (unclaimed_at z.slots) (λ y. let b = l.0 in omega (arith, y, b)));
    })
  where
    unclaimed_at : (s : ℕ) → k.w.state p ≢ suc s
    unclaimed_at s e = let y = k.shows.state p small in omega (arith, free, y, e)

-- the page is an own one, or reserved
pub page_claimed : (z : TableSizes) (words : List ℕ) (recs : List Rec) (x : Ground) (places : Where) (k : MemoryImage z words recs x places) → Steady x
    → (g : ℕ) (c : Rec) → HasRecord recs g c → (h : Held) → slice_get x.held g ≡ Some h → (r : Region) → MayUseRegion h r → (p : ℕ) → p < z.pages
    → slice_index words (state_at z p) ≡ 0 → c.claim ≡ Idle → c.make ≡ Rest
    → MemoryImage z (set words (state_at z p) (suc (slot_of z places.slot r))) (slice_set recs g (with_own_page c p (slot_of z places.slot r)))
    (own_page_taken x g h r)
    (record places { at = put_at places.at p (Claimed g); page = put_at places.page (taken_of x) p })
page_claimed z words recs x places k steady g c own h hold r used p small free idle rests =
    claimed_by z words recs x places k steady g c own h hold r used p small free idle
    (with_own_page c p (slot_of z places.slot r)) (record h { fills = with_fill h.fills r 0 }) refl refl refl refl
    (own_claimed z words recs x places k steady g c own h hold r used p small free idle rests)
    (filled_claimed z words recs x places k steady g c own h hold r used p small free idle rests)

pub page_reserves : (z : TableSizes) (words : List ℕ) (recs : List Rec) (x : Ground) (places : Where) (k : MemoryImage z words recs x places) → Steady x
    → (g : ℕ) (c : Rec) → HasRecord recs g c → (h : Held) → slice_get x.held g ≡ Some h → (r : Region) → MayUseRegion h r → (p : ℕ) → p < z.pages
    → slice_index words (state_at z p) ≡ 0 → c.claim ≡ Idle → c.make ≡ Rest
    → (0 < length c.reserved.pages → c.reserved.slot ≡ slot_of z places.slot r)
    → MemoryImage z (set words (state_at z p) (suc (slot_of z places.slot r)))
    (slice_set recs g (with_reserved c p (slot_of z places.slot r))) (page_reserved x g h r)
    (record places { at = put_at places.at p (Claimed g); page = put_at places.page (taken_of x) p })
page_reserves z words recs x places k steady g c own h hold r used p small free idle rests same_slot =
    claimed_by z words recs x places k steady g c own h hold r used p small free idle
    (with_reserved c p (slot_of z places.slot r)) (record h { reserved = h.reserved + 1 }) refl refl refl refl
    (own_reserved z words recs x places k steady g c own h hold r used p small free idle rests same_slot)
    (filled_reserved z words recs x places k steady g c own h hold r used p small free idle rests same_slot)
