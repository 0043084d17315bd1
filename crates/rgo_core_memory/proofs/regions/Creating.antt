-- A region is created at a slot that was found free. Count 0 means vacant, so no region, no page and no goroutine is at this slot, and
-- giving it to the new region disturbs nothing. The new region's number is above all others.
use Rattle.std.proofs.Common.{◌≡◌, ◌≢◌, ◌⊎◌, ℕ, suc, ◌+◌, ◌<◌, Bool, true, false, List, [], ◌∷◌, ◌++◌, length, length-append, set, slice_index, Some, slice_get, slice_set, nat_eq, sum_by, refl, ap, sym, subst, ◌∙◌, inl, inr, ⊎_elim, arith, true≢false, if◌then◌else◌}
use Rattle.std.proofs.lemmas.Option.{same_Some}
use Rattle.std.proofs.lemmas.List.Sums.{sum_by_push}
use mathlib.Core.Logic.{dite}
use native.Mathlib.Decide.{ℕ_discrete}
use Rattle.rgo_sound.specs.Memory.Memory.{Object}
use Rattle.rgo_sound.specs.RegionMachine.Objects.{fill_of}
use Rattle.rgo_sound.specs.RegionMachine.Regions.{RegionInfo, has_stakes, is_live}
use Rattle.rgo_sound.specs.RegionMachine.declared.regions.Region.{Region}
use Rattle.rgo_sound.specs.RegionMachine.declared.regions.Region.TheVariants.{Global as GlobalRegion, Numbered}
use Rattle.rgo_sound.proofs.Places.{get_append_left, get_append_last}
use Rattle.rgo_sound.proofs.Tests.{ne_of}
use Rattle.rgo_sound.specs.Stakes.{is_in}
use Rattle.rgo_core_memory.specs.declared.layout.TableSizes.{TableSizes}
use Rattle.rgo_core_memory.specs.Words.{put_at, count_at}
use Rattle.rgo_core_memory.specs.Records.{PageClaim, Rec, Claims}
use Rattle.rgo_core_memory.specs.Ground.{Ground, Held, IsLiveObject, MayUseRegion, Steady, with_new_region, taken_of}
use Rattle.rgo_core_memory.specs.Pages.{Place, Free, Chained, Claimed, PageChain, occurrences}
use Rattle.rgo_core_memory.specs.Parts.{Own, OwnPagesFilled, slot_of, Use, Vacant, Living, Closing, SlotCounts, Paged, pages_at, Taken}
use Rattle.rgo_core_memory.specs.Image.{MemoryImage, Where}
use Rattle.rgo_core_memory.proofs.image.Frames.{lies_fewer}
use Rattle.rgo_core_memory.proofs.pages.Paging.{none_at}
use Rattle.rgo_core_memory.proofs.Puts.{put_here, put_else}
use Rattle.rgo_core_memory.proofs.Rows.{at_set, set_here, set_else, below, snoc_at}
use Rattle.rgo_core_memory.proofs.regions.Slots.{live_info, uses_live, stake_slot}
use Rattle.rgo_core_memory.proofs.Writes.{writes_count}
use Rattle.rgo_core_memory.specs.Records.{HasRecord}

more_in : (m j : ℕ) (l : List ℕ) → is_in m l ≡ true → is_in m (j ∷ l) ≡ true
more_in m j l e = go (nat_eq m j)
  where
    go : (b : Bool) → (if b then true else is_in m l) ≡ true
    go true = refl
    go false = e

less_in : (m j : ℕ) (l : List ℕ) → m ≢ j → is_in m (j ∷ l) ≡ true → is_in m l ≡ true
less_in m j l n e = go (nat_eq m j) (ne_of m j n) e
  where
    go : (b : Bool) → b ≡ false → (if b then true else is_in m l) ≡ true → is_in m l ≡ true
    go true q e = absurd (true≢false q)
    go false q e = e

empty_chain : (link : ℕ → ℕ) (l : List ℕ) → PageChain link 0 l → l ≡ []
empty_chain link [] w = refl
empty_chain link (p ∷ l) w = absurd (let v = w.0 in omega arith)

module _ (z : TableSizes) (words : List ℕ) (recs : List Rec) (x : Ground) (places : Where) (k : MemoryImage z words recs x places) (steady : Steady x)
    (g r : ℕ) (h : Held) (hold : slice_get x.held g ≡ Some h) (small : r < z.slots) (free : slice_index words (count_at z r) ≡ 0) where
  abbrev j : ℕ
  j = length x.regions

  abbrev infos : List RegionInfo
  infos = x.regions ++ record { stakes = 1; pages = 0 } ∷ []

  abbrev h2 : Held
  h2 = record h { stakes = j ∷ h.stakes }

  abbrev held : List Held
  held = slice_set x.held g h2

  abbrev slot : ℕ → ℕ
  slot = put_at places.slot j r

  abbrev uses : ℕ → Use
  uses = put_at places.uses r (Living j)

  below_all : r < suc z.slots
  below_all = omega arith

  zero_count : k.w.count r ≡ 0
  zero_count = sym (k.shows.count r below_all) ∙ free

  vacant : places.uses r ≡ Vacant
  vacant = go (places.uses r) refl
    where
      go : (u : Use) → places.uses r ≡ u → places.uses r ≡ Vacant
      go Vacant e = e
      go (Living i) e = let t = k.counts.living r i small e in let q = t.4 in absurd (omega (arith, zero_count, q))
      go (Closing i) e = let t = k.counts.closing r i small e in let q = t.0 in absurd (omega (arith, zero_count, q))

  many : length infos ≡ suc j
  many = let l = length-append x.regions (record { stakes = 1; pages = 0 } ∷ []) in omega arith

  old_slot : (i : ℕ) → i < j → slot i ≡ places.slot i
  old_slot i l = put_else places.slot j r i (λ e. omega arith)

  -- a region that lived has the slot that it had
  live_slot : (q : Region) → is_live x.regions q ≡ true → slot_of z slot q ≡ slot_of z places.slot q
  live_slot GlobalRegion e = refl
  live_slot (Numbered i) e = let t = live_info x.regions i e in old_slot i (below x.regions i t.0 t.1)

  fewer : (o : ℕ) (object : Object) (q : Region) → IsLiveObject x.heap x.owners infos o object q → IsLiveObject x.heap x.owners x.regions o object q
  fewer o object GlobalRegion s = record { there = s.there; owner = s.owner; live = refl }
  fewer o object (Numbered i) s = record {
    there = s.there;
    owner = s.owner;
    live = sym (ap has_stakes (get_append_left x.regions
        (record { stakes = 1; pages = 0 } ∷ []) i (k.lies.made o i s.owner))) ∙ s.live;
  }

  own_created : Own z k.w.state k.w.cell recs x.heap x.owners infos slot places.spot
  own_created = record {
    ranged = k.own.ranged;
    for_slots = k.own.for_slots;
    homes = λ o i object q s l. let t = fewer o object q s in k.own.homes o i object q t l ∙ ap suc (sym (live_slot q t.live));
    claimed = k.own.claimed;
    alone = k.own.alone;
    room = k.own.room;
    under = λ g o i f object q w s l e. k.own.under g o i f object q w (fewer o object q s) l e;
    amids = k.own.amids;
    apart = record {
      nobody = λ g o i f object q w s. k.own.apart.nobody g o i f object q w (fewer o object q s);
      claimed = k.own.apart.claimed;
      unowned = k.own.apart.unowned;
      once = k.own.apart.once;
      empty = λ g o i p c object q e w s. k.own.apart.empty g o i p c object q e w (fewer o object q s);
      strewn = k.own.apart.strewn;
    };
  }

  was_held : (i : ℕ) (y : Held) → slice_get held i ≡ Some y → ((i ≡ g) × (h2 ≡ y)) ⊎ ((i ≢ g) × (slice_get x.held i ≡ Some y))
  was_held i y e = at_set x.held g i h2 y e

  hold2 : slice_get held g ≡ Some h2
  hold2 = set_here x.held g h2 h hold

  uses_more : (q : Region) → MayUseRegion h q → MayUseRegion h2 q
  uses_more GlobalRegion u = tt
  uses_more (Numbered i) u = more_in i j h.stakes u

  -- a region that is used is still used, with the same slot
  still : (i : ℕ) (y : Held) (q : Region) → slice_get x.held i ≡ Some y → MayUseRegion y q
      → (y2 : Held) × (slice_get held i ≡ Some y2) × MayUseRegion y2 q × (slot_of z slot q ≡ slot_of z places.slot q) × (y2.fills ≡ y.fills)
  still i y q e u = dite (ℕ_discrete i g)
      (λ s. let same : y ≡ h = same_Some y h (sym e ∙ (ap (slice_get x.held) s ∙ hold)) in (
        h2,
        ap (slice_get held) s
            ∙ hold2,
        uses_more q (subst (λ (v : Held). MayUseRegion v q) same u),
        live_slot q (uses_live z words recs x places k steady i y q e u),
        ap (λ
            (v : Held). v.fills) (sym same),
      ))
      (λ n. (y, set_else x.held g i h2 n ∙ e, u, live_slot q (uses_live z words recs x places k steady i y q e u), refl))

  -- a region that is used and filled was used before
  before : (i n : ℕ) (y : Held) (q : Region) → slice_get held i ≡ Some y → MayUseRegion y q → fill_of y.fills q ≡ Some n
      → (y1 : Held) × (slice_get x.held i ≡ Some y1) × MayUseRegion y1 q × (fill_of y1.fills q ≡ Some n)
  before i n y q e u f = ⊎_elim
      (λ (t : (i ≡ g) × (h2 ≡ y)). let f1 : fill_of h.fills q ≡ Some n = subst (λ (v : Held). fill_of v.fills q ≡ Some n) (sym t.1) f in
      (h, ap (slice_get x.held) t.0 ∙ hold, by q (subst (λ (v : Held). MayUseRegion v q) (sym t.1) u) f1, f1))
      (λ (t : (i ≢ g) × (slice_get x.held i ≡ Some y)). (y, t.1, u, f))
      (was_held i y e)
    where
      by : (q : Region) → MayUseRegion h2 q → fill_of h.fills q ≡ Some n → MayUseRegion h q
      by GlobalRegion u f = tt
      by (Numbered m) u f = less_in m j h.stakes (λ s. let l = k.filled.made g m n h hold f in omega arith) u

  uses_of : (q : Region) (y2 y3 : Held) → y2 ≡ y3 → MayUseRegion y3 q → MayUseRegion y2 q
  uses_of q y2 y3 e u = subst (λ (v : Held). MayUseRegion v q) (sym e) u

  -- as many pages are reserved
  still_reserved : (i : ℕ) (y : Held) → slice_get x.held i ≡ Some y
      → (y2 : Held) × (slice_get held i ≡ Some y2) × (y2.reserved ≡ y.reserved)
  still_reserved i y e = dite (ℕ_discrete i g)
      (λ s. let same : y ≡ h = same_Some y h (sym e ∙ (ap (slice_get x.held) s ∙ hold)) in
      (h2, ap (slice_get held) s ∙ hold2, ap (λ (v : Held). v.reserved) (sym same)))
      (λ n. (y, set_else x.held g i h2 n ∙ e, refl))

  filled_created : OwnPagesFilled z recs held (length infos) slot
  filled_created = record {
    fills = λ i f w. let t = k.filled.fills i f w in let s = still i t.0 t.1 t.2 t.3 in
        (s.0, t.1, s.1, s.2, s.3 ∙ t.4, ap (λ (l : List (Region × ℕ)). fill_of l t.1) s.4 ∙ t.5);
    owned = λ i n y q e u f. let b = before i n y q e u f in let o = k.filled.owned i n b.0 q b.1 b.2 b.3 in
        (o.0, o.1, o.2 ∙ sym (live_slot q (uses_live z words recs x places k steady i b.0 q b.1 b.2)), o.3);
    single = k.filled.single;
    claims = λ i s c e q. let t = k.filled.claims i s c e q in let u = still i t.0 t.1 t.2 t.3 in (u.0, t.1, u.1, u.2, u.3 ∙ t.4);
    reserved = λ i c e q.
        let t = k.filled.reserved i c e q in
        let s = still i t.0 t.1 t.2 t.3 in
        let n = still_reserved i t.0 t.2 in
        (n.0, t.1, n.1, uses_of t.1 n.0 s.0 (same_Some n.0 s.0 (sym n.1 ∙ s.1)) s.2, s.3 ∙ t.4, n.2 ∙ t.5);
    recorded = λ i y e q. ⊎_elim
        (λ (t : (i ≡ g) × (h2 ≡ y)).
        let m = ap (λ (v : Held). v.reserved) t.1 in
        let u = k.filled.recorded g h hold (omega (arith, m, q)) in
        (u.0, subst (λ (n : ℕ). HasRecord recs n u.0) (sym t.0) u.1, sym m ∙ u.2))
        (λ (t : (i ≢ g) × (slice_get x.held i ≡ Some y)). k.filled.recorded i y t.1 q)
        (was_held i y e);
    made = λ i m n y e f. ⊎_elim
        (λ (t : (i ≡ g) × (h2 ≡ y)). let l = k.filled.made g m n h hold (subst (λ (v : Held). fill_of v.fills (Numbered m) ≡ Some n)
        (sym t.1) f) in omega (arith, l, many))
        (λ (t : (i ≢ g) × (slice_get x.held i ≡ Some y)). let l = k.filled.made i m n y t.1 f in omega (arith, l, many))
        (was_held i y e);
  }

  away : (s : ℕ) (u : Use) → places.uses s ≡ u → Vacant ≢ u → s ≢ r
  away s u e n q = n (sym vacant ∙ (ap places.uses (sym q) ∙ e))

  counts_created : SlotCounts z (put_at k.w.count r 2) places.top recs infos slot uses
  counts_created = record {
    global = put_else k.w.count r 2 z.slots (λ e. omega arith) ∙ k.counts.global;
    vacant = λ s l e. dite (ℕ_discrete s r)
        (λ y. let v : Living j ≡ Vacant = sym (put_here places.uses r (Living j) s y) ∙ e in absurd (cc v))
        (λ n. let t = k.counts.vacant s l (sym (put_else places.uses r (Living j) s n) ∙ e) in (put_else k.w.count r 2 s n ∙ t.0, t.1));
    living = λ s i l e. dite (ℕ_discrete s r)
        (λ y.
        let v : Living j ≡ Living i = sym (put_here places.uses r (Living j) s y) ∙ e in
        let same : i ≡ j = cc v in (
          put_here places.slot j r i same
              ∙ sym y,
          record { stakes = 1; pages = 0 },
          get_append_last x.regions
              (record { stakes = 1; pages = 0 }) i same,
          omega arith,
          put_here k.w.count r 2 s y,
        ))
        (λ n.
        let t = k.counts.living s i l (sym (put_else places.uses r (Living j) s n) ∙ e) in
        let b = below x.regions i t.1 t.2 in (
          old_slot i b ∙ t.0,
          t.1,
          get_append_left x.regions (record { stakes = 1; pages = 0 } ∷ []) i b ∙ t.2,
          t.3,
          put_else k.w.count r 2 s n
              ∙ t.4,
        ));
    closing = λ s i l e. dite (ℕ_discrete s r)
        (λ y. let v : Living j ≡ Closing i = sym (put_here places.uses r (Living j) s y) ∙ e in absurd (cc v))
        (λ n. let t = k.counts.closing s i l (sym (put_else places.uses r (Living j) s n) ∙ e) in (put_else k.w.count r 2 s n ∙ t.0, t.1, t.2, t.3));
    lives = λ i info e q. ⊎_elim
        (λ (t : (i < j) × (slice_get x.regions i ≡ Some info)).
        let u = k.counts.lives i info t.1 q in
        let same = old_slot i t.0 in (
          subst (λ (m : ℕ). m < z.slots) (sym same) u.0,
          ap uses same
              ∙ (put_else places.uses r (Living j) (places.slot i) (away (places.slot i) (Living i) u.1 (λ y. cc y)) ∙ u.1),
        ))
        (λ (t : (i ≡ j) × (record { stakes = 1; pages = 0 } ≡ info)).
        let now = put_here places.slot j r i t.0 in
        (subst (λ (m : ℕ). m < z.slots) (sym now) small, put_here places.uses r (Living j) (slot i) now ∙ ap Living (sym t.0)))
        (snoc_at x.regions (record { stakes = 1; pages = 0 }) info i e);
    closes = λ i s c e q. let u = k.counts.closes i s c e q in (u.0, put_else places.uses r (Living j) s (away s (Closing i) u.1 (λ y. cc y)) ∙ u.1);
  }

  same_takes : x.global_pages + sum_by (λ (i : RegionInfo). i.pages) infos ≡ taken_of x
  same_takes = let s = sum_by_push (λ (i : RegionInfo). i.pages) x.regions (record { stakes = 1; pages = 0 }) in omega (arith, s)

  taken_created : Taken z k.w.state (put_at k.w.count r 2) recs (x.global_pages + sum_by (λ (i : RegionInfo). i.pages) infos)
      (length infos) slot places.page
  taken_created = record {
    pages = λ p f. let t = k.taken.pages p f in let s = same_takes in let l = t.1 in (t.0, omega (arith, l, s), t.2);
    slots = λ s l f. dite (ℕ_discrete s r)
        (λ y. (j, omega (arith, many), put_here places.slot j r j refl ∙ sym y))
        (λ n. let t = k.taken.slots s l (⊎_elim (λ q. inl (subst (λ (m : ℕ). 0 < m) (put_else k.w.count r 2 s n) q)) (λ u. inr u) f) in
        let b = t.1 in (t.0, omega (arith, b, many), old_slot t.0 t.1 ∙ t.2));
  }

  -- no page is claimed for a slot that is vacant
  no_pages : (p : ℕ) → p < z.pages → k.w.state p ≢ suc r
  no_pages p l e = go (places.at p) refl
    where
      go : (at : Place) → places.at p ≡ at → ⊥
      go Free q = let y = k.pages.is_free p q in omega (arith, e, y)
      go (Chained s) q =
          let y = k.pages.is_chained p s q in
          let same : s ≡ r = (let v = y.0 in omega (arith, e, v)) in
          let top : places.top s ≡ 0 = (k.counts.vacant s (subst (λ (m : ℕ). m < z.slots) (sym same) small) (ap places.uses same ∙ vacant)).1 in
          let none : places.chain s ≡ [] = empty_chain places.link (places.chain s) (subst (λ (m : ℕ). PageChain places.link m (places.chain s)) top
          (k.pages.chains s)) in
          let c : 0 < occurrences p [] = subst (λ (l : List ℕ). 0 < occurrences p l) none y.1 in omega (arith, c)
      go (Claimed i) q =
          let y = k.pages.is_claimed p i q in
          let v = y.4 in
          let same : y.0 ≡ r = omega (arith, e, v) in
          let st = k.filled.claims i y.0 y.1 y.2 (subst (λ (c : PageClaim). Claims c y.0) (sym y.3) refl) in
          ⊎_elim
          (λ (u : y.0 ≡ z.slots). omega (arith, same, u))
          (λ (u : (m : ℕ) × (y.0 < z.slots) × (places.uses y.0 ≡ Living m)). let w : Vacant ≡ Living u.0 = sym vacant ∙ (ap places.uses (sym same)
          ∙ u.2) in cc w)
          (stake_slot z words recs x places k steady i y.0 st)

  paged_created : Paged z k.w.state infos x.global_pages slot
  paged_created = record {
    live = λ i info e l. ⊎_elim
        (λ (t : (i < j) × (slice_get x.regions i ≡ Some info)). k.paged.live i info t.1 l ∙ ap (pages_at k.w.state z.pages) (sym (old_slot i t.0)))
        (λ (t : (i ≡ j) × (record { stakes = 1; pages = 0 } ≡ info)).
        ap (λ (y : RegionInfo). y.pages) (sym t.1) ∙ (sym (none_at k.w.state z.pages r no_pages)
        ∙ ap (pages_at k.w.state z.pages) (sym (put_here places.slot j r i t.0))))
        (snoc_at x.regions (record { stakes = 1; pages = 0 }) info i e);
    global = k.paged.global;
  }

  -- a creation
  pub one_created : MemoryImage z (set words (count_at z r) 2) recs (with_new_region x g h) (record places {
    slot = put_at places.slot
        (length x.regions) r;
    uses = put_at places.uses r (Living (length x.regions));
  })
  one_created = record {
    w = record k.w { count = put_at k.w.count r 2 };
    shows = writes_count z words k.w k.shows r 2 below_all;
    lies = lies_fewer z k.w.variable k.w.cell x.variables x.heap x.owners x.regions infos places.spot places.start k.lies fewer (omega (arith, many));
    own = own_created;
    filled = filled_created;
    counts = counts_created;
    pages = k.pages;
    paged = paged_created;
    taken = taken_created;
  }
