-- A claimed page is hung on its chain, and a chain is returned: nothing of the region machine changes. `Chains` and `Releases` have the
-- part on pages. Here it is put together with the rest. The hard case is the page that is freed: no live object is in it, since
-- its slot is closed.
use Rattle.std.proofs.Common.{◌≡◌, ◌≢◌, ℕ, suc, ◌<◌, List, ◌∷◌, length, drop, set, slice_index, slice_set, refl, ap, sym, subst, ◌∙◌, inl, inr, ⊎_elim, arith}
use mathlib.Core.Logic.{dite}
use native.Mathlib.Decide.{ℕ_discrete}
use Rattle.rgo_sound.specs.Memory.Memory.{Object}
use Rattle.rgo_sound.specs.RegionMachine.Regions.{RegionInfo}
use Rattle.rgo_sound.specs.RegionMachine.declared.regions.Region.{Region}
use Rattle.rgo_core_memory.specs.declared.layout.TableSizes.{TableSizes}
use Rattle.rgo_core_memory.specs.Words.{ListHasWords, put_at, state_at, next_at, head_at}
use Rattle.rgo_core_memory.specs.Encoding.{Spot}
use Rattle.rgo_core_memory.specs.Records.{Fill, PageClaim, Idle, Got, Hung, Give, Owes, Giving, Past, Gave, Rec, HasRecord, Within, Owns, Claims, ClosesSlot, ReturnsChain, with_claim, with_give}
use Rattle.rgo_core_memory.specs.Ground.{Ground, IsLiveObject, Steady}
use Rattle.rgo_core_memory.specs.Pages.{Free, Chained, Pages, occurrences}
use Rattle.rgo_core_memory.specs.Parts.{Own, slot_of, StakeAt, Vacant, Living, Closing, SlotCounts, Taken}
use Rattle.rgo_core_memory.specs.Image.{MemoryImage, Where}
use Rattle.rgo_core_memory.proofs.pages.Chains.{hangs, stores_next, times_first}
use Rattle.rgo_core_memory.proofs.image.Keeping.{owns_was, own_same, filled_same, counts_same, counts_calm, taken_same}
use Rattle.rgo_core_memory.proofs.pages.Paging.{other_at}
use Rattle.rgo_core_memory.proofs.Puts.{put_here, put_else}
use Rattle.rgo_core_memory.proofs.pages.Releases.{first_is, loads_head, loads_next, clears_head, gives_back}
use Rattle.rgo_core_memory.proofs.regions.Slots.{not_closed, one_closes, stake_open, stake_slot, owner_stake, unclaimed}
use Rattle.rgo_core_memory.proofs.Writes.{writes_state, writes_next, writes_head}
use Rattle.std.proofs.Common.{[]}
use Rattle.std.proofs.Common.{Some, slice_get}
use Rattle.rgo_core_memory.proofs.image.Keeping.{was}

-- a page is freed that has no objects and no owner
own_freed : (z : TableSizes) (states : ℕ → ℕ) (cell : ℕ → ℕ → ℕ) (recs : List Rec) (heap : List Object) (owners : List Region)
    (regions : List RegionInfo) (slot : ℕ → ℕ) (spot : ℕ → ℕ → Spot) → Own z states cell recs heap owners regions slot spot
    → (p r : ℕ) → states p ≡ suc r → ((o : ℕ) (object : Object) (q : Region) → IsLiveObject heap owners regions o object q → slot_of z slot q ≢ r)
    → ((g : ℕ) (f : Fill) → Owns recs g f → f.slot ≢ r)
    → ((g q : ℕ) (c : Rec) → HasRecord recs g c → Within q c.reserved.pages → c.reserved.slot ≢ r)
    → Own z (put_at states p 0) cell recs heap owners regions slot spot
own_freed z states cell recs heap owners regions slot spot k p r found dead left unreserved = record {
  ranged = λ q l. dite (ℕ_discrete q p)
      (λ e. absurd (let y = put_here states p 0 q e in omega arith))
      (λ n. k.ranged q (subst (λ (m : ℕ). 0 < m) (put_else states p 0 q n) l));
  for_slots = λ q. dite (ℕ_discrete q p)
      (λ e. let y = put_here states p 0 q e in omega arith)
      (λ n. let y = put_else states p 0 q n in let h = k.for_slots q in omega arith);
  homes = λ o i object q s l. stays (spot o i).page (slot_of z slot q) (dead o object q s) (k.homes o i object q s l);
  claimed = λ g f w. stays f.page f.slot (left g f w) (k.claimed g f w);
  alone = k.alone;
  room = k.room;
  under = k.under;
  amids = k.amids;
  apart = record {
    nobody = k.apart.nobody;
    claimed = λ g q c e w. stays q c.reserved.slot (unreserved g q c e w) (k.apart.claimed g q c e w);
    unowned = k.apart.unowned;
    once = k.apart.once;
    empty = k.apart.empty;
    strewn = k.apart.strewn;
  };
}
  where
    stays : (q s : ℕ) → s ≢ r → states q ≡ suc s → put_at states p 0 q ≡ suc s
    stays q s ne e = put_else states p 0 q (λ y. ne (let v : states q ≡ suc r = ap states y ∙ found in omega arith)) ∙ e

taken_freed : (z : TableSizes) (states counts : ℕ → ℕ) (recs : List Rec) (takes creations : ℕ) (slot page : ℕ → ℕ) (p : ℕ)
    → Taken z states counts recs takes creations slot page → Taken z (put_at states p 0) counts recs takes creations slot page
taken_freed z states counts recs takes creations slot page p k = record {
  pages = λ q f. k.pages q (⊎_elim
      (λ l. inl (dite (ℕ_discrete q p) (λ e. absurd (let y = put_here states p 0 q e in omega arith)) (λ n. subst (λ (m : ℕ). 0 < m)
      (put_else states p 0 q n) l)))
      (λ u. inr u) f);
  slots = k.slots;
}

module _ (z : TableSizes) (words : List ℕ) (recs : List Rec) (x : Ground) (places : Where) (k : MemoryImage z words recs x places) (steady : Steady x)
    (g : ℕ) (c : Rec) (own : HasRecord recs g c) where
  -- another head of a chain that is not vacant
  top_counts : (r h : ℕ) → places.uses r ≢ Vacant → SlotCounts z k.w.count (put_at places.top r h) recs x.regions places.slot places.uses
  top_counts r h n = record {
    global = k.counts.global;
    vacant = λ s l e. let t = k.counts.vacant s l e in (t.0, put_else places.top r h s (λ q. n (ap places.uses (sym q) ∙ e)) ∙ t.1);
    living = k.counts.living;
    closing = k.counts.closing;
    lives = k.counts.lives;
    closes = k.counts.closes;
  }

  -- the same beyond the slots of regions
  top_global : (h : ℕ) → SlotCounts z k.w.count (put_at places.top z.slots h) recs x.regions places.slot places.uses
  top_global h = record {
    global = k.counts.global;
    vacant = λ s l e. let t = k.counts.vacant s l e in (t.0, put_else places.top z.slots h s (λ q. omega arith) ∙ t.1);
    living = k.counts.living;
    closing = k.counts.closing;
    lives = k.counts.lives;
    closes = k.counts.closes;
  }

  stake_top : (r h : ℕ) → StakeAt z x.held places.slot g r → SlotCounts z k.w.count (put_at places.top r h) recs x.regions places.slot places.uses
  stake_top r h st = ⊎_elim
      (λ (e : r ≡ z.slots). subst (λ (n : ℕ). SlotCounts z k.w.count (put_at places.top n h) recs x.regions places.slot places.uses) (sym e) (top_global h))
      (λ (u : (m : ℕ) × (r < z.slots) × (places.uses r ≡ Living m)). top_counts r h (λ q. let y : Living u.0 ≡ Vacant = sym u.2 ∙ q in cc y))
      (stake_slot z words recs x places k steady g r st)

  stake_below : (r : ℕ) → StakeAt z x.held places.slot g r → r < suc z.slots
  stake_below r st = ⊎_elim
      (λ (e : r ≡ z.slots). omega arith)
      (λ (u : (m : ℕ) × (r < z.slots) × (places.uses r ≡ Living m)). let l = u.1 in omega arith)
      (stake_slot z words recs x places k steady g r st)

  -- a page is hung into its chain
  pub hung : (p r : ℕ) → c.claim ≡ Got p r
      → MemoryImage z (set words (head_at z r) (suc p)) (slice_set recs g (with_claim c (Hung p r (slice_index words (head_at z r))))) x
      (record places {
        at = put_at places.at p (Chained r);
        chain = put_at places.chain r (p ∷ places.chain r);
        link = put_at places.link p
            (slice_index words (head_at z r));
        top = put_at places.top r (suc p);
      })
  hung p r before =
      let st : StakeAt z x.held places.slot g r = k.filled.claims g r c own (subst (λ (v : PageClaim). Claims v r) (sym before) refl) in
      let old = slice_index words (head_at z r) in
      let found : old ≡ k.w.head r = k.shows.head r (stake_below r st) in
      let d : Rec = with_claim c (Hung p r old) in
      record {
        w = record k.w { head = put_at k.w.head r (suc p) };
        shows = writes_head z words k.w k.shows r (suc p) (stake_below r st);
        lies = k.lies;
        own = own_same recs g c d own z k.w.state k.w.cell x.heap x.owners x.regions places.slot places.spot k.own refl refl refl;
        filled = filled_same recs g c d own z x.held (length x.regions) places.slot k.filled refl refl (λ s q. subst (λ
            (n : ℕ). StakeAt z x.held places.slot g n) q st);
        counts = counts_calm recs g c d own z k.w.count (put_at places.top r (suc p)) x.regions places.slot places.uses (stake_top r (suc p) st) refl;
        pages = subst (λ (n : ℕ). Pages k.w.state k.w.next (put_at k.w.head r (suc p)) (slice_set recs g d) (put_at places.at p (Chained r))
            (put_at places.chain r (p ∷ places.chain r)) (put_at places.link p n) (put_at places.top r (suc p))) (sym found)
            (hangs k.w.state k.w.next k.w.head recs places.at places.chain places.link places.top k.pages g c d own refl p r before (ap
            (Hung p r) found)
            (λ j y e q. stake_open z words recs x places k steady g j r y st e q));
        paged = k.paged;
        taken = taken_same recs g c d own z k.w.state k.w.count _ _ places.slot places.page k.taken refl refl;
      }

  -- the link to the next page
  pub linked : (p r o : ℕ) → c.claim ≡ Hung p r o → MemoryImage z (set words (next_at z p) o) (slice_set recs g (with_claim c Idle)) x places
  linked p r o before =
      let d : Rec = with_claim c Idle in
      let at = (k.pages.hungs g p r o c own before).0 in
      let state = (k.pages.is_chained p r at).0 in
      record {
        w = record k.w { next = put_at k.w.next p o };
        shows = writes_next z words k.w k.shows p o (k.own.ranged p (omega (arith, state)));
        lies = k.lies;
        own = own_same recs g c d own z k.w.state k.w.cell x.heap x.owners x.regions places.slot places.spot k.own refl refl refl;
        filled = filled_same recs g c d own z x.held (length x.regions) places.slot k.filled refl refl (λ s q. absurd q);
        counts = counts_calm recs g c d own z k.w.count places.top x.regions places.slot places.uses k.counts refl;
        pages = stores_next k.w.state k.w.next k.w.head recs places.at places.chain places.link places.top k.pages g c d own refl p r o before refl;
        paged = k.paged;
        taken = taken_same recs g c d own z k.w.state k.w.count _ _ places.slot places.page k.taken refl refl;
      }

  -- ---- a chain that is returned

  module _ (r : ℕ) (closes : ClosesSlot c.give r) where
    closing : (r < z.slots) × (places.uses r ≡ Closing g)
    closing = k.counts.closes g r c own closes

    in_heads : r < suc z.slots
    in_heads = let l = closing.0 in omega arith

    alone : (j : ℕ) (y : Rec) → HasRecord recs j y → ClosesSlot y.give r → j ≡ g
    alone j y e q = one_closes z words recs x places k r g j c y own closes e q

    pub first_at : (p : ℕ) → places.top r ≡ suc p → places.at p ≡ Chained r
    first_at p e = let f = first_is k.w.state k.w.next k.w.head recs places.at places.chain places.link places.top k.pages g c c own refl r p e in
        k.pages.on r p (subst (λ (l : List ℕ). 0 < occurrences p l) (sym f.1) (let t = times_first p p f.0 refl in omega arith))

    -- a page of a slot that is closed has no live object in it, and nobody owns it
    dead : (o : ℕ) (object : Object) (q : Region) → IsLiveObject x.heap x.owners x.regions o object q → slot_of z places.slot q ≢ r
    dead o object q s e = not_closed z words recs x places k q g c s.live own (subst (ClosesSlot c.give) (sym e) closes)

    left : (j : ℕ) (f : Fill) → Owns recs j f → f.slot ≢ r
    left j f w e = stake_open z words recs x places k steady j g f.slot c (owner_stake z words recs x places k steady j f w) own (subst
        (ClosesSlot c.give) (sym e) closes)

    unreserved : (j m : ℕ) (y : Rec) → HasRecord recs j y → Within m y.reserved.pages → y.reserved.slot ≢ r
    unreserved j m y e w q =
        let t = k.filled.reserved j y e (some y.reserved.pages w) in
        stake_open z words recs x places k steady j g y.reserved.slot c (t.0, t.1, t.2, t.3, t.4) own (subst
        (ClosesSlot c.give) (sym q) closes)
      where
        some : (l : List ℕ) → Within m l → 0 < length l
        some [] v = let n = v.0 in let u : slice_get [] n ≡ Some m = v.1 in cc u
        some (a ∷ l) v = omega arith

    same_claims : (s : ℕ) → Claims c.claim s → StakeAt z x.held places.slot g s
    same_claims s q = k.filled.claims g s c own q

    -- the same chain, returned a step further, and nothing else
    module _ (give : Give) (still : (s : ℕ) → ClosesSlot c.give s → ClosesSlot give s) (only : (s : ℕ) → ClosesSlot give s → ClosesSlot c.give s) where
      abbrev d : Rec
      d = with_give c give

      abbrev recs2 : List Rec
      recs2 = slice_set recs g d

      -- with other heads
      with_heads : (words2 : List ℕ) (heads : ℕ → ℕ) → ListHasWords z words2 (record k.w { head = heads })
          → Pages k.w.state k.w.next heads recs2 places.at places.chain places.link places.top → MemoryImage z words2 recs2 x places
      with_heads words2 heads shows pages = record {
        w = record k.w { head = heads };
        shows = shows;
        lies = k.lies;
        own = own_same recs g c d own z k.w.state k.w.cell x.heap x.owners x.regions places.slot places.spot k.own refl refl refl;
        filled = filled_same recs g c d own z x.held (length x.regions) places.slot k.filled refl refl same_claims;
        counts = counts_same recs g c d own z k.w.count places.top x.regions places.slot places.uses k.counts still only;
        pages = pages;
        paged = k.paged;
        taken = taken_same recs g c d own z k.w.state k.w.count _ _ places.slot places.page k.taken refl refl;
      }

  closes_by : (r : ℕ) (give : Give) → c.give ≡ give → ClosesSlot give r → ClosesSlot c.give r
  closes_by r give e q = subst (λ (y : Give). ClosesSlot y r) (sym e) q

  by_closes : (s : ℕ) (give : Give) → c.give ≡ give → ClosesSlot c.give s → ClosesSlot give s
  by_closes s give e q = subst (λ (y : Give). ClosesSlot y s) e q

  -- the load of a chain's head
  pub head_loaded : (r : ℕ) → c.give ≡ Owes r → MemoryImage z words (slice_set recs g (with_give c (Giving r (slice_index words (head_at z r))))) x places
  head_loaded r before =
      let closes = closes_by r (Owes r) before refl in
      let n = slice_index words (head_at z r) in
      let found : n ≡ k.w.head r = k.shows.head r (in_heads r closes) in
      with_heads r closes (Giving r n) (λ s q. by_closes s (Owes r) before q) (λ s q. closes_by s (Owes r) before q) words k.w.head k.shows
      (loads_head k.w.state k.w.next k.w.head recs places.at places.chain places.link places.top k.pages g c (with_give c (Giving r n)) own refl r
      (alone r closes) before (ap (Giving r) found))

  -- the load of a page's next word
  pub next_loaded : (r p : ℕ) → c.give ≡ Giving r (suc p)
      → MemoryImage z words (slice_set recs g (with_give c (Past r (suc p) (slice_index words (next_at z p))))) x places
  next_loaded r p before =
      let closes = closes_by r (Giving r (suc p)) before refl in
      let n = slice_index words (next_at z p) in
      let at = first_at r closes p (k.pages.cursors g r (suc p) c own (subst (λ (y : Give). ReturnsChain y r (suc p)) (sym before) (refl, refl))) in
      let state = (k.pages.is_chained p r at).0 in
      let found : n ≡ k.w.next p = k.shows.next p (k.own.ranged p (omega (arith, state))) in
      with_heads r closes (Past r (suc p) n) (λ s q. by_closes s (Giving r (suc p)) before q) (λ s q. closes_by s (Giving r
      (suc p)) before q) words k.w.head k.shows
      (loads_next k.w.state k.w.next k.w.head recs places.at places.chain places.link places.top k.pages g c (with_give c (Past r
      (suc p) n)) own refl r (alone r closes) p before (ap (Past r (suc p)) found)
      (unclaimed z words recs x places k steady g r p c own closes at))

  -- a chain's head is cleared
  pub head_cleared : (r : ℕ) → c.give ≡ Giving r 0 → MemoryImage z (set words (head_at z r) 0) (slice_set recs g (with_give c (Gave r))) x places
  head_cleared r before =
      let closes = closes_by r (Giving r 0) before refl in
      with_heads r closes (Gave r) (λ s q. by_closes s (Giving r 0) before q) (λ s q. closes_by s (Giving r 0) before q) (set words
      (head_at z r) 0) (put_at k.w.head r 0)
      (writes_head z words k.w k.shows r 0 (in_heads r closes))
      (clears_head k.w.state k.w.next k.w.head recs places.at places.chain places.link places.top k.pages g c (with_give c (Gave r)) own refl r
      (alone r closes) before refl)

  -- a page is freed
  pub page_freed : (r p q : ℕ) → c.give ≡ Past r (suc p) q → MemoryImage z (set words (state_at z p) 0) (slice_set recs g (with_give c (Giving r q))) x
      (record places { at = put_at places.at p Free; chain = put_at places.chain r (drop 1 (places.chain r)); top = put_at places.top r q })
  page_freed r p q before =
      let closes = closes_by r (Past r (suc p) q) before refl in
      let d : Rec = with_give c (Giving r q) in
      let at = first_at r closes p (k.pages.cursors g r (suc p) c own (subst (λ (y : Give). ReturnsChain y r (suc p)) (sym before) (refl, refl))) in
      let state = (k.pages.is_chained p r at).0 in
      let freed = gives_back k.w.state k.w.next k.w.head recs places.at places.chain places.link places.top k.pages g c d own refl r
      (alone r closes) p q before refl
      (unclaimed z words recs x places k steady g r p c own closes at) in
      let uses = (closing r closes).1 in
      let own2 = own_same recs g c d own z k.w.state k.w.cell x.heap x.owners x.regions places.slot places.spot k.own refl refl refl in
      record {
        w = record k.w { state = put_at k.w.state p 0 };
        shows = writes_state z words k.w k.shows p 0 (k.own.ranged p (omega (arith, state)));
        lies = k.lies;
        own = own_freed z k.w.state k.w.cell (slice_set recs g d) x.heap x.owners x.regions places.slot places.spot own2 p r state (dead r closes)
            (λ j f w. ⊎_elim
            (λ (t : (j ≡ g) × Within f d.fills). left r closes g f (c, own, t.1))
            (λ (t : (j ≢ g) × Owns recs j f). left r closes j f t.1)
            (owns_was recs g c d own j f w))
            (λ j m y e w. ⊎_elim
            (λ (t : (j ≡ g) × (d ≡ y)). subst (λ (v : Rec). v.reserved.slot ≢ r) t.1 (unreserved r closes g m c own
            (subst (λ (v : Rec). Within m v.reserved.pages) (sym t.1) w)))
            (λ (t : (j ≢ g) × HasRecord recs j y). unreserved r closes j m y t.1 w)
            (was recs g c d own j y e));
        filled = filled_same recs g c d own z x.held (length x.regions) places.slot k.filled refl refl (same_claims r closes);
        counts = counts_same recs g c d own z k.w.count (put_at places.top r q) x.regions places.slot places.uses
            (top_counts r q (λ e. let y : Closing g ≡ Vacant = sym uses ∙ e in cc y))
            (λ s w. by_closes s (Past r (suc p) q) before w) (λ s w. closes_by s (Past r (suc p) q) before w);
        pages = subst (λ (l : List ℕ). Pages (put_at k.w.state p 0) k.w.next k.w.head (slice_set recs g d) (put_at places.at p Free)
            (put_at places.chain r l) places.link (put_at places.top r q)) (sym (ap (drop 1) freed.1)) freed.2;
        paged = record {
          live = λ j info e l.
              let u = k.counts.lives j info e l in
              let ne : places.slot j ≢ r = λ y. let v : Living j ≡ Closing g = sym u.1 ∙ (ap places.uses y ∙ uses) in cc v in
              k.paged.live j info e l ∙ sym (other_at k.w.state p 0 z.pages (places.slot j) (λ y. ne (omega (arith, state, y))) (λ y. omega arith));
          global = k.paged.global
              ∙ sym (other_at k.w.state p 0 z.pages z.slots (λ y. let l = (closing r closes).0 in omega (arith, state, y, l)) (λ y. omega arith));
        };
        taken = taken_freed z k.w.state k.w.count (slice_set recs g d) _ _ places.slot places.page p
            (taken_same recs g c d own z k.w.state k.w.count _ _ places.slot places.page k.taken refl refl);
      }
