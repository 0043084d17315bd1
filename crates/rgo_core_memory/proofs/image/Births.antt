-- A goroutine starts: its record has nothing of memory, and its pending stakes are its own. Each part that looks for a record with
-- something cannot find it in the new one (`only`), so it is as before.
use Rattle.std.proofs.Common.{◌≡◌, ◌⊎◌, ℕ, suc, ◌<◌, List, [], ◌∷◌, ◌++◌, length, Some, slice_get, sym, subst, ◌∙◌, inl, inr, ⊎_elim, arith}
use Rattle.rgo_sound.specs.RegionMachine.Objects.{fill_of}
use Rattle.rgo_sound.specs.RegionMachine.declared.regions.Region.{Region}
use Rattle.rgo_sound.specs.RegionMachine.declared.regions.Region.TheVariants.{Numbered}
use Rattle.rgo_sound.proofs.Places.{get_append_left}
use Rattle.rgo_core_memory.specs.declared.layout.TableSizes.{TableSizes}
use Rattle.rgo_core_memory.specs.Records.{Fill, Rest, Amid, Idle, Got, Hung, Calm, Past, Gave, Rec, HasRecord, Within, Owns, Claims, ClosesSlot, ReturnsChain}
use Rattle.rgo_core_memory.specs.Ground.{Ground, Held}
use Rattle.rgo_core_memory.specs.Pages.{occurrences}
use Rattle.rgo_core_memory.specs.Parts.{StakeAt}
use Rattle.rgo_core_memory.specs.Opening.{first_record}
use Rattle.rgo_core_memory.specs.Image.{MemoryImage, Where}
use Rattle.rgo_core_memory.proofs.Rows.{below, snoc_at}
use Rattle.rgo_core_memory.specs.Records.{Across}
use Rattle.std.proofs.Common.{ap}

module _ (z : TableSizes) (words : List ℕ) (recs : List Rec) (x : Ground) (places : Where) (k : MemoryImage z words recs x places) (stakes : List ℕ) where
  abbrev more : List Rec
  more = recs ++ first_record ∷ []

  abbrev child : Held
  child = record { stakes = stakes; fills = []; reserved = 0 }

  abbrev held : List Held
  held = x.held ++ child ∷ []

  old : (g : ℕ) (c : Rec) → HasRecord recs g c → HasRecord more g c
  old g c e = get_append_left recs (first_record ∷ []) g (below recs g c e) ∙ e

  was : (g : ℕ) (c : Rec) → HasRecord more g c → HasRecord recs g c ⊎ (first_record ≡ c)
  was g c e = ⊎_elim (λ (t : (g < length recs) × HasRecord recs g c). inl t.1) (λ (t : (g ≡ length recs)
      × (first_record ≡ c)). inr t.1) (snoc_at recs first_record c g e)

  -- a record that has something is an old one
  only : (P : Rec → Type 0) → (P first_record → ⊥) → (g : ℕ) (c : Rec) → HasRecord more g c → P c → HasRecord recs g c
  only P never g c e p = ⊎_elim (λ (t : HasRecord recs g c). t) (λ (t : first_record ≡ c). absurd (never (subst P (sym t) p))) (was g c e)

  owns : (g : ℕ) (f : Fill) → Owns more g f → Owns recs g f
  owns g f w = (w.0, only (λ c. Within f c.fills) nothing g w.0 w.1 w.2, w.2)
    where
      nothing : Within f [] → ⊥
      nothing v = let n = v.0 in let q : slice_get [] n ≡ Some f = v.1 in cc q

  reserves : (g : ℕ) (c : Rec) (p : ℕ) → HasRecord more g c → Within p c.reserved.pages → HasRecord recs g c
  reserves g c p e w = only (λ c. Within p c.reserved.pages) nothing g c e w
    where
      nothing : Within p [] → ⊥
      nothing v = let n = v.0 in let q : slice_get [] n ≡ Some p = v.1 in cc q

  old_held : (g : ℕ) (h : Held) → slice_get x.held g ≡ Some h → slice_get held g ≡ Some h
  old_held g h e = get_append_left x.held (child ∷ []) g (below x.held g h e) ∙ e

  stake : (g s : ℕ) → StakeAt z x.held places.slot g s → StakeAt z held places.slot g s
  stake g s t = (t.0, t.1, old_held g t.0 t.2, t.3, t.4)

  was_filled : (g n : ℕ) (h : Held) (r : Region) → slice_get held g ≡ Some h → fill_of h.fills r ≡ Some n → slice_get x.held g ≡ Some h
  was_filled g n h r e f = ⊎_elim
      (λ (t : (g < length x.held) × (slice_get x.held g ≡ Some h)). t.1)
      (λ (t : (g ≡ length x.held)
      × (child ≡ h)). let q : fill_of [] r ≡ Some n = subst (λ (y : Held). fill_of y.fills r ≡ Some n) (sym t.1) f in absurd (cc q))
      (snoc_at x.held child h g e)

  -- a number, of what is memory
  pub born : MemoryImage z words more (record x { held = held }) places
  born = record {
    w = k.w;
    shows = k.shows;
    lies = k.lies;
    own = record {
      ranged = k.own.ranged;
      for_slots = k.own.for_slots;
      homes = k.own.homes;
      claimed = λ g f w. k.own.claimed g f (owns g f w);
      alone = λ g h e f w v. k.own.alone g h e f (owns g e w) (owns h f v);
      room = λ g f w. k.own.room g f (owns g f w);
      under = λ g o i f object r w. k.own.under g o i f object r (owns g f w);
      amids = λ g c f object stored e m. k.own.amids g c f object stored (only (λ c. c.make ≡ Amid f object stored)
          (λ q. let y : Rest ≡ Amid f object stored = q in cc y) g c e m) m;
      apart = record {
        nobody = λ g o i f object r w. k.own.apart.nobody g o i f object r (owns g f w);
        claimed = λ g p c e w. k.own.apart.claimed g p c (reserves g c p e w) w;
        unowned = λ g h p c f e w v. k.own.apart.unowned g h p c f (reserves g c p e w) w (owns h f v);
        once = λ g h i j p c d e q a b. k.own.apart.once g h i j p c d (reserves g c p e (i, a)) (reserves h d p q (j, b)) a b;
        empty = λ g o i p c object r e w. k.own.apart.empty g o i p c object r (reserves g c p e w) w;
        strewn = λ g c object stored e m. k.own.apart.strewn g c object stored (only (λ c. c.make ≡ Across object stored)
            (λ q. let y : Rest ≡ Across object stored = q in cc y) g c e m) m;
      };
    };
    filled = record {
      fills = λ g f w. let t = k.filled.fills g f (owns g f w) in (t.0, t.1, old_held g t.0 t.2, t.3, t.4, t.5);
      owned = λ g n h r e u f. let t = k.filled.owned g n h r (was_filled g n h r e f) u f in (
        t.0,
        (
          (t.1).0,
          old g (t.1).0 (t.1).1,
          (t.1).2,
        ),
        t.2,
        t.3,
      );
      single = λ g e f w v. k.filled.single g e f (owns g e w) (owns g f v);
      claims = λ g s c e q. stake g s (k.filled.claims g s c (only (λ c. Claims c.claim s) (λ v. v) g c e q) q);
      reserved = λ g c e q.
          let t = k.filled.reserved g c (only (λ c. 0 < length c.reserved.pages) (λ l. omega (arith, l)) g c e q) q in
          (t.0, t.1, old_held g t.0 t.2, t.3, t.4, t.5);
      recorded = λ g h e q. ⊎_elim
          (λ (t : (g < length x.held) × (slice_get x.held g ≡ Some h)).
          let u = k.filled.recorded g h t.1 q in (u.0, old g u.0 u.1, u.2))
          (λ (t : (g ≡ length x.held) × (child ≡ h)).
          let n = ap (λ (v : Held). v.reserved) t.1 in absurd (omega (arith, n, q)))
          (snoc_at x.held child h g e);
      made = λ g j n h e f. k.filled.made g j n h (was_filled g n h (Numbered j) e f) f;
    };
    counts = record {
      global = k.counts.global;
      vacant = k.counts.vacant;
      living = k.counts.living;
      closing = λ s g l e. let t = k.counts.closing s g l e in (t.0, t.1, old g t.1 t.2, t.3);
      lives = k.counts.lives;
      closes = λ g s c e q. k.counts.closes g s c (only (λ c. ClosesSlot c.give s) (λ v. v) g c e q) q;
    };
    pages = record {
      is_free = k.pages.is_free;
      is_chained = k.pages.is_chained;
      is_claimed = λ p g e. let t = k.pages.is_claimed p g e in (t.0, t.1, old g t.1 t.2, t.3, t.4);
      on = k.pages.on;
      once = k.pages.once;
      chains = k.pages.chains;
      links = λ p r e. ⊎_elim (λ u. inl u) (λ u. inr (u.0, u.1, old u.0 u.1 u.2, u.3)) (k.pages.links p r e);
      tops = λ r. ⊎_elim (λ u. inl u) (λ u. inr (u.0, u.1, old u.0 u.1 u.2, u.3)) (k.pages.tops r);
      gots = λ g p r c e q. k.pages.gots g p r c (only (λ c. c.claim ≡ Got p r) (λ v. let y : Idle ≡ Got p r = v in cc y) g c e q) q;
      hungs = λ g p r o c e q. k.pages.hungs g p r o c (only (λ c. c.claim ≡ Hung p r o) (λ v. let y : Idle ≡ Hung p r o = v in cc y) g c e q) q;
      cursors = λ g r h c e q. k.pages.cursors g r h c (only (λ c. ReturnsChain c.give r h) (λ v. v) g c e q) q;
      pasts = λ g r p q c e m. k.pages.pasts g r p q c (only (λ c. c.give ≡ Past r (suc p) q) (λ v. let y : Calm ≡ Past r
          (suc p) q = v in cc y) g c e m) m;
      gaves = λ g r c e m. k.pages.gaves g r c (only (λ c. c.give ≡ Gave r) (λ v. let y : Calm ≡ Gave r = v in cc y) g c e m) m;
    };
    paged = k.paged;
    taken = record {
      pages = λ p f. k.taken.pages p (⊎_elim (λ l. inl l) (λ u. inr (
        u.0,
        u.1,
        only (λ c. 0 < occurrences p c.tried_pages) (λ v. omega
            (arith, v)) u.0 u.1 u.2 u.3,
        u.3,
      )) f);
      slots = λ s l f. k.taken.slots s l (⊎_elim (λ q. inl q) (λ u. inr (
        u.0,
        u.1,
        only (λ c. 0 < occurrences s c.tried_slots) (λ v. omega
            (arith, v)) u.0 u.1 u.2 u.3,
        u.3,
      )) f);
    };
  }
