-- With the last of its words a spread object is made. As for an object in one page, but its pages were reserved and become pages of an
-- object. No own page changes.
use Rattle.std.proofs.Common.{◌≡◌, ◌≢◌, ◌⊎◌, ℕ, suc, ◌+◌, ◌-◌, ◌*◌, ◌<◌, ◌≤◌, true, false, List, [], ◌∷◌, ◌++◌, length}
use Rattle.std.proofs.Common.{set, Some, slice_get, slice_set, slice_index, nat_lt, if◌then◌else◌, refl, ap, sym, subst, ◌∙◌}
use Rattle.std.proofs.Common.{inl, inr, ⊎_elim, arith, true≢false}
use Rattle.std.proofs.lemmas.Bool.Decides.{nat_tests}
use Rattle.rgo_sound.specs.Memory.declared.values.Value.{Value}
use Rattle.rgo_sound.specs.Memory.declared.values.Value.TheVariants as value
use Rattle.rgo_sound.specs.Memory.Memory.{Object}
use Rattle.rgo_sound.specs.RegionMachine.Objects.{is_spread, object_words as words_of}
use Rattle.rgo_sound.specs.RegionMachine.Regions.{is_live}
use Rattle.rgo_sound.specs.RegionMachine.declared.regions.Region.{Region}
use Rattle.rgo_sound.specs.RegionMachine.declared.regions.Region.TheVariants.{Numbered}
use Rattle.rgo_sound.proofs.Machine.Items.{set_twice}
use Rattle.rgo_core_memory.specs.declared.layout.TableSizes.{TableSizes}
use Rattle.rgo_core_memory.specs.Words.{put_at, cell_at}
use Rattle.rgo_core_memory.specs.Encoding.{Spot, address, encode, content, opening_word}
use Rattle.rgo_core_memory.specs.Records.{Across, Amid, Fill, HasRecord, Owns, Rec, Rest, Within, with_object_apart, with_word_apart}
use Rattle.rgo_core_memory.specs.Ground.{Ground, Held, IsLiveObject, Steady, MayUseRegion, made_apart}
use Rattle.rgo_core_memory.specs.Parts.{CoversApart, Lies, MakesApart, Own, SpreadOver, Strewn, slot_of}
use Rattle.rgo_core_memory.specs.Image.{MemoryImage, Where}
use Rattle.rgo_core_memory.specs.Spread.{lead_spot, spread_opening, spread_spot, table_words}
use Rattle.rgo_core_memory.proofs.image.Frames.{content_below}
use Rattle.rgo_core_memory.proofs.image.Keeping.{was, owns_was, counts_calm, taken_same, pages_same}
use Rattle.rgo_core_memory.proofs.objects.Making.{plain_code}
use Rattle.rgo_core_memory.proofs.Puts.{put_here, put_else}
use Rattle.rgo_core_memory.proofs.pages.Reserving.{rereserved}
use Rattle.rgo_core_memory.proofs.Rows.{set_here, snoc_at, below}
use Rattle.rgo_core_memory.proofs.regions.Slots.{live_info, uses_live}
use Rattle.rgo_core_memory.proofs.objects.Spreads.{AreDistinct, in_table, spread_apart, spread_offset, spread_within}
use Rattle.rgo_core_memory.proofs.objects.Strewing.{word_strewn}

module _ (z : TableSizes) (words : List ℕ) (recs : List Rec) (x : Ground) (places : Where)
    (k : MemoryImage z words recs x places) (steady : Steady x) (g : ℕ) (c : Rec) (own : HasRecord recs g c) (object : Object)
    (stored : List ℕ) (make : c.make ≡ Across object stored) (covers : CoversApart z object stored)
    (h : Held) (hold : slice_get x.held g ≡ Some h) (r : Region) (used : MayUseRegion h r)
    (slotted : slot_of z places.slot r ≡ c.reserved.slot) where
  abbrev d : Rec
  d = with_object_apart c

  abbrev recs2 : List Rec
  recs2 = slice_set recs g d

  abbrev n : ℕ
  n = length x.heap

  abbrev heap : List Object
  heap = x.heap ++ object ∷ []

  abbrev owners : List Region
  owners = x.owners ++ r ∷ []

  abbrev at : ℕ → Spot
  at = spread_spot z.page_words object c.reserved.pages

  abbrev spot : ℕ → ℕ → Spot
  spot = put_at places.spot n at

  abbrev start : ℕ → Spot
  start = put_at places.start n (lead_spot c.reserved.pages 0)

  begun : Strewn z k.w.cell c.reserved.pages object stored
  begun = k.own.apart.strewn g c object stored own make

  distinct : AreDistinct c.reserved.pages
  distinct i j p a b = (k.own.apart.once g g i j p c c own own a b).1

  live : is_live x.regions r ≡ true
  live = uses_live z words recs x places k steady g h r hold used

  in_pages : (i : ℕ) → i < table_words z.page_words object → Within (at i).page c.reserved.pages
  in_pages i l = spread_within z.page_words object c.reserved.pages i begun.spread begun.many l

  state_at : (i : ℕ) → i < table_words z.page_words object → k.w.state (at i).page ≡ suc c.reserved.slot
  state_at i l = k.own.apart.claimed g (at i).page c own (in_pages i l)

  into : (ob : Object) → object ≡ ob → (i : ℕ) → i < table_words z.page_words ob → i < table_words z.page_words object
  into ob e i l = subst (λ (y : Object). i < table_words z.page_words y) (sym e) l

  -- an object afterwards is one from before, or the new one
  which : (o : ℕ) (ob : Object) (q : Region) → IsLiveObject heap owners x.regions o ob q
      → ((o < n) × IsLiveObject x.heap x.owners x.regions o ob q) ⊎ ((o ≡ n) × (object ≡ ob) × (r ≡ q))
  which o ob q s = ⊎_elim
      (λ (t : (o < n) × (slice_get x.heap o ≡ Some ob)). ⊎_elim
      (λ (u : (o < length x.owners) × (slice_get x.owners o ≡ Some q)). inl (t.0, record { there = t.1; owner = u.1; live = s.live }))
      (λ (u : (o ≡ length x.owners) × (r ≡ q)). absurd (let a = steady.owned in let b = u.0 in let e = t.0 in omega (arith, a, b, e)))
      (snoc_at x.owners r q o s.owner))
      (λ (t : (o ≡ n) × (object ≡ ob)). ⊎_elim
      (λ (u : (o < length x.owners) × (slice_get x.owners o ≡ Some q)). absurd (let a = steady.owned in let b = u.0 in let e = t.0 in omega (arith, a, b, e)))
      (λ (u : (o ≡ length x.owners) × (r ≡ q)). inr (t.0, t.1, u.1))
      (snoc_at x.owners r q o s.owner))
      (snoc_at x.heap object ob o s.there)

  old_spot : (o : ℕ) → o < n → spot o ≡ places.spot o
  old_spot o l = put_else places.spot n at o (λ e. omega (arith, l, e))

  new_spot : (o : ℕ) → o ≡ n → spot o ≡ at
  new_spot o e = put_here places.spot n at o e

  old_start : (o : ℕ) → o < n → start o ≡ places.start o
  old_start o l = put_else places.start n (lead_spot c.reserved.pages 0) o (λ e. omega (arith, l, e))

  new_start : (o : ℕ) → o ≡ n → start o ≡ lead_spot c.reserved.pages 0
  new_start o e = put_here places.start n (lead_spot c.reserved.pages 0) o e

  -- what held before has the same words
  same_code : (v : Value) → ((p : ℕ) → v ≡ value.Object p → p < n) → encode (address z places.start) v ≡ encode (address z start) v
  same_code (value.Int m) l = refl
  same_code (value.Bool m) l = refl
  same_code value.Nil l = refl
  same_code (value.Object p) l = ap (λ (s : Spot). suc (s.page * z.page_words + s.offset)) (sym (old_start p (l p refl)))

  lt_test : (a b : ℕ) → a < b → nat_lt a b ≡ true
  lt_test a b l = grind (arith, nat_tests)

  ge_test : (a b : ℕ) → b ≤ a → nat_lt a b ≡ false
  ge_test a b l = grind (arith, nat_tests)

  -- the values in the words of the new object
  holds : (i : ℕ) → i < table_words z.page_words object
      → k.w.cell (at i).page (at i).offset ≡ spread_opening object c.reserved.pages i
  holds i l = begun.laid i l (covers i l)

  word_opening : (i : ℕ) → i < words_of object → spread_opening object c.reserved.pages i ≡ opening_word (content object i)
  word_opening i l = ap (λ b. if b then opening_word (content object i) else
      suc (slice_index c.reserved.pages (i - words_of object + 1))) (lt_test i (words_of object) l)

  number_opening : (j : ℕ) → spread_opening object c.reserved.pages (words_of object + j)
      ≡ suc (slice_index c.reserved.pages (suc j))
  number_opening j =
      ap (λ b. if b then opening_word (content object (words_of object + j)) else
      suc (slice_index c.reserved.pages (words_of object + j - words_of object + 1)))
      (ge_test (words_of object + j) (words_of object) (omega arith))
      ∙ ap (λ m. suc (slice_index c.reserved.pages m)) (minus (words_of object) j)
    where
      minus : (w j : ℕ) → w + j - w + 1 ≡ suc j
      minus w j = omega arith

  over : SpreadOver z k.w.cell at (lead_spot c.reserved.pages 0) object c.reserved.pages
  over = record {
    begins = refl;
    many = begun.many;
    laid = λ i l. refl;
    numbers = λ j l. holds (words_of object + j) (omega (arith, l)) ∙ number_opening j;
  }

  lies_made : Lies z k.w.variable k.w.cell x.variables heap owners x.regions spot start
  lies_made = record {
    inside = λ o i ob q s l. ⊎_elim
        (λ (t : (o < n) × IsLiveObject x.heap x.owners x.regions o ob q). subst (λ (y : ℕ → Spot). ((y i).page < z.pages)
        × ((y i).offset < z.page_words)) (sym (old_spot o t.0)) (k.lies.inside o i ob q t.1 l))
        (λ (t : (o ≡ n) × (object ≡ ob) × (r ≡ q)). subst (λ (y : ℕ → Spot). ((y i).page < z.pages)
        × ((y i).offset < z.page_words)) (sym (new_spot o t.0))
        (let m = into ob t.1 i l in (
          let e = state_at i m in k.own.ranged (at i).page (omega (arith, e)),
          spread_offset z.page_words object c.reserved.pages i begun.spread begun.small m,
        )))
        (which o ob q s);
    shows = λ o i ob q v s e. ⊎_elim
        (λ (t : (o < n) × IsLiveObject x.heap x.owners x.regions o ob q). subst (λ (y : ℕ
        → Spot). k.w.cell (y i).page (y i).offset ≡ encode (address z start) v) (sym (old_spot o t.0))
        (k.lies.shows o i ob q v t.1 e ∙ same_code v (λ p w. steady.cells o i p ob t.1.there (e ∙ ap Some w))))
        (λ (t : (o ≡ n) × (object ≡ ob) × (r ≡ q)). subst (λ (y : ℕ
        → Spot). k.w.cell (y i).page (y i).offset ≡ encode (address z start) v) (sym (new_spot o t.0))
        (let u : content object i ≡ Some v = ap (λ (y : Object). content y i) t.1 ∙ e in
        let l = content_below object i v u in
        holds i (in_table z.page_words object i l)
        ∙ (word_opening i l ∙ (ap opening_word u ∙ plain_code (λ o. 0) (address z start) v (begun.plain i v u)))))
        (which o ob q s);
    apart = λ o p i j ob ob2 q q2 s s2 l l2 a b. ⊎_elim
        (λ (t : (o < n) × IsLiveObject x.heap x.owners x.regions o ob q). ⊎_elim
        (λ (u : (p < n) × IsLiveObject x.heap x.owners x.regions p ob2 q2).
        let eo = old_spot o t.0 in let ep = old_spot p u.0 in
        k.lies.apart o p i j ob ob2 q q2 t.1 u.1 l l2
        (sym (ap (λ (y : ℕ → Spot). (y i).page) eo) ∙ (a ∙ ap (λ (y : ℕ → Spot). (y j).page) ep))
        (sym (ap (λ (y : ℕ → Spot). (y i).offset) eo) ∙ (b ∙ ap (λ (y : ℕ → Spot). (y j).offset) ep)))
        (λ (u : (p ≡ n) × (object ≡ ob2) × (r ≡ q2)).
        absurd (k.own.apart.empty g o i (at j).page c ob q own (in_pages j (into ob2 u.1 j l2)) t.1 l
        (sym (ap (λ (y : ℕ → Spot). (y i).page) (old_spot o t.0)) ∙ (a ∙ ap (λ (y : ℕ → Spot). (y j).page) (new_spot p u.0)))))
        (which p ob2 q2 s2))
        (λ (t : (o ≡ n) × (object ≡ ob) × (r ≡ q)). ⊎_elim
        (λ (u : (p < n) × IsLiveObject x.heap x.owners x.regions p ob2 q2).
        absurd (k.own.apart.empty g p j (at i).page c ob2 q2 own (in_pages i (into ob t.1 i l)) u.1 l2
        (sym (ap (λ (y : ℕ → Spot). (y j).page) (old_spot p u.0)) ∙ (sym a ∙ ap (λ (y : ℕ → Spot). (y i).page) (new_spot o t.0)))))
        (λ (u : (p ≡ n) × (object ≡ ob2) × (r ≡ q2)). (
          t.0 ∙ sym u.0,
          spread_apart z.page_words object c.reserved.pages i j begun.spread begun.many distinct (into ob t.1 i l)
              (into ob2 u.1 j l2)
              (sym (ap (λ (y : ℕ → Spot). (y i).page) (new_spot o t.0)) ∙ (a ∙ ap (λ (y : ℕ → Spot). (y j).page) (new_spot p u.0)))
              (sym (ap (λ (y : ℕ → Spot). (y i).offset) (new_spot o t.0)) ∙ (b ∙ ap (λ (y : ℕ → Spot). (y j).offset)
              (new_spot p u.0))),
        ))
        (which p ob2 q2 s2))
        (which o ob q s);
    row = λ o i ob q s w l. ⊎_elim
        (λ (t : (o < n) × IsLiveObject x.heap x.owners x.regions o ob q). subst (λ (y : ℕ → Spot). ((y i).page ≡ (start o).page)
        × ((y i).offset ≡ (start o).offset + i)) (sym (old_spot o t.0))
        (subst (λ (y : Spot). ((places.spot o i).page ≡ y.page) × ((places.spot o i).offset ≡ y.offset + i))
        (sym (old_start o t.0)) (k.lies.row o i ob q t.1 w l)))
        (λ (t : (o ≡ n) × (object ≡ ob) × (r ≡ q)). absurd (true≢false (sym begun.spread
        ∙ (ap (is_spread z.page_words) t.1 ∙ w))))
        (which o ob q s);
    spread = λ o ob q s w. ⊎_elim
        (λ (t : (o < n) × IsLiveObject x.heap x.owners x.regions o ob q). subst (λ (y : ℕ → Spot). (pages : List ℕ)
        × SpreadOver z k.w.cell y (start o) ob pages) (sym (old_spot o t.0))
        (subst (λ (y : Spot). (pages : List ℕ) × SpreadOver z k.w.cell (places.spot o) y ob pages)
        (sym (old_start o t.0)) (k.lies.spread o ob q t.1 w)))
        (λ (t : (o ≡ n) × (object ≡ ob) × (r ≡ q)). subst (λ (y : ℕ → Spot). (pages : List ℕ)
        × SpreadOver z k.w.cell y (start o) ob pages) (sym (new_spot o t.0))
        (subst (λ (y : Spot). (pages : List ℕ) × SpreadOver z k.w.cell at y ob pages) (sym (new_start o t.0)) (
          c.reserved.pages,
          subst (λ (y : Object). SpreadOver z k.w.cell at (lead_spot c.reserved.pages 0) y
              c.reserved.pages) t.1 over,
        )))
        (which o ob q s);
    variables = λ m v e. let t = k.lies.variables m v e in (t.0, t.1 ∙ same_code v (λ p w. steady.variables m p (e ∙ ap Some w)));
    made = λ o j e. ⊎_elim
        (λ (t : (o < length x.owners) × (slice_get x.owners o ≡ Some (Numbered j))). k.lies.made o j t.1)
        (λ (t : (o ≡ length x.owners)
        × (r ≡ Numbered j)). let i = live_info x.regions j (subst (λ
        (y : Region). is_live x.regions y ≡ true) t.1 live) in below x.regions j i.0 i.1)
        (snoc_at x.owners r (Numbered j) o e);
  }

  -- an own page afterwards is one from before
  old : (i : ℕ) (e : Fill) → Owns recs2 i e → Owns recs i e
  old i e w = ⊎_elim
      (λ (t : (i ≡ g) × Within e d.fills). subst (λ (m : ℕ). Owns recs m e) (sym t.0) (c, own, t.1))
      (λ (t : (i ≢ g) × Owns recs i e). t.1)
      (owns_was recs g c d own i e w)

  -- and a reserved page is another goroutine's
  others : (j p : ℕ) (y : Rec) → HasRecord recs2 j y → Within p y.reserved.pages → (j ≢ g) × HasRecord recs j y
  others j p y e w = ⊎_elim
      (λ (t : (j ≡ g) × (d ≡ y)). absurd (nothing (subst (λ (v : Rec). Within p v.reserved.pages) (sym t.1) w)))
      (λ (t : (j ≢ g) × HasRecord recs j y). t)
      (was recs g c d own j y e)
    where
      nothing : Within p [] → ⊥
      nothing v = let m = v.0 in let q : slice_get [] m ≡ Some p = v.1 in cc q

  own_made : Own z k.w.state k.w.cell recs2 heap owners x.regions places.slot spot
  own_made = record {
    ranged = k.own.ranged;
    for_slots = k.own.for_slots;
    homes = λ o i ob q s l. ⊎_elim
        (λ (t : (o < n) × IsLiveObject x.heap x.owners x.regions o ob q). subst (λ (y : ℕ
        → Spot). k.w.state (y i).page ≡ suc (slot_of z places.slot q)) (sym (old_spot o t.0)) (k.own.homes o i ob q t.1 l))
        (λ (t : (o ≡ n) × (object ≡ ob) × (r ≡ q)). subst (λ (y : ℕ
        → Spot). k.w.state (y i).page ≡ suc (slot_of z places.slot q)) (sym (new_spot o t.0))
        (state_at i (into ob t.1 i l) ∙ ap suc (sym slotted ∙ ap (slot_of z places.slot) t.2)))
        (which o ob q s);
    claimed = λ i e w. k.own.claimed i e (old i e w);
    alone = λ i j e e2 w v. k.own.alone i j e e2 (old i e w) (old j e2 v);
    room = λ i e w. k.own.room i e (old i e w);
    under = λ i o m e ob q w s l v. ⊎_elim
        (λ (u : (o < n) × IsLiveObject x.heap x.owners x.regions o ob q).
        let so = old_spot o u.0 in
        let b = k.own.under i o m e ob q (old i e w) u.1 l (sym (ap (λ (y : ℕ → Spot). (y m).page) so) ∙ v) in
        let a : (spot o m).offset ≡ (places.spot o m).offset = ap (λ (y : ℕ → Spot). (y m).offset) so in omega (arith, a, b))
        (λ (u : (o ≡ n) × (object ≡ ob) × (r ≡ q)).
        absurd (k.own.apart.unowned g i (at m).page c e own (in_pages m (into ob u.1 m l)) (old i e w)
        (sym v ∙ ap (λ (y : ℕ → Spot). (y m).page) (new_spot o u.0))))
        (which o ob q s);
    amids = λ i y e ob st q m. ⊎_elim
        (λ (t : (i ≡ g) × (d ≡ y)). let v : Rest ≡ Amid e ob st = ap (λ (u : Rec). u.make) t.1 ∙ m in absurd (cc v))
        (λ (t : (i ≢ g) × HasRecord recs i y). k.own.amids i y e ob st t.1 m)
        (was recs g c d own i y q);
    apart = record {
      nobody = λ i o m e ob q w s sp l. ⊎_elim
          (λ (u : (o < n) × IsLiveObject x.heap x.owners x.regions o ob q). λ v. k.own.apart.nobody i o m e ob q (old i e w) u.1 sp l
          (sym (ap (λ (y : ℕ → Spot). (y m).page) (old_spot o u.0)) ∙ v))
          (λ (u : (o ≡ n) × (object ≡ ob) × (r ≡ q)). λ v.
          k.own.apart.unowned g i (at m).page c e own (in_pages m (into ob u.1 m l)) (old i e w)
          (sym v ∙ ap (λ (y : ℕ → Spot). (y m).page) (new_spot o u.0)))
          (which o ob q s);
      claimed = λ j p y e w. let t = others j p y e w in k.own.apart.claimed j p y t.1 w;
      unowned = λ j m p y e q w v. let t = others j p y q w in k.own.apart.unowned j m p y e t.1 w (old m e v);
      once = λ j l m i p y y2 q q2 a b.
          let t = others j p y q (m, a) in
          let u = others l p y2 q2 (i, b) in
          k.own.apart.once j l m i p y y2 t.1 u.1 a b;
      empty = λ j o m p y ob q e w s l.
          let t = others j p y e w in
          ⊎_elim
          (λ (u : (o < n) × IsLiveObject x.heap x.owners x.regions o ob q). λ v. k.own.apart.empty j o m p y ob q t.1 w u.1 l
          (sym (ap (λ (y : ℕ → Spot). (y m).page) (old_spot o u.0)) ∙ v))
          (λ (u : (o ≡ n) × (object ≡ ob) × (r ≡ q)). λ v.
          let a = in_pages m (into ob u.1 m l) in
          t.0 (k.own.apart.once j g w.0 a.0 p y c t.1 own w.1
          (a.1 ∙ ap Some (sym (ap (λ (y : ℕ → Spot). (y m).page) (new_spot o u.0)) ∙ v))).0)
          (which o ob q s);
      strewn = λ i y ob st q m. ⊎_elim
          (λ (t : (i ≡ g) × (d ≡ y)). let v : Rest ≡ Across ob st = ap (λ (u : Rec). u.make) t.1 ∙ m in absurd (cc v))
          (λ (t : (i ≢ g) × HasRecord recs i y). k.own.apart.strewn i y ob st t.1 m)
          (was recs g c d own i y q);
    };
  }

  -- all words are stored: the object is made
  pub object_strewn : MemoryImage z words recs2 (made_apart x g h r object)
      (record places { spot = spot; start = start })
  object_strewn = record {
    w = k.w;
    shows = k.shows;
    lies = lies_made;
    own = own_made;
    filled = rereserved z recs x.held (length x.regions) places.slot k.filled g h hold 0 c d own refl refl
        (λ l. absurd (omega (arith, l))) (λ s q. k.filled.claims g s c own q);
    counts = counts_calm recs g c d own z k.w.count places.top x.regions places.slot places.uses k.counts refl;
    pages = pages_same recs g c d own k.w.state k.w.next k.w.head places.at places.chain places.link places.top k.pages refl refl;
    paged = k.paged;
    taken = taken_same recs g c d own z k.w.state k.w.count _ _ places.slot places.page k.taken refl refl;
  }

-- the last opening store
pub object_made_apart : (z : TableSizes) (words : List ℕ) (recs : List Rec) (x : Ground) (places : Where)
    (k : MemoryImage z words recs x places) → Steady x
    → (g : ℕ) (c : Rec) → HasRecord recs g c
    → (object : Object) (stored : List ℕ) → MakesApart z c object stored → (i : ℕ) → i < table_words z.page_words object
    → CoversApart z object (i ∷ stored)
    → (h : Held) → slice_get x.held g ≡ Some h → (r : Region) → MayUseRegion h r → slot_of z places.slot r ≡ c.reserved.slot
    → MemoryImage z (set words (cell_at z (spread_spot z.page_words object c.reserved.pages i).page
    (spread_spot z.page_words object c.reserved.pages i).offset) (spread_opening object c.reserved.pages i))
    (slice_set recs g (with_object_apart c)) (made_apart x g h r object)
    (record places {
      spot = put_at places.spot (length x.heap) (spread_spot z.page_words object c.reserved.pages);
      start = put_at places.start (length x.heap) (lead_spot c.reserved.pages 0);
    })
object_made_apart z words recs x places k steady g c own object stored makes i small covers h hold r used slotted =
    let half : Rec = with_word_apart c object (i ∷ stored) in
    let stored2 : List ℕ = set words (cell_at z (spread_spot z.page_words object c.reserved.pages i).page
    (spread_spot z.page_words object c.reserved.pages i).offset) (spread_opening object c.reserved.pages i) in
    let k1 = word_strewn z words recs x places k g c own object stored makes i small in
    let k2 = object_strewn z stored2 (slice_set recs g half) x places k1 steady g half (set_here recs g half c own) object
    (i ∷ stored) refl covers h hold r used slotted in
    subst (λ (l : List Rec). MemoryImage z stored2 l (made_apart x g h r object)
    (record places {
      spot = put_at places.spot (length x.heap) (spread_spot z.page_words object c.reserved.pages);
      start = put_at places.start (length x.heap) (lead_spot c.reserved.pages 0);
    }))
    (set_twice recs g half (with_object_apart c)) k2
