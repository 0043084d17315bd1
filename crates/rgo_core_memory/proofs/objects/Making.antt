-- With the last of its words an object is made. The words are in place already, so only what the image ranges over changes: one object
-- more, and its page filled further. An object afterwards is an old one or the new one (`which`), and all parts go by these cases.
use Rattle.std.proofs.Common.{◌≡◌, ◌≢◌, ◌⊎◌, ℕ, zero, suc, ◌+◌, ◌*◌, ◌<◌, ◌≤◌, Bool, true, false, List, [], ◌∷◌, ◌++◌, length, set, Some, slice_get, slice_set, nat_eq, if◌then◌else◌, refl, ap, sym, subst, ◌∙◌, inl, inr, ⊎_elim, arith}
use Rattle.std.proofs.lemmas.Option.{same_Some}
use Rattle.rgo_sound.specs.Memory.declared.values.Value.{Value}
use Rattle.rgo_sound.specs.Memory.declared.values.Value.TheVariants as value
use Rattle.rgo_sound.specs.Memory.Memory.{Object}
use Rattle.rgo_sound.specs.RegionMachine.Objects.{object_words as words_of}
use Rattle.rgo_sound.specs.RegionMachine.Regions.{is_live}
use Rattle.rgo_sound.specs.RegionMachine.declared.regions.Region.{Region}
use Rattle.rgo_sound.specs.RegionMachine.declared.regions.Region.TheVariants.{Numbered}
use Rattle.rgo_sound.proofs.Tests.{split, eq_of}
use Rattle.rgo_core_memory.specs.declared.layout.TableSizes.{TableSizes}
use Rattle.rgo_core_memory.specs.Words.{put_at, cell_at}
use Rattle.rgo_core_memory.specs.Encoding.{Spot, address, encode, content, IsPlain, opening_word}
use Rattle.rgo_core_memory.specs.Records.{Fill, Rest, Amid, Rec, HasRecord, Within, Owns, raised, with_word, with_object_in_page}
use Rattle.rgo_core_memory.specs.Ground.{Ground, Held, IsLiveObject, MayUseRegion, Steady, made_in_page}
use Rattle.rgo_core_memory.specs.Parts.{Lies, Own, Amidst, slot_of, RecordMakes, Covers}
use Rattle.rgo_core_memory.specs.Image.{MemoryImage, Where}
use Rattle.rgo_core_memory.proofs.image.Frames.{content_below}
use Rattle.rgo_core_memory.proofs.image.Keeping.{was, owns_was, counts_calm, taken_same, pages_same}
use Rattle.rgo_core_memory.proofs.Puts.{put_here, put_else}
use Rattle.rgo_core_memory.proofs.pages.Refilling.{refilled}
use Rattle.rgo_core_memory.proofs.Rows.{set_here, snoc_at, below}
use Rattle.rgo_core_memory.proofs.regions.Slots.{live_info, uses_live}
use Rattle.rgo_core_memory.proofs.objects.Zeroing.{word_stored}
use Rattle.rgo_sound.proofs.Machine.Items.{set_twice}
use Rattle.rgo_core_memory.specs.Records.{Across, Reserved}
use Rattle.rgo_core_memory.proofs.image.Keeping.{reserves}
use Rattle.rgo_core_memory.proofs.objects.Spreads.{whole_of, in_whole}
use Rattle.rgo_core_memory.specs.Spread.{table_words}
use Rattle.rgo_sound.specs.RegionMachine.Objects.{is_spread}
use Rattle.rgo_core_memory.specs.Parts.{SpreadOver}
use Rattle.std.proofs.Common.{true≢false}

-- an own page that is filled further, and the others
raised_within : (s n : ℕ) (fs : List Fill) (f : Fill) → Within f (raised s n fs)
    → (e : Fill) × Within e fs × (((e.slot ≡ s) × (f ≡ record e { fill = n })) ⊎ ((e.slot ≢ s) × (f ≡ e)))
raised_within s n [] f w = let m = w.0 in let q : slice_get [] m ≡ Some f = w.1 in cc
raised_within s n (e ∷ fs) f (zero, q) = let u : (if nat_eq s e.slot then record e { fill = n } else e) ≡ f = same_Some
    (if nat_eq s e.slot then record e { fill = n } else e) f q in (
      e,
      (zero, refl),
      split (nat_eq s e.slot)
          (λ t. inl (sym (eq_of s e.slot t), sym (subst (λ (b : Bool). (if b then record e { fill = n } else e) ≡ f) t u)))
          (λ m. inr ((λ y. refutes s e.slot m (sym y)), sym (subst (λ (b : Bool). (if b then record e { fill = n } else e) ≡ f) m u))),
    )
  where
    refutes : (a b : ℕ) → nat_eq a b ≡ false → a ≡ b → ⊥
    refutes a b f e = grind arith
raised_within s n (e ∷ fs) f (suc i, q) = let r = raised_within s n fs f (i, q) in (r.0, (suc r.1.0, r.1.1), r.2)

within_raised : (s n : ℕ) (fs : List Fill) (f : Fill) → Within f fs → ((f.slot ≡ s) × Within (record f { fill = n }) (raised s n fs))
    ⊎ ((f.slot ≢ s) × Within f (raised s n fs))
within_raised s n [] f w = let m = w.0 in let q : slice_get [] m ≡ Some f = w.1 in cc
within_raised s n (e ∷ fs) f (zero, q) = let u : e ≡ f = same_Some e f q in split (nat_eq s f.slot)
    (λ t. inl (
      sym (eq_of s f.slot t),
      (
        zero,
        ap Some (ap (λ (y : Fill). if nat_eq s y.slot then record y { fill = n } else y) u
            ∙ ap (λ (b : Bool). if b then record f { fill = n } else f) t),
      ),
    ))
    (λ m. inr (
      (λ y. refutes s f.slot m (sym y)),
      (
        zero,
        ap Some (ap (λ (y : Fill). if nat_eq s y.slot then record y { fill = n } else y) u
            ∙ ap (λ (b : Bool). if b then record f { fill = n } else f) m),
      ),
    ))
  where
    refutes : (a b : ℕ) → nat_eq a b ≡ false → a ≡ b → ⊥
    refutes a b f e = grind arith
within_raised s n (e ∷ fs) f (suc i, q) = ⊎_elim (λ t. inl (t.0, (suc t.1.0, t.1.1))) (λ t. inr (t.0, (suc t.1.0, t.1.1))) (within_raised s n fs f
    (i, q))

-- the words of plain values, and of pointers to old objects, are as before
pub plain_code : (a b : ℕ → ℕ) (v : Value) → IsPlain v → encode a v ≡ encode b v
plain_code a b (value.Int n) p = refl
plain_code a b (value.Bool n) p = refl
plain_code a b value.Nil p = refl
plain_code a b (value.Object o) p = absurd p

module _ (z : TableSizes) (words : List ℕ) (recs : List Rec) (x : Ground) (places : Where) (k : MemoryImage z words recs x places) (steady : Steady x)
    (g : ℕ) (c : Rec) (own : HasRecord recs g c)
    (f : Fill) (object : Object) (stored : List ℕ) (make : c.make ≡ Amid f object stored) (covers : Covers object stored)
    (h : Held) (hold : slice_get x.held g ≡ Some h) (r : Region) (used : MayUseRegion h r) (slotted : slot_of z places.slot r ≡ f.slot) where
  abbrev many : ℕ
  many = f.fill + words_of object

  abbrev d : Rec
  d = with_object_in_page c f.slot many

  abbrev recs2 : List Rec
  recs2 = slice_set recs g d

  abbrev n : ℕ
  n = length x.heap

  abbrev heap : List Object
  heap = x.heap ++ object ∷ []

  abbrev owners : List Region
  owners = x.owners ++ r ∷ []

  abbrev spot : ℕ → ℕ → Spot
  spot = put_at places.spot n (λ i. record { page = f.page; offset = f.fill + i })

  abbrev start : ℕ → Spot
  start = put_at places.start n (record { page = f.page; offset = f.fill })

  begun : Within f c.fills × Amidst z k.w.cell f object stored
  begun = k.own.amids g c f object stored own make

  owner : Owns recs g f
  owner = (c, own, begun.0)

  whole : is_spread z.page_words object ≡ false
  whole = whole_of z.page_words object (let w = begun.1.fits in omega (arith, w))

  whole_new : (ob : Object) → object ≡ ob → (i : ℕ) → i < table_words z.page_words ob → i < words_of object
  whole_new ob e i l = in_whole z.page_words object i whole (subst (λ (y : Object). i < table_words z.page_words y) (sym e) l)

  live : is_live x.regions r ≡ true
  live = uses_live z words recs x places k steady g h r hold used

  page_in : f.page < z.pages
  page_in = let e = k.own.claimed g f owner in k.own.ranged f.page (omega arith)

  -- an object afterwards is one from before, or the new one
  which : (o : ℕ) (ob : Object) (q : Region) → IsLiveObject heap owners x.regions o ob q
      → ((o < n) × IsLiveObject x.heap x.owners x.regions o ob q) ⊎ ((o ≡ n) × (object ≡ ob) × (r ≡ q))
  which o ob q s = ⊎_elim
      (λ (t : (o < n) × (slice_get x.heap o ≡ Some ob)). ⊎_elim
      (λ (u : (o < length x.owners) × (slice_get x.owners o ≡ Some q)). inl (t.0, record { there = t.1; owner = u.1; live = s.live }))
      (λ (u : (o ≡ length x.owners) × (r ≡ q)). absurd (let a = steady.owned in let b = u.0 in let e = t.0 in omega arith))
      (snoc_at x.owners r q o s.owner))
      (λ (t : (o ≡ n) × (object ≡ ob)). ⊎_elim
      (λ (u : (o < length x.owners) × (slice_get x.owners o ≡ Some q)). absurd (let a = steady.owned in let b = u.0 in let e = t.0 in omega arith))
      (λ (u : (o ≡ length x.owners) × (r ≡ q)). inr (t.0, t.1, u.1))
      (snoc_at x.owners r q o s.owner))
      (snoc_at x.heap object ob o s.there)

  old_spot : (o : ℕ) → o < n → spot o ≡ places.spot o
  old_spot o l = put_else places.spot n (λ i. record { page = f.page; offset = f.fill + i }) o (λ e. omega arith)

  new_spot : (o : ℕ) → o ≡ n → spot o ≡ (λ i. record { page = f.page; offset = f.fill + i })
  new_spot o e = put_here places.spot n (λ i. record { page = f.page; offset = f.fill + i }) o e

  old_start : (o : ℕ) → o < n → start o ≡ places.start o
  old_start o l = put_else places.start n (record { page = f.page; offset = f.fill }) o (λ e. omega (arith, l, e))

  new_start : (o : ℕ) → o ≡ n → start o ≡ record { page = f.page; offset = f.fill }
  new_start o e = put_here places.start n (record { page = f.page; offset = f.fill }) o e

  -- what held before has the same words
  same_code : (v : Value) → ((p : ℕ) → v ≡ value.Object p → p < n) → encode (address z places.start) v ≡ encode (address z start) v
  same_code (value.Int m) l = refl
  same_code (value.Bool m) l = refl
  same_code value.Nil l = refl
  same_code (value.Object p) l = ap (λ (s : Spot). suc (s.page * z.page_words + s.offset)) (sym (old_start p (l p refl)))

  lies_made : Lies z k.w.variable k.w.cell x.variables heap owners x.regions spot start
  lies_made = record {
    inside = λ o i ob q s l. ⊎_elim
        (λ (t : (o < n) × IsLiveObject x.heap x.owners x.regions o ob q). subst (λ (y : ℕ → Spot). ((y i).page < z.pages)
        × ((y i).offset < z.page_words)) (sym (old_spot o t.0)) (k.lies.inside o i ob q t.1 l))
        (λ (t : (o ≡ n) × (object ≡ ob) × (r ≡ q)). subst (λ (y : ℕ → Spot). ((y i).page < z.pages)
        × ((y i).offset < z.page_words)) (sym (new_spot o t.0))
        (page_in, let w = begun.1.fits in let m : i < words_of object = whole_new ob t.1 i l in omega arith))
        (which o ob q s);
    shows = λ o i ob q v s e. ⊎_elim
        (λ (t : (o < n) × IsLiveObject x.heap x.owners x.regions o ob q). subst (λ (y : ℕ
        → Spot). k.w.cell (y i).page (y i).offset ≡ encode (address z start) v) (sym (old_spot o t.0))
        (k.lies.shows o i ob q v t.1 e ∙ same_code v (λ p w. steady.cells o i p ob t.1.there (e ∙ ap Some w))))
        (λ (t : (o ≡ n) × (object ≡ ob) × (r ≡ q)). subst (λ (y : ℕ
        → Spot). k.w.cell (y i).page (y i).offset ≡ encode (address z start) v) (sym (new_spot o t.0))
        (let u : content object i ≡ Some v = ap (λ (y : Object). content y i) t.1 ∙ e in
        let l = content_below object i v u in
        begun.1.laid i l (covers i l) ∙ (ap opening_word u ∙ plain_code (λ o. 0) (address z start) v (begun.1.plain i v u))))
        (which o ob q s);
    apart = λ o p i j ob ob2 q q2 s s2 l l2 a b. ⊎_elim
        (λ (t : (o < n) × IsLiveObject x.heap x.owners x.regions o ob q). ⊎_elim
        (λ (u : (p < n) × IsLiveObject x.heap x.owners x.regions p ob2 q2).
        let eo = old_spot o t.0 in let ep = old_spot p u.0 in
        k.lies.apart o p i j ob ob2 q q2 t.1 u.1 l l2
        (sym (ap (λ (y : ℕ → Spot). (y i).page) eo) ∙ (a ∙ ap (λ (y : ℕ → Spot). (y j).page) ep))
        (sym (ap (λ (y : ℕ → Spot). (y i).offset) eo) ∙ (b ∙ ap (λ (y : ℕ → Spot). (y j).offset) ep)))
        (λ (u : (p ≡ n) × (object ≡ ob2) × (r ≡ q2)).
        let eo = old_spot o t.0 in let ep = new_spot p u.0 in
        let v = k.own.under g o i f ob q owner t.1 l (sym (ap (λ (y : ℕ → Spot). (y i).page) eo) ∙ (a ∙ ap (λ (y : ℕ → Spot). (y j).page) ep)) in
        let w : (places.spot o i).offset ≡ f.fill + j = sym (ap (λ (y : ℕ → Spot). (y i).offset) eo) ∙ (b ∙ ap (λ (y : ℕ → Spot). (y j).offset) ep) in
        absurd (omega (arith, v, w)))
        (which p ob2 q2 s2))
        (λ (t : (o ≡ n) × (object ≡ ob) × (r ≡ q)). ⊎_elim
        (λ (u : (p < n) × IsLiveObject x.heap x.owners x.regions p ob2 q2).
        let eo = new_spot o t.0 in let ep = old_spot p u.0 in
        let v = k.own.under g p j f ob2 q2 owner u.1 l2 (sym (ap (λ (y : ℕ → Spot). (y j).page) ep) ∙ (sym a ∙ ap (λ (y : ℕ
        → Spot). (y i).page) eo)) in
        let w : (places.spot p j).offset ≡ f.fill + i = sym (ap (λ (y : ℕ → Spot). (y j).offset) ep) ∙ (sym b ∙ ap (λ (y : ℕ
        → Spot). (y i).offset) eo) in
        absurd (omega (arith, v, w)))
        (λ (u : (p ≡ n) × (object ≡ ob2) × (r ≡ q2)).
        let w : f.fill + i ≡ f.fill + j = sym (ap (λ (y : ℕ → Spot). (y i).offset) (new_spot o t.0)) ∙ (b ∙ ap (λ (y : ℕ
        → Spot). (y j).offset) (new_spot p u.0)) in
        (t.0 ∙ sym u.0, omega (arith, w)))
        (which p ob2 q2 s2))
        (which o ob q s);
    spread = λ o ob q s w. ⊎_elim
        (λ (t : (o < n) × IsLiveObject x.heap x.owners x.regions o ob q). subst (λ (y : ℕ → Spot). (pages : List ℕ)
        × SpreadOver z k.w.cell y (start o) ob pages) (sym (old_spot o t.0))
        (subst (λ (y : Spot). (pages : List ℕ) × SpreadOver z k.w.cell (places.spot o) y ob pages)
        (sym (old_start o t.0)) (k.lies.spread o ob q t.1 w)))
        (λ (t : (o ≡ n) × (object ≡ ob) × (r ≡ q)). absurd (true≢false (sym w
        ∙ (ap (is_spread z.page_words) (sym t.1) ∙ whole))))
        (which o ob q s);
    row = λ o i ob q s w l. ⊎_elim
        (λ (t : (o < n) × IsLiveObject x.heap x.owners x.regions o ob q). subst (λ (y : ℕ → Spot). ((y i).page ≡ (start o).page)
        × ((y i).offset ≡ (start o).offset + i)) (sym (old_spot o t.0))
        (subst (λ (y : Spot). ((places.spot o i).page ≡ y.page) × ((places.spot o i).offset ≡ y.offset + i))
        (sym (old_start o t.0)) (k.lies.row o i ob q t.1 w l)))
        (λ (t : (o ≡ n) × (object ≡ ob) × (r ≡ q)). subst (λ (y : ℕ → Spot). ((y i).page ≡ (start o).page)
        × ((y i).offset ≡ (start o).offset + i)) (sym (new_spot o t.0))
        (subst (λ (y : Spot). (f.page ≡ y.page) × (f.fill + i ≡ y.offset + i)) (sym (new_start o t.0)) (refl, refl)))
        (which o ob q s);
    variables = λ m v e. let t = k.lies.variables m v e in (t.0, t.1 ∙ same_code v (λ p w. steady.variables m p (e ∙ ap Some w)));
    made = λ o j e. ⊎_elim
        (λ (t : (o < length x.owners) × (slice_get x.owners o ≡ Some (Numbered j))). k.lies.made o j t.1)
        (λ (t : (o ≡ length x.owners)
        × (r ≡ Numbered j)). let i = live_info x.regions j (subst (λ
        (y : Region). is_live x.regions y ≡ true) t.1 live) in below x.regions j i.0 i.1)
        (snoc_at x.owners r (Numbered j) o e);
  }

  abbrev full : Fill
  full = record f { fill = many }

  only : (e : Fill) → Within e d.fills → (e ≡ full) ⊎ (Within e c.fills × (e.slot ≢ f.slot))
  only e w = let t = raised_within f.slot many c.fills e w in ⊎_elim
      (λ (u : (t.0.slot ≡ f.slot) × (e ≡ record t.0 { fill = many })). inl (u.1
      ∙ ap (λ (y : Fill). record y { fill = many }) (k.filled.single g t.0 f (c, own, t.1) owner u.0)))
      (λ (u : (t.0.slot ≢ f.slot)
      × (e ≡ t.0)). inr (subst (λ (y : Fill). Within y c.fills) (sym u.1) t.1, λ y. u.0 (ap (λ (y : Fill). y.slot) (sym u.1) ∙ y)))
      t.2

  full_there : Within full d.fills
  full_there = ⊎_elim
      (λ (u : (f.slot ≡ f.slot) × Within (record f { fill = many }) (raised f.slot many c.fills)). u.1)
      (λ (u : (f.slot ≢ f.slot) × Within f (raised f.slot many c.fills)). absurd (u.0 refl))
      (within_raised f.slot many c.fills f begun.0)

  others : (e : Fill) → Within e c.fills → e.slot ≢ f.slot → Within e d.fills
  others e w ne = ⊎_elim
      (λ (u : (e.slot ≡ f.slot) × Within (record e { fill = many }) (raised f.slot many c.fills)). absurd (ne u.0))
      (λ (u : (e.slot ≢ f.slot) × Within e (raised f.slot many c.fills)). u.1)
      (within_raised f.slot many c.fills e w)

  -- an own page afterwards
  old : (i : ℕ) (e : Fill) → Owns recs2 i e → ((i ≡ g) × (e ≡ full)) ⊎ (Owns recs i e × (e.page ≢ f.page))
  old i e w = ⊎_elim
      (λ (t : (i ≡ g) × Within e d.fills). ⊎_elim
      (λ (u : e ≡ full). inl (t.0, u))
      (λ (u : Within e c.fills
      × (e.slot ≢ f.slot)). inr (
        subst (λ (m : ℕ). Owns recs m e) (sym t.0) (c, own, u.0),
        λ q. u.1 (ap (λ (y : Fill). y.slot)
            (k.own.alone g g e f (c, own, u.0) owner q).1),
      ))
      (only e t.1))
      (λ (t : (i ≢ g) × Owns recs i e). inr (t.1, λ q. t.0 (k.own.alone i g e f t.1 owner q).0))
      (owns_was recs g c d own i e w)

  own_made : Own z k.w.state k.w.cell recs2 heap owners x.regions places.slot spot
  own_made = record {
    ranged = k.own.ranged;
    for_slots = k.own.for_slots;
    homes = λ o i ob q s l. ⊎_elim
        (λ (t : (o < n) × IsLiveObject x.heap x.owners x.regions o ob q). subst (λ (y : ℕ
        → Spot). k.w.state (y i).page ≡ suc (slot_of z places.slot q)) (sym (old_spot o t.0)) (k.own.homes o i ob q t.1 l))
        (λ (t : (o ≡ n) × (object ≡ ob) × (r ≡ q)). subst (λ (y : ℕ
        → Spot). k.w.state (y i).page ≡ suc (slot_of z places.slot q)) (sym (new_spot o t.0))
        (k.own.claimed g f owner ∙ ap suc (sym slotted ∙ ap (slot_of z places.slot) t.2)))
        (which o ob q s);
    claimed = λ i e w. ⊎_elim
        (λ (t : (i ≡ g) × (e ≡ full)). subst (λ (y : Fill). k.w.state y.page ≡ suc y.slot) (sym t.1) (k.own.claimed g f owner))
        (λ (t : Owns recs i e × (e.page ≢ f.page)). k.own.claimed i e t.0)
        (old i e w);
    alone = λ i j e e2 w v q. ⊎_elim
        (λ (t : (i ≡ g) × (e ≡ full)). ⊎_elim
        (λ (u : (j ≡ g) × (e2 ≡ full)). (t.0 ∙ sym u.0, t.1 ∙ sym u.1))
        (λ (u : Owns recs j e2 × (e2.page ≢ f.page)). absurd (u.1 (sym q ∙ ap (λ (y : Fill). y.page) t.1)))
        (old j e2 v))
        (λ (t : Owns recs i e × (e.page ≢ f.page)). ⊎_elim
        (λ (u : (j ≡ g) × (e2 ≡ full)). absurd (t.1 (q ∙ ap (λ (y : Fill). y.page) u.1)))
        (λ (u : Owns recs j e2 × (e2.page ≢ f.page)). k.own.alone i j e e2 t.0 u.0 q)
        (old j e2 v))
        (old i e w);
    room = λ i e w. ⊎_elim
        (λ (t : (i ≡ g) × (e ≡ full)). subst (λ (y : Fill). y.fill ≤ z.page_words) (sym t.1) begun.1.fits)
        (λ (t : Owns recs i e × (e.page ≢ f.page)). k.own.room i e t.0)
        (old i e w);
    under = λ i o m e ob q w s l v. ⊎_elim
        (λ (t : (i ≡ g) × (e ≡ full)). ⊎_elim
        (λ (u : (o < n) × IsLiveObject x.heap x.owners x.regions o ob q).
        let so = old_spot o u.0 in
        let b = k.own.under g o m f ob q owner u.1 l (sym (ap (λ (y : ℕ → Spot). (y m).page) so) ∙ (v ∙ ap (λ (y : Fill). y.page) t.1)) in
        let a : (spot o m).offset ≡ (places.spot o m).offset = ap (λ (y : ℕ → Spot). (y m).offset) so in
        let b2 : e.fill ≡ many = ap (λ (y : Fill). y.fill) t.1 in omega (arith, a, b, b2))
        (λ (u : (o ≡ n) × (object ≡ ob) × (r ≡ q)).
        let a : (spot o m).offset ≡ f.fill + m = ap (λ (y : ℕ → Spot). (y m).offset) (new_spot o u.0) in
        let b2 : e.fill ≡ many = ap (λ (y : Fill). y.fill) t.1 in
        let l2 : m < words_of object = whole_new ob u.1 m l in omega (arith, a, b2, l2))
        (which o ob q s))
        (λ (t : Owns recs i e × (e.page ≢ f.page)). ⊎_elim
        (λ (u : (o < n) × IsLiveObject x.heap x.owners x.regions o ob q).
        let so = old_spot o u.0 in
        let b = k.own.under i o m e ob q t.0 u.1 l (sym (ap (λ (y : ℕ → Spot). (y m).page) so) ∙ v) in
        let a : (spot o m).offset ≡ (places.spot o m).offset = ap (λ (y : ℕ → Spot). (y m).offset) so in omega (arith, a, b))
        (λ (u : (o ≡ n) × (object ≡ ob) × (r ≡ q)). absurd (t.1 (sym v ∙ ap (λ (y : ℕ → Spot). (y m).page) (new_spot o u.0))))
        (which o ob q s))
        (old i e w);
    amids = λ i y e ob st q m. ⊎_elim
        (λ (t : (i ≡ g) × (d ≡ y)). let v : Rest ≡ Amid e ob st = ap (λ (u : Rec). u.make) t.1 ∙ m in absurd (cc v))
        (λ (t : (i ≢ g) × HasRecord recs i y). k.own.amids i y e ob st t.1 m)
        (was recs g c d own i y q);
    apart = record {
      nobody = λ i o m e ob q w s sp l. ⊎_elim
          (λ (u : (o < n) × IsLiveObject x.heap x.owners x.regions o ob q). λ v.
          let v2 : (places.spot o m).page ≡ e.page = sym (ap (λ (y : ℕ → Spot). (y m).page) (old_spot o u.0)) ∙ v in
          ⊎_elim
          (λ (t : (i ≡ g) × (e ≡ full)). k.own.apart.nobody g o m f ob q owner u.1 sp l (v2 ∙ ap (λ (y : Fill). y.page) t.1))
          (λ (t : Owns recs i e × (e.page ≢ f.page)). k.own.apart.nobody i o m e ob q t.0 u.1 sp l v2)
          (old i e w))
          (λ (u : (o ≡ n) × (object ≡ ob) × (r ≡ q)). absurd (true≢false (sym sp
          ∙ (ap (is_spread z.page_words) (sym u.1) ∙ whole))))
          (which o ob q s);
      claimed = λ j p y e w.
          let u = reserves recs g c d own refl j y e in
          k.own.apart.claimed j p u.0 u.1 (subst (λ (v : Reserved). Within p v.pages) u.2 w)
          ∙ ap (λ (v : Reserved). suc v.slot) (sym u.2);
      unowned = λ j m p y e q w v.
          let u = reserves recs g c d own refl j y q in
          let w2 = subst (λ (v : Reserved). Within p v.pages) u.2 w in
          ⊎_elim
          (λ (t : (m ≡ g) × (e ≡ full)). λ s. k.own.apart.unowned j g p u.0 f u.1 w2 owner
          (sym (ap (λ (y : Fill). y.page) t.1) ∙ s))
          (λ (t : Owns recs m e × (e.page ≢ f.page)). k.own.apart.unowned j m p u.0 e u.1 w2 t.0)
          (old m e v);
      once = λ j l m i p y y2 q q2 a b.
          let u = reserves recs g c d own refl j y q in
          let v = reserves recs g c d own refl l y2 q2 in
          k.own.apart.once j l m i p u.0 v.0 u.1 v.1
          (subst (λ (v : Reserved). slice_get v.pages m ≡ Some p) u.2 a)
          (subst (λ (v : Reserved). slice_get v.pages i ≡ Some p) v.2 b);
      empty = λ j o m p y ob t q w s l.
          let u = reserves recs g c d own refl j y q in
          let w2 = subst (λ (v : Reserved). Within p v.pages) u.2 w in
          ⊎_elim
          (λ (v : (o < n) × IsLiveObject x.heap x.owners x.regions o ob t). λ e.
          k.own.apart.empty j o m p u.0 ob t u.1 w2 v.1 l (sym (ap (λ (y : ℕ → Spot). (y m).page) (old_spot o v.0)) ∙ e))
          (λ (v : (o ≡ n) × (object ≡ ob) × (r ≡ t)). λ e.
          k.own.apart.unowned j g p u.0 f u.1 w2 owner (sym (ap (λ (y : ℕ → Spot). (y m).page) (new_spot o v.0)) ∙ e))
          (which o ob t s);
      strewn = λ i y ob st q m. ⊎_elim
          (λ (t : (i ≡ g) × (d ≡ y)). let v : Rest ≡ Across ob st = ap (λ (u : Rec). u.make) t.1 ∙ m in absurd (cc v))
          (λ (t : (i ≢ g) × HasRecord recs i y). k.own.apart.strewn i y ob st t.1 m)
          (was recs g c d own i y q);
    };
  }

  -- all words are stored: the object is made
  pub object_stands : MemoryImage z words recs2 (made_in_page x g h r object many) (record places { spot = spot; start = start })
  object_stands = record {
    w = k.w;
    shows = k.shows;
    lies = lies_made;
    own = own_made;
    filled = refilled z words recs x places k steady g h hold r used many c d own full (sym slotted) refl full_there
        (λ e w. subst (λ (m : ℕ). (e ≡ full) ⊎ (Within e c.fills × (e.slot ≢ m))) (sym slotted) (only e w))
        (λ e w ne. others e w (λ q. ne (q ∙ sym slotted)))
        (λ s q. k.filled.claims g s c own q) refl;
    counts = counts_calm recs g c d own z k.w.count places.top x.regions places.slot places.uses k.counts refl;
    pages = pages_same recs g c d own k.w.state k.w.next k.w.head places.at places.chain places.link places.top k.pages refl refl;
    paged = k.paged;
    taken = taken_same recs g c d own z k.w.state k.w.count _ _ places.slot places.page k.taken refl refl;
  }

-- the last opening store
pub object_made : (z : TableSizes) (words : List ℕ) (recs : List Rec) (x : Ground) (places : Where) (k : MemoryImage z words recs x places) → Steady x
    → (g : ℕ) (c : Rec) → HasRecord recs g c
    → (f : Fill) (object : Object) (stored : List ℕ) → RecordMakes z c f object stored → (i : ℕ) → i < words_of object → Covers object (i ∷ stored)
    → (h : Held) → slice_get x.held g ≡ Some h → (r : Region) → MayUseRegion h r → slot_of z places.slot r ≡ f.slot
    → MemoryImage z (set words (cell_at z f.page (f.fill + i)) (opening_word (content object i))) (slice_set recs g (with_object_in_page c f.slot
    (f.fill + words_of object))) (made_in_page x g h r object (f.fill + words_of object))
    (record places {
      spot = put_at places.spot (length x.heap) (λ i. record { page = f.page; offset = f.fill + i });
      start = put_at places.start (length x.heap) (record { page = f.page; offset = f.fill });
    })
object_made z words recs x places k steady g c own f object stored makes i small covers h hold r used slotted =
    let half : Rec = with_word c f object (i ∷ stored) in
    let k1 = word_stored z words recs x places k g c own f object stored makes i small in
    let k2 = object_stands z (set words (cell_at z f.page (f.fill + i)) (opening_word (content object i)))
    (slice_set recs g half) x places k1 steady g half (set_here recs g half c own) f object (i ∷ stored) refl covers h hold r used slotted in
    subst (λ (l : List Rec). MemoryImage z (set words (cell_at z f.page (f.fill + i)) (opening_word (content object i))) l (made_in_page x g h r object
    (f.fill + words_of object)) (record places {
      spot = put_at places.spot (length x.heap) (λ i. record { page = f.page; offset = f.fill + i });
      start = put_at places.start (length x.heap) (record { page = f.page; offset = f.fill });
    }))
    (set_twice recs g half (with_object_in_page c f.slot (f.fill + words_of object))) k2
