-- Accesses to chains of pages. No state changes, so memory's law is nearly all. What is added are the links: how many pages are owed, which
-- only a page that is freed changes.
use Rattle.std.proofs.Common.{◌≡◌, inr, ⊎_elim, ℕ, zero, suc, ◌+◌, ◌-◌, ◌<◌, ◌≤◌, List, [], ◌∷◌, map, drop, slice_set, slice_index, refl, ap, sym, subst, ◌∙◌, arith}
use Rattle.std.proofs.lemmas.Bool.Decides.{nat_tests}
use Rattle.rgo_core_channels.proofs.Lists.{set_own}
use mathlib.Core.Logic.{dite}
use native.Mathlib.Decide.{ℕ_discrete}
use Rattle.rgo_core_memory.specs.Ground.{Ground, Steady, ground_of}
use Rattle.rgo_core_memory.specs.Image.{MemoryImage, StateImage, Where}
use Rattle.rgo_core_memory.specs.Pages.{PageChain, Chained, Free, Place, occurrences}
use Rattle.rgo_core_memory.specs.Parts.{Living, Use, Vacant, pages_at}
use Rattle.rgo_core_memory.specs.Records.{Calm, PageClaim, Claims, ClosesSlot, Gave, Give, ReturnsChain, Giving, Got, HasRecord, Hung, Idle, Past, Rec as MemoryRec, with_claim, with_give, Owes}
use Rattle.rgo_core_memory.specs.Words.{base, count_at, head_at, next_at, put_at, state_at}
use Rattle.rgo_core_memory.specs.declared.layout.TableSizes.{TableSizes}
use Rattle.rgo_core_memory.proofs.pages.Chains.{times_else, times_first}
use Rattle.rgo_core_memory.proofs.image.Keeps.{clear_keeps, free_keeps, hang_keeps, head_keeps, link_keeps, next_keeps, slot_keeps}
use Rattle.rgo_core_memory.proofs.Rows.{set_here}
use Rattle.rgo_core_memory.proofs.regions.Slots.{one_closes, stake_slot}
use Rattle.rgo_core_memory.proofs.image.Steadies.{steady_of}
use Rattle.rgo_core.specs.moves.Chains.{ClearMove, FreeMove, HangMove, HeadMove, LinkMove, NextMove, SlotMove, frees, remembers}
use Rattle.rgo_core.specs.Core.{Situation, Setup, layout}
use Rattle.rgo_core.specs.Image.{Image}
use Rattle.rgo_core.specs.Records.{ClockRec, Record, counted, memory_of, side_of}
use Rattle.rgo_core.specs.Steps.{Steps}
use Rattle.rgo_core.proofs.steps.Lift.{access_law, moves_by, told_law}
use Rattle.rgo_core.proofs.image.Parts.{I, frame_stays, image_with, side_stays}
use Rattle.rgo_core.specs.ties.Links.{Links, left_to_free}
use Rattle.rgo_core_memory.specs.Owed.{claimed_for}
use Rattle.rgo_core_memory.proofs.pages.Owing.{still_claimed}
use Rattle.rgo_core_memory.proofs.image.Stepped.{map_get}
use Rattle.rgo_core.proofs.accesses.Links.{Waits, claims_apart, left_same, fixed_low, links_freeing}
use Rattle.rgo_core.proofs.image.Standing.{channels_beside, memory_at}

-- ---- pages of chains are pages of the table

more_times : (q p : ℕ) (ps : List ℕ) → 0 < occurrences q ps → 0 < occurrences q (p ∷ ps)
more_times q p ps h = dite (ℕ_discrete p q)
    (λ e. let w = times_first q p ps e in omega (arith, w))
    (λ n. let w = times_else q p ps n in omega (arith, w, h))

module _ (z : TableSizes) (words : List ℕ) (recs : List MemoryRec) (x : Ground) (places : Where) (k : MemoryImage z words recs x places) where
  page_low : (r p : ℕ) → 0 < occurrences p (places.chain r) → p < z.pages
  page_low r p h = let s = (k.pages.is_chained p r (k.pages.on r p h)).0 in k.own.ranged p (omega (arith, s))

  -- from a page of the chain on
  chain_low : (r h : ℕ) (l : List ℕ) → ((p : ℕ) → 0 < occurrences p l → 0 < occurrences p (places.chain r)) → PageChain places.link h l → h ≤ z.pages
  chain_low r h [] in_chain ch = omega (arith, ch)
  chain_low r h (p ∷ ps) in_chain ch =
      let w = times_first p p ps refl in
      let low = page_low r p (in_chain p (omega (arith, w))) in
      let e = ch.0 in omega (arith, low, e)

  module _ (g : ℕ) (c : MemoryRec) (own : HasRecord recs g c) where
    pub giving_low : (r n : ℕ) → c.give ≡ Giving r n → n ≤ z.pages
    giving_low r n e =
        let t : places.top r ≡ n = k.pages.cursors g r n c own (subst (λ (y : Give). ReturnsChain y r n) (sym e) (refl, refl)) in
        chain_low r n (places.chain r) (λ p h. h) (subst (λ (h : ℕ). PageChain places.link h (places.chain r)) t (k.pages.chains r))

    pub past_low : (r p q : ℕ) → c.give ≡ Past r (suc p) q → (p < z.pages) × (q ≤ z.pages)
    past_low r p q e = go (places.chain r) refl (k.pages.chains r)
      where
        t : places.top r ≡ suc p
        t = k.pages.cursors g r (suc p) c own (subst (λ (y : Give). ReturnsChain y r (suc p)) (sym e) (refl, refl))

        link : places.link p ≡ q
        link = k.pages.pasts g r p q c own e

        go : (l : List ℕ) → places.chain r ≡ l → PageChain places.link (places.top r) l → (p < z.pages) × (q ≤ z.pages)
        go [] is ch = absurd (omega (arith, ch, t))
        go (y ∷ ps) is ch =
            let h = ch.0 in
            let same : y ≡ p = omega (arith, h, t) in
            let w = times_first p y ps same in (
              page_low r p (subst (λ (l : List ℕ). 0 < occurrences p l) (sym is) (omega (arith, w))),
              chain_low r q ps (λ j u. subst (λ (l : List ℕ). 0 < occurrences j l) (sym is) (more_times j y ps u))
                  (subst (λ (m : ℕ). PageChain places.link m ps) (ap places.link same ∙ link) ch.1),
            )

    -- the slot of a chain that is being returned
    pub closing_low : (r : ℕ) → ClosesSlot c.give r → r < z.slots
    closing_low r h = (k.counts.closes g r c own h).0

    pub hung_low : (p r old : ℕ) → c.claim ≡ Hung p r old → p < z.pages
    hung_low p r old e =
        let s = (k.pages.is_chained p r (k.pages.hungs g p r old c own e).0).0 in k.own.ranged p (omega (arith, s))

    pub got_low : Steady x → (p r : ℕ) → c.claim ≡ Got p r → r ≤ z.slots
    got_low steady p r e = ⊎_elim
        (λ (u : r ≡ z.slots). omega (arith, u))
        (λ (u : (m : ℕ) × (r < z.slots) × (places.uses r ≡ Living m)). let l = u.1 in omega (arith, l))
        (stake_slot z words recs x places k steady g r
        (k.filled.claims g r c own (subst (λ (y : PageClaim). Claims y r) (sym e) refl)))

-- ---- the image after

module _ {T : Setup} {g : ℕ} {c : Record} (x : Situation T g c) where
  -- a word before the cells is stored, and the record's part of memory changes
  pub chain_image : (i v : ℕ) → i < base (layout T) → (k : ClockRec) (m : MemoryRec) (uses : ℕ → Use) (at : ℕ → Place) (chain : ℕ → List ℕ)
      (link top : ℕ → ℕ)
      → StateImage (layout T) (slice_set x.words i v) (slice_set (map memory_of x.recs) g m) x.s
      (record (I x).places { uses = uses; at = at; chain = chain; link = link; top = top })
      → Image T.code (layout T) (slice_set x.words i v) (slice_set x.recs g (record c { clock = k; memory = m })) x.s
  chain_image i v low k m uses at chain link top M =
      let p : Where = record (I x).places { uses = uses; at = at; chain = chain; link = link; top = top } in
      image_with x (slice_set x.words i v) (record c { clock = k; memory = m }) x.s p (I x).at (I x).addresses (I x).addressed
      (frame_stays x x.s (I x).places.slot (I x).addresses (I x).frames) M
      (side_stays x (slice_set x.words i v) x.s p (I x).at
      (channels_beside T.code (layout T) (I x).places x.words (map side_of x.recs) x.s (I x).at i v low (I x).channels))

  -- the word stays
  pub look_image : (i : ℕ) → i < base (layout T) → (k : ClockRec) (m : MemoryRec)
      → StateImage (layout T) x.words (slice_set (map memory_of x.recs) g m) x.s (I x).places
      → Image T.code (layout T) (slice_set x.words i (slice_index x.words i)) (slice_set x.recs g (record c { clock = k; memory = m })) x.s
  look_image i low k m M =
      chain_image i (slice_index x.words i) low k m (I x).places.uses (I x).places.at (I x).places.chain (I x).places.link (I x).places.top
      (subst (λ (w : List ℕ). StateImage (layout T) w (slice_set (map memory_of x.recs) g m) x.s (I x).places) (sym (set_own x.words i)) M)

  pub remembered : (words : List ℕ) (m : MemoryRec) → Image T.code (layout T) words (slice_set x.recs g (remembers c m)) x.s
      → Links T.code (layout T) words (slice_set x.recs g (remembers c m)) → Steps x words (remembers c m)
  remembered words m image links = inr (record {
    counted = refl;
    same = record { prints = refl; first = refl; children = refl; refused = refl };
    image = image;
    links = links;
  })

  -- its links, if the chain that it returns stays as it is
  pub as_before : (i v : ℕ) → 32 + T.sizes.pages ≤ i → i < base (layout T) → (m : MemoryRec) → m.measured ≡ c.memory.measured
      → m.located ≡ c.memory.located → m.reserved ≡ c.memory.reserved → left_to_free (layout T) x.words m.give ≡ left_to_free (layout T) x.words c.memory.give
      → Links T.code (layout T) (slice_set x.words i v) (slice_set x.recs g (remembers c m))
  as_before i v high low m measured located reserved give =
      let words = slice_set x.words i v in
      let claims = claims_apart x i v (λ p l e. omega (arith, high, l, e)) in
      links_freeing x words (fixed_low x i v low) (remembers c m) (λ j r e ne is closes. claims r)
      ((x.core.links g c x.is_c).owed ∙ (sym give ∙ sym (left_same (layout T) x.words words m.give (λ r closes. claims r))))
      measured located (Waits refl refl reserved)

one_less : (c : Record) (r q n : ℕ) → c.clock.owed ≡ suc n → counted (frees c r q).clock ≡ counted c.clock
one_less c r q n owed = λ i. record (counted c.clock) {
  returned = (let e : suc c.clock.share.returned + (c.clock.owed - 1) ≡ c.clock.share.returned + c.clock.owed = omega (arith, owed) in e) i;
}

-- ---- how many pages are owed

claims_few : (states : ℕ → ℕ) (n r : ℕ) → pages_at states n r ≤ n
claims_few states zero r = omega arith
claims_few states (suc n) r = let a = claims_few states n r in grind (arith, nat_tests, a)

module _ {T : Setup} {g : ℕ} {c : Record} (x : Situation T g c) (r : ℕ) where
  few_owed : c.memory.give ≡ Owes r → c.clock.owed ≤ T.sizes.pages
  few_owed owes =
      let a : c.clock.owed ≡ claimed_for (layout T) x.words r = (x.core.links g c x.is_c).owed ∙ ap (left_to_free (layout T) x.words) owes in
      let b = claims_few (λ p. slice_index x.words (state_at (layout T) p)) (layout T).pages r in
      omega (arith, a, b)

  -- by the page that is freed
  one_owed : (p q : ℕ) → c.memory.give ≡ Past r (suc p) q → 0 < c.clock.owed
  one_owed p q past =
      let freed = (still_claimed.free T.code (layout T) x.words (map memory_of x.recs) x.s (I x).places x.core.sound.good (I x).memory g r p q
      c.memory (memory_at x) past).0 in
      let a : c.clock.owed ≡ claimed_for (layout T) x.words r = (x.core.links g c x.is_c).owed ∙ ap (left_to_free (layout T) x.words) past in
      omega (arith, freed, a)

  none_owed : c.memory.give ≡ Giving r 0 → c.clock.owed ≡ 0
  none_owed gives =
      let k = (I x).places in
      let words = slice_set x.words (head_at (layout T) r) 0 in
      let a : c.clock.owed ≡ claimed_for (layout T) x.words r = (x.core.links g c x.is_c).owed ∙ ap (left_to_free (layout T) x.words) gives in
      let same : claimed_for (layout T) words r ≡ claimed_for (layout T) x.words r =
      still_claimed.beside (layout T) x.words (head_at (layout T) r) 0 (λ p l e. omega (arith, l, e)) r in
      let b = still_claimed.none T.code (layout T) words (slice_set (map memory_of x.recs) g (with_give c.memory (Gave r))) x.s k x.core.sound.good
      (clear_keeps T.code (layout T) x.words (map memory_of x.recs) x.s k g c.memory x.core.sound.good (I x).memory (memory_at x) r gives)
      g r (with_give c.memory (Gave r)) (set_here (map memory_of x.recs) g (with_give c.memory (Gave r)) c.memory (memory_at x)) refl in
      omega (arith, a, b, same)

pub hang_move : HangMove
hang_move T g c p r got =
    access_law T g c (head_at (layout T) r) (λ n. suc p) (λ n. remembers c (with_claim c.memory (Hung p r n))) (omega arith) (λ n. refl)
    (λ x small.
    let k = (I x).places in
    let low = got_low (layout T) x.words (map memory_of x.recs) (ground_of x.s) k (I x).memory g c.memory (memory_at x)
    (steady_of T.code x.s x.core.sound.good) p r got in
    remembered x _ _ (chain_image x (head_at (layout T) r) (suc p) (omega (arith, low)) _ _ k.uses (put_at k.at p (Chained r))
    (put_at k.chain r (p ∷ k.chain r)) (put_at k.link p (slice_index x.words (head_at (layout T) r))) (put_at k.top r (suc p))
    (hang_keeps T.code (layout T) x.words (map memory_of x.recs) x.s k g c.memory x.core.sound.good (I x).memory (memory_at x) p r got))
    (as_before x (head_at (layout T) r) (suc p) (omega arith) (omega (arith, low)) _ refl refl refl refl))

pub link_move : LinkMove
link_move T g c p r old hung =
    access_law T g c (next_at (layout T) p) (λ n. old) (λ n. remembers c (with_claim c.memory Idle)) (omega arith) (λ n. refl)
    (λ x small.
    let k = (I x).places in
    let low = hung_low (layout T) x.words (map memory_of x.recs) (ground_of x.s) k (I x).memory g c.memory (memory_at x) p r old hung in
    remembered x _ _ (chain_image x (next_at (layout T) p) old (omega (arith, low)) _ _ k.uses k.at k.chain k.link k.top
    (link_keeps T.code (layout T) x.words (map memory_of x.recs) x.s k g c.memory x.core.sound.good (I x).memory (memory_at x) p r old hung))
    (as_before x (next_at (layout T) p) old (omega arith) (omega (arith, low)) _ refl refl refl refl))

pub head_move : HeadMove
head_move T g c r owes =
    told_law T g c (head_at (layout T) r) (λ n. n)
    (λ n d. (d ≡ remembers c (with_give c.memory (Giving r n))) × (n ≤ T.sizes.pages) × (c.clock.owed ≤ T.sizes.pages)) (λ x. omega arith)
    (λ x small.
    let k = (I x).places in
    let n : ℕ = slice_index x.words (head_at (layout T) r) in
    let d : MemoryRec = with_give c.memory (Giving r n) in
    let low = closing_low (layout T) x.words (map memory_of x.recs) (ground_of x.s) k (I x).memory g c.memory (memory_at x) r
    (subst (λ (y : Give). ClosesSlot y r) (sym owes) refl) in
    let M : StateImage (layout T) x.words (slice_set (map memory_of x.recs) g d) x.s k =
    head_keeps T.code (layout T) x.words (map memory_of x.recs) x.s k g c.memory x.core.sound.good (I x).memory (memory_at x) r owes in
    record {
      after = remembers c d;
      more = refl;
      steps = remembered x _ _ (look_image x (head_at (layout T) r) (omega (arith, low)) _ _ M)
          (as_before x (head_at (layout T) r) n (omega arith) (omega (arith, low)) d refl refl refl
          (sym (ap (left_to_free (layout T) x.words) owes)));
      tells_so = (
        refl,
        giving_low (layout T) x.words (slice_set (map memory_of x.recs) g d) (ground_of x.s) k M g d
            (set_here (map memory_of x.recs) g d c.memory (memory_at x)) r n refl,
        few_owed x r owes,
      );
    })

pub next_move : NextMove
next_move T g c r p gives =
    told_law T g c (next_at (layout T) p) (λ n. n)
    (λ n d. (d ≡ remembers c (with_give c.memory (Past r (suc p) n))) × (n ≤ T.sizes.pages)) (λ x. omega arith)
    (λ x small.
    let k = (I x).places in
    let n : ℕ = slice_index x.words (next_at (layout T) p) in
    let d : MemoryRec = with_give c.memory (Past r (suc p) n) in
    let low = giving_low (layout T) x.words (map memory_of x.recs) (ground_of x.s) k (I x).memory g c.memory (memory_at x) r (suc p) gives in
    let M : StateImage (layout T) x.words (slice_set (map memory_of x.recs) g d) x.s k =
    next_keeps T.code (layout T) x.words (map memory_of x.recs) x.s k g c.memory x.core.sound.good (I x).memory (memory_at x) r p gives in
    record {
      after = remembers c d;
      more = refl;
      steps = remembered x _ _ (look_image x (next_at (layout T) p) (omega (arith, low)) _ _ M)
          (as_before x (next_at (layout T) p) n (omega arith) (omega (arith, low)) d refl refl refl
          (sym (ap (left_to_free (layout T) x.words) gives)));
      tells_so = (
        refl,
        (past_low (layout T) x.words (slice_set (map memory_of x.recs) g d) (ground_of x.s) k M g d
            (set_here (map memory_of x.recs) g d c.memory (memory_at x)) r p n refl).1,
      );
    })

pub free_move : FreeMove
free_move T g c r p q past =
    moves_by T g c (state_at (layout T) p) (λ n. 0) (λ n. frees c r q) (λ n d. (d ≡ frees c r q) × (0 < c.clock.owed)) (λ n. refl)
    (λ x. omega arith)
    (λ x small.
    let k = (I x).places in
    let low = (past_low (layout T) x.words (map memory_of x.recs) (ground_of x.s) k (I x).memory g c.memory (memory_at x) r p q past).0 in
    let freed = still_claimed.free T.code (layout T) x.words (map memory_of x.recs) x.s k x.core.sound.good (I x).memory g r p q c.memory (memory_at x) past in
    let owed : c.clock.owed ≡ suc (claimed_for (layout T) (slice_set x.words (state_at (layout T) p) 0) r) =
    (x.core.links g c x.is_c).owed ∙ (ap (left_to_free (layout T) x.words) past ∙ sym freed.0) in
    inr (record {
      counted = one_less c r q (claimed_for (layout T) (slice_set x.words (state_at (layout T) p) 0) r) owed;
      same = record { prints = refl; first = refl; children = refl; refused = refl };
      image = chain_image x (state_at (layout T) p) 0 (omega (arith, low)) _ _ k.uses (put_at k.at p Free) (put_at k.chain r (drop 1 (k.chain r)))
          k.link (put_at k.top r q)
          (free_keeps T.code (layout T) x.words (map memory_of x.recs) x.s k g c.memory x.core.sound.good (I x).memory (memory_at x) r p q past);
      links = links_freeing x (slice_set x.words (state_at (layout T) p) 0) (fixed_low x (state_at (layout T) p) 0 (omega (arith, low))) (frees c r q)
          (λ j t e ne is closes. freed.1 t (λ same. ne (one_closes (layout T) x.words (map memory_of x.recs) (ground_of x.s) k (I x).memory r g j c.memory e.memory (memory_at x)
          (subst (λ (y : Give). ClosesSlot y r) (sym past) refl) (map_get memory_of x.recs j e is) (subst (ClosesSlot e.memory.give) same closes))))
          (omega (arith, owed)) refl refl (Waits refl refl refl);
    }))
    (λ x. (refl, one_owed x r p q past))

pub clear_move : ClearMove
clear_move T g c r gives =
    moves_by T g c (head_at (layout T) r) (λ n. 0) (λ n. remembers c (with_give c.memory (Gave r)))
    (λ n d. (d ≡ remembers c (with_give c.memory (Gave r))) × (c.clock.owed ≡ 0)) (λ n. refl) (λ x. omega arith)
    (λ x small.
    let k = (I x).places in
    let low = closing_low (layout T) x.words (map memory_of x.recs) (ground_of x.s) k (I x).memory g c.memory (memory_at x) r
    (subst (λ (y : Give). ClosesSlot y r) (sym gives) refl) in
    remembered x _ _ (chain_image x (head_at (layout T) r) 0 (omega (arith, low)) _ _ k.uses k.at k.chain k.link k.top
    (clear_keeps T.code (layout T) x.words (map memory_of x.recs) x.s k g c.memory x.core.sound.good (I x).memory (memory_at x) r gives))
    (as_before x (head_at (layout T) r) 0 (omega arith) (omega (arith, low)) _ refl refl refl
    (sym (ap (left_to_free (layout T) x.words) gives))))
    (λ x. (refl, none_owed x r gives))

pub slot_move : SlotMove
slot_move T g c r gave =
    access_law T g c (count_at (layout T) r) (λ n. 0) (λ n. remembers c (with_give c.memory Calm)) (omega arith) (λ n. refl)
    (λ x small.
    let k = (I x).places in
    let low = closing_low (layout T) x.words (map memory_of x.recs) (ground_of x.s) k (I x).memory g c.memory (memory_at x) r
    (subst (λ (y : Give). ClosesSlot y r) (sym gave) refl) in
    remembered x _ _ (chain_image x (count_at (layout T) r) 0 (omega (arith, low)) _ _ (put_at k.uses r Vacant) k.at k.chain k.link k.top
    (slot_keeps T.code (layout T) x.words (map memory_of x.recs) x.s k g c.memory x.core.sound.good (I x).memory (memory_at x) r gave))
    (as_before x (count_at (layout T) r) 0 (omega arith) (omega (arith, low)) _ refl refl refl
    (sym (ap (left_to_free (layout T) x.words) gave
    ∙ still_claimed.none T.code (layout T) x.words (map memory_of x.recs) x.s k x.core.sound.good (I x).memory g r c.memory (memory_at x) gave))))
