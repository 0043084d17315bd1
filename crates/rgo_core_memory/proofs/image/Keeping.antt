-- What each part keeps if one record changes. `was` splits a record of the new list into the changed one and an old one. Each lemma
-- has premises about the changed one only for what its part reads.
use Rattle.std.proofs.Common.{◌≡◌, ◌≢◌, ◌⊎◌, ℕ, zero, suc, ◌<◌, Bool, true, false, List, [], ◌∷◌, Some, slice_get, slice_set, nat_eq, if◌then◌else◌, refl, ap, sym, subst, ◌∙◌, inl, inr, ⊎_elim, arith}
use Rattle.std.proofs.lemmas.Option.{same_Some}
use mathlib.Core.Logic.{dite}
use native.Mathlib.Decide.{ℕ_discrete}
use Rattle.rgo_sound.specs.Memory.Memory.{Object}
use Rattle.rgo_sound.specs.RegionMachine.Regions.{RegionInfo}
use Rattle.rgo_sound.specs.RegionMachine.declared.regions.Region.{Region}
use Rattle.rgo_sound.proofs.Tests.{split, eq_of}
use Rattle.rgo_core_memory.specs.declared.layout.TableSizes.{TableSizes}
use Rattle.rgo_core_memory.specs.Encoding.{Spot}
use Rattle.rgo_core_memory.specs.Records.{Fill, Amid, Give, Rec, HasRecord, Within, Owns, Claims, ClosesSlot, ReturnsChain, dropped}
use Rattle.rgo_core_memory.specs.Ground.{Held}
use Rattle.rgo_core_memory.specs.Pages.{Place, Pages, occurrences}
use Rattle.rgo_core_memory.specs.Parts.{Own, OwnPagesFilled, StakeAt, Use, Closing, SlotCounts, Taken, TriedPage, TriedSlot}
use Rattle.rgo_core_memory.proofs.Rows.{at_set, set_here, set_else}
use Rattle.rgo_core_memory.specs.Records.{Across, Reserved}
use Rattle.rgo_core_memory.specs.Parts.{Strewn}
use Rattle.std.proofs.Common.{length}

-- ---- own pages of other slots

refutes : (a b : ℕ) → nat_eq a b ≡ false → a ≡ b → ⊥
refutes a b f e = grind arith

pub dropped_within : (s : ℕ) (fs : List Fill) (f : Fill) → Within f (dropped s fs) → Within f fs × (f.slot ≢ s)
dropped_within s [] f w = let n = w.0 in let q : slice_get [] n ≡ Some f = w.1 in cc
dropped_within s (e ∷ fs) f w = split (nat_eq s e.slot)
    (λ t. let r = dropped_within s fs f (subst (λ (b : Bool). Within f (if b then dropped s fs else e ∷ dropped s fs)) t w) in
    ((suc r.0.0, r.0.1), r.1))
    (λ n. go n (subst (λ (b : Bool). Within f (if b then dropped s fs else e ∷ dropped s fs)) n w) (λ v. dropped_within s fs f v))
  where
    go : nat_eq s e.slot ≡ false → Within f (e ∷ dropped s fs) → (Within f (dropped s fs) → Within f fs × (f.slot ≢ s)) → Within f (e ∷ fs)
        × (f.slot ≢ s)
    go n (zero, q) next = (
      (zero, q),
      λ y. let z : e ≡ f = same_Some e f q in let u : e.slot ≡ s = ap (λ (x : Fill). x.slot) z
          ∙ y in refutes s e.slot n (sym u),
    )
    go n (suc i, q) next = let r = next (i, q) in ((suc r.0.0, r.0.1), r.1)

pub within_dropped : (s : ℕ) (fs : List Fill) (f : Fill) → Within f fs → f.slot ≢ s → Within f (dropped s fs)
within_dropped s [] f w ne = w
within_dropped s (e ∷ fs) f w ne = split (nat_eq s e.slot)
    (λ t. subst (λ (b : Bool). Within f (if b then dropped s fs else e ∷ dropped s fs)) (sym t) (yes t w (λ v. within_dropped s fs f v ne)))
    (λ n. subst (λ (b : Bool). Within f (if b then dropped s fs else e ∷ dropped s fs)) (sym n) (no w (λ v. within_dropped s fs f v ne)))
  where
    yes : nat_eq s e.slot ≡ true → Within f (e ∷ fs) → (Within f fs → Within f (dropped s fs)) → Within f (dropped s fs)
    yes t (zero, q) next = let z : e ≡ f = same_Some e f q in absurd (ne (sym (ap (λ (x : Fill). x.slot) z) ∙ sym (eq_of s e.slot t)))
    yes t (suc i, q) next = next (i, q)

    no : Within f (e ∷ fs) → (Within f fs → Within f (dropped s fs)) → Within f (e ∷ dropped s fs)
    no (zero, q) next = (zero, q)
    no (suc i, q) next = let r = next (i, q) in (suc r.0, r.1)

-- ---- one record

module _ (recs : List Rec) (g : ℕ) (c d : Rec) (own : HasRecord recs g c) where
  abbrev pub new : List Rec
  new = slice_set recs g d

  pub here : HasRecord new g d
  here = set_here recs g d c own

  pub was : (j : ℕ) (x : Rec) → HasRecord new j x → ((j ≡ g) × (d ≡ x)) ⊎ ((j ≢ g) × HasRecord recs j x)
  was j x e = at_set recs g j d x e

  pub stays : (j : ℕ) (x : Rec) → j ≢ g → HasRecord recs j x → HasRecord new j x
  stays j x n e = set_else recs g j d n ∙ e

  pub mine : (j : ℕ) (x : Rec) → j ≡ g → HasRecord recs j x → x ≡ c
  mine j x s e = same_Some x c (sym e ∙ (ap (slice_get recs) s ∙ own))

  -- a record afterwards, if no pages are reserved or given up
  pub reserves : d.reserved ≡ c.reserved → (j : ℕ) (x : Rec) → HasRecord new j x
      → (y : Rec) × HasRecord recs j y × (x.reserved ≡ y.reserved)
  reserves reserved j x e = ⊎_elim
      (λ (t : (j ≡ g) × (d ≡ x)). (
        c,
        subst (λ (n : ℕ). HasRecord recs n c) (sym t.0) own,
        ap (λ (y : Rec). y.reserved) (sym t.1) ∙ reserved,
      ))
      (λ (t : (j ≢ g) × HasRecord recs j x). (x, t.1, refl))
      (was j x e)

  -- which goroutine owns a page afterwards
  pub owns_was : (j : ℕ) (f : Fill) → Owns new j f → ((j ≡ g) × Within f d.fills) ⊎ ((j ≢ g) × Owns recs j f)
  owns_was j f w = ⊎_elim
      (λ (t : (j ≡ g) × (d ≡ w.0)). inl (t.0, subst (λ (y : Rec). Within f y.fills) (sym t.1) w.2))
      (λ (t : (j ≢ g) × HasRecord recs j w.0). inr (t.0, (w.0, t.1, w.2)))
      (was j w.0 w.1)

  pub owns_mine : (f : Fill) → Within f d.fills → Owns new g f
  owns_mine f w = (d, here, w)

  pub owns_other : (j : ℕ) (f : Fill) → j ≢ g → Owns recs j f → Owns new j f
  owns_other j f n w = (w.0, stays j w.0 n w.1, w.2)

  pub owns_old : (j : ℕ) (f : Fill) → j ≡ g → Owns recs j f → Within f c.fills
  owns_old j f e w = subst (λ (y : Rec). Within f y.fills) (mine j w.0 e w.1) w.2

  module _ (z : TableSizes) (states : ℕ → ℕ) (cell : ℕ → ℕ → ℕ) (heap : List Object) (owners : List Region) (regions : List RegionInfo) (slot : ℕ → ℕ)
      (spot : ℕ → ℕ → Spot) (k : Own z states cell recs heap owners regions slot spot) where
    -- own pages may be given up
    pub own_fewer : ((f : Fill) → Within f d.fills → Within f c.fills)
        → ((f : Fill) (object : Object) (stored : List ℕ) → d.make ≡ Amid f object stored → (c.make ≡ Amid f object stored) × Within f d.fills)
        → d.reserved ≡ c.reserved
        → ((object : Object) (stored : List ℕ) → d.make ≡ Across object stored → c.make ≡ Across object stored)
        → Own z states cell new heap owners regions slot spot
    own_fewer sub makes reserved across =
        let old : (j : ℕ) (f : Fill) → Owns new j f → Owns recs j f = λ j f w. ⊎_elim
        (λ (t : (j ≡ g) × Within f d.fills). subst (λ (n : ℕ). Owns recs n f) (sym t.0) (c, own, sub f t.1))
        (λ (t : (j ≢ g) × Owns recs j f). t.1)
        (owns_was j f w) in
        record {
          ranged = k.ranged;
          for_slots = k.for_slots;
          homes = k.homes;
          claimed = λ j f w. k.claimed j f (old j f w);
          alone = λ i j e f w v. k.alone i j e f (old i e w) (old j f v);
          room = λ j f w. k.room j f (old j f w);
          under = λ j o i f object r w. k.under j o i f object r (old j f w);
          amids = λ j x f object stored h m. ⊎_elim
              (λ (t : (j ≡ g) × (d ≡ x)). let y = makes f object stored (ap (λ (y : Rec). y.make) t.1 ∙ m) in
              (subst (λ (y : Rec). Within f y.fills) t.1 y.1, (k.amids g c f object stored own y.0).1))
              (λ (t : (j ≢ g) × HasRecord recs j x). k.amids j x f object stored t.1 m)
              (was j x h);
          apart = record {
            nobody = λ j o i f object r w. k.apart.nobody j o i f object r (old j f w);
            claimed = λ j p x h w.
                let y = reserves reserved j x h in
                k.apart.claimed j p y.0 y.1 (subst (λ (v : Reserved). Within p v.pages) y.2 w)
                ∙ ap (λ (v : Reserved). suc v.slot) (sym y.2);
            unowned = λ j i p x f h w v.
                let y = reserves reserved j x h in
                k.apart.unowned j i p y.0 f y.1 (subst (λ (v : Reserved). Within p v.pages) y.2 w) (old i f v);
            once = λ i j m n p x y h w a b.
                let u = reserves reserved i x h in
                let v = reserves reserved j y w in
                k.apart.once i j m n p u.0 v.0 u.1 v.1
                (subst (λ (v : Reserved). slice_get v.pages m ≡ Some p) u.2 a)
                (subst (λ (v : Reserved). slice_get v.pages n ≡ Some p) v.2 b);
            empty = λ j o i p x object r h w.
                let y = reserves reserved j x h in
                k.apart.empty j o i p y.0 object r y.1 (subst (λ (v : Reserved). Within p v.pages) y.2 w);
            strewn = λ j x object stored h m. ⊎_elim
                (λ (t : (j ≡ g) × (d ≡ x)).
                let a = k.apart.strewn g c object stored own (across object stored (ap (λ (y : Rec). y.make) t.1 ∙ m)) in
                subst (λ (v : Reserved). Strewn z cell v.pages object stored)
                (sym reserved ∙ ap (λ (y : Rec). y.reserved) t.1) a)
                (λ (t : (j ≢ g) × HasRecord recs j x). k.apart.strewn j x object stored t.1 m)
                (was j x h);
          };
        }

    pub own_same : d.fills ≡ c.fills → d.make ≡ c.make → d.reserved ≡ c.reserved
        → Own z states cell new heap owners regions slot spot
    own_same fills make reserved = own_fewer
        (λ f w. subst (λ (l : List Fill). Within f l) fills w)
        (λ f object stored m. let e = sym make ∙ m in (e, subst (λ (l : List Fill). Within f l) (sym fills) (k.amids g c f object stored own e).0))
        reserved (λ object stored m. sym make ∙ m)

  module _ (z : TableSizes) (held : List Held) (creations : ℕ) (slot : ℕ → ℕ) (k : OwnPagesFilled z recs held creations slot) where
    pub filled_same : d.fills ≡ c.fills → d.reserved ≡ c.reserved
        → ((s : ℕ) → Claims d.claim s → StakeAt z held slot g s) → OwnPagesFilled z new held creations slot
    filled_same fills reserved claims =
        let old : (j : ℕ) (f : Fill) → Owns new j f → Owns recs j f = λ j f w. ⊎_elim
        (λ (t : (j ≡ g) × Within f d.fills). subst (λ (n : ℕ). Owns recs n f) (sym t.0) (c, own, subst (λ (l : List Fill). Within f l) fills t.1))
        (λ (t : (j ≢ g) × Owns recs j f). t.1)
        (owns_was j f w) in
        let young : (j : ℕ) (f : Fill) → Owns recs j f → Owns new j f = λ j f w. dite (ℕ_discrete j g)
        (λ e. subst (λ (n : ℕ). Owns new n f) (sym e) (owns_mine f (subst (λ (l : List Fill). Within f l) (sym fills) (owns_old j f e w))))
        (λ n. owns_other j f n w) in
        record {
          fills = λ j f w. k.fills j f (old j f w);
          owned = λ j n h r e u q. let t = k.owned j n h r e u q in (t.0, young j t.0 t.1, t.2, t.3);
          single = λ j e f w v. k.single j e f (old j e w) (old j f v);
          claims = λ j s x e q. ⊎_elim
              (λ (t : (j ≡ g) × (d ≡ x)). subst (λ (n : ℕ). StakeAt z held slot n s) (sym t.0) (claims s (subst (λ (y : Rec). Claims y.claim s)
              (sym t.1) q)))
              (λ (t : (j ≢ g) × HasRecord recs j x). k.claims j s x t.1 q)
              (was j x e);
          reserved = λ j x e q.
              let y = reserves reserved j x e in
              let t = k.reserved j y.0 y.1 (subst (λ (v : Reserved). 0 < length v.pages) y.2 q) in (
                t.0,
                t.1,
                t.2,
                t.3,
                t.4 ∙ ap (λ (v : Reserved). v.slot) (sym y.2),
                t.5 ∙ ap (λ (v : Reserved). length v.pages) (sym y.2),
              );
          recorded = λ j h e q.
              let t = k.recorded j h e q in
              dite (ℕ_discrete j g)
              (λ s. (
                d,
                subst (λ (n : ℕ). HasRecord new n d) (sym s) here,
                t.2 ∙ ap (λ (v : Reserved). length v.pages)
                    (ap (λ (y : Rec). y.reserved) (mine j t.0 s t.1) ∙ sym reserved),
              ))
              (λ n. (t.0, stays j t.0 n t.1, t.2));
          made = k.made;
        }

  module _ (z : TableSizes) (counts top : ℕ → ℕ) (regions : List RegionInfo) (slot : ℕ → ℕ) (uses : ℕ
      → Use) (k : SlotCounts z counts top recs regions slot uses) where
    -- what is closed stays closed by the same
    pub counts_same : ((s : ℕ) → ClosesSlot c.give s → ClosesSlot d.give s) → ((s : ℕ) → ClosesSlot d.give s → ClosesSlot c.give s)
        → SlotCounts z counts top new regions slot uses
    counts_same to from = record {
      global = k.global;
      vacant = k.vacant;
      living = k.living;
      closing = λ s j l e. let t = k.closing s j l e in dite (ℕ_discrete j g)
          (λ y. (t.0, d, subst (λ (n : ℕ). HasRecord new n d) (sym y) here, to s (subst (λ (x : Rec). ClosesSlot x.give s) (mine j t.1 y t.2) t.3)))
          (λ n. (t.0, t.1, stays j t.1 n t.2, t.3));
      lives = k.lives;
      closes = λ j s x e q. ⊎_elim
          (λ (t : (j ≡ g) × (d ≡ x)). let y = k.closes g s c own (from s (subst (λ (y : Rec). ClosesSlot y.give s) (sym t.1) q)) in (
            y.0,
            y.1
                ∙ ap Closing (sym t.0),
          ))
          (λ (t : (j ≢ g) × HasRecord recs j x). k.closes j s x t.1 q)
          (was j x e);
    }

    pub counts_calm : d.give ≡ c.give → SlotCounts z counts top new regions slot uses
    counts_calm e = counts_same (λ s q. subst (λ (y : Give). ClosesSlot y s) (sym e) q) (λ s q. subst (λ (y : Give). ClosesSlot y s) e q)

  module _ (z : TableSizes) (states counts : ℕ → ℕ) (takes creations : ℕ) (slot page : ℕ
      → ℕ) (k : Taken z states counts recs takes creations slot page) where
    pub taken_fewer : ((p : ℕ) → 0 < occurrences p d.tried_pages → 0 < occurrences p c.tried_pages) → ((r : ℕ) → 0 < occurrences r d.tried_slots
        → 0 < occurrences r c.tried_slots)
        → Taken z states counts new takes creations slot page
    taken_fewer pages slots = record {
      pages = λ p q. k.pages p (⊎_elim (λ u. inl u) (λ u. inr (tried p u)) q);
      slots = λ s l q. k.slots s l (⊎_elim (λ u. inl u) (λ u. inr (tried_slot s u)) q);
    }
      where
        tried : (p : ℕ) → TriedPage new p → TriedPage recs p
        tried p u = ⊎_elim
            (λ (t : (u.0 ≡ g) × (d ≡ u.1)). (g, c, own, pages p (subst (λ (y : Rec). 0 < occurrences p y.tried_pages) (sym t.1) u.3)))
            (λ (t : (u.0 ≢ g) × HasRecord recs u.0 u.1). (u.0, u.1, t.1, u.3))
            (was u.0 u.1 u.2)

        tried_slot : (s : ℕ) → TriedSlot new s → TriedSlot recs s
        tried_slot s u = ⊎_elim
            (λ (t : (u.0 ≡ g) × (d ≡ u.1)). (g, c, own, slots s (subst (λ (y : Rec). 0 < occurrences s y.tried_slots) (sym t.1) u.3)))
            (λ (t : (u.0 ≢ g) × HasRecord recs u.0 u.1). (u.0, u.1, t.1, u.3))
            (was u.0 u.1 u.2)

    pub taken_same : d.tried_pages ≡ c.tried_pages → d.tried_slots ≡ c.tried_slots → Taken z states counts new takes creations slot page
    taken_same pages slots = taken_fewer (λ p l. subst (λ (m : List ℕ). 0 < occurrences p m) pages l) (λ r l. subst (λ (m : List ℕ). 0 < occurrences r m) slots l)

  -- a record that is at work on no other page
  module _ (states nexts heads : ℕ → ℕ) (at : ℕ → Place) (chain : ℕ → List ℕ) (link top : ℕ
      → ℕ) (k : Pages states nexts heads recs at chain link top) where
    pub pages_same : d.claim ≡ c.claim → d.give ≡ c.give → Pages states nexts heads new at chain link top
    pages_same claim give =
        let keep : (j : ℕ) (x : Rec) → HasRecord recs j x → (y : Rec) × HasRecord new j y × (y.claim ≡ x.claim)
        × (y.give ≡ x.give) = λ j x e. dite (ℕ_discrete j g)
        (λ s. let m = mine j x s e in (
          d,
          subst (λ (n : ℕ). HasRecord new n d) (sym s) here,
          claim ∙ ap (λ (y : Rec). y.claim) (sym m),
          give
              ∙ ap (λ (y : Rec). y.give) (sym m),
        ))
        (λ n. (x, stays j x n e, refl, refl)) in
        let back : (j : ℕ) (x : Rec) → HasRecord new j x → (y : Rec) × HasRecord recs j y × (y.claim ≡ x.claim) × (y.give ≡ x.give) = λ j x e. ⊎_elim
        (λ (t : (j ≡ g) × (d ≡ x)). (
          c,
          subst (λ (n : ℕ). HasRecord recs n c) (sym t.0) own,
          sym claim ∙ ap (λ (y : Rec). y.claim) t.1,
          sym give
              ∙ ap (λ (y : Rec). y.give) t.1,
        ))
        (λ (t : (j ≢ g) × HasRecord recs j x). (x, t.1, refl, refl))
        (was j x e) in
        record {
          is_free = k.is_free;
          is_chained = k.is_chained;
          is_claimed = λ p j e. let q = k.is_claimed p j e in let y = keep j q.1 q.2 in (q.0, y.0, y.1, y.2 ∙ q.3, q.4);
          on = k.on;
          once = k.once;
          chains = k.chains;
          links = λ p r e. ⊎_elim (λ u. inl u) (λ u. let y = keep u.0 u.1 u.2 in inr (u.0, y.0, y.1, y.2 ∙ u.3)) (k.links p r e);
          tops = λ r. ⊎_elim (λ u. inl u) (λ u. let y = keep u.0 u.1 u.2 in inr (
            u.0,
            y.0,
            y.1,
            subst (λ (x : Give). ReturnsChain x r (top r))
                (sym y.3) u.3,
          )) (k.tops r);
          gots = λ j p r x e q. let b = back j x e in k.gots j p r b.0 b.1 (b.2 ∙ q);
          hungs = λ j p r o x e q. let b = back j x e in k.hungs j p r o b.0 b.1 (b.2 ∙ q);
          cursors = λ j r h x e q. let b = back j x e in k.cursors j r h b.0 b.1 (subst (λ (y : Give). ReturnsChain y r h) (sym b.3) q);
          pasts = λ j r p q x e m. let b = back j x e in k.pasts j r p q b.0 b.1 (b.3 ∙ m);
          gaves = λ j r x e m. let b = back j x e in k.gaves j r b.0 b.1 (b.3 ∙ m);
        }
