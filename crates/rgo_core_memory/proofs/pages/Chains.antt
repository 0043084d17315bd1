-- What the accesses to pages and chains keep. Each changes one page, one slot and one record. For the others the old fact holds, and
-- `was` and two lemmas on changed functions tell the cases apart. The hard one is the swap: the true next page moves into the record.
use Rattle.std.proofs.Common.{◌≡◌, ◌≢◌, ◌⊎◌, ℕ, zero, suc, ◌<◌, ◌≤◌, List, [], ◌∷◌, slice_get, slice_set, refl, ap, sym, subst, ◌∙◌, inl, inr, ⊎_elim, arith}
use Rattle.std.proofs.lemmas.Option.{same_Some}
use Rattle.std.proofs.lemmas.Bool.Decides.{nat_tests}
use Rattle.std.proofs.lemmas.Grind.{common_steps}
use mathlib.Core.Logic.{dite}
use native.Mathlib.Decide.{ℕ_discrete}
use Rattle.rgo_core_memory.specs.Words.{put_at}
use Rattle.rgo_core_memory.specs.Records.{Rec, HasRecord, PageClaim, Idle, Got, Hung, Give, Calm, Owes, Giving, Past, Gave, ClosesSlot, ReturnsChain}
use Rattle.rgo_core_memory.specs.Pages.{occurrences, Place, Free, Chained, Claimed, PageChain, Pages}
use Rattle.rgo_core_memory.proofs.Puts.{put_here, put_else, word_new, word_else}
use Rattle.rgo_core_memory.proofs.Rows.{at_set, set_here, set_else}

pub times_first : (k x : ℕ) (xs : List ℕ) → x ≡ k → occurrences k (x ∷ xs) ≡ suc (occurrences k xs)
times_first k x xs e = grind (arith, nat_tests, common_steps)

pub times_else : (k x : ℕ) (xs : List ℕ) → x ≢ k → occurrences k (x ∷ xs) ≡ occurrences k xs
times_else k x xs e = grind (arith, nat_tests, common_steps)

pub closes_of : (z : Give) (r c : ℕ) → ReturnsChain z r c → ClosesSlot z r
closes_of Calm r c q = q
closes_of (Owes s) r c q = absurd q
closes_of (Giving s e) r c q = q.0
closes_of (Past s e f) r c q = q.0
closes_of (Gave s) r c q = absurd q

chain_same : (link more : ℕ → ℕ) (h : ℕ) (ps : List ℕ) → ((q : ℕ) → 0 < occurrences q ps → more q ≡ link q) → PageChain link h ps → PageChain more h ps
chain_same link more h [] same c = c
chain_same link more h (p ∷ ps) same c = (
  c.0,
  let s = same p (let t = times_first p p ps refl in omega arith) in rw s (chain_same link more
      (link p) ps (λ q z. same q (dite (ℕ_discrete p q) (λ e. let t = times_first q p ps e in omega arith)
      (λ ne. let t = times_else q p ps ne in omega arith))) c.1),
)

module _ (states nexts heads : ℕ → ℕ) (recs : List Rec) (at : ℕ → Place) (chain : ℕ → List ℕ) (link top : ℕ
    → ℕ) (k : Pages states nexts heads recs at chain link top)
    (g : ℕ) (h d : Rec) (own : HasRecord recs g h) (calm_same : d.give ≡ h.give) where
  abbrev new : List Rec
  new = slice_set recs g d

  here : HasRecord new g d
  here = set_here recs g d h own

  stays : (j : ℕ) (x : Rec) → j ≢ g → HasRecord recs j x → HasRecord new j x
  stays j x ne e = set_else recs g j d ne ∙ e

  was : (j : ℕ) (x : Rec) → HasRecord new j x → ((j ≡ g) × (d ≡ x)) ⊎ ((j ≢ g) × HasRecord recs j x)
  was j x e = at_set recs g j d x e

  -- what the record of a goroutine that returns a chain shows still holds
  gives : (r t : ℕ) → ((j : ℕ) × (x : Rec) × HasRecord recs j x × ReturnsChain x.give r t) → ((j : ℕ) × (x : Rec) × HasRecord new j x × ReturnsChain x.give r t)
  gives r t q = dite (ℕ_discrete q.0 g)
      (λ e. let same : q.1 ≡ h = same_Some q.1 h (sym q.2 ∙ (ap (λ (n : ℕ). slice_get recs n) e
      ∙ own)) in (g, d, here, subst (λ (z : Give). ReturnsChain z r t) (ap (λ (y : Rec). y.give) same ∙ sym calm_same) q.3))
      (λ ne. (q.0, q.1, stays q.0 q.1 ne q.2, q.3))

  cursor_same : (j r c : ℕ) (x : Rec) → HasRecord new j x → ReturnsChain x.give r c → top r ≡ c
  cursor_same j r c x e q = ⊎_elim
      (λ (t : (j ≡ g) × (d ≡ x)). k.cursors g r c h own (subst (λ (z : Give). ReturnsChain z r c) calm_same (subst (λ (y : Rec). ReturnsChain y.give r c)
      (sym t.1) q)))
      (λ (t : (j ≢ g) × HasRecord recs j x). k.cursors j r c x t.1 q)
      (was j x e)

  past_same : (j r c q : ℕ) (x : Rec) → HasRecord new j x → x.give ≡ Past r (suc c) q → link c ≡ q
  past_same j r c q x e z = ⊎_elim
      (λ (t : (j ≡ g) × (d ≡ x)). k.pasts g r c q h own (sym calm_same ∙ (ap (λ (y : Rec). y.give) t.1 ∙ z)))
      (λ (t : (j ≢ g) × HasRecord recs j x). k.pasts j r c q x t.1 z)
      (was j x e)

  gave_same : (j r : ℕ) (x : Rec) → HasRecord new j x → x.give ≡ Gave r → (heads r ≡ 0) × (chain r ≡ [])
  gave_same j r x e z = ⊎_elim
      (λ (t : (j ≡ g) × (d ≡ x)). k.gaves g r h own (sym calm_same ∙ (ap (λ (y : Rec). y.give) t.1 ∙ z)))
      (λ (t : (j ≢ g) × HasRecord recs j x). k.gaves j r x t.1 z)
      (was j x e)

  module _ (p r : ℕ) (idle_before : h.claim ≡ Idle) (after : d.claim ≡ Got p r) (found : states p ≡ 0) where
    -- it was nobody's
    was_free : at p ≡ Free
    was_free = go (at p) refl
      where
        go : (z : Place) → at p ≡ z → at p ≡ Free
        go Free e = e
        go (Chained s) e = let q = k.is_chained p s e in absurd (omega (arith, q.0))
        go (Claimed j) e = let q = k.is_claimed p j e in absurd (omega (arith, q.4))

    abbrev at' : ℕ → Place
    at' = put_at at p (Claimed g)

    other_page : (q : ℕ) (z : Place) → at q ≡ z → Free ≢ z → q ≢ p
    other_page q z e n same = n (sym was_free ∙ (ap at (sym same) ∙ e))

    -- a claim that found 0
    pub claims : Pages (put_at states p (suc r)) nexts heads new at' chain link top
    claims = record {
      is_free = λ q e. dite (ℕ_discrete q p) (λ s. absurd (cc (put_here at p (Claimed g) q s, e))) (λ n. word_else states p q (suc r) n
          ∙ k.is_free q (sym (put_else at p (Claimed g) q n) ∙ e));
      is_chained = λ q s e. dite (ℕ_discrete q p) (λ y. absurd (cc (put_here at p (Claimed g) q y, e))) (λ n. let z = k.is_chained q s (sym
          (put_else at p (Claimed g) q n) ∙ e) in (word_else states p q (suc r) n ∙ z.0, z.1));
      is_claimed = λ q j e. dite (ℕ_discrete q p)
          (λ y. let same : g ≡ j = cc (put_here at p (Claimed g) q y, e) in (
            r,
            d,
            subst (λ (n : ℕ). HasRecord new n d) same here,
            rw y after,
            rw y
                (word_new states p (suc r)),
          ))
          (λ n. let z = k.is_claimed q j (sym (put_else at p (Claimed g) q n) ∙ e) in
          let ne : j ≢ g = λ s. let same : z.1 ≡ h = same_Some z.1 h (sym z.2 ∙ (ap (λ (i : ℕ). slice_get recs i) s
          ∙ own)) in let y : Got q z.0 ≡ Idle = sym z.3 ∙ (ap (λ (x : Rec). x.claim) same ∙ idle_before) in absurd (cc y) in
          (z.0, z.1, stays j z.1 ne z.2, z.3, word_else states p q (suc r) n ∙ z.4));
      on = λ s q e. let z = k.on s q e in put_else at p (Claimed g) q (other_page q (Chained s) z (λ y. cc y)) ∙ z;
      once = k.once;
      chains = k.chains;
      links = λ q s e. dite (ℕ_discrete q p) (λ y. absurd (cc (put_here at p (Claimed g) q y, e)))
          (λ n. ⊎_elim (λ u. inl u) (λ u. inr (
            u.0,
            u.1,
            stays u.0 u.1 (λ s'. let same : u.1 ≡ h = same_Some u.1 h (sym u.2
                ∙ (ap (λ (i : ℕ). slice_get recs i) s' ∙ own)) in let y : Hung q s (link q) ≡ Idle = sym u.3 ∙ (ap (λ (x : Rec). x.claim) same
                ∙ idle_before) in absurd (cc y)) u.2,
            u.3,
          ))
          (k.links q s (sym (put_else at p (Claimed g) q n) ∙ e)));
      tops = λ s. ⊎_elim (λ u. inl u) (λ u. inr (gives s (top s) u)) (k.tops s);
      gots = λ j q s x e c. ⊎_elim
          (λ (t : (j ≡ g) × (d ≡ x)). let y : Got p r ≡ Got q s = sym after ∙ (ap (λ (x : Rec). x.claim) t.1
          ∙ c) in let a : p ≡ q = cc y in let b : r ≡ s = cc y in (
            put_here at p (Claimed g) q (sym a)
                ∙ ap Claimed (sym t.0),
            rw (← a, ← b) (word_new states p (suc r)),
          ))
          (λ (t : (j ≢ g) × HasRecord recs j x). let z = k.gots j q s x t.1 c in let n = other_page q (Claimed j) z.0 (λ y. cc y) in (
            put_else at p
                (Claimed g) q n ∙ z.0,
            word_else states p q (suc r) n ∙ z.1,
          ))
          (was j x e);
      hungs = λ j q s old x e c. ⊎_elim
          (λ (t : (j ≡ g) × (d ≡ x)). let y : Got p r ≡ Hung q s old = sym after ∙ (ap (λ (x : Rec). x.claim) t.1 ∙ c) in absurd (cc y))
          (λ (t : (j ≢ g) × HasRecord recs j x). let z = k.hungs j q s old x t.1 c in (
            put_else at p (Claimed g) q (other_page q (Chained s) z.0
                (λ y. cc y)) ∙ z.0,
            z.1,
          ))
          (was j x e);
      cursors = cursor_same;
      pasts = past_same;
      gaves = gave_same;
    }

  module _ (p r : ℕ) (before : h.claim ≡ Got p r) (after : d.claim ≡ Hung p r (heads r))
      (nobody : (j : ℕ) (x : Rec) → HasRecord recs j x → ClosesSlot x.give r → ⊥) where
    abbrev old : ℕ
    old = heads r

    own_page : at p ≡ Claimed g
    own_page = (k.gots g p r h own before).0

    off_chain : (s q : ℕ) → 0 < occurrences q (chain s) → q ≢ p
    off_chain s q e same = let y : Claimed g ≡ Chained s = sym own_page ∙ (ap at (sym same) ∙ k.on s q e) in absurd (cc y)

    top_is : top r ≡ old
    top_is = ⊎_elim (λ u. u) (λ u. absurd (nobody u.0 u.1 u.2 (closes_of u.1.give r (top r) u.3))) (k.tops r)

    not_mine : (j : ℕ) (x : Rec) (c : PageClaim) → HasRecord recs j x → x.claim ≡ c → Got p r ≢ c → j ≢ g
    not_mine j x c e e' n s = let same : x ≡ h = same_Some x h (sym e ∙ (ap (λ (i : ℕ). slice_get recs i) s ∙ own)) in n (sym before
        ∙ (ap (λ (y : Rec). y.claim) (sym same) ∙ e'))

    -- a goroutine that closes the slot afterwards closed it before
    nobody_now : (j : ℕ) (x : Rec) → HasRecord new j x → ClosesSlot x.give r → ⊥
    nobody_now j x e q = ⊎_elim
        (λ (t : (j ≡ g) × (d ≡ x)). nobody g h own (subst (λ (z : Give). ClosesSlot z r) calm_same (subst (λ (y : Rec). ClosesSlot y.give r) (sym t.1) q)))
        (λ (t : (j ≢ g) × HasRecord recs j x). nobody j x t.1 q)
        (was j x e)

    -- the page at a cursor is the first of its chain
    cursor_on : (s c : ℕ) → top s ≡ suc c → 0 < occurrences c (chain s)
    cursor_on s c e = go (chain s) (subst (λ (z : ℕ). PageChain link z (chain s)) e (k.chains s))
      where
        go : (l : List ℕ) → PageChain link (suc c) l → 0 < occurrences c l
        go [] w = absurd (omega arith)
        go (x ∷ l) w = let t = times_first c x l (let y = w.0 in omega arith) in omega arith

    abbrev at2 : ℕ → Place
    at2 = put_at at p (Chained r)

    abbrev chain2 : ℕ → List ℕ
    chain2 = put_at chain r (p ∷ chain r)

    abbrev link2 : ℕ → ℕ
    link2 = put_at link p old

    abbrev top2 : ℕ → ℕ
    top2 = put_at top r (suc p)

    longer : (s q : ℕ) → occurrences q (chain s) ≤ occurrences q (chain2 s)
    longer s q = dite (ℕ_discrete s r)
        (λ e. rw (put_here chain r (p ∷ chain r) s e, e) (dite (ℕ_discrete p q) (λ y. let t = times_first q p (chain r) y in omega arith)
        (λ n. let t = times_else q p (chain r) n in omega arith)))
        (λ n. rw (put_else chain r (p ∷ chain r) s n) (omega arith))

    -- a page is hung into its chain
    pub hangs : Pages states nexts (put_at heads r (suc p)) new at2 chain2 link2 top2
    hangs = record {
      is_free = λ q e. dite (ℕ_discrete q p) (λ s. absurd (cc (put_here at p (Chained r) q s, e))) (λ n. k.is_free q (sym (put_else at p
          (Chained r) q n) ∙ e));
      is_chained = λ q s e. dite (ℕ_discrete q p)
          (λ y. let same : r ≡ s = cc (put_here at p (Chained r) q y, e) in (
            rw (y, ← same) (k.gots g p r h own before).1,
            rw (put_here chain r
                (p ∷ chain r) s (sym same)) (let t = times_first q p (chain r) (sym y) in omega arith),
          ))
          (λ n. let z = k.is_chained q s (sym (put_else at p (Chained r) q n) ∙ e) in let l = longer s q in (z.0, (let m = z.1 in omega arith)));
      is_claimed = λ q j e. dite (ℕ_discrete q p)
          (λ y. absurd (cc (put_here at p (Chained r) q y, e)))
          (λ n. let z = k.is_claimed q j (sym (put_else at p (Chained r) q n)
          ∙ e) in (z.0, z.1, stays j z.1 (not_mine j z.1 (Got q z.0) z.2 z.3 (λ y. n (cc y))) z.2, z.3, z.4));
      on = λ s q e. dite (ℕ_discrete q p)
          (λ y. dite (ℕ_discrete s r) (λ e'. put_here at p (Chained r) q y
          ∙ ap Chained (sym e')) (λ n. absurd (off_chain s q (subst (λ (l : List ℕ). 0 < occurrences q l) (put_else chain r (p ∷ chain r) s n) e) y)))
          (λ n. put_else at p (Chained r) q n ∙ dite (ℕ_discrete s r)
          (λ e'. let w : 0 < occurrences q (p ∷ chain r) = subst (λ (l : List ℕ). 0 < occurrences q l) (put_here chain r
          (p ∷ chain r) s e') e in let t = times_else q p (chain r) (λ y. n (sym y)) in k.on r q (omega arith) ∙ ap Chained (sym e'))
          (λ n'. k.on s q (subst (λ (l : List ℕ). 0 < occurrences q l) (put_else chain r (p ∷ chain r) s n') e)));
      once = λ s q. dite (ℕ_discrete s r)
          (λ e. rw (put_here chain r (p ∷ chain r) s e) (dite (ℕ_discrete p q)
          (λ y. let t = times_first q p (chain r) y in let z = none_of (occurrences q (chain r)) (λ m. off_chain r q m (sym y)) in omega arith)
          (λ n. let t = times_else q p (chain r) n in let o = k.once r q in omega arith)))
          (λ n. rw (put_else chain r (p ∷ chain r) s n) (k.once s q));
      chains = λ s. dite (ℕ_discrete s r)
          (λ e. rw (put_here chain r (p ∷ chain r) s e, put_here top r (suc p) s e) (
            refl,
            rw (put_here link p old p refl)
                (chain_same link link2 old (chain r) (λ q m. put_else link p old q (off_chain r q m)) (rw (← top_is) (k.chains r))),
          ))
          (λ n. rw (put_else chain r (p ∷ chain r) s n, put_else top r (suc p) s n) (chain_same link link2 (top s) (chain s)
          (λ q m. put_else link p old q (off_chain s q m)) (k.chains s)));
      links = λ q s e. dite (ℕ_discrete q p)
          (λ y. let same : r ≡ s = cc (put_here at p (Chained r) q y, e) in inr (g, d, here, rw (y, put_here link p old p refl, ← same) after))
          (λ n. rw (put_else link p old q n) (⊎_elim (λ u. inl u) (λ u. inr (
            u.0,
            u.1,
            stays u.0 u.1 (not_mine u.0 u.1 (Hung q s (link q)) u.2 u.3
                (λ y. cc y)) u.2,
            u.3,
          )) (k.links q s (sym (put_else at p (Chained r) q n) ∙ e))));
      tops = λ s. dite (ℕ_discrete s r)
          (λ e. inl (put_here top r (suc p) s e ∙ rw e (sym (word_new heads r (suc p)))))
          (λ n. rw (put_else top r (suc p) s n) (⊎_elim (λ u. inl (u
          ∙ sym (word_else heads r s (suc p) n))) (λ u. inr (gives s (top s) u)) (k.tops s)));
      gots = λ j q s x e c. ⊎_elim
          (λ (t : (j ≡ g) × (d ≡ x)). let y : Hung p r old ≡ Got q s = sym after ∙ (ap (λ (x : Rec). x.claim) t.1 ∙ c) in absurd (cc y))
          (λ (t : (j ≢ g) × HasRecord recs j x). let z = k.gots j q s x t.1 c in let n : q ≢ p = λ y. t.0 (let w : Claimed j ≡ Claimed g = sym z.0
          ∙ (ap at y ∙ own_page) in cc w) in (put_else at p (Chained r) q n ∙ z.0, z.1))
          (was j x e);
      hungs = λ j q s o x e c. ⊎_elim
          (λ (t : (j ≡ g) × (d ≡ x)). let y : Hung p r old ≡ Hung q s o = sym after ∙ (ap (λ (x : Rec). x.claim) t.1
          ∙ c) in let a : p ≡ q = cc y in let b : r ≡ s = cc y in let w : old ≡ o = cc y in (
            put_here at p (Chained r) q (sym a)
                ∙ ap Chained b,
            put_here link p old q (sym a) ∙ w,
          ))
          (λ (t : (j ≢ g) × HasRecord recs j x). let z = k.hungs j q s o x t.1 c in let n : q ≢ p = λ y. let w : Chained s ≡ Claimed g = sym z.0
          ∙ (ap at y ∙ own_page) in absurd (cc w) in (put_else at p (Chained r) q n ∙ z.0, put_else link p old q n ∙ z.1))
          (was j x e);
      cursors = λ j s c x e q. dite (ℕ_discrete s r)
          (λ y. absurd (nobody_now j x e (subst (ClosesSlot x.give) y (closes_of x.give s c q))))
          (λ n. put_else top r (suc p) s n ∙ cursor_same j s c x e q);
      pasts = λ j s c q x e z. dite (ℕ_discrete c p)
          (λ y. let w : top s ≡ suc c = cursor_same j s (suc c) x e (rw z (refl, refl)) in absurd (off_chain s c (cursor_on s c w) y))
          (λ n. put_else link p old c n ∙ past_same j s c q x e z);
      gaves = λ j s x e z. dite (ℕ_discrete s r)
          (λ y. absurd (nobody_now j x e (rw z y)))
          (λ n. let w = gave_same j s x e z in (word_else heads r s (suc p) n ∙ w.0, put_else chain r (p ∷ chain r) s n ∙ w.1));
    }
      where
        none_of : (n : ℕ) → (0 < n → ⊥) → n ≡ 0
        none_of zero f = refl
        none_of (suc n) f = absurd (f (omega arith))

  module _ (p r o : ℕ) (before : h.claim ≡ Hung p r o) (after : d.claim ≡ Idle) where
    other : (j : ℕ) (x : Rec) (c : PageClaim) → HasRecord recs j x → x.claim ≡ c → Hung p r o ≢ c → j ≢ g
    other j x c e e' n s = let same : x ≡ h = same_Some x h (sym e ∙ (ap (λ (i : ℕ). slice_get recs i) s ∙ own)) in n (sym before
        ∙ (ap (λ (y : Rec). y.claim) (sym same) ∙ e'))

    -- the link to the next page
    pub stores_next : Pages states (put_at nexts p o) heads new at chain link top
    stores_next = record {
      is_free = k.is_free;
      is_chained = k.is_chained;
      is_claimed = λ q j e. let z = k.is_claimed q j e in (z.0, z.1, stays j z.1 (other j z.1 (Got q z.0) z.2 z.3 (λ y. cc y)) z.2, z.3, z.4);
      on = k.on;
      once = k.once;
      chains = k.chains;
      links = λ q s e. dite (ℕ_discrete q p)
          (λ y. inl (rw y (word_new nexts p o ∙ sym (k.hungs g p r o h own before).1)))
          (λ n. ⊎_elim (λ u. inl (word_else nexts p q o n
          ∙ u)) (λ u. inr (u.0, u.1, stays u.0 u.1 (other u.0 u.1 (Hung q s (link q)) u.2 u.3 (λ y. n (cc y))) u.2, u.3)) (k.links q s e));
      tops = λ s. ⊎_elim (λ u. inl u) (λ u. inr (gives s (top s) u)) (k.tops s);
      gots = λ j q s x e c. ⊎_elim
          (λ (t : (j ≡ g) × (d ≡ x)). let y : Idle ≡ Got q s = sym after ∙ (ap (λ (x : Rec). x.claim) t.1 ∙ c) in absurd (cc y))
          (λ (t : (j ≢ g) × HasRecord recs j x). k.gots j q s x t.1 c)
          (was j x e);
      hungs = λ j q s o' x e c. ⊎_elim
          (λ (t : (j ≡ g) × (d ≡ x)). let y : Idle ≡ Hung q s o' = sym after ∙ (ap (λ (x : Rec). x.claim) t.1 ∙ c) in absurd (cc y))
          (λ (t : (j ≢ g) × HasRecord recs j x). k.hungs j q s o' x t.1 c)
          (was j x e);
      cursors = cursor_same;
      pasts = past_same;
      gaves = gave_same;
    }

-- a page is freed: it is the first one of its chain
module _ (states nexts heads : ℕ → ℕ) (recs : List Rec) (at : ℕ → Place) (chain : ℕ → List ℕ) (link top : ℕ
    → ℕ) (k : Pages states nexts heads recs at chain link top)
    (g : ℕ) (h d : Rec) (own : HasRecord recs g h) (same_claim : d.claim ≡ h.claim)
    (p r q : ℕ) (ps : List ℕ) (before : h.give ≡ Past r (suc p) q) (after : d.give ≡ Giving r q) (is_chain : chain r ≡ p ∷ ps) (is_link : link p ≡ q)
    (alone : (j : ℕ) (x : Rec) → HasRecord recs j x → ClosesSlot x.give r → j ≡ g) (unclaimed : (j s o : ℕ) (x : Rec) → HasRecord recs j x → x.claim ≡ Hung p s o
    → ⊥) where
  abbrev at3 : ℕ → Place
  at3 = put_at at p Free

  abbrev chain3 : ℕ → List ℕ
  chain3 = put_at chain r ps

  abbrev top3 : ℕ → ℕ
  top3 = put_at top r q

  abbrev new3 : List Rec
  new3 = slice_set recs g d

  there : HasRecord new3 g d
  there = set_here recs g d h own

  keep : (j : ℕ) (x : Rec) → HasRecord recs j x → (y : Rec) × HasRecord new3 j y × (y.claim ≡ x.claim)
  keep j x e = dite (ℕ_discrete j g)
      (λ s. let same : x ≡ h = same_Some x h (sym e ∙ (ap (λ (i : ℕ). slice_get recs i) s
      ∙ own)) in (d, subst (λ (n : ℕ). HasRecord new3 n d) (sym s) there, same_claim ∙ ap (λ (y : Rec). y.claim) (sym same)))
      (λ n. (x, set_else recs g j d n ∙ e, refl))

  back : (j : ℕ) (x : Rec) → HasRecord new3 j x → (y : Rec) × HasRecord recs j y × (y.claim ≡ x.claim)
  back j x e = ⊎_elim (λ (t : (j ≡ g) × (d ≡ x)). (
    h,
    subst (λ (n : ℕ). HasRecord recs n h) (sym t.0) own,
    sym same_claim
        ∙ ap (λ (y : Rec). y.claim) t.1,
  )) (λ (t : (j ≢ g) × HasRecord recs j x). (x, t.1, refl)) (at_set recs g j d x e)

  first_on : at p ≡ Chained r
  first_on = k.on r p (rw is_chain (let t = times_first p p ps refl in omega arith))

  gone : occurrences p ps ≡ 0
  gone = let o : occurrences p (p ∷ ps) ≤ 1 = subst (λ (l : List ℕ). occurrences p l ≤ 1) is_chain (k.once r p) in let t = times_first p p ps refl in omega arith

  rest : (s z : ℕ) → 0 < occurrences z (chain3 s) → (0 < occurrences z (chain s)) × (z ≢ p)
  rest s z e = dite (ℕ_discrete s r)
      (λ y. let w : 0 < occurrences z ps = subst (λ (l : List ℕ). 0 < occurrences z l) (put_here chain r ps s y) e in (
        rw (y, is_chain) (dite (ℕ_discrete p z) (λ m. let t = times_first z p ps m in omega arith)
            (λ n. let t = times_else z p ps n in omega arith)),
        λ m. let v : occurrences z ps ≡ 0 = rw m gone in omega arith,
      ))
      (λ n. let w : 0 < occurrences z (chain s) = subst (λ (l : List ℕ). 0 < occurrences z l) (put_else chain r ps s n) e in (
        w,
        λ m. n
            (let v : Chained s ≡ Chained r = sym (k.on s z w) ∙ (ap at m ∙ first_on) in cc v),
      ))

  pub frees : Pages (put_at states p 0) nexts heads new3 at3 chain3 link top3
  frees = record {
    is_free = λ z e. dite (ℕ_discrete z p) (λ y. rw y (word_new states p 0)) (λ n. word_else states p z 0 n
        ∙ k.is_free z (sym (put_else at p Free z n) ∙ e));
    is_chained = λ z s e. dite (ℕ_discrete z p) (λ y. absurd (cc (put_here at p Free z y, e)))
        (λ n. let w = k.is_chained z s (sym (put_else at p Free z n) ∙ e) in (
          word_else states p z 0 n ∙ w.0,
          dite (ℕ_discrete s r)
              (λ y. rw (put_here chain r ps s y) (let v : 0 < occurrences z (p ∷ ps) = subst (λ (l : List ℕ). 0 < occurrences z l) (ap chain y
              ∙ is_chain) w.1 in let t = times_else z p ps (λ m. n (sym m)) in omega arith))
              (λ n'. rw (put_else chain r ps s n') w.1),
        ));
    is_claimed = λ z j e. dite (ℕ_discrete z p) (λ y. absurd (cc (put_here at p Free z y, e)))
        (λ n. let w = k.is_claimed z j (sym (put_else at p Free z n) ∙ e) in let v = keep j w.1 w.2 in (
          w.0,
          v.0,
          v.1,
          v.2
              ∙ w.3,
          word_else states p z 0 n ∙ w.4,
        ));
    on = λ s z e. let w = rest s z e in put_else at p Free z w.1 ∙ k.on s z w.0;
    once = λ s z. dite (ℕ_discrete s r)
        (λ y. rw (put_here chain r ps s y) (let o : occurrences z (p ∷ ps) ≤ 1 = subst (λ (l : List ℕ). occurrences z l ≤ 1) is_chain (k.once r z) in dite
        (ℕ_discrete p z) (λ m. let t = times_first z p ps m in omega arith) (λ n. let t = times_else z p ps n in omega arith)))
        (λ n. rw (put_else chain r ps s n) (k.once s z));
    chains = λ s. dite (ℕ_discrete s r)
        (λ y. rw (put_here chain r ps s y, put_here top r q s y, ← is_link) (let c : PageChain link (top r) (p ∷ ps) = subst (λ
        (l : List ℕ). PageChain link (top r) l) is_chain (k.chains r) in c.1))
        (λ n. rw (put_else chain r ps s n, put_else top r q s n) (k.chains s));
    links = λ z s e. dite (ℕ_discrete z p) (λ y. absurd (cc (put_here at p Free z y, e)))
        (λ n. ⊎_elim (λ u. inl u) (λ u. let v = keep u.0 u.1 u.2 in inr (u.0, v.0, v.1, v.2 ∙ u.3)) (k.links z s (sym (put_else at p Free z n) ∙ e)));
    tops = λ s. dite (ℕ_discrete s r)
        (λ y. inr (g, d, there, rw (after, put_here top r q s y) (sym y, refl)))
        (λ n. rw (put_else top r q s n) (⊎_elim (λ u. inl u) (λ u. inr (
          u.0,
          u.1,
          set_else recs g u.0 d (λ m. let same : u.1 ≡ h = same_Some u.1 h
              (sym u.2 ∙ (ap (λ (i : ℕ). slice_get recs i) m
              ∙ own)) in let v : ReturnsChain (Past r (suc p) q) s (top s) = subst (λ (x : Give). ReturnsChain x s (top s)) (ap (λ (y : Rec). y.give) same
              ∙ before) u.3 in n (sym v.0)) ∙ u.2,
          u.3,
        )) (k.tops s)));
    gots = λ j z s x e c. let b = back j x e in let w = k.gots j z s b.0 b.1 (b.2
        ∙ c) in let n : z ≢ p = λ m. let v : Claimed j ≡ Chained r = sym w.0 ∙ (ap at m ∙ first_on) in absurd (cc v) in (
          put_else at p Free z n
              ∙ w.0,
          word_else states p z 0 n ∙ w.1,
        );
    hungs = λ j z s o x e c. let b = back j x e in let w = k.hungs j z s o b.0 b.1 (b.2 ∙ c) in let n : z ≢ p = λ m. unclaimed j s o b.0 b.1 (b.2
        ∙ (c ∙ ap (λ (i : ℕ). Hung i s o) m)) in (put_else at p Free z n ∙ w.0, w.1);
    cursors = λ j s c x e z. ⊎_elim
        (λ (t : (j ≡ g) × (d ≡ x)). let w : ReturnsChain (Giving r q) s c = subst (λ (y : Give). ReturnsChain y s c) after (subst (λ (y : Rec). ReturnsChain y.give s c)
        (sym t.1) z) in put_here top r q s (sym w.0) ∙ w.1)
        (λ (t : (j ≢ g) × HasRecord recs j x). put_else top r q s (λ y. t.0 (alone j x t.1 (subst (ClosesSlot x.give) y (closes_of x.give s c z))))
        ∙ k.cursors j s c x t.1 z)
        (at_set recs g j d x e);
    pasts = λ j s c o x e z. ⊎_elim
        (λ (t : (j ≡ g) × (d ≡ x)). let w : Giving r q ≡ Past s (suc c) o = sym after ∙ (ap (λ (y : Rec). y.give) t.1 ∙ z) in absurd (cc w))
        (λ (t : (j ≢ g) × HasRecord recs j x). k.pasts j s c o x t.1 z)
        (at_set recs g j d x e);
    gaves = λ j s x e z. ⊎_elim
        (λ (t : (j ≡ g) × (d ≡ x)). let w : Giving r q ≡ Gave s = sym after ∙ (ap (λ (y : Rec). y.give) t.1 ∙ z) in absurd (cc w))
        (λ (t : (j ≢ g) × HasRecord recs j x). let w = k.gaves j s x t.1 z in (w.0, put_else chain r ps s (λ y. t.0 (alone j x t.1 (rw z y))) ∙ w.1))
        (at_set recs g j d x e);
  }
