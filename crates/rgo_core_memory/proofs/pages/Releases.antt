-- A chain is returned, page by page. All accesses change only the stage of one record (`give_change`), so each has to show what its new
-- stage says of the true head. Nobody hangs a page there meanwhile, by a premise that stakes provide.
use Rattle.std.proofs.Common.{◌≡◌, ◌≢◌, ◌⊎◌, ℕ, suc, List, [], ◌∷◌, slice_get, slice_set, refl, ap, sym, subst, ◌∙◌, inl, inr, ⊎_elim, arith}
use Rattle.std.proofs.lemmas.Option.{same_Some}
use mathlib.Core.Logic.{dite}
use native.Mathlib.Decide.{ℕ_discrete}
use Rattle.rgo_core_memory.specs.Words.{put_at}
use Rattle.rgo_core_memory.specs.Records.{Rec, HasRecord, Hung, Give, Calm, Owes, Giving, Past, Gave, ClosesSlot, ReturnsChain}
use Rattle.rgo_core_memory.specs.Pages.{Place, Free, PageChain, Pages}
use Rattle.rgo_core_memory.proofs.Puts.{word_new, word_else}
use Rattle.rgo_core_memory.proofs.Rows.{at_set, set_here, set_else}
use Rattle.rgo_core_memory.proofs.pages.Chains.{times_first, closes_of, frees}

module _ (states nexts heads : ℕ → ℕ) (recs : List Rec) (at : ℕ → Place) (chain : ℕ → List ℕ) (link top : ℕ
    → ℕ) (k : Pages states nexts heads recs at chain link top)
    (g : ℕ) (h d : Rec) (own : HasRecord recs g h) (same_claim : d.claim ≡ h.claim) where
  abbrev new : List Rec
  new = slice_set recs g d

  there : HasRecord new g d
  there = set_here recs g d h own

  mine : (j : ℕ) (x : Rec) → j ≡ g → HasRecord recs j x → x ≡ h
  mine j x s e = same_Some x h (sym e ∙ (ap (λ (i : ℕ). slice_get recs i) s ∙ own))

  keep : (j : ℕ) (x : Rec) → HasRecord recs j x → (y : Rec) × HasRecord new j y × (y.claim ≡ x.claim)
  keep j x e = dite (ℕ_discrete j g)
      (λ s. (d, subst (λ (n : ℕ). HasRecord new n d) (sym s) there, same_claim ∙ ap (λ (y : Rec). y.claim) (sym (mine j x s e))))
      (λ n. (x, set_else recs g j d n ∙ e, refl))

  back : (j : ℕ) (x : Rec) → HasRecord new j x → (y : Rec) × HasRecord recs j y × (y.claim ≡ x.claim)
  back j x e = ⊎_elim (λ (t : (j ≡ g) × (d ≡ x)). (
    h,
    subst (λ (n : ℕ). HasRecord recs n h) (sym t.0) own,
    sym same_claim
        ∙ ap (λ (y : Rec). y.claim) t.1,
  )) (λ (t : (j ≢ g) × HasRecord recs j x). (x, t.1, refl)) (at_set recs g j d x e)

  -- only the stage of one record changes, and perhaps a head
  give_change : (more : ℕ → ℕ)
      → ((s : ℕ) → (top s ≡ more s) ⊎ ((j : ℕ) × (x : Rec) × HasRecord new j x × ReturnsChain x.give s (top s)))
      → ((s c : ℕ) → ReturnsChain d.give s c → top s ≡ c) → ((s p q : ℕ) → d.give ≡ Past s (suc p) q → link p ≡ q) → ((s : ℕ) → d.give ≡ Gave s
      → (more s ≡ 0) × (chain s ≡ []))
      → ((j s : ℕ) (x : Rec) → HasRecord recs j x → x.give ≡ Gave s → more s ≡ 0)
      → Pages states nexts more new at chain link top
  give_change more tops cursors pasts gaves others = record {
    is_free = k.is_free;
    is_chained = k.is_chained;
    is_claimed = λ p j e. let z = k.is_claimed p j e in let y = keep j z.1 z.2 in (z.0, y.0, y.1, y.2 ∙ z.3, z.4);
    on = k.on;
    once = k.once;
    chains = k.chains;
    links = λ p r e. ⊎_elim (λ u. inl u) (λ u. let y = keep u.0 u.1 u.2 in inr (u.0, y.0, y.1, y.2 ∙ u.3)) (k.links p r e);
    tops = tops;
    gots = λ j p r x e c. let b = back j x e in k.gots j p r b.0 b.1 (b.2 ∙ c);
    hungs = λ j p r o x e c. let b = back j x e in k.hungs j p r o b.0 b.1 (b.2 ∙ c);
    cursors = λ j s c x e q. ⊎_elim
        (λ (t : (j ≡ g) × (d ≡ x)). cursors s c (subst (λ (y : Rec). ReturnsChain y.give s c) (sym t.1) q))
        (λ (t : (j ≢ g) × HasRecord recs j x). k.cursors j s c x t.1 q)
        (at_set recs g j d x e);
    pasts = λ j s p q x e z. ⊎_elim
        (λ (t : (j ≡ g) × (d ≡ x)). pasts s p q (ap (λ (y : Rec). y.give) t.1 ∙ z))
        (λ (t : (j ≢ g) × HasRecord recs j x). k.pasts j s p q x t.1 z)
        (at_set recs g j d x e);
    gaves = λ j s x e z. ⊎_elim
        (λ (t : (j ≡ g) × (d ≡ x)). gaves s (ap (λ (y : Rec). y.give) t.1 ∙ z))
        (λ (t : (j ≢ g) × HasRecord recs j x). (others j s x t.1 z, (k.gaves j s x t.1 z).1))
        (at_set recs g j d x e);
  }

  -- a slot that this record does not return
  still : (s : ℕ) → ((c : ℕ) → ReturnsChain h.give s c → ⊥) → (top s ≡ heads s) ⊎ ((j : ℕ) × (x : Rec) × HasRecord new j x × ReturnsChain x.give s (top s))
  still s none = ⊎_elim (λ u. inl u)
      (λ u. inr (
        u.0,
        u.1,
        set_else recs g u.0 d (λ m. none (top s) (subst (λ (y : Rec). ReturnsChain y.give s (top s)) (mine u.0 u.1 m u.2) u.3))
            ∙ u.2,
        u.3,
      ))
      (k.tops s)

  -- the page at a cursor is the first of its chain
  pub first_is : (s c : ℕ) → top s ≡ suc c → (ps : List ℕ) × (chain s ≡ c ∷ ps)
  first_is s c e = go (chain s) refl (subst (λ (z : ℕ). PageChain link z (chain s)) e (k.chains s))
    where
      go : (l : List ℕ) → chain s ≡ l → PageChain link (suc c) l → (ps : List ℕ) × (chain s ≡ c ∷ ps)
      go [] q w = absurd (omega arith)
      go (x ∷ l) q w = (l, let y : c ≡ x = (let v = w.0 in omega arith) in rw y q)

  pub none_left : (s : ℕ) → top s ≡ 0 → chain s ≡ []
  none_left s e = go (chain s) refl (subst (λ (z : ℕ). PageChain link z (chain s)) e (k.chains s))
    where
      go : (l : List ℕ) → chain s ≡ l → PageChain link 0 l → chain s ≡ []
      go [] q w = q
      go (x ∷ l) q w = absurd (let v = w.0 in omega arith)

  -- a leave that found the last stake
  pub owes_now : (r : ℕ) → h.give ≡ Calm → d.give ≡ Owes r → Pages states nexts heads new at chain link top
  owes_now r before after = give_change heads
      (λ s. still s (λ c q. subst (λ (y : Give). ReturnsChain y s c) before q))
      (λ s c q. absurd (subst (λ (y : Give). ReturnsChain y s c) after q))
      (λ s p q e. absurd (let w : Owes r ≡ Past s (suc p) q = sym after ∙ e in cc w))
      (λ s e. absurd (let w : Owes r ≡ Gave s = sym after ∙ e in cc w))
      (λ j s x e z. (k.gaves j s x e z).0)

  module _ (r : ℕ) (alone : (j : ℕ) (x : Rec) → HasRecord recs j x → ClosesSlot x.give r → j ≡ g) where
    -- the load of a chain's head
    pub loads_head : h.give ≡ Owes r → d.give ≡ Giving r (heads r) → Pages states nexts heads new at chain link top
    loads_head before after = give_change heads
        (λ s. still s (λ c q. subst (λ (y : Give). ReturnsChain y s c) before q))
        (λ s c q. let w : ReturnsChain (Giving r (heads r)) s c = subst (λ (y : Give). ReturnsChain y s c) after q in rw (← w.0) (is_head ∙ w.1))
        (λ s p q e. absurd (let w : Giving r (heads r) ≡ Past s (suc p) q = sym after ∙ e in cc w))
        (λ s e. absurd (let w : Giving r (heads r) ≡ Gave s = sym after ∙ e in cc w))
        (λ j s x e z. (k.gaves j s x e z).0)
      where
        is_head : top r ≡ heads r
        is_head = ⊎_elim (λ u. u) (λ u. let s = alone u.0 u.1 u.2 (closes_of u.1.give r (top r) u.3) in absurd (subst (λ (y : Give). ReturnsChain y r
            (top r)) (ap (λ (y : Rec). y.give) (mine u.0 u.1 s u.2) ∙ before) u.3)) (k.tops r)

    -- the load of a page's next word
    pub loads_next : (p : ℕ) → h.give ≡ Giving r (suc p) → d.give ≡ Past r (suc p) (nexts p) → ((j s o : ℕ) (x : Rec) → HasRecord recs j x
        → x.claim ≡ Hung p s o → ⊥) → Pages states nexts heads new at chain link top
    loads_next p before after unclaimed = give_change heads
        (λ s. ⊎_elim (λ u. inl u)
        (λ u. dite (ℕ_discrete u.0 g)
        (λ m. let w : ReturnsChain (Giving r (suc p)) s (top s) = subst (λ (y : Give). ReturnsChain y s (top s)) (ap (λ (y : Rec). y.give) (mine u.0 u.1 m u.2)
        ∙ before) u.3 in inr (g, d, there, subst (λ (y : Give). ReturnsChain y s (top s)) (sym after) w))
        (λ n. inr (u.0, u.1, set_else recs g u.0 d n ∙ u.2, u.3)))
        (k.tops s))
        (λ s c q. let w : ReturnsChain (Past r (suc p) (nexts p)) s c = subst (λ (y : Give). ReturnsChain y s c) after q in k.cursors g s c h own (subst (λ
        (y : Give). ReturnsChain y s c) (sym before) w))
        (λ s c q e. let w : Past r (suc p) (nexts p) ≡ Past s (suc c) q = sym after
        ∙ e in let a : suc p ≡ suc c = cc w in let b : nexts p ≡ q = cc w in let same : p ≡ c = omega arith in rw (← same) (next_is ∙ b))
        (λ s e. absurd (let w : Past r (suc p) (nexts p) ≡ Gave s = sym after ∙ e in cc w))
        (λ j s x e z. (k.gaves j s x e z).0)
      where
        next_is : link p ≡ nexts p
        next_is =
            let t = k.cursors g r (suc p) h own (rw before (refl, refl)) in
            let c = first_is r p t in
            let o = k.on r p (rw c.1 (let f = times_first p p c.0 refl in omega arith)) in
            ⊎_elim (λ u. sym u) (λ u. absurd (unclaimed u.0 r (link p) u.1 u.2 u.3)) (k.links p r o)

    -- a chain's head is cleared
    pub clears_head : h.give ≡ Giving r 0 → d.give ≡ Gave r → Pages states nexts (put_at heads r 0) new at chain link top
    clears_head before after = give_change (put_at heads r 0)
        (λ s. dite (ℕ_discrete s r)
        (λ y. inl (rw y (empty ∙ sym (word_new heads r 0))))
        (λ n. ⊎_elim (λ u. inl (u
        ∙ sym (word_else heads r s 0 n))) (λ u. inr u) (still s (λ c q. n (let w : ReturnsChain (Giving r 0) s c = subst (λ
        (y : Give). ReturnsChain y s c) before q in sym w.0)))))
        (λ s c q. absurd (subst (λ (y : Give). ReturnsChain y s c) after q))
        (λ s p q e. absurd (let w : Gave r ≡ Past s (suc p) q = sym after ∙ e in cc w))
        (λ s e. let w : Gave r ≡ Gave s = sym after ∙ e in let same : r ≡ s = cc w in rw (← same) (word_new heads r 0, none_left r empty))
        (λ j s x e z. dite (ℕ_discrete s r) (λ y. rw y (word_new heads r 0)) (λ n. word_else heads r s 0 n ∙ (k.gaves j s x e z).0))
      where
        empty : top r ≡ 0
        empty = k.cursors g r 0 h own (rw before (refl, refl))

    -- a page is freed, from what the record knows
    pub gives_back : (p q : ℕ) → h.give ≡ Past r (suc p) q → d.give ≡ Giving r q → ((j s o : ℕ) (x : Rec) → HasRecord recs j x → x.claim ≡ Hung p s o → ⊥)
        → (ps : List ℕ) × (chain r ≡ p ∷ ps) × Pages (put_at states p 0) nexts heads new (put_at at p Free) (put_at chain r ps) link (put_at top r q)
    gives_back p q before after unclaimed =
        let t = k.cursors g r (suc p) h own (rw before (refl, refl)) in
        let c = first_is r p t in (
          c.0,
          c.1,
          frees states nexts heads recs at chain link top k g h d own same_claim p r q c.0 before after c.1
              (k.pasts g r p q h own before) alone unclaimed,
        )

  -- a slot is freed: nothing is left, and the head is 0
  pub freed : (r : ℕ) → h.give ≡ Gave r → d.give ≡ Calm → (heads r ≡ 0) × (chain r ≡ []) × Pages states nexts heads new at chain link top
  freed r before after =
      let z = k.gaves g r h own before in (
        z.0,
        z.1,
        give_change heads
            (λ s. still s (λ c q. subst (λ (y : Give). ReturnsChain y s c) before q))
            (λ s c q. absurd (subst (λ (y : Give). ReturnsChain y s c) after q))
            (λ s p q e. absurd (let w : Calm ≡ Past s (suc p) q = sym after ∙ e in cc w))
            (λ s e. absurd (let w : Calm ≡ Gave s = sym after ∙ e in cc w))
            (λ j s x e z. (k.gaves j s x e z).0),
      )
