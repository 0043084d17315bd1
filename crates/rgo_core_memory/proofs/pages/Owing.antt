-- The pages that chains have still to free. A sum over slots, of which an access changes the term of one slot.
use Rattle.std.proofs.Common.{◌≡◌, ◌≢◌, ℕ, zero, suc, ◌+◌, ◌<◌, List, [], set, slice_index, refl, ap, sym, subst, ◌∙◌, arith}
use Rattle.std.proofs.lemmas.List.{get_or-set_other}
use mathlib.Core.Logic.{dite}
use native.Mathlib.Decide.{ℕ_discrete}
use Rattle.rgo_core_memory.specs.declared.layout.TableSizes.{TableSizes}
use Rattle.rgo_core_memory.specs.Words.{Words, ListHasWords, put_at, state_at, count_at}
use Rattle.rgo_core_memory.specs.Records.{PageClaim, Gave, Give, Rec, HasRecord, Claims, ClosesSlot, ReturnsChain}
use Rattle.rgo_core_memory.specs.Ground.{Ground, Steady, ground_of}
use Rattle.rgo_core_memory.specs.Pages.{Place, Free, Chained, Claimed, occurrences}
use Rattle.rgo_core_memory.specs.Parts.{Use, Vacant, Closing, pages_at}
use Rattle.rgo_core_memory.specs.Image.{MemoryImage, Where}
use Rattle.rgo_core_memory.specs.Owed.{claimed_for, owed_at, owed, to_free, StillClaimed, StillOwed}
use Rattle.rgo_core_memory.proofs.pages.Chaining.{first_at}
use Rattle.rgo_core_memory.proofs.pages.Paging.{same_at, none_at, other_at, more_at}
use Rattle.rgo_core_memory.proofs.Puts.{put_here, put_else}
use Rattle.rgo_core_memory.proofs.regions.Slots.{stake_open}
use Rattle.rgo_core_memory.proofs.image.Steadies.{steady_of}
use Rattle.rgo_core_memory.proofs.Writes.{writes_state, writes_count}

owed_same : (uses more : ℕ → Use) (states others : ℕ → ℕ) (pages n : ℕ) → ((s : ℕ) → s < n
    → owed_at (more s) (pages_at others pages s) ≡ owed_at (uses s) (pages_at states pages s))
    → owed more others pages n ≡ owed uses states pages n
owed_same uses more states others pages zero h = refl
owed_same uses more states others pages (suc n) h = let a = h n (omega arith) in let b = owed_same uses more states others pages n (λ s l. h s
    (omega arith)) in omega (arith, a, b)

-- if the term of one slot changes
owed_one : (uses more : ℕ → Use) (states others : ℕ → ℕ) (pages n r : ℕ) → r < n
    → ((s : ℕ) → s ≢ r → owed_at (more s) (pages_at others pages s) ≡ owed_at (uses s) (pages_at states pages s))
    → owed more others pages n + owed_at (uses r) (pages_at states pages r) ≡ owed uses states pages n + owed_at (more r) (pages_at others pages r)
owed_one uses more states others pages zero r l h = absurd (omega arith)
owed_one uses more states others pages (suc n) r l h = dite (ℕ_discrete n r)
    (λ e.
    let b = owed_same uses more states others pages n (λ s m. h s (λ q. omega arith)) in
    let c : owed_at (uses n) (pages_at states pages n) ≡ owed_at (uses r) (pages_at states pages r) = ap (λ (m : ℕ). owed_at (uses m)
    (pages_at states pages m)) e in
    let d : owed_at (more n) (pages_at others pages n) ≡ owed_at (more r) (pages_at others pages r) = ap (λ (m : ℕ). owed_at (more m)
    (pages_at others pages m)) e in
    omega (arith, b, c, d))
    (λ ne. let a = h n ne in let b = owed_one uses more states others pages n r (omega (arith, ne, l)) h in omega (arith, a, b))

-- the list's numbers are those of the words
shows_owed : (z : TableSizes) (words : List ℕ) (w : Words) (uses : ℕ → Use) → ListHasWords z words w
    → to_free z words uses ≡ owed uses w.state z.pages z.slots
shows_owed z words w uses k = owed_same uses uses w.state (λ p. slice_index words (state_at z p)) z.pages z.slots
    (λ s l. ap (owed_at (uses s)) (same_at w.state (λ p. slice_index words (state_at z p)) z.pages s (λ p m e. k.state p m
    ∙ e) (λ p m e. sym (k.state p m) ∙ e)))

less_at : (states : ℕ → ℕ) (p n s : ℕ) → p < n → states p ≡ suc s → suc (pages_at (put_at states p 0) n s) ≡ pages_at states n s
less_at states p n s l e =
    let a = more_at (put_at states p 0) p n s l (λ y. let z = put_here states p 0 p refl in omega (arith, y, z)) in
    let b = same_at states (put_at (put_at states p 0) p (suc s)) n s
    (λ q m y. dite (ℕ_discrete q p) (λ u. put_here (put_at states p 0) p (suc s) q u) (λ u. put_else (put_at states p 0) p (suc s) q u
    ∙ (put_else states p 0 q u ∙ y)))
    (λ q m y. dite (ℕ_discrete q p) (λ u. ap states u ∙ e) (λ u. sym (put_else states p 0 q u) ∙ (sym (put_else (put_at states p 0) p (suc s) q u)
    ∙ y))) in
    omega (arith, a, b)

empty : (z : TableSizes) (words : List ℕ) (recs : List Rec) (x : Ground) (places : Where) (k : MemoryImage z words recs x places) → Steady x
    → (g r : ℕ) (c : Rec) → HasRecord recs g c → c.give ≡ Gave r
    → (p : ℕ) → k.w.state p ≡ suc r → ⊥
empty z words recs x places k steady g r c own before p e = go (places.at p) refl
  where
    closes : ClosesSlot c.give r
    closes = subst (λ (y : Give). ClosesSlot y r) (sym before) refl

    go : (at : Place) → places.at p ≡ at → ⊥
    go Free q = let y = k.pages.is_free p q in omega (arith, e, y)
    go (Chained s) q =
        let y = k.pages.is_chained p s q in
        let same : s ≡ r = (let v = y.0 in omega (arith, e, v)) in
        let none = (k.pages.gaves g r c own before).1 in
        let m : 0 < occurrences p [] = subst (λ (l : List ℕ). 0 < occurrences p l) (ap places.chain same ∙ none) y.1 in omega (arith, m)
    go (Claimed i) q =
        let y = k.pages.is_claimed p i q in
        let v = y.4 in
        let same : y.0 ≡ r = omega (arith, e, v) in
        stake_open z words recs x places k steady i g y.0 c (k.filled.claims i y.0 y.1 y.2 (subst (λ (c : PageClaim). Claims c y.0)
        (sym y.3) refl)) own (subst (ClosesSlot c.give) (sym same) closes)

pub still_owed : StillOwed
still_owed = record {
  leave = λ z words recs s places k g j n info e l.
      let u = k.counts.lives j info e l in
      let r = places.slot j in
      let more = put_at places.uses r (Closing g) in
      let below : r < suc z.slots = (let m = u.0 in omega arith) in
      let a = shows_owed z words k.w places.uses k.shows in
      let b = shows_owed z (set words (count_at z r) n) (record k.w { count = put_at k.w.count r n }) more
      (writes_count z words k.w k.shows r n below) in
      let c = owed_one places.uses more k.w.state k.w.state z.pages z.slots r u.0 (λ t ne. ap (λ (y : Use). owed_at y
      (pages_at k.w.state z.pages t)) (put_else places.uses r (Closing g) t ne)) in
      let d : owed_at (places.uses r) (pages_at k.w.state z.pages r) ≡ 0 = ap (λ (y : Use). owed_at y (pages_at k.w.state z.pages r)) u.1 in
      let f : owed_at (more r) (pages_at k.w.state z.pages r) ≡ info.pages = ap (λ (y : Use). owed_at y (pages_at k.w.state z.pages r))
      (put_here places.uses r (Closing g) r refl) ∙ sym (k.paged.live j info e l) in
      omega (arith, a, b, c, d, f);
  free = λ code z words recs s places all k g r p q c own before.
      let closes : ClosesSlot c.give r = subst (λ (y : Give). ClosesSlot y r) (sym before) refl in
      let u = k.counts.closes g r c own closes in
      let at = first_at z words recs (ground_of s) places k (steady_of code s all) g c own r closes p (k.pages.cursors g r (suc p) c own (subst (λ
      (y : Give). ReturnsChain y r (suc p)) (sym before) (refl, refl))) in
      let state = (k.pages.is_chained p r at).0 in
      let small : p < z.pages = k.own.ranged p (omega (arith, state)) in
      let a = shows_owed z words k.w places.uses k.shows in
      let b = shows_owed z (set words (state_at z p) 0) (record k.w { state = put_at k.w.state p 0 }) places.uses
      (writes_state z words k.w k.shows p 0 small) in
      let d = owed_one places.uses places.uses k.w.state (put_at k.w.state p 0) z.pages z.slots r u.0
      (λ t ne. ap (owed_at (places.uses t)) (other_at k.w.state p 0 z.pages t (λ y. ne (omega (arith, y, state))) (λ y. omega arith))) in
      let e : owed_at (places.uses r) (pages_at k.w.state z.pages r) ≡ pages_at k.w.state z.pages r = ap (λ (y : Use). owed_at y
      (pages_at k.w.state z.pages r)) u.1 in
      let f : owed_at (places.uses r) (pages_at (put_at k.w.state p 0) z.pages r) ≡ pages_at (put_at k.w.state p 0) z.pages r = ap (λ
      (y : Use). owed_at y (pages_at (put_at k.w.state p 0) z.pages r)) u.1 in
      let h = less_at k.w.state p z.pages r small state in
      omega (arith, a, b, d, e, f, h);
  slot = λ code z words recs s places all k g r c own before.
      let closes : ClosesSlot c.give r = subst (λ (y : Give). ClosesSlot y r) (sym before) refl in
      let u = k.counts.closes g r c own closes in
      let more = put_at places.uses r Vacant in
      let below : r < suc z.slots = (let m = u.0 in omega arith) in
      let a = shows_owed z words k.w places.uses k.shows in
      let b = shows_owed z (set words (count_at z r) 0) (record k.w { count = put_at k.w.count r 0 }) more
      (writes_count z words k.w k.shows r 0 below) in
      let d = owed_one places.uses more k.w.state k.w.state z.pages z.slots r u.0 (λ t ne. ap (λ (y : Use). owed_at y
      (pages_at k.w.state z.pages t)) (put_else places.uses r Vacant t ne)) in
      let e : owed_at (places.uses r) (pages_at k.w.state z.pages r) ≡ pages_at k.w.state z.pages r = ap (λ (y : Use). owed_at y
      (pages_at k.w.state z.pages r)) u.1 in
      let f : owed_at (more r) (pages_at k.w.state z.pages r) ≡ 0 = ap (λ (y : Use). owed_at y (pages_at k.w.state z.pages r))
      (put_here places.uses r Vacant r refl) in
      let h = none_at k.w.state z.pages r (λ p l q. empty z words recs (ground_of s) places k (steady_of code s all) g r c own before p q) in
      omega (arith, a, b, d, e, f, h);
}

-- ---- slot by slot

module _ (z : TableSizes) where
  pages_as : (f h : ℕ → ℕ) → ((p : ℕ) → p < z.pages → f p ≡ h p) → (s : ℕ) → pages_at f z.pages s ≡ pages_at h z.pages s
  pages_as f h same s = same_at h f z.pages s (λ p l e. same p l ∙ e) (λ p l e. sym (same p l) ∙ e)

  shows_claimed : (words : List ℕ) (w : Words) → ListHasWords z words w → (s : ℕ) → claimed_for z words s ≡ pages_at w.state z.pages s
  shows_claimed words w k = pages_as (λ p. slice_index words (state_at z p)) w.state (λ p l. k.state p l)

pub still_claimed : StillClaimed
still_claimed = record {
  live = λ z words recs s places k j info e l. k.paged.live j info e l ∙ sym (shows_claimed z words k.w k.shows (places.slot j));
  free = λ code z words recs s places all k g r p q c own before.
      let closes : ClosesSlot c.give r = subst (λ (y : Give). ClosesSlot y r) (sym before) refl in
      let at = first_at z words recs (ground_of s) places k (steady_of code s all) g c own r closes p (k.pages.cursors g r (suc p) c own (subst (λ
      (y : Give). ReturnsChain y r (suc p)) (sym before) (refl, refl))) in
      let state = (k.pages.is_chained p r at).0 in
      let small : p < z.pages = k.own.ranged p (omega (arith, state)) in
      let was = shows_claimed z words k.w k.shows in
      let is = shows_claimed z (set words (state_at z p) 0) (record k.w { state = put_at k.w.state p 0 }) (writes_state z words k.w k.shows p 0 small) in (
        ap suc (is r) ∙ (less_at k.w.state p z.pages r small state ∙ sym (was r)),
        λ t ne. is t ∙ (other_at k.w.state p 0 z.pages t (λ y. ne (omega (arith, y, state))) (λ y. omega arith) ∙ sym (was t)),
      );
  claim = λ z words recs s places k p r t small none ne.
      let zero_is : k.w.state p ≡ 0 = sym (k.shows.state p small) ∙ none in
      shows_claimed z (set words (state_at z p) (suc r)) (record k.w { state = put_at k.w.state p (suc r) }) (writes_state z words k.w k.shows p (suc r) small) t
      ∙ (other_at k.w.state p (suc r) z.pages t (λ y. omega (arith, y, zero_is)) (λ y. ne (omega (arith, y))) ∙ sym (shows_claimed z words k.w k.shows t));
  none = λ code z words recs s places all k g r c own before.
      shows_claimed z words k.w k.shows r
      ∙ none_at k.w.state z.pages r (λ p l q. empty z words recs (ground_of s) places k (steady_of code s all) g r c own before p q);
  beside = λ z words i n apart.
      pages_as z (λ p. slice_index (set words i n) (state_at z p)) (λ p. slice_index words (state_at z p))
      (λ p l. get_or-set_other words i (state_at z p) n 0 (λ e. apart p l (sym e)));
}
