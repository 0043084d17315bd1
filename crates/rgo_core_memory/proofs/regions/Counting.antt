-- Counts: a slot is free again. Its chain is empty and its head 0 by the stage of the record, as a vacant slot requires.
use Rattle.std.proofs.Common.{◌≡◌, ◌≢◌, ℕ, suc, ◌<◌, List, length, set, slice_set, refl, ap, sym, subst, ◌∙◌, inl, inr, ⊎_elim, arith}
use mathlib.Core.Logic.{dite}
use native.Mathlib.Decide.{ℕ_discrete}
use Rattle.rgo_core_memory.specs.declared.layout.TableSizes.{TableSizes}
use Rattle.rgo_core_memory.specs.Words.{put_at, count_at}
use Rattle.rgo_core_memory.specs.Records.{Give, Calm, Gave, Rec, HasRecord, ClosesSlot, with_give}
use Rattle.rgo_core_memory.specs.Ground.{Ground}
use Rattle.rgo_core_memory.specs.Pages.{PageChain}
use Rattle.rgo_core_memory.specs.Parts.{Vacant, Living, Closing, Taken}
use Rattle.rgo_core_memory.specs.Image.{MemoryImage, Where}
use Rattle.rgo_core_memory.proofs.image.Keeping.{was, stays, mine, own_same, filled_same, taken_same}
use Rattle.rgo_core_memory.proofs.Puts.{put_here, put_else}
use Rattle.rgo_core_memory.proofs.pages.Releases.{freed}
use Rattle.rgo_core_memory.proofs.Writes.{writes_count}

pub taken_count : (z : TableSizes) (states counts : ℕ → ℕ) (recs : List Rec) (takes creations : ℕ) (slot page : ℕ → ℕ) (r n : ℕ)
    → (0 < n → 0 < counts r) → Taken z states counts recs takes creations slot page → Taken z states (put_at counts r n) recs takes creations slot page
taken_count z states counts recs takes creations slot page r n some k = record {
  pages = k.pages;
  slots = λ s l f. k.slots s l (⊎_elim
      (λ q. inl (dite (ℕ_discrete s r)
      (λ e. subst (λ (m : ℕ). 0 < counts m) (sym e) (some (subst (λ (m : ℕ). 0 < m) (put_here counts r n s e) q)))
      (λ ne. subst (λ (m : ℕ). 0 < m) (put_else counts r n s ne) q)))
      (λ u. inr u) f);
}

module _ (z : TableSizes) (words : List ℕ) (recs : List Rec) (x : Ground) (places : Where) (k : MemoryImage z words recs x places) where
  module _ (g : ℕ) (c : Rec) (own : HasRecord recs g c) where
    -- a slot is freed
    pub slot_freed : (r : ℕ) → c.give ≡ Gave r
        → MemoryImage z (set words (count_at z r) 0) (slice_set recs g (with_give c Calm)) x (record places { uses = put_at places.uses r Vacant })
    slot_freed r before =
        let d : Rec = with_give c Calm in
        let closes : ClosesSlot c.give r = subst (λ (y : Give). ClosesSlot y r) (sym before) refl in
        let at = k.counts.closes g r c own closes in
        let below : r < suc z.slots = (let l = at.0 in omega arith) in
        let done = freed k.w.state k.w.next k.w.head recs places.at places.chain places.link places.top k.pages g c d own refl r before refl in
        let top : places.top r ≡ 0 = subst (λ (l : List ℕ). PageChain places.link (places.top r) l) done.1 (k.pages.chains r) in
        let mine_is : (s : ℕ) → ClosesSlot c.give s → r ≡ s = λ s q. subst (λ (y : Give). ClosesSlot y s) before q in
        record {
          w = record k.w { count = put_at k.w.count r 0 };
          shows = writes_count z words k.w k.shows r 0 below;
          lies = k.lies;
          own = own_same recs g c d own z k.w.state k.w.cell x.heap x.owners x.regions places.slot places.spot k.own refl refl refl;
          filled = filled_same recs g c d own z x.held (length x.regions) places.slot k.filled refl refl (λ s q. k.filled.claims g s c own q);
          counts = record {
            global = put_else k.w.count r 0 z.slots (λ e. let l = at.0 in omega arith) ∙ k.counts.global;
            vacant = λ s l e. dite (ℕ_discrete s r)
                (λ y. (put_here k.w.count r 0 s y, ap places.top y ∙ top))
                (λ n. let t = k.counts.vacant s l (sym (put_else places.uses r Vacant s n) ∙ e) in (put_else k.w.count r 0 s n ∙ t.0, t.1));
            living = λ s j l e. dite (ℕ_discrete s r)
                (λ y. let v : Vacant ≡ Living j = sym (put_here places.uses r Vacant s y) ∙ e in absurd (cc v))
                (λ n. let t = k.counts.living s j l (sym (put_else places.uses r Vacant s n)
                ∙ e) in (t.0, t.1, t.2, t.3, put_else k.w.count r 0 s n ∙ t.4));
            closing = λ s j l e. dite (ℕ_discrete s r)
                (λ y. let v : Vacant ≡ Closing j = sym (put_here places.uses r Vacant s y) ∙ e in absurd (cc v))
                (λ n. let t = k.counts.closing s j l (sym (put_else places.uses r Vacant s n) ∙ e) in (
                  put_else k.w.count r 0 s n
                      ∙ t.0,
                  t.1,
                  stays recs g c d own j t.1 (λ i. n (sym (mine_is s (subst (λ (y : Rec). ClosesSlot y.give s)
                      (mine recs g c d own j t.1 i t.2) t.3)))) t.2,
                  t.3,
                ));
            lives = λ j info e q. let t = k.counts.lives j info e q in (
              t.0,
              put_else places.uses r Vacant (places.slot j)
                  (λ y. let v : Living j ≡ Closing g = sym t.1 ∙ (ap places.uses y ∙ at.1) in absurd (cc v)) ∙ t.1,
            );
            closes = λ j s y e q. ⊎_elim
                (λ (t : (j ≡ g) × (d ≡ y)). absurd (subst (λ (v : Rec). ClosesSlot v.give s) (sym t.1) q))
                (λ (t : (j ≢ g) × HasRecord recs j y). let u = k.counts.closes j s y t.1 q in (
                  u.0,
                  put_else places.uses r Vacant s
                      (λ v. let w : Closing j ≡ Closing g = sym u.1 ∙ (ap places.uses v ∙ at.1) in t.0 (cc w)) ∙ u.1,
                ))
                (was recs g c d own j y e);
          };
          pages = done.2;
          paged = k.paged;
          taken = taken_count z k.w.state k.w.count (slice_set recs g d) _ _ places.slot places.page r 0 (λ l. absurd (omega arith))
              (taken_same recs g c d own z k.w.state k.w.count _ _ places.slot places.page k.taken refl refl);
        }
