-- What each step adds to the counts of a run. Counts are sums over all regions, and a step changes one region or none, so a sum changes
-- at one place (`changed_counts`). The one case that takes care is the end of a stake: only with the last one the region and its pages
-- count as returned (`one_less`).
use Rattle.std.proofs.Common.{◌≡◌, ℕ, zero, suc, ◌+◌, ◌≤◌, Bool, true, false, ◌&&◌, List, [], ◌∷◌, ◌++◌, length, Option}
use Rattle.std.proofs.Common.{Some, None, refl, sym, ap, ◌∙◌, subst, nat_eq, nat_lt, if◌then◌else◌, arith, true≢false}
use Rattle.std.proofs.Common.{slice_get, slice_set, option_and_then, sum_by, length-append}
use Rattle.std.proofs.lemmas.Option.{same_Some}
use Rattle.std.proofs.lemmas.List.Sums.{sum_by-cons, sum_by_push}
use Rattle.std.specs.Prelude.{◌-◌, cond}
use Rattle.rgo_sound.proofs.Tests.{and_third}
use Rattle.rgo_sound.proofs.Places.{length_set}
use Rattle.rgo_sound.proofs.plain.Steps.{Yields, yields, yields_none, yields_if, yields_then, yields_is, yields_where}
use Rattle.rgo_sound.proofs.plain.Steps.{step_follows}
use Rattle.rgo_sound.proofs.steps.OneStep.{one_done, meet_done}
use Rattle.rgo_sound.proofs.duties.Attends.{length_with_info}
use Rattle.rgo_sound.proofs.steps.HeapGrows.{heap_only_grows}
use Rattle.rgo_code.specs.Code.{Code}
use Rattle.rgo_code.specs.Erasure.{erased}
use Rattle.rgo_machine.specs.declared.picks.Pick.{Pick}
use Rattle.rgo_machine.specs.declared.picks.Pick.TheVariants.{Meet, One}
use Rattle.rgo_region_machine.specs.Counts.{Counts, counts_of, is_removed, pages_if_removed}
use Rattle.rgo_region_machine.specs.Duties.{attend, attended, duty_done, guards, may_go, protected, removal, shared}
use Rattle.rgo_region_machine.specs.Duties.{unprotected}
use Rattle.rgo_region_machine.specs.Instructions.{has_none, plain_after}
use Rattle.rgo_region_machine.specs.Machine.{Acknowledge, Attend, Event, Finish, Instruct, MakeOffer, TakePage}
use Rattle.rgo_region_machine.specs.Machine.{page_for, region_step, take_page, takes_page, page_before}
use Rattle.rgo_region_machine.specs.Objects.{fill_of, wants_page}
use Rattle.rgo_region_machine.specs.Offers.{acknowledge, make_offer, offer_for, offered}
use Rattle.rgo_region_machine.specs.Regions.{RegionInfo, bound, has_stakes, is_live, one_fewer, with_added_stake, one_page_more}
use Rattle.rgo_region_machine.specs.Regions.{removed_once, unbind, with_info, without}
use Rattle.rgo_region_machine.specs.States.{Create, Duty, EndBase, Holder, NoOffer, Offer, Protect, RegionState, Remove}
use Rattle.rgo_region_machine.specs.States.{Share, Standing, Taken, Unprotect, frames_of, top_names, with_top}
use Rattle.rgo_region_machine.specs.declared.regions.Region.{Region}
use Rattle.rgo_region_machine.specs.declared.regions.Region.TheVariants.{Global as GlobalRegion, Numbered}
use Rattle.rgo_memory.specs.Memory.{Object}
use Rattle.rgo_sound.specs.Tally.{TallyAdds, counts_plus, no_share, share_of, share_of_duty, share_of_first}
use Rattle.rgo_sound.specs.Tally.{share_of_holder, share_of_last, share_of_named, share_of_plain, share_of_removal}
use Rattle.rgo_tac.specs.Frames.{TacFrame}
use Rattle.rgo_tac.specs.Tac.{TacState}

-- the counts of t are those of s and d together
record Adds (s : RegionState) (d : Counts) (t : RegionState) : Type 0 where
  made : length t.regions ≡ length s.regions + d.made
  removed : sum_by (λ (i : RegionInfo). cond (is_removed i) 1 0) t.regions
      ≡ sum_by (λ (i : RegionInfo). cond (is_removed i) 1 0) s.regions + d.removed
  taken : t.global_pages + sum_by (λ (i : RegionInfo). i.pages) t.regions
      ≡ s.global_pages + sum_by (λ (i : RegionInfo). i.pages) s.regions + d.taken
  returned : sum_by pages_if_removed t.regions ≡ sum_by pages_if_removed s.regions + d.returned
  steps : t.steps ≡ s.steps + d.steps
  objects : length t.plain.memory.heap ≡ length s.plain.memory.heap + d.objects
  goroutines : length t.plain.goroutines ≡ length s.plain.goroutines + d.goroutines

adds_counts : (s t : RegionState) (d : Counts) → Adds s d t → counts_of t ≡ counts_plus (counts_of s) d
adds_counts s t d a = λ i. record {
  made = Adds.made a i;
  removed = Adds.removed a i;
  taken = Adds.taken a i;
  returned =
      Adds.returned a i;
  steps = Adds.steps a i;
  objects = Adds.objects a i;
  goroutines = Adds.goroutines a i;
}

sum_with_info : (f : RegionInfo → ℕ) (infos : List RegionInfo) (r : ℕ) (change : RegionInfo → RegionInfo)
    (info : RegionInfo) → slice_get infos r ≡ Some info → sum_by f (with_info infos r change) + f info
    ≡ sum_by f infos + f (change info)
sum_with_info f [] r change info e = cc
sum_with_info f (x ∷ xs) zero change info e =
    let a = sum_by-cons f (change x) xs in
    let b = sum_by-cons f x xs in
    let c : f x ≡ f info = ap f (same_Some x info e) in
    let d : f (change x) ≡ f (change info) = ap (λ y. f (change y)) (same_Some x info e) in
    omega (arith, a, b, c, d)
sum_with_info f (x ∷ xs) (suc r) change info e =
    let a = sum_by-cons f x (with_info xs r change) in
    let b = sum_by-cons f x xs in
    let c = sum_with_info f xs r change info e in
    omega (arith, a, b, c)

add_none : (n : ℕ) → n ≡ n + 0
add_none n = omega arith

module _ (s : RegionState) where
  -- a step that changes nothing that is counted
  same_counts : (t : RegionState) → t.regions ≡ s.regions → t.global_pages ≡ s.global_pages → t.steps ≡ s.steps
      → t.plain ≡ s.plain → Adds s no_share t
  same_counts t rs gs ss ps =
      record {
        made = ap length rs ∙ add_none (length s.regions);
        removed = ap (sum_by (λ (i : RegionInfo). cond (is_removed i) 1 0)) rs ∙ add_none _;
        taken = ap (λ x. x + sum_by (λ (i : RegionInfo). i.pages) t.regions) gs
            ∙ ap (λ x. s.global_pages + sum_by (λ (i : RegionInfo). i.pages) x) rs ∙ add_none _;
        returned = ap (sum_by pages_if_removed) rs ∙ add_none _;
        steps = ss ∙ add_none s.steps;
        objects = ap (λ (p : TacState). length p.memory.heap) ps ∙ add_none _;
        goroutines = ap (λ (p : TacState). length p.goroutines) ps ∙ add_none _;
      }

  -- one region has changed, and it had a stake: before the change it did not count as removed
  changed_counts : (t : RegionState) (r : ℕ) (change : RegionInfo → RegionInfo) (info : RegionInfo) (d : Counts)
      → slice_get s.regions r ≡ Some info → t.regions ≡ with_info s.regions r change → t.global_pages ≡ s.global_pages
      → t.steps ≡ s.steps → t.plain ≡ s.plain →
      d.made ≡ 0 → cond (is_removed (change info)) 1 0 ≡ cond (is_removed info) 1 0 + d.removed → (change info).pages
      ≡ info.pages + d.taken → pages_if_removed (change info) ≡ pages_if_removed info + d.returned → d.steps ≡ 0
      → d.objects ≡ 0 → d.goroutines ≡ 0 → Adds s d t
  changed_counts t r change info d e rs gs ss ps d1 d2 d3 d4 d5 d6 d7 =
      record {
        made = let a = ap length rs in let b = length_with_info s.regions r change in omega (arith, a, b, d1);
        removed = let a = ap (sum_by (λ (i : RegionInfo). cond (is_removed i) 1 0)) rs in let b =
            sum_with_info (λ (i : RegionInfo). cond (is_removed i) 1 0) s.regions r change info e in
            omega (arith, a, b, d2);
        taken = let a = ap (sum_by (λ (i : RegionInfo). i.pages)) rs in let b =
            sum_with_info (λ (i : RegionInfo). i.pages) s.regions r change info e in omega (arith, a, b, d3, gs);
        returned = let a = ap (sum_by pages_if_removed) rs in let b =
            sum_with_info pages_if_removed s.regions r change info e in omega (arith, a, b, d4);
        steps = let a = ss in omega (arith, a, d5);
        objects = let a = ap (λ (p : TacState). length p.memory.heap) ps in omega (arith, a, d6);
        goroutines = let a = ap (λ (p : TacState). length p.goroutines) ps in omega (arith, a, d7);
      }

  -- a live region was created, and has a stake
  live_info : (r : ℕ) → is_live s.regions (Numbered r) ≡ true → (info : RegionInfo)
      × (slice_get s.regions r ≡ Some info) × ((n : ℕ) × (info.stakes ≡ suc n))
  live_info r l = go (slice_get s.regions r) refl l
    where
      some_stakes : (info : RegionInfo) (n : ℕ) → info.stakes ≡ n → nat_lt 0 n ≡ true → (m : ℕ) × (info.stakes ≡ suc m)
      some_stakes info zero e l = absurd (no_stake l)
        where
          no_stake : nat_lt 0 0 ≡ true → ⊥
          no_stake l = grind arith
      some_stakes info (suc n) e l = (n, e)

      go : (o : Option RegionInfo) → slice_get s.regions r ≡ o → has_stakes o ≡ true → (info : RegionInfo)
          × (slice_get s.regions r ≡ Some info) × ((n : ℕ) × (info.stakes ≡ suc n))
      go None q l = absurd (true≢false (sym l))
      go (Some info) q l = (info, q, some_stakes info info.stakes refl l)

  not_removed : (info : RegionInfo) (n : ℕ) → info.stakes ≡ suc n → is_removed info ≡ false
  not_removed info n e = ap (λ x. nat_eq x 0) e ∙ differs n
    where
      differs : (n : ℕ) → nat_eq (suc n) 0 ≡ false
      differs n = grind arith

  -- a stake ends
  one_less : (t : RegionState) (r : ℕ) → is_live s.regions (Numbered r) ≡ true → t.regions
      ≡ with_info s.regions r one_fewer → t.global_pages ≡ s.global_pages → t.steps ≡ s.steps → t.plain ≡ s.plain
      → Adds s (share_of_last (slice_get s.regions r)) t
  one_less t r l rs gs ss ps = subst (λ o. Adds s (share_of_last o) t) (sym x.1) (by x.2.0 x.2.1)
    where
      x : (info : RegionInfo) × (slice_get s.regions r ≡ Some info) × ((n : ℕ) × (info.stakes ≡ suc n))
      x = live_info r l

      pages_zero : (info : RegionInfo) (b : Bool) → is_removed info ≡ b → pages_if_removed info
          ≡ (if b then info.pages else 0)
      pages_zero info b e = ap (λ c. if c then info.pages else 0) e

      by : (n : ℕ) → x.0.stakes ≡ suc n → Adds s (share_of_last (Some x.0)) t
      by zero e =
          subst (λ b. Adds s (if b then record no_share { removed = 1; returned = x.0.pages } else no_share) t)
          (sym (ap (λ y. nat_eq y 1) e ∙ one))
          (changed_counts t r one_fewer x.0 (record no_share { removed = 1; returned = x.0.pages }) x.1 rs gs ss ps refl
          (ap (λ b. cond b 1 0) gone ∙ sym (ap (λ b. cond b 1 0 + 1) (not_removed x.0 0 e)))
          (add_none x.0.pages)
          (pages_zero (one_fewer x.0) true gone ∙ zero_add x.0.pages
          ∙ sym (ap (λ y. y + x.0.pages) (pages_zero x.0 false (not_removed x.0 0 e))))
          refl refl refl)
        where
          one : nat_eq 1 1 ≡ true
          one = grind arith

          zero_add : (n : ℕ) → n ≡ 0 + n
          zero_add n = omega arith

          less : (k : ℕ) → k ≡ suc 0 → nat_eq (k - 1) 0 ≡ true
          less k e = grind (arith, e)

          gone : is_removed (one_fewer x.0) ≡ true
          gone = less x.0.stakes e
      by (suc n) e =
          subst (λ b. Adds s (if b then record no_share { removed = 1; returned = x.0.pages } else no_share) t)
          (sym (ap (λ y. nat_eq y 1) e ∙ more n))
          (changed_counts t r one_fewer x.0 no_share x.1 rs gs ss ps refl
          (ap (λ b. cond b 1 0) still ∙ sym (ap (λ b. cond b 1 0 + 0) (not_removed x.0 (suc n) e)))
          (add_none x.0.pages)
          (pages_zero (one_fewer x.0) false still ∙ sym (ap (λ y. y + 0)
          (pages_zero x.0 false (not_removed x.0 (suc n) e))))
          refl refl refl)
        where
          more : (n : ℕ) → nat_eq (suc (suc n)) 1 ≡ false
          more n = grind arith

          less : (k n : ℕ) → k ≡ suc (suc n) → nat_eq (k - 1) 0 ≡ false
          less k n e = grind (arith, e)

          still : is_removed (one_fewer x.0) ≡ false
          still = less x.0.stakes n e

  -- a stake more, and a page more
  one_added : (t : RegionState) (r : ℕ) → is_live s.regions (Numbered r) ≡ true → t.regions
      ≡ with_info s.regions r with_added_stake → t.global_pages ≡ s.global_pages → t.steps ≡ s.steps → t.plain ≡ s.plain
      → Adds s no_share t
  one_added t r l rs gs ss ps =
      let x = live_info r l in
      let still : is_removed (with_added_stake x.0) ≡ false = more x.0.stakes in
      changed_counts t r with_added_stake x.0 no_share x.1 rs gs ss ps refl
      (ap (λ b. cond b 1 0) still ∙ sym (ap (λ b. cond b 1 0 + 0) (not_removed x.0 x.2.0 x.2.1)))
      (add_none x.0.pages)
      (ap (λ c. if c then x.0.pages else 0) still ∙ sym (ap (λ c. (if c then x.0.pages else 0) + 0)
      (not_removed x.0 x.2.0 x.2.1)))
      refl refl refl
    where
      more : (k : ℕ) → nat_eq (k + 1) 0 ≡ false
      more k = grind arith

  page_added : (t : RegionState) (r : ℕ) → is_live s.regions (Numbered r) ≡ true → t.regions
      ≡ with_info s.regions r one_page_more → t.global_pages ≡ s.global_pages → t.steps ≡ s.steps → t.plain ≡ s.plain
      → Adds s (record no_share { taken = 1 }) t
  page_added t r l rs gs ss ps =
      let x = live_info r l in
      let still : is_removed (one_page_more x.0) ≡ false = not_removed x.0 x.2.0 x.2.1 in
      changed_counts t r one_page_more x.0 (record no_share { taken = 1 }) x.1 rs gs ss ps refl
      (add_none _)
      refl
      (ap (λ c. if c then x.0.pages + 1 else 0) still ∙ sym
      (ap (λ c. (if c then x.0.pages else 0) + 0) (not_removed x.0 x.2.0 x.2.1)))
      refl refl refl

  made_counts : (t : RegionState) → t.regions ≡ s.regions ++ record { stakes = 1; pages = 0 } ∷ [] → t.global_pages
      ≡ s.global_pages → t.steps ≡ s.steps → t.plain ≡ s.plain → Adds s (record no_share { made = 1 }) t
  made_counts t rs gs ss ps =
      record {
        made = ap length rs ∙ length-append s.regions (record { stakes = 1; pages = 0 } ∷ []);
        removed = ap (sum_by (λ (i : RegionInfo). cond (is_removed i) 1 0)) rs
            ∙ sum_by_push (λ (i : RegionInfo). cond (is_removed i) 1 0) s.regions (record { stakes = 1; pages = 0 });
        taken = let a = ap (sum_by (λ (i : RegionInfo). i.pages)) rs
            ∙ sum_by_push (λ (i : RegionInfo). i.pages) s.regions (record { stakes = 1; pages = 0 }) in
            omega (arith, a, gs);
        returned = ap (sum_by pages_if_removed) rs ∙ sum_by_push pages_if_removed s.regions
            (record { stakes = 1; pages = 0 });
        steps = ss ∙ add_none s.steps;
        objects = ap (λ (p : TacState). length p.memory.heap) ps ∙ add_none _;
        goroutines = ap (λ (p : TacState). length p.goroutines) ps ∙ add_none _;
      }

  -- ---- duties

  adds_removal : (g : ℕ) (h : Holder) (q : Region) → Yields (Adds s (share_of_removal s h q)) (removal s g h q)
  adds_removal g h GlobalRegion = yields _ (same_counts _ refl refl refl refl)
  adds_removal g h (Numbered r) = yields_where (is_live s.regions (Numbered r)) _
      (λ l. by (guards h.base h.environments (Numbered r)) l)
    where
      by : (b : Bool) → is_live s.regions (Numbered r) ≡ true
          → Yields (Adds s (if b then no_share else share_of_last (slice_get s.regions r)))
          (if b then Some (attended s g h) else Some (record (attended s g (record h { stakes = without r h.stakes }))
          { regions = with_info s.regions r one_fewer }))
      by true l = yields _ (same_counts _ refl refl refl refl)
      by false l = yields _ (one_less _ r l refl refl refl refl)

  adds_shared : (g : ℕ) (h : Holder) (q : Region) → Yields (Adds s no_share) (shared s g h q)
  adds_shared g h GlobalRegion = yields _ (same_counts _ refl refl refl refl)
  adds_shared g h (Numbered r) = yields_where (is_live s.regions (Numbered r)) _
      (λ l. yields_if _ _ _ (yields _ (same_counts _ refl refl refl refl))
      (yields _ (one_added _ r l refl refl refl refl)))

  adds_named : (g : ℕ) (h : Holder) (o : Option Region) → Yields (Adds s (share_of_named s h o))
      (option_and_then (removal s g h) o)
  adds_named g h None = yields_none
  adds_named g h (Some q) = adds_removal g h q

  adds_done : (g : ℕ) (h : Holder) (d : Duty) → Yields (Adds s (share_of_duty s h d)) (duty_done s g h d)
  adds_done g h (Create k) = yields _ (made_counts _ refl refl refl refl)
  adds_done g h (Share k) = yields_then (shared s g h) _ (adds_shared g h)
  adds_done g h (Protect k) = yields_then (protected s g h) _
      (λ q. yields_if _ _ _ (yields _ (same_counts _ refl refl refl refl)) yields_none)
  adds_done g h (Unprotect k) = yields_then (λ q. Some (attended s g (unprotected h q))) _
      (λ q. yields _ (same_counts _ refl refl refl refl))
  adds_done g h (Remove k) = adds_named g (record h {
    environments =
        with_top h.environments (unbind (top_names h.environments) k);
  }) (bound (top_names h.environments) k)
  adds_done g h (EndBase r) = adds_removal g (record h { base = removed_once r h.base }) r

  adds_attend : (g : ℕ) (h : Holder) (ds : List Duty) → Yields (Adds s (share_of_first s h ds)) (attend s g h ds)
  adds_attend g h [] = yields_none
  adds_attend g h (d ∷ ds) = yields_if _ _ _ (adds_done g (record h { duties = ds }) d) yields_none

  adds_holder : (g : ℕ) (o : Option Holder) → Yields (Adds s (share_of_holder s o))
      (option_and_then (λ (h : Holder). attend s g h h.duties) o)
  adds_holder g None = yields_none
  adds_holder g (Some h) = adds_attend g h h.duties

  -- ---- pages, offers, ends

  adds_take : (code : Code) (page_words g : ℕ) (h : Holder) (frames : List TacFrame)
      → Yields (Adds s (record no_share { taken = 1 })) (take_page code page_words s g h frames)
  adds_take code page_words g h [] = yields_none
  adds_take code page_words g h (frame ∷ callers) = yields_then (page_for code page_words s g h frame) _
      (λ i. yields_then (takes_page code page_words s g h) _
      (λ q. yields_then (page_before page_words s g h q) _ (taken q)))
    where
      taken : (q : Region) (object : Object)
          → Yields (Adds s (record no_share { taken = 1 })) (page_before page_words s g h q object)
      taken GlobalRegion object = yields_if _ _ _ (yields _ (record {
        made = add_none _;
        removed = add_none _;
        taken = omega arith;
        returned = add_none _;
        steps =
            add_none _;
        objects = add_none _;
        goroutines = add_none _;
      })) yields_none
      taken (Numbered r) object = yields_where (has_none h.duties && may_go h.offer && is_live s.regions (Numbered r) &&
          wants_page page_words h.reserved (fill_of h.fills (Numbered r)) object) _
          (λ l. yields _ (page_added _ r (and_third (has_none h.duties) (may_go h.offer)
          (is_live s.regions (Numbered r)) _
          l) refl refl refl refl))

  adds_make : (code : Code) (g : ℕ) (h : Holder) (frames : List TacFrame)
      → Yields (Adds s no_share) (make_offer code s g h frames)
  adds_make code g h [] = yields_none
  adds_make code g h (frame ∷ callers) = yields_if _ _ _
      (yields_then (offer_for s g h frame) _ (λ i. yields_then (offered s g h) _
      (λ o. yields_if _ _ _ yields_none (yields _ (same_counts _ refl refl refl refl))))) yields_none

  adds_acknowledge : (g : ℕ) (h : Holder) (o : Offer) → Yields (Adds s no_share) (acknowledge s g h o)
  adds_acknowledge g h NoOffer = yields_none
  adds_acknowledge g h (Standing o) = yields_none
  adds_acknowledge g h (Taken o) = yields_if _ _ _ (yields _ (same_counts _ refl refl refl refl)) yields_none

  -- ---- instructions

  -- what the three-address machine made, in a step that changes no region
  plain_counts : (t : RegionState) (next : TacState) → t.regions ≡ s.regions → t.global_pages ≡ s.global_pages → t.steps
      ≡ s.steps + 1 → t.plain ≡ plain_after s next → length s.plain.memory.heap ≤ length t.plain.memory.heap
      → length s.plain.goroutines ≤ length t.plain.goroutines → Adds s (share_of_plain s (Some next)) t
  plain_counts t next rs gs ss ps ho hg =
      record {
        made = ap length rs ∙ add_none (length s.regions);
        removed = ap (sum_by (λ (i : RegionInfo). cond (is_removed i) 1 0)) rs ∙ add_none _;
        taken = ap (λ x. x + sum_by (λ (i : RegionInfo). i.pages) t.regions) gs
            ∙ ap (λ x. s.global_pages + sum_by (λ (i : RegionInfo). i.pages) x) rs ∙ add_none _;
        returned = ap (sum_by pages_if_removed) rs ∙ add_none _;
        steps = ss;
        objects = let a = ap (λ (p : TacState). length p.memory.heap) ps in omega (arith, a, ho);
        goroutines = let a = ap (λ (p : TacState). length p.goroutines) ps in omega (arith, a, hg);
      }

  both : {P Q R : RegionState → Type 0} → (o : Option RegionState) → Yields P o → Yields Q o
      → ((t : RegionState) → P t → Q t → R t) → Yields R o
  both None a b f = yields_none
  both (Some t) a b f = yields t (f t a.fact b.fact)

  adds_instruct : (code : Code) (page_words : ℕ) (pick : Pick)
      → Yields (Adds s (share_of code s (Instruct pick))) (region_step code page_words s (Instruct pick))
  adds_instruct code page_words (One g) =
      both _ (step_follows code page_words s (Instruct (One g))) (one_done code page_words s g) (λ t f x.
      subst (λ o. Adds s (share_of_plain s o) t) (sym f.1)
      (plain_counts t f.0 (ap (λ (y : RegionState). y.regions) x.is) (ap (λ (y : RegionState). y.global_pages) x.is)
      (ap (λ (y : RegionState). y.steps) x.is) f.2.plain
      (let a = heap_only_grows (erased code) s.plain.memory (x.frame ∷ x.callers) x.a x.acts in let b =
      ap (λ (y : RegionState). length y.plain.memory.heap) x.is in omega (arith, a, b))
      (let a = length-append (slice_set s.plain.goroutines g x.a.frames) x.a.started in let b =
      length_set s.plain.goroutines g x.a.frames in let c =
      ap (λ (y : RegionState). length y.plain.goroutines) x.is in omega (arith, a, b, c))))
  adds_instruct code page_words (Meet r u) =
      both _ (step_follows code page_words s (Instruct (Meet r u))) (meet_done code page_words s r u) (λ t f x.
      subst (λ o. Adds s (share_of_plain s o) t) (sym f.1)
      (plain_counts t f.0 x.regions x.global_pages x.steps f.2.plain
      (let b = ap (λ (p : TacState). length p.memory.heap) x.plain in omega (arith, b))
      (let a = length_set (slice_set s.plain.goroutines r (x.go_on x.v)) u x.next in let b =
      length_set s.plain.goroutines r (x.go_on x.v) in let c = ap (λ (p : TacState). length p.goroutines) x.plain in
      omega (arith, a, b, c))))

  adds_step : (code : Code) (page_words : ℕ) (event : Event)
      → Yields (Adds s (share_of code s event)) (region_step code page_words s event)
  adds_step code page_words (Instruct pick) = adds_instruct code page_words pick
  adds_step code page_words (Attend g) = adds_holder g (slice_get s.holders g)
  adds_step code page_words (TakePage g) = yields_then {X = Holder}
      (λ h. take_page code page_words s g h (frames_of s.plain g)) (slice_get s.holders g)
      (λ h. adds_take code page_words g h (frames_of s.plain g))
  adds_step code page_words (MakeOffer g) = yields_then {X = Holder} (λ h. make_offer code s g h (frames_of s.plain g))
      (slice_get s.holders g) (λ h. adds_make code g h (frames_of s.plain g))
  adds_step code page_words (Acknowledge g) = yields_then {X = Holder} (λ h. acknowledge s g h h.offer)
      (slice_get s.holders g) (λ h. adds_acknowledge g h h.offer)
  adds_step code page_words (Finish limit) = yields _ (same_counts _ refl refl refl refl)

pub tally_adds : TallyAdds
tally_adds code page_words s t event e = adds_counts s t (share_of code s event)
    (yields_is {P = Adds s (share_of code s event)} (region_step code page_words s event) t
    (adds_step s code page_words event) e)

-- ---- a region step does not count as a step: only instructions do

none_of_last : (o : Option RegionInfo) → (share_of_last o).steps ≡ 0
none_of_last None = refl
none_of_last (Some info) = by (nat_eq info.stakes 1)
  where
    by : (b : Bool) → (if b then record no_share { removed = 1; returned = info.pages } else no_share).steps ≡ 0
    by true = refl
    by false = refl

none_of_removal : (s : RegionState) (h : Holder) (r : Region) → (share_of_removal s h r).steps ≡ 0
none_of_removal s h GlobalRegion = refl
none_of_removal s h (Numbered r) = by (guards h.base h.environments (Numbered r))
  where
    by : (b : Bool) → (if b then no_share else share_of_last (slice_get s.regions r)).steps ≡ 0
    by true = refl
    by false = none_of_last (slice_get s.regions r)

none_of_named : (s : RegionState) (h : Holder) (o : Option Region) → (share_of_named s h o).steps ≡ 0
none_of_named s h None = refl
none_of_named s h (Some r) = none_of_removal s h r

none_of_duty : (s : RegionState) (h : Holder) (d : Duty) → (share_of_duty s h d).steps ≡ 0
none_of_duty s h (Create k) = refl
none_of_duty s h (Share k) = refl
none_of_duty s h (Protect k) = refl
none_of_duty s h (Unprotect k) = refl
none_of_duty s h (Remove k) =
    none_of_named s (record h { environments = with_top h.environments (unbind (top_names h.environments) k) })
    (bound (top_names h.environments) k)
none_of_duty s h (EndBase r) = none_of_removal s (record h { base = removed_once r h.base }) r

none_of_first : (s : RegionState) (h : Holder) (ds : List Duty) → (share_of_first s h ds).steps ≡ 0
none_of_first s h [] = refl
none_of_first s h (d ∷ ds) = none_of_duty s (record h { duties = ds }) d

pub none_of_holder : (s : RegionState) (o : Option Holder) → (share_of_holder s o).steps ≡ 0
none_of_holder s None = refl
none_of_holder s (Some h) = none_of_first s h h.duties
