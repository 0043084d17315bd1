-- A run that has room for each of its steps is a run, and stays within the room. By the law on tallies a step adds at most one page or
-- one region, and the test before it says that one more fits.
use Rattle.std.proofs.Common.{◌≡◌, ◌≤◌, ◌+◌, ℕ, Bool, true, false, List, [], ◌∷◌, ◌++◌, Option, Some, None, refl, sym, ap}
use Rattle.std.proofs.Common.{◌∙◌, subst, nat_eq, nat_lt, if◌then◌else◌, arith, slice_get, option_and_then}
use Rattle.std.proofs.lemmas.Bool.Decides.{nat_tests}
use Rattle.std.proofs.lemmas.Option.{same_Some}
use Rattle.rgo_sound.proofs.counts.Tally.{tally_adds}
use Rattle.rgo_code.specs.Code.{Code}
use Rattle.rgo_machine.specs.declared.limits.Sizes.{Sizes}
use Rattle.rgo_machine.specs.Runs.{run}
use Rattle.rgo_region_machine.specs.Counts.{Counts, counts_of}
use Rattle.rgo_region_machine.specs.Duties.{guards}
use Rattle.rgo_region_machine.specs.Machine.{Acknowledge, Attend, Event, Finish, Instruct, MakeOffer, TakePage}
use Rattle.rgo_region_machine.specs.Machine.{plain_step, region_start, region_step}
use Rattle.rgo_region_machine.specs.Regions.{RegionInfo, bound, removed_once, unbind}
use Rattle.rgo_region_machine.specs.Room.{StateFitsIn, has_room, has_room_for, has_room_for_first, has_room_to_attend}
use Rattle.rgo_region_machine.specs.Room.{live_regions, pages_in_use, roomy_step}
use Rattle.rgo_region_machine.specs.States.{Create, Duty, EndBase, Holder, Protect, RegionState, Remove, Share, Unprotect}
use Rattle.rgo_region_machine.specs.States.{top_names, with_top}
use Rattle.rgo_region_machine.specs.declared.regions.Region.{Region}
use Rattle.rgo_region_machine.specs.declared.regions.Region.TheVariants.{Global as GlobalRegion, Numbered}
use Rattle.rgo_sound.specs.Room.{RoomIsKept}
use Rattle.rgo_sound.specs.Tally.{counts_plus, no_share, share_of, share_of_duty, share_of_first, share_of_holder}
use Rattle.rgo_sound.specs.Tally.{share_of_last, share_of_named, share_of_plain, share_of_removal}
use Rattle.rgo_tac.specs.Tac.{TacState}

-- ---- what a step may add

-- the counts d still fit beside those of s
record StillFits (sizes : Sizes) (s : RegionState) (d : Counts) : Type 0 where
  pages : pages_in_use s + d.taken ≤ sizes.pages
  regions : live_regions s + d.made ≤ sizes.regions

module _ (sizes : Sizes) (s : RegionState) (fits : StateFitsIn sizes s) where
  -- if a step adds no page and no region, it fits
  none_more : (d : Counts) → d.taken ≡ 0 → d.made ≡ 0 → StillFits sizes s d
  none_more d t m = record {
    pages = let f = fits.pages in omega (arith, f, t);
    regions = let f = fits.regions in omega (arith, f, m);
  }

  by_removal : (h : Holder) (q : Region) → StillFits sizes s (share_of_removal s h q)
  by_removal h GlobalRegion = none_more no_share refl refl
  by_removal h (Numbered r) = go (guards h.base h.environments (Numbered r))
    where
      last : (o : Option RegionInfo) → StillFits sizes s (share_of_last o)
      last None = none_more no_share refl refl
      last (Some info) = by (nat_eq info.stakes 1)
        where
          by : (b : Bool)
              → StillFits sizes s (if b then record no_share { removed = 1; returned = info.pages } else no_share)
          by true = none_more (record no_share { removed = 1; returned = info.pages }) refl refl
          by false = none_more no_share refl refl

      go : (b : Bool) → StillFits sizes s (if b then no_share else share_of_last (slice_get s.regions r))
      go true = none_more no_share refl refl
      go false = last (slice_get s.regions r)

  by_named : (h : Holder) (o : Option Region) → StillFits sizes s (share_of_named s h o)
  by_named h None = none_more no_share refl refl
  by_named h (Some q) = by_removal h q

  by_duty : (h : Holder) (d : Duty) → has_room_for sizes s d ≡ true → StillFits sizes s (share_of_duty s h d)
  by_duty h (Create k) room = record {
    pages = let f = fits.pages in omega (arith, f);
    regions = below (live_regions s) sizes.regions room;
  }
    where
      below : (n m : ℕ) → nat_lt n m ≡ true → n + 1 ≤ m
      below n m e = grind (arith, nat_tests)
  by_duty h (Share k) room = none_more no_share refl refl
  by_duty h (Protect k) room = none_more no_share refl refl
  by_duty h (Unprotect k) room = none_more no_share refl refl
  by_duty h (Remove k) room = by_named (record h {
    environments = with_top h.environments (unbind (top_names h.environments) k);
  }) (bound (top_names h.environments) k)
  by_duty h (EndBase r) room = by_removal (record h { base = removed_once r h.base }) r

  by_first : (h : Holder) (ds : List Duty) → has_room_for_first sizes s ds ≡ true
      → StillFits sizes s (share_of_first s h ds)
  by_first h [] room = none_more no_share refl refl
  by_first h (d ∷ ds) room = by_duty (record h { duties = ds }) d room

  by_holder : (o : Option Holder) → has_room_to_attend sizes s o ≡ true → StillFits sizes s (share_of_holder s o)
  by_holder None room = none_more no_share refl refl
  by_holder (Some h) room = by_first h h.duties room

  by_plain : (o : Option TacState) → StillFits sizes s (share_of_plain s o)
  by_plain None = none_more no_share refl refl
  by_plain (Some next) = none_more (share_of_plain s (Some next)) refl refl

  by_event : (code : Code) (e : Event) → has_room sizes s e ≡ true → StillFits sizes s (share_of code s e)
  by_event code (Instruct pick) room = by_plain (plain_step code s.plain pick)
  by_event code (Attend g) room = by_holder (slice_get s.holders g) room
  by_event code (TakePage g) room = record {
    pages = below (pages_in_use s) sizes.pages room;
    regions = let f = fits.regions in omega (arith, f);
  }
    where
      below : (n m : ℕ) → nat_lt n m ≡ true → n + 1 ≤ m
      below n m e = grind (arith, nat_tests)
  by_event code (MakeOffer g) room = none_more no_share refl refl
  by_event code (Acknowledge g) room = none_more no_share refl refl
  by_event code (Finish limit) room = none_more no_share refl refl

  -- a state with these counts more
  then_fits : (t : RegionState) (d : Counts) → counts_of t ≡ counts_plus (counts_of s) d → StillFits sizes s d
      → StateFitsIn sizes t
  then_fits t d adds still = record {
    pages =
        let taken = ap (λ (c : Counts). c.taken) adds in
        let returned = ap (λ (c : Counts). c.returned) adds in
        let f = StillFits.pages still in
        omega (arith, taken, returned, f);
    regions =
        let made = ap (λ (c : Counts). c.made) adds in
        let removed = ap (λ (c : Counts). c.removed) adds in
        let f = StillFits.regions still in
        omega (arith, made, removed, f);
  }

-- ---- steps and runs

module _ (code : Code) (sizes : Sizes) where
  -- a step with room is a step
  pub roomy_is_step : (s t : RegionState) (e : Event) → roomy_step code sizes s e ≡ Some t
      → region_step code sizes.page_words s e ≡ Some t
  roomy_is_step s t e q = go (has_room sizes s e) q
    where
      go : (b : Bool) → (if b then region_step code sizes.page_words s e else None) ≡ Some t
          → region_step code sizes.page_words s e ≡ Some t
      go true q = q
      go false q = cc

  step_had_room : (s t : RegionState) (e : Event) → roomy_step code sizes s e ≡ Some t → has_room sizes s e ≡ true
  step_had_room s t e q = go (has_room sizes s e) q
    where
      go : (b : Bool) → (if b then region_step code sizes.page_words s e else None) ≡ Some t → b ≡ true
      go true q = refl
      go false q = cc

  pub step_fits : (s t : RegionState) (e : Event) → StateFitsIn sizes s → roomy_step code sizes s e ≡ Some t → StateFitsIn sizes t
  step_fits s t e fits q = then_fits sizes s fits t (share_of code s e)
      (tally_adds code sizes.page_words s t e (roomy_is_step s t e q))
      (by_event sizes s fits code e (step_had_room s t e q))

  pub run_is : (es : List Event) (s t : RegionState) → run (roomy_step code sizes) s es ≡ Some t
      → run (region_step code sizes.page_words) s es ≡ Some t
  run_is [] s t a = a
  run_is (e ∷ es) s t a = go (roomy_step code sizes s e) refl a (λ v x. run_is es v t x)
    where
      go : (o : Option RegionState) → roomy_step code sizes s e ≡ o
          → option_and_then (λ v. run (roomy_step code sizes) v es) o ≡ Some t
          → ((v : RegionState) → run (roomy_step code sizes) v es ≡ Some t
          → run (region_step code sizes.page_words) v es ≡ Some t)
          → option_and_then (λ v. run (region_step code sizes.page_words) v es) (region_step code sizes.page_words s e)
          ≡ Some t
      go None q a next = cc
      go (Some v) q a next =
          ap (option_and_then (λ v. run (region_step code sizes.page_words) v es)) (roomy_is_step s v e q) ∙ next v a

  pub run_fits : (before after : List Event) (s t u : RegionState) → StateFitsIn sizes s
      → run (roomy_step code sizes) s (before ++ after) ≡ Some t
      → run (region_step code sizes.page_words) s before ≡ Some u → StateFitsIn sizes u
  run_fits [] after s t u fits a b = subst (StateFitsIn sizes) (same_Some s u b) fits
  run_fits (e ∷ before) after s t u fits a b =
      go (roomy_step code sizes s e) refl a (λ v f x y. run_fits before after v t u f x y)
    where
      go : (o : Option RegionState) → roomy_step code sizes s e ≡ o
          → option_and_then (λ v. run (roomy_step code sizes) v (before ++ after)) o ≡ Some t
          → ((v : RegionState) → StateFitsIn sizes v → run (roomy_step code sizes) v (before ++ after) ≡ Some t
          → run (region_step code sizes.page_words) v before ≡ Some u → StateFitsIn sizes u) → StateFitsIn sizes u
      go None q a next = cc
      go (Some v) q a next = next v (step_fits s v e fits q) a
          (sym (ap (option_and_then (λ v. run (region_step code sizes.page_words) v before)) (roomy_is_step s v e q)) ∙ b)

  pub start_fits : StateFitsIn sizes (region_start code)
  start_fits = record { pages = omega arith; regions = omega arith }

pub room_is_kept : RoomIsKept
room_is_kept = record {
  is_run = λ code sizes events t a. run_is code sizes events (region_start code) t a;
  fits = λ code sizes before after s t a b.
      run_fits code sizes before after (region_start code) t s (start_fits code sizes) a b;
}
