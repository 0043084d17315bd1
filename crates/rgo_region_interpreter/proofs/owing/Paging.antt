-- A goroutine takes a page: the step of the region machine, and what the world shows after it. The test for room is on counts of the
-- table, which are those of the machine's state.
use Rattle.std.proofs.Common.{◌≡◌, ℕ, ◌+◌, ◌≤◌, ◌<◌, Bool, true, false, List, [], ◌∷◌, length, map, Option, Some, None}
use Rattle.std.proofs.Common.{◌-◌, refl, sym, ap, ◌∙◌, subst, drop, nat_eq, nat_lt, if◌then◌else◌, arith, true≢false}
use Rattle.std.proofs.Common.{slice_get, slice_set, option_map, option_and_then}
use Rattle.std.proofs.lemmas.Bool.Decides.{nat_tests}
use Rattle.rgo_machine.specs.Runs.{run}
use Rattle.rgo_region_machine.specs.declared.regions.Region.{Region}
use Rattle.rgo_region_machine.specs.declared.regions.Region.TheVariants.{Global as GlobalRegion, Numbered}
use Rattle.rgo_region_machine.specs.Duties.{attended}
use Rattle.rgo_region_machine.specs.Machine.{TakePage, page_taken, region_step}
use Rattle.rgo_region_machine.specs.Objects.{fill_of, with_fill}
use Rattle.rgo_region_machine.specs.Owed.{next_duties}
use Rattle.rgo_region_machine.specs.Regions.{RegionInfo, is_live, one_page_more, same_region, with_info}
use Rattle.rgo_region_machine.specs.Room.{pages_in_use, roomy_step}
use Rattle.rgo_region_machine.specs.States as spec
use Rattle.rgo_region_machine.specs.States.{Duty, RegionState, frames_of}
use Rattle.rgo_sound.proofs.duties.Attends.{length_with_info, same_reflexive, with_info_other, with_info_same}
use Rattle.rgo_sound.proofs.duties.Moves.{same_regions}
use Rattle.rgo_sound.proofs.offers.Offers.{steps_keep_good}
use Rattle.rgo_sound.proofs.Places.{get_set_other}
use Rattle.rgo_sound.proofs.Tests.{eq_of, split}
use Rattle.rgo_region_interpreter.specs.declared.holders.Holder.{Holder}
use Rattle.rgo_region_interpreter.specs.declared.objects.Extent.{Extent}
use Rattle.rgo_region_interpreter.specs.declared.worlds.World.{World}
use Rattle.rgo_region_interpreter.specs.Holders.{Fills, HolderShows, Reserves, SameBindings, fill_in}
use Rattle.rgo_region_interpreter.specs.Extents.{extent_is_spread}
use Rattle.rgo_region_interpreter.specs.Objects.{AddsPage, WithPage}
use Rattle.rgo_region_interpreter.specs.Tables.{is_gone, is_gone_in, pages_with, regions_with_page}
use Rattle.rgo_region_interpreter.specs.Works.{Attended, Ready, Works}
use Rattle.rgo_region_interpreter.specs.Worlds.{HoldersShow, OwesNext, Shown, next_creates}
use Rattle.rgo_region_interpreter.proofs.owing.Attending.{kept_others, memory_same, there_is}
use Rattle.rgo_region_interpreter.proofs.holding.OneHolder.{Changes, d_is, differs, k_there, one_shows, others_owe}
use Rattle.rgo_region_interpreter.proofs.holding.Orderly.{orderly_step}
use Rattle.rgo_region_interpreter.proofs.owing.Preparing.{between_with, others_between}

-- ---- what is used of the own pages

-- what is used in each region, after the words used in one have changed
pub fill_with_at : (fills : List (Region × ℕ)) (r : Region) (n : ℕ) (q : Region)
    → fill_of (with_fill fills r n) q ≡ (if same_region r q then Some n else fill_of fills q)
fill_with_at [] r n q = refl
fill_with_at (f ∷ fs) r n q = go (same_region f.0 r) refl (fill_with_at fs r n q)
  where
    apart : same_region f.0 r ≡ false → (b : Bool) → same_region f.0 q ≡ b → (a : Bool) → same_region r q ≡ a
        → (if b then Some f.1 else (if a then Some n else fill_of fs q))
        ≡ (if a then Some n else (if b then Some f.1 else fill_of fs q))
    apart e false x false y = refl
    apart e false x true y = refl
    apart e true x false y = refl
    apart e true x true y = absurd (true≢false (
        sym (same_reflexive r) ∙ ap (λ z. same_region z r) (same_regions r q y ∙ sym (same_regions f.0 q x)) ∙ e))

    go : (b : Bool) → same_region f.0 r ≡ b
        → fill_of (with_fill fs r n) q ≡ (if same_region r q then Some n else fill_of fs q)
        → fill_of (if b then (r, n) ∷ fs else f ∷ with_fill fs r n) q
        ≡ (if same_region r q then Some n else (if same_region f.0 q then Some f.1 else fill_of fs q))
    go true e h = one (same_region r q) (ap (λ z. same_region z q) (same_regions f.0 r e))
      where
        one : (a : Bool) → same_region f.0 q ≡ a
            → (if a then Some n else fill_of fs q)
            ≡ (if a then Some n else (if same_region f.0 q then Some f.1 else fill_of fs q))
        one true x = refl
        one false x = sym (ap (λ b. if b then Some f.1 else fill_of fs q) x)
    go false e h =
        ap (λ o. if same_region f.0 q then Some f.1 else o) h
        ∙ apart e (same_region f.0 q) refl (same_region r q) refl

-- what the code keeps of a goroutine, after the words used in one region have changed
pub fill_shown : (c d : Holder) (h : spec.Holder) (region : Region) (used : ℕ) (ds : List Duty) → HolderShows c h
    → Fills c d region used → HolderShows d (record h { fills = with_fill h.fills region used; duties = ds })
fill_shown c d h region used ds shows fills = record {
  names = subst (λ l. SameBindings l h.environments) (sym fills.1.names) shows.names;
  protections = λ r. fills.1.protections r ∙ shows.protections r;
  base = ap (map Numbered) fills.1.base ∙ shows.base;
  fills = λ r i. by (Numbered r) (shows.fills r i);
  global_fill = by GlobalRegion shows.global_fill;
  reserved = fills.1.reserved ∙ shows.reserved;
  no_offer = shows.no_offer;
}
  where
    by : (q : Region) → fill_in c q ≡ fill_of h.fills q → fill_in d q ≡ fill_of (with_fill h.fills region used) q
    by q e = fills.0 q ∙ ap (λ o. if same_region region q then Some used else o) e
        ∙ sym (fill_with_at h.fills region used q)

pub fill_unmade : (c d : Holder) (h : spec.Holder) (region q : Region) (used : ℕ) → Fills c d region used
    → fill_in c q ≡ fill_of h.fills q → fill_in d q ≡ fill_of (with_fill h.fills region used) q
fill_unmade c d h region q used fills e =
    fills.0 q ∙ ap (λ o. if same_region region q then Some used else o) e ∙ sym (fill_with_at h.fills region used q)

-- what the code keeps of it, after the number of reserved pages has changed
pub reserve_shown : (c d : Holder) (h : spec.Holder) (n : ℕ) (ds : List Duty) → HolderShows c h → Reserves c d n
    → HolderShows d (record h { reserved = n; duties = ds })
reserve_shown c d h n ds shows e = subst (λ z. HolderShows z (record h { reserved = n; duties = ds })) (sym e) (record {
  names = shows.names;
  protections = shows.protections;
  base = shows.base;
  fills = shows.fills;
  global_fill = shows.global_fill;
  reserved = refl;
  no_offer = shows.no_offer;
})

-- ---- the page that is taken

-- what the machine's goroutine has of the pages after it, and the code's shows it
pub record PageShows (h : spec.Holder) (spread : Bool) (region : Region) (fills : List (Region × ℕ)) (reserved : ℕ)
    : Type 0 where
  pub shows : (c d : Holder) → HolderShows c h → WithPage spread c d region
      → HolderShows d (record h { fills = fills; reserved = reserved })
  pub unmade : (c d : Holder) → WithPage spread c d region → (q : ℕ)
      → fill_in c (Numbered q) ≡ fill_of h.fills (Numbered q) → fill_in d (Numbered q) ≡ fill_of fills (Numbered q)
  pub done : (c d : Holder) → WithPage spread c d region → d.done ≡ c.done

pub page_reserved : (h : spec.Holder) (region : Region) → PageShows h true region h.fills (h.reserved + 1)
page_reserved h region = record {
  shows = λ c d shows e. reserve_shown c d h (h.reserved + 1) h.duties shows
      (e ∙ ap (λ n. record c { reserved = n + 1 }) shows.reserved);
  unmade = λ c d e q is. ap (λ (z : Holder). fill_in z (Numbered q)) e ∙ is;
  done = λ c d e. ap (λ (z : Holder). z.done) e;
}

pub page_own : (h : spec.Holder) (region : Region)
    → PageShows h false region (with_fill h.fills region 0) h.reserved
page_own h region = record {
  shows = λ c d shows fills. fill_shown c d h region 0 h.duties shows fills;
  unmade = λ c d fills q is. fill_unmade c d h region (Numbered q) 0 fills is;
  done = λ c d fills. fills.1.done;
}

-- ---- a page more

-- no region is removed by it
page_keeps : (regions : List RegionInfo) (r q : Region) → is_gone (regions_with_page regions r) q ≡ is_gone regions q
page_keeps regions GlobalRegion q = refl
page_keeps regions (Numbered r) GlobalRegion = refl
page_keeps regions (Numbered r) (Numbered q) = split (nat_eq r q) (λ t. here (eq_of r q t))
    (λ n. ap is_gone_in (with_info_other regions r q one_page_more n))
  where
    same : (o : Option RegionInfo) → is_gone_in (option_map one_page_more o) ≡ is_gone_in o
    same None = refl
    same (Some info) = refl

    here : r ≡ q → is_gone_in (slice_get (with_info regions r one_page_more) q) ≡ is_gone_in (slice_get regions q)
    here t =
        subst (λ x. is_gone_in (slice_get (with_info regions r one_page_more) x) ≡ is_gone_in (slice_get regions x)) t
        (ap is_gone_in (with_info_same regions r one_page_more) ∙ same (slice_get regions r))

page_length : (regions : List RegionInfo) (r : Region) → length (regions_with_page regions r) ≡ length regions
page_length regions GlobalRegion = refl
page_length regions (Numbered r) = length_with_info regions r one_page_more

-- ---- the world after it

-- goroutine g has taken a page, and is ready
pub record Pages (w v : World) (s : RegionState) (g : ℕ) (k : spec.Holder) : Type 0 where
  pub attended : Attended w v s g []
  pub ready : Ready v attended.state g
  pub holder : ready.works.holder ≡ k

module _ (w v : World) (s : RegionState) (g : ℕ) (ready : Ready w s g) (region : Region) (extent : Extent)
    (adds : AddsPage w v g region extent) (live : is_live s.regions region ≡ true)
    (fewer : w.table.taken - w.table.returned < w.sizes.pages) (fills : List (Region × ℕ)) (reserved : ℕ)
    (after : PageShows ready.works.holder (extent_is_spread w.sizes.page_words extent) region fills reserved)
    (steps : region_step w.code.now w.sizes.page_words s (TakePage g)
    ≡ Some (page_taken s g (record ready.works.holder { fills = fills; reserved = reserved }) region)) where
  abbrev h : spec.Holder
  h = ready.works.holder

  abbrev k : spec.Holder
  k = record h { fills = fills; reserved = reserved }

  abbrev now : World
  now = record w { table = v.table; holders = v.holders }

  abbrev next : RegionState
  next = record (attended s g k) {
    regions = regions_with_page s.regions region;
    global_pages = pages_with s.global_pages region;
  }

  next_is : (r : Region) → page_taken s g k r ≡ record (attended s g k) {
    regions = regions_with_page s.regions r;
    global_pages = pages_with s.global_pages r;
  }
  next_is GlobalRegion = refl
  next_is (Numbered r) = refl

  leads : region_step w.code.now w.sizes.page_words s (TakePage g) ≡ Some next
  leads = steps ∙ ap Some (next_is region)

  in_use : w.table.taken - w.table.returned ≡ pages_in_use s
  in_use = λ i. ready.works.shown.table.taken i - ready.works.shown.table.returned i

  room : nat_lt (pages_in_use s) w.sizes.pages ≡ true
  room = below (pages_in_use s) w.sizes.pages (subst (λ n. n < w.sizes.pages) in_use fewer)
    where
      below : (n m : ℕ) → n < m → nat_lt n m ≡ true
      below n m l = grind (arith, nat_tests)

  roomy : roomy_step w.code.now w.sizes s (TakePage g) ≡ Some next
  roomy = ap (λ b. if b then region_step w.code.now w.sizes.page_words s (TakePage g) else None) room ∙ leads

  kept : (c : Holder) × (slice_get w.holders.items g ≡ Some c)
  kept = there_is w s g [] ready.works

  paged : (d : Holder) × (v.holders.items ≡ slice_set w.holders.items g d)
      × WithPage (extent_is_spread w.sizes.page_words extent) kept.0 d region
  paged = adds.changed kept.0 kept.1

  changes : Changes w now s next g kept.0 paged.0 h k
  changes = record { c_there = kept.1; h_there = ready.works.is_holder; v_is = paged.1; t_is = refl }

  shows : HoldersShow w s
  shows = ready.works.shown.holders ready.works.running

  shown_next : Shown now next
  shown_next =
      let old = ready.works.shown in
      record {
        goroutines = old.goroutines;
        memory = memory_same w.state.memory s.plain.memory s.regions (regions_with_page s.regions region) s.owners
            (λ o q e. page_keeps s.regions region q) old.memory;
        before = old.before;
        printed = old.printed;
        ended = old.ended;
        goes_on = old.goes_on;
        table = adds.taken s.regions s.global_pages s.owners live old.table;
        holders = λ m. one_shows changes shows
            (let l = page_length s.regions region in omega (arith, l))
            (after.shows kept.0 paged.0 (shows.each g kept.0 h kept.1 ready.works.is_holder) paged.2)
            (λ r l. after.unmade kept.0 paged.0 paged.2 r
            (shows.unmade g kept.0 h kept.1 ready.works.is_holder r
            (let e = page_length s.regions region in omega (arith, e, l))));
      }

  works_next : Works now next g []
  works_next = record {
    prepared = record {
      checked = ready.works.prepared.checked;
      ascends = ready.works.prepared.ascends;
      marks = ready.works.prepared.marks;
      formals = ready.works.prepared.formals;
    };
    good = steps_keep_good w.code.now w.sizes.page_words s next (TakePage g) ready.works.prepared.checked
        ready.works.prepared.ascends ready.works.good leads;
    orderly = orderly_step w.code.now w.sizes.page_words s next (TakePage g) ready.works.prepared.checked
        ready.works.prepared.ascends ready.works.good ready.works.orderly leads;
    shown = shown_next;
    running = ready.works.running;
    holder = k;
    is_holder = k_there changes;
    owed = ready.works.owed;
  }

  owes_next : (x : Holder) → slice_get v.holders.items g ≡ Some x → OwesNext w.code.now next g x k
  owes_next x e =
      subst (λ z. OwesNext w.code.now next g z k)
      (d_is changes g x refl e) (record {
        left = was.left ∙ ap (λ n. drop n (next_duties w.code.now (frames_of s.plain g))) (sym done);
        within = subst (λ n. n ≤ length (next_duties w.code.now (frames_of s.plain g))) (sym done)
            was.within;
        together = λ l. was.together
            (subst (λ n. length (next_creates w.code.now (frames_of s.plain g)) < n) done l);
      })
    where
      done : paged.0.done ≡ kept.0.done
      done = after.done kept.0 paged.0 paged.2

      was : OwesNext w.code.now s g kept.0 h
      was = ready.between.owes g kept.0 h kept.1 ready.works.is_holder

  pub pages : Pages w now s g k
  unfolding works_next
  pages = record {
    attended = record {
      events = TakePage g ∷ [];
      only_regions = (tt, tt);
      state = next;
      leads = ap (option_and_then (λ (t : RegionState). run (roomy_step w.code.now w.sizes) t [])) roomy;
      works = works_next;
      plain = refl;
      same = record { code = refl; sizes = refl; print = refl };
      kept = kept_others w now g paged.0 paged.1;
      others = λ j n. get_set_other s.holders g j k (differs g j n);
    };
    ready = record {
      between = between_with now next g [] works_next
          (others_owe changes w.code.now (λ j n. refl) (others_between w s g ready.between)) owes_next;
      works = works_next;
    };
    holder = refl;
  }
