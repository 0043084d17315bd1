-- There is room for the object that a goroutine makes next, or there is none, by what the code keeps. The loop takes one page at a
-- time, and each page is a step of the machine with room; its invariant counts how many are still needed.
use Rattle.std.proofs.Common.{◌≡◌, ℕ, ◌+◌, ◌-◌, ◌≤◌, ◌<◌, Bool, true, false, List, [], Option, Some, None, IsSome}
use Rattle.std.proofs.Common.{refl, sym, ap, ◌∙◌, subst, nat_le, nat_lt, if◌then◌else◌, arith, slice_get, slice_set, rules}
use Rattle.std.proofs.lemmas.Bool.Decides.{nat_tests}
use Rattle.rgo_machine.specs.declared.limits.Sizes.{Sizes}
use Rattle.rgo_machine.specs.declared.limits.Shortage.{Shortage}
use Rattle.rgo_machine.specs.declared.limits.Shortage.TheVariants as shortage
use Rattle.rgo_tac.specs.declared.regions.Class.{Class}
use Rattle.rgo_tac.specs.declared.regions.Class.TheVariants.{Global, Name, NoClass}
use Rattle.rgo_tac.specs.Frames.{TacFrame, operand_values}
use Rattle.rgo_typed.specs.declared.programs.Struct.{Struct}
use Rattle.rgo_code.specs.Code.{Branch, Call, Code, CodeFn, CodeOp, Do, Go, Jump, Print, Return}
use Rattle.rgo_code.specs.Erasure.{erased_op}
use Rattle.rgo_code.specs.Names.{class_of}
use Rattle.rgo_region_machine.specs.declared.regions.Region.{Region}
use Rattle.rgo_region_machine.specs.declared.regions.Region.TheVariants.{Global as GlobalRegion, Numbered}
use Rattle.rgo_region_machine.specs.Counts.{counts_of}
use Rattle.rgo_region_machine.specs.Duties.{may_go}
use Rattle.rgo_region_machine.specs.Machine.{TakePage, page_taken, region_step}
use Rattle.rgo_region_machine.specs.Objects.{fill_of, fits_in_page, making_region, target_class, with_fill, with_page}
use Rattle.rgo_region_machine.specs.Owed.{current_in, function_at}
use Rattle.rgo_region_machine.specs.Regions.{Bindings, class_region}
use Rattle.rgo_region_machine.specs.States as spec
use Rattle.rgo_region_machine.specs.States.{RegionState, top_names}
use Rattle.rgo_sound.proofs.offers.Offers.{makes_at}
use Rattle.rgo_sound.proofs.duties.Attends.{same_reflexive}
use Rattle.rgo_sound.proofs.Places.{get_set_same}
use Rattle.rgo_sound.proofs.Tests.{split}
use Rattle.rgo_region_interpreter.specs.declared.holders.Holder.{Holder}
use Rattle.rgo_region_interpreter.specs.declared.objects.Extent.{Extent}
use Rattle.rgo_region_interpreter.specs.declared.objects.Making.{Making}
use Rattle.rgo_region_interpreter.specs.declared.worlds.Next.{Next}
use Rattle.rgo_region_interpreter.specs.declared.worlds.World.{World}
use Rattle.rgo_region_interpreter.specs.Extents as extents
use Rattle.rgo_region_interpreter.specs.Extents.{pages_wanted}
use Rattle.rgo_region_interpreter.specs.Holders.{Fills, HolderShows, fill_in}
use Rattle.rgo_region_interpreter.specs.Objects.{AddsPage, ObjectHasRoom, IsRoomy, GoroutineMakesNext, WithPage, extent_made, fill_for, fill_held}
use Rattle.rgo_region_interpreter.specs.Objects.{making_by, making_of, named_region, pages_wanted_for, region_for, region_of_class}
use Rattle.rgo_region_interpreter.specs.Objects.{reserved_held}
use Rattle.rgo_region_interpreter.specs.Works.{Attended, IsNextInWorld, Ready, SameRun, StopsShort}
use Rattle.rgo_region_machine.specs.Room.{LacksIn}
use Rattle.rgo_region_interpreter.proofs.owing.Attending.{attended_none, attended_then, shown_holder, there_is}
use Rattle.rgo_region_interpreter.proofs.acts.Instructed.{its_region, made, makes_one, page_step, paged_own, paged_spread, region_live, too_large}
use Rattle.rgo_region_interpreter.proofs.holding.OneHolder.{the_same}
use Rattle.rgo_region_interpreter.proofs.owing.Paging.{PageShows, Pages, page_own, page_reserved, pages}
use Rattle.rgo_region_interpreter.proofs.holding.Showing.{region_shown}
use Rattle.rgo_region_interpreter.proofs.stepping.Targets.{IsBefore, region_in_stakes}

-- ---- a goroutine that is ready

-- it is before its next instruction
pub before : (w : World) (s : RegionState) (g : ℕ) (next : Next) (ready : Ready w s g) (at : IsNextInWorld w g next)
    → IsBefore w.code.now s g ready.works.holder at.frame at.callers at.is.instr
before w s g next ready at = record {
  checked = ready.works.prepared.checked;
  ascends = ready.works.prepared.ascends;
  good = ready.works.good;
  there = ready.works.is_holder;
  at = ap (λ gs. slice_get gs g) (sym ready.works.shown.goroutines) ∙ at.frames;
  cur =
      ap (λ o. current_in o at.frame.next) at.is.function
      ∙ ap (slice_get next.function.body) (sym at.is.at)
      ∙ at.is.is_instr;
  none = ready.works.owed;
  free = let c = there_is w s g [] ready.works in ap may_go (shown_holder w s g [] ready.works c.0 c.1).no_offer;
  running = ready.works.shown.goes_on;
}

target_is : (to : Option ℕ) (extent : Option Extent) (making : Making) → making_of to extent ≡ Some making
    → to ≡ Some making.to
target_is None extent making e = cc
target_is (Some d) None making e = cc
target_is (Some d) (Some x) making e = ap (λ (m : Making). Some m.to) (the_same (record { to = d; extent = x }) making e)

making_target : (structs : List Struct) (frame : TacFrame) (op : CodeOp) (making : Making) (f : Option CodeFn)
    (names : Bindings) → making_by structs frame (erased_op op) ≡ Some making → makes_at op ≡ true
    → making_region f names op ≡ class_region names (target_class f (Some making.to))
making_target structs frame (Do to action from removes) making f names e t =
    ap (λ b. if b then class_region names (target_class f to) else None) t
    ∙ ap (λ o. class_region names (target_class f o))
    (target_is to (extent_made structs action (operand_values frame from)) making e)
making_target structs frame (Call to n from passes protects removes) making f names e t = cc
making_target structs frame (Go n from passes removes) making f names e t = cc
making_target structs frame (Print pieces from removes) making f names e t = cc
making_target structs frame (Jump j removes) making f names e t = cc
making_target structs frame (Branch v j removes k others) making f names e t = cc
making_target structs frame (Return v) making f names e t = cc

-- the region of a class, by what the machine's goroutine names
shown_class : (w : World) (s : RegionState) (g : ℕ) (ready : Ready w s g) (c : Class)
    → region_of_class w g c ≡ class_region (top_names ready.works.holder.environments) c
shown_class w s g ready NoClass = refl
shown_class w s g ready Global = refl
shown_class w s g ready (Name k) =
    let c = there_is w s g [] ready.works in
    ap (λ o. named_region o k) c.1
    ∙ region_shown c.0 ready.works.holder k (shown_holder w s g [] ready.works c.0 c.1)

-- after some pages were taken, goroutine g is ready, and this many are still needed in a region for its next object
pub record Roomier (w v : World) (s : RegionState) (g : ℕ) (next : Next) (making : Making) (region : Region) (left : ℕ)
    : Type 0 where
  pub attended : Attended w v s g []
  pub ready : Ready v attended.state g
  pub makes : GoroutineMakesNext v g next making
  pub found : region_for v g next making ≡ Some region
  pub wanted : pages_wanted_for v g region making.extent ≡ left

module _ (w : World) (s : RegionState) (g : ℕ) (next : Next) (making : Making) (ready : Ready w s g)
    (makes : GoroutineMakesNext w g next making) where
  abbrev at : IsNextInWorld w g next
  at = makes.at

  abbrev h : spec.Holder
  h = ready.works.holder

  abbrev i : IsBefore w.code.now s g ready.works.holder makes.at.frame makes.at.callers makes.at.is.instr
  i = before w s g next ready makes.at

  pub is_making : making_by w.code.now.structs makes.at.frame (erased_op makes.at.is.instr.op) ≡ Some making
  is_making = ap (making_by w.code.now.structs makes.at.frame) makes.at.is.op ∙ makes.is

  kept : (c : Holder) × (slice_get w.holders.items g ≡ Some c)
  kept = there_is w s g [] ready.works

  shows : HolderShows kept.0 ready.works.holder
  shows = shown_holder w s g [] ready.works kept.0 kept.1

  -- the region in which the code makes it is that of the machine
  pub region_is : region_for w g next making
      ≡ making_region (function_at w.code.now makes.at.frame) (top_names ready.works.holder.environments)
      makes.at.is.instr.op
  region_is =
      shown_class w s g ready (class_of next.function making.to)
      ∙ ap (λ f. class_region (top_names ready.works.holder.environments) (target_class f (Some making.to)))
      (sym makes.at.is.function)
      ∙ sym (making_target w.code.now.structs makes.at.frame makes.at.is.instr.op making
      (function_at w.code.now makes.at.frame) (top_names ready.works.holder.environments) is_making
      (makes_one i making is_making))

  abbrev r : (r : Region) × (making_region (function_at w.code.now makes.at.frame)
      (top_names ready.works.holder.environments) makes.at.is.instr.op ≡ Some r)
  r = its_region i making is_making

  pub region_found : region_for w g next making ≡ Some (its_region i making is_making).0
  region_found = region_is ∙ (its_region i making is_making).1

  pub fill_is : fill_for w g (its_region i making is_making).0
      ≡ fill_of ready.works.holder.fills (its_region i making is_making).0
  fill_is = ap (λ o. fill_held o r.0) kept.1 ∙ go r.0 r.1
    where
      go : (q : Region) → making_region (function_at w.code.now makes.at.frame)
          (top_names ready.works.holder.environments) makes.at.is.instr.op ≡ Some q
          → fill_in kept.0 q ≡ fill_of ready.works.holder.fills q
      go GlobalRegion e = shows.global_fill
      go (Numbered q) e = shows.fills q (region_in_stakes i q e)

  in_function : making_region (Some next.function) (top_names ready.works.holder.environments) makes.at.is.instr.op
      ≡ Some (its_region i making is_making).0
  in_function = ap (λ f. making_region f (top_names ready.works.holder.environments) makes.at.is.instr.op)
      (sym makes.at.is.function) ∙ r.1

  -- ---- what make_room finds

  pub never_none : region_for w g next making ≡ None → ⊥
  never_none e = let z : None ≡ Some r.0 = sym e ∙ region_found in cc

  -- no step was done
  stops_now : (why : Shortage) → LacksIn w.code.now w.sizes why s → StopsShort w w s g why
  stops_now why lacks = record {
    events = [];
    only_regions = tt;
    state = s;
    leads = refl;
    plain = refl;
    between = ready.between;
    same = record { code = refl; sizes = refl; print = refl };
    lacks = lacks;
  }

  pub too_many_pages : extents.extent_is_too_large w.sizes.page_words making.extent ≡ true
      → StopsShort w w s g shortage.ObjectSize
  too_many_pages large = stops_now shortage.ObjectSize
      (let t = too_large i making is_making w.sizes.page_words large in (g, t.0, t.1, t.2))

  module _ (region : Region) (e : region_for w g next making ≡ Some region)
      (small : extents.extent_is_too_large w.sizes.page_words making.extent ≡ false) where
    its : region ≡ (its_region i making is_making).0
    its = the_same region r.0 (sym e ∙ region_found)

    -- the code counts the pages as the machine does
    wanted_is : pages_wanted_for w g region making.extent
        ≡ pages_wanted w.sizes.page_words ready.works.holder.reserved
        (fill_of ready.works.holder.fills (its_region i making is_making).0) making.extent
    wanted_is =
        ap (λ q. pages_wanted_for w g q making.extent) its
        ∙ (λ j. pages_wanted w.sizes.page_words ((ap reserved_held kept.1 ∙ shows.reserved) j) (fill_is j) making.extent)

    -- all pages are taken
    pub roomy_now : pages_wanted_for w g region making.extent ≡ 0 → IsRoomy w s g next making
    roomy_now none = record {
      ready = ready;
      makes = makes;
      region = r.0;
      is_region = in_function;
      small = small;
      has_pages = sym wanted_is ∙ none;
    }

    module _ (more : 0 < pages_wanted_for w g region making.extent) where
      takes : region_step w.code.now w.sizes.page_words s (TakePage g)
          ≡ Some (page_taken s g (with_page w.sizes.page_words ready.works.holder (its_region i making is_making).0
          (made i making is_making).object) (its_region i making is_making).0)
      takes = page_step i making is_making w.sizes.page_words small (subst (λ n. 0 < n) wanted_is more)

      some_is : {X : Type 0} (o : Option X) (x : X) → o ≡ Some x → IsSome o
      some_is o x e = subst IsSome (sym e) (search rules)

      pub lacks_page : w.sizes.pages ≤ w.table.taken - w.table.returned → LacksIn w.code.now w.sizes shortage.Pages s
      lacks_page less = (
        g,
        some_is (region_step w.code.now w.sizes.page_words s (TakePage g)) _ takes,
        subst (λ n. w.sizes.pages ≤ n - (counts_of s).returned) ready.works.shown.table.taken
            (subst (λ n. w.sizes.pages ≤ w.table.taken - n) ready.works.shown.table.returned less),
      )

      module _ (fewer : w.table.taken - w.table.returned < w.sizes.pages) (v : World)
          (adds : AddsPage w v g region making.extent) where
        abbrev now : World
        now = record w { table = v.table; holders = v.holders }

        adds' : AddsPage w v g (its_region i making is_making).0 making.extent
        adds' = subst (λ q. AddsPage w v g q making.extent) its adds

        -- the goroutine has a page more
        pub record OneMore : Type 0 where
          fills : List (Region × ℕ)
          reserved : ℕ
          paged : Pages w (record w { table = v.table; holders = v.holders }) s g
              (record ready.works.holder { fills = fills; reserved = reserved })
          wanted : pages_wanted_for (record w { table = v.table; holders = v.holders }) g region making.extent + 1
              ≡ pages_wanted_for w g region making.extent

        changed : (d : Holder) × (v.holders.items ≡ slice_set w.holders.items g d)
            × WithPage (extents.extent_is_spread w.sizes.page_words making.extent) kept.0 d region
        changed = adds.changed kept.0 kept.1

        there : slice_get v.holders.items g ≡ Some changed.0
        there = ap (λ l. slice_get l g) changed.1 ∙ get_set_same w.holders.items g kept.0 changed.0 kept.1

        -- what the code counts before and after
        was : pages_wanted_for w g region making.extent
            ≡ pages_wanted w.sizes.page_words kept.0.reserved (fill_in kept.0 region) making.extent
        was = λ j. pages_wanted w.sizes.page_words (reserved_held (kept.1 j)) (fill_held (kept.1 j) region) making.extent

        becomes : pages_wanted_for (record w { table = v.table; holders = v.holders }) g region making.extent
            ≡ pages_wanted w.sizes.page_words changed.0.reserved (fill_in changed.0 region) making.extent
        becomes = λ j. pages_wanted w.sizes.page_words (reserved_held (there j)) (fill_held (there j) region)
            making.extent

        abbrev many : ℕ
        many = extents.extent_data_pages w.sizes.page_words making.extent

        by_spread : (n : ℕ) (o : Option ℕ) (b : Bool) → extents.extent_is_spread w.sizes.page_words making.extent ≡ b
            → pages_wanted w.sizes.page_words n o making.extent
            ≡ (if b then (many + 1) - n else if fits_in_page w.sizes.page_words o making.extent.words then 0 else 1)
        by_spread n o b t =
            ap (λ b. if b then (many + 1) - n else if fits_in_page w.sizes.page_words o making.extent.words then 0 else 1) t

        one_more_spread : extents.extent_is_spread w.sizes.page_words making.extent ≡ true → OneMore
        one_more_spread t = record {
          fills = ready.works.holder.fills;
          reserved = ready.works.holder.reserved + 1;
          paged = pages w v s g ready r.0 making.extent adds' (region_live i making is_making) fewer
              ready.works.holder.fills (ready.works.holder.reserved + 1)
              (subst (λ b. PageShows ready.works.holder b r.0 ready.works.holder.fills (ready.works.holder.reserved + 1))
              (sym t) (page_reserved ready.works.holder r.0))
              (takes ∙ ap (λ k. Some (page_taken s g k r.0)) (paged_spread i making is_making w.sizes.page_words t));
          wanted =
              let d : changed.0.reserved ≡ kept.0.reserved + 1 = ap (λ (z : Holder). z.reserved)
              (subst (λ b. WithPage b kept.0 changed.0 region) t changed.2) in
              let x = becomes ∙ by_spread changed.0.reserved (fill_in changed.0 region) true t ∙ ap (λ n. (many + 1) - n) d in
              let y = was ∙ by_spread kept.0.reserved (fill_in kept.0 region) true t in
              fewer_by_one (pages_wanted_for (record w { table = v.table; holders = v.holders }) g region making.extent)
              (pages_wanted_for w g region making.extent) many kept.0.reserved x y more;
        }
          where
            fewer_by_one : (x y n m : ℕ) → x ≡ (n + 1) - (m + 1) → y ≡ (n + 1) - m → 0 < y → x + 1 ≡ y
            fewer_by_one x y n m e f l = omega (arith, e, f, l)

        one_more_own : extents.extent_is_spread w.sizes.page_words making.extent ≡ false → OneMore
        one_more_own f = record {
          fills = with_fill ready.works.holder.fills r.0 0;
          reserved = ready.works.holder.reserved;
          paged = pages w v s g ready r.0 making.extent adds' (region_live i making is_making) fewer
              (with_fill ready.works.holder.fills r.0 0) ready.works.holder.reserved
              (subst (λ b. PageShows ready.works.holder b r.0 (with_fill ready.works.holder.fills r.0 0)
              ready.works.holder.reserved) (sym f) (page_own ready.works.holder r.0))
              (takes ∙ ap (λ k. Some (page_taken s g k r.0)) (paged_own i making is_making w.sizes.page_words f));
          wanted =
              ap (λ n. n + 1) (becomes ∙ by_spread changed.0.reserved (fill_in changed.0 region) false f ∙ ap (λ o. if fits_in_page w.sizes.page_words o making.extent.words
              then 0 else 1) empty
              ∙ ap (λ b. if b then 0 else 1) (small_enough w.sizes.page_words making.extent.words f))
              ∙ sym (only_one (fits_in_page w.sizes.page_words (fill_in kept.0 region) making.extent.words)
              (pages_wanted_for w g region making.extent) (was ∙ by_spread kept.0.reserved (fill_in kept.0 region) false f) more);
        }
          where
            fills' : Fills kept.0 changed.0 region 0
            fills' = subst (λ b. WithPage b kept.0 changed.0 region) f changed.2

            empty : fill_in changed.0 region ≡ Some 0
            empty = fills'.0 region ∙ ap (λ b. if b then Some 0 else fill_in kept.0 region) (same_reflexive region)

            small_enough : (n m : ℕ) → nat_lt n m ≡ false → nat_le (0 + m) n ≡ true
            small_enough n m l = grind (arith, nat_tests)

            only_one : (b : Bool) (n : ℕ) → n ≡ (if b then 0 else 1) → 0 < n → n ≡ 1
            only_one true n e l = absurd (omega (arith, e, l))
            only_one false n e l = e

        one_more : OneMore
        one_more = split (extents.extent_is_spread w.sizes.page_words making.extent) one_more_spread one_more_own

        next_makes : GoroutineMakesNext (record w { table = v.table; holders = v.holders }) g next making
        next_makes = record {
          at = record {
            frame = makes.at.frame;
            callers = makes.at.callers;
            frames = makes.at.frames;
            is = makes.at.is;
          };
          is = makes.is;
        }

        -- the goroutine is ready again, and a page less is wanted
        roomier : Roomier w (record w { table = v.table; holders = v.holders }) s g next making region
            (pages_wanted_for w g region making.extent - 1)
        roomier = record {
          attended = one_more.paged.attended;
          ready = one_more.paged.ready;
          makes = next_makes;
          found =
              class_of_next
              ∙ ap (λ (k : spec.Holder). class_region (top_names k.environments) (class_of next.function making.to))
              one_more.paged.holder
              ∙ sym (shown_class w s g ready (class_of next.function making.to)) ∙ e;
          wanted = let x = one_more.wanted in less_one _ _ x;
        }
          where
            less_one : (a b : ℕ) → a + 1 ≡ b → a ≡ b - 1
            less_one a b e = omega (arith, e)

            class_of_next : region_for (record w { table = v.table; holders = v.holders }) g next making
                ≡ class_region (top_names one_more.paged.ready.works.holder.environments)
                (class_of next.function making.to)
            class_of_next = shown_class (record w { table = v.table; holders = v.holders })
                one_more.paged.attended.state g one_more.paged.ready (class_of next.function making.to)

        pub roomier_then : Roomier w v s g next making region (pages_wanted_for w g region making.extent - 1)
        roomier_then = subst (λ u. Roomier w u s g next making region (pages_wanted_for w g region making.extent - 1))
            (sym adds.same) roomier

-- ---- pages are taken one after the other

-- whatever state the world was at
abbrev pub AllRoomier : World → World → ℕ → Next → Making → Region → (left : ℕ) → Type 0
AllRoomier w v g next making region left = (s : RegionState) → Ready w s g → Roomier w v s g next making region left

-- none was taken so far
pub roomier_none : (w : World) (g : ℕ) (next : Next) (making : Making) (region : Region) (all : ℕ)
    → GoroutineMakesNext w g next making → region_for w g next making ≡ Some region
    → all ≡ pages_wanted_for w g region making.extent → AllRoomier w w g next making region (all - 0)
roomier_none w g next making region all makes e is s ready = record {
  attended = attended_none w s g [] ready.works;
  ready = ready;
  makes = makes;
  found = e;
  wanted = sym is ∙ less_none all;
}
  where
    less_none : (n : ℕ) → n ≡ n - 0
    less_none n = omega arith

module _ (w u : World) (g : ℕ) (next : Next) (making : Making) (region : Region) (left : ℕ)
    (so : AllRoomier w u g next making region left)
    (small : extents.extent_is_too_large w.sizes.page_words making.extent ≡ false) (same : SameRun w u) where
  small_now : extents.extent_is_too_large u.sizes.page_words making.extent ≡ false
  small_now = ap (λ (z : Sizes). extents.extent_is_too_large z.page_words making.extent) same.sizes ∙ small

  pub roomier_next : 0 < left → u.table.taken - u.table.returned < u.sizes.pages → (v : World)
      → AddsPage u v g region making.extent → AllRoomier w v g next making region (left - 1)
  roomier_next more fewer v adds s ready =
      let x = so s ready in
      let y = roomier_then u x.attended.state g next making x.ready x.makes region x.found small_now
      (subst (λ n. 0 < n) (sym x.wanted) more) fewer v adds in
      record {
        attended = attended_then w u v s g [] [] x.attended y.attended;
        ready = y.ready;
        makes = y.makes;
        found = y.found;
        wanted = y.wanted ∙ ap (λ n. n - 1) x.wanted;
      }

  pub roomier_stops : 0 < left → u.sizes.pages ≤ u.table.taken - u.table.returned → (s : RegionState) → Ready w s g
      → StopsShort w u s g shortage.Pages
  roomier_stops more less s ready =
      let x = so s ready in
      record {
        events = x.attended.events;
        only_regions = x.attended.only_regions;
        state = x.attended.state;
        leads = x.attended.leads;
        plain = x.attended.plain;
        between = x.ready.between;
        same = x.attended.same;
        lacks = subst (λ (z : Code × Sizes). LacksIn z.0 z.1 shortage.Pages x.attended.state)
            (λ j. (same.code j, same.sizes j)) (lacks_page u x.attended.state g next making x.ready x.makes region x.found
            small_now (subst (λ n. 0 < n) (sym x.wanted) more) less);
      }

  pub roomier_all : left ≡ 0 → (s : RegionState) → Ready w s g → ObjectHasRoom w u s g next making
  roomier_all none s ready =
      let x = so s ready in
      record {
        attended = x.attended;
        roomy = roomy_now u x.attended.state g next making x.ready x.makes region x.found small_now (x.wanted ∙ none);
      }

-- the next one of this many
pub roomier_step : (w u v : World) (g : ℕ) (next : Next) (making : Making) (region : Region) (all taken : ℕ)
    → AllRoomier w u g next making region (all - taken)
    → extents.extent_is_too_large w.sizes.page_words making.extent ≡ false → SameRun w u → taken < all
    → u.table.taken - u.table.returned < u.sizes.pages → AddsPage u v g region making.extent
    → AllRoomier w v g next making region (all - (taken + 1))
roomier_step w u v g next making region all taken so small same more fewer adds =
    subst (AllRoomier w v g next making region) (one_more all taken)
    (roomier_next w u g next making region (all - taken) so small same (omega (arith, more)) fewer v adds)
  where
    one_more : (n m : ℕ) → (n - m) - 1 ≡ n - (m + 1)
    one_more n m = omega arith
