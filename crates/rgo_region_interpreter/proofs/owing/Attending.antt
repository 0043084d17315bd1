-- A step with a region that a goroutine owes: the region machine has it, and once the code has done it, the world shows the state after
-- it. That the machine has it is `duties_go` of rgo_sound. The hard case is the end of a stake, where the table, the memory and the
-- holder change together.
use Rattle.std.proofs.Common.{◌≡◌, ℕ, suc, ◌+◌, ◌≤◌, ◌<◌, Bool, true, false, List, [], ◌∷◌, ◌++◌, map, length}
use Rattle.std.proofs.Common.{Option, Some, None, refl, sym, ap, ◌∙◌, subst, nat_eq, nat_lt, if◌then◌else◌, ◌||◌, arith}
use Rattle.std.proofs.Common.{◌-◌, true≢false, cond, is_some, get_or, slice_get, slice_set, option_and_then, option_map, length-append}
use Rattle.std.specs.List.{list_any}
use Rattle.std.proofs.lemmas.Bool.Decides.{nat_tests}
use Rattle.std.proofs.lemmas.Option.{slice_get_read}
use Rattle.std.proofs.lemmas.Option.{slice_get_within}
use Rattle.rgo_code.specs.Checked.{IsChecked}
use Rattle.rgo_code.specs.Code.{Code}
use Rattle.rgo_code.specs.NameRules.{Ascends}
use Rattle.rgo_machine.specs.declared.limits.Sizes.{Sizes}
use Rattle.rgo_machine.specs.Runs.{run}
use Rattle.rgo_machine.proofs.Items.{set_twice}
use Rattle.rgo_memory.specs.Memory.{Memory, Object}
use Rattle.rgo_region_machine.specs.declared.regions.Region.{Region}
use Rattle.rgo_region_machine.specs.declared.regions.Region.TheVariants.{Global as GlobalRegion, Numbered}
use Rattle.rgo_region_machine.specs.Duties.{attend, attended, duty_done, guards, may_go, protected, removal, shared}
use Rattle.rgo_region_machine.specs.Duties.{unprotected, with_protection, without_protection}
use Rattle.rgo_region_machine.specs.Machine.{Attend, Event, region_step}
use Rattle.rgo_region_machine.specs.Objects.{fill_of}
use Rattle.rgo_region_machine.specs.Regions.{RegionInfo, bound, has_stakes, is_live, one_fewer, with_added_stake}
use Rattle.rgo_region_machine.specs.Regions.{removed_once, unbind, with_info, without}
use Rattle.rgo_region_machine.specs.Room.{has_room_for, has_room_for_first, has_room_to_attend, live_regions, roomy_step}
use Rattle.rgo_region_machine.specs.States as spec
use Rattle.rgo_region_machine.specs.States.{Create, Duty, EndBase, RegionEnvironment, NoOffer, Protect, RegionState, Remove, Share}
use Rattle.rgo_region_machine.specs.States.{Unprotect, frames_of, top_names, with_top}
use Rattle.rgo_sound.proofs.duties.Attends.{duties_go, length_with_info, with_info_other, with_info_same}
use Rattle.rgo_sound.proofs.offers.Offers.{steps_keep_good}
use Rattle.rgo_sound.proofs.Places.{get_append_left, get_set_other, get_set_same, get_some, length_set}
use Rattle.rgo_sound.proofs.Tests.{eq_of, split}
use Rattle.rgo_sound.specs.Good.{AllGood}
use Rattle.rgo_sound.specs.Invariant.{Fine, FramesFit, times}
use Rattle.rgo_sound.specs.Progress.{AreRegionSteps}
use Rattle.rgo_sound.proofs.steps.Acting.{set_same}
use Rattle.rgo_tac.specs.Frames.{TacFrame}
use Rattle.rgo_region_interpreter.specs.declared.holders.Holder.{Holder}
use Rattle.rgo_region_interpreter.specs.declared.worlds.World.{World}
use Rattle.rgo_region_interpreter.specs.Attending.{EndsStake, IsMoved, LeavesRegion, LeavesUnless, PendsBy, SharesOne, SharesTo, WorldStays}
use Rattle.rgo_region_interpreter.specs.Attending.{base_in, base_regions_of}
use Rattle.rgo_region_interpreter.specs.Holders.{HolderShows, Binds, Unbinds, HolderProtects, Unprotects, HolderEndsBase, SameFills}
use Rattle.rgo_region_interpreter.specs.Holders.{fill_in, protections_in, region_in}
use Rattle.rgo_region_interpreter.specs.Orderly.{Orderly, UnprotectsIn}
use Rattle.rgo_region_interpreter.specs.Tables.{AreMade, MemoryShows, RegionTableShows, is_gone, is_gone_in, kept_heap, kept_object}
use Rattle.rgo_region_interpreter.specs.Worlds.{HoldersShow, Shown}
use Rattle.rgo_region_interpreter.specs.Works.{Attended, WorldAttends, KeepsOthers, SameRun, Works, done_in, done_of}
use Rattle.rgo_region_interpreter.proofs.holding.Orderly.{orderly_step}
use Rattle.rgo_region_interpreter.proofs.holding.Showing.{region_shown, guards_shown, create_shown, protect_shown, unprotect_shown, unbind_shown}
use Rattle.rgo_region_interpreter.proofs.holding.Showing.{leave_shown, end_base_shown}

-- ---- the step of the machine

-- the first of what a goroutine owes has a step, and what holds of the state holds after it
pub record Goes (code : Code) (page_words : ℕ) (s : RegionState) (g : ℕ) (h : spec.Holder) (d : Duty) (ds : List Duty)
    : Type 0 where
  pub state : RegionState
  pub done : duty_done s g (record h { duties = ds }) d ≡ Some state
  pub steps : region_step code page_words s (Attend g) ≡ Some state
  pub good : AllGood code state
  pub orderly : Orderly code state

pub duty_goes : (code : Code) (page_words : ℕ) (s : RegionState) (g : ℕ) (h : spec.Holder) (d : Duty) (ds : List Duty)
    → IsChecked code → Ascends code → AllGood code s → Orderly code s → slice_get s.holders g ≡ Some h → h.duties
    ≡ d ∷ ds → h.offer ≡ NoOffer → Goes code page_words s g h d ds
duty_goes code page_words s g h d ds checked written all orderly e q n =
    record {
      state = x.0;
      done =
          sym (ap (λ b. if b then duty_done s g (record h { duties = ds }) d else None) goes)
          ∙ sym (ap (attend s g h) q)
          ∙ sym (ap (option_and_then (λ (k : spec.Holder). attend s g k k.duties)) e)
          ∙ x.1;
      steps = x.1;
      good = steps_keep_good code page_words s x.0 (Attend g) checked written all x.1;
      orderly = orderly_step code page_words s x.0 (Attend g) checked written all orderly x.1;
    }
  where
    some_none : d ∷ ds ≡ [] → ⊥
    some_none z = cc

    goes : may_go h.offer ≡ true
    goes = ap may_go n

    x : (t : RegionState) × (region_step code page_words s (Attend g) ≡ Some t) × Fine code t
    x = duties_go code page_words s g h all.good.fine e (λ z. some_none (sym q ∙ z)) goes

-- ---- lists by number

none_some : {X : Type 0} {x : X} → None ≡ Some x → ⊥
none_some e = cc

differ : (g j : ℕ) → (j ≡ g → ⊥) → nat_eq g j ≡ false
differ g j n = split (nat_eq g j) (λ t. absurd (n (sym (eq_of g j t)))) (λ f. f)

-- ---- what the world shows

-- what the code keeps of the goroutine that works
pub shown_holder : (w : World) (s : RegionState) (g : ℕ) (duties : List Duty) (works : Works w s g duties) (c : Holder)
    → slice_get w.holders.items g ≡ Some c → HolderShows c works.holder
shown_holder w s g duties works c there =
    (works.shown.holders works.running).each g c works.holder there works.is_holder

-- it keeps something of it
pub there_is : (w : World) (s : RegionState) (g : ℕ) (duties : List Duty) → Works w s g duties
    → (c : Holder) × (slice_get w.holders.items g ≡ Some c)
there_is w s g duties works =
    let a = (works.shown.holders works.running).as_many in
    let b = slice_get_within s.holders g works.holder works.is_holder in
    get_some w.holders.items g (omega (arith, a, b))

pub nowhere : (w : World) (s : RegionState) (g : ℕ) (duties : List Duty) → Works w s g duties
    → slice_get w.holders.items g ≡ None → ⊥
nowhere w s g duties works none = let x = there_is w s g duties works in none_some (sym none ∙ x.1)

-- after the step the goroutine has this holder
pub record AttendedBy (w v : World) (s : RegionState) (g : ℕ) (ds : List Duty) (k : spec.Holder) : Type 0 where
  pub attended : Attended w v s g ds
  pub holder : attended.works.holder ≡ k

module _ (w v : World) (s : RegionState) (g : ℕ) (d : Duty) (ds : List Duty) (works : Works w s g (d ∷ ds))
    (moved : IsMoved w v) (c c' : Holder) (there : slice_get w.holders.items g ≡ Some c)
    (holders : v.holders.items ≡ slice_set w.holders.items g c') where
  abbrev now : World
  now = record w { state = record w.state { memory = v.state.memory }; table = v.table; holders = v.holders }

  abbrev next : spec.Holder → List RegionInfo → RegionState
  next k regions = record (attended s g k) { regions = regions }

  pub shows_next : (k : spec.Holder) (regions : List RegionInfo) → length s.regions ≤ length regions
      → RegionTableShows v.table regions s.global_pages s.owners
      → MemoryShows v.state.memory regions s.owners s.plain.memory → HolderShows c' k
      → ((r : ℕ) → length regions ≤ r → fill_in c' (Numbered r) ≡ fill_of k.fills (Numbered r))
      → Shown now (next k regions)
  shows_next k regions more table memory shows fills =
      let old = works.shown in
      record {
        goroutines = old.goroutines;
        memory = memory;
        before = old.before;
        printed = old.printed;
        ended = old.ended;
        goes_on = old.goes_on;
        table = table;
        holders = λ m. record { as_many = as_many; each = each; unmade = unmade };
      }
    where
      old : HoldersShow w s
      old = works.shown.holders works.running

      the_same : {X : Type 0} (x y : X) → Some x ≡ Some y → x ≡ y
      the_same x y e = cc

      as_many : length v.holders.items ≡ length (slice_set s.holders g k)
      as_many =
          ap length holders ∙ length_set w.holders.items g c' ∙ old.as_many ∙ sym (length_set s.holders g k)

      code_is : (j : ℕ) (x : Holder) → g ≡ j → slice_get v.holders.items j ≡ Some x → c' ≡ x
      code_is j x t e = the_same c' x
          (sym (get_set_same w.holders.items g c c' there) ∙ ap (slice_get (slice_set w.holders.items g c')) t
          ∙ sym (ap (λ l. slice_get l j) holders) ∙ e)

      state_is : (j : ℕ) (y : spec.Holder) → g ≡ j → slice_get (slice_set s.holders g k) j ≡ Some y → k ≡ y
      state_is j y t e = the_same k y
          (sym (get_set_same s.holders g works.holder k works.is_holder) ∙ ap (slice_get (slice_set s.holders g k)) t ∙ e)

      code_other : (j : ℕ) (x : Holder) → nat_eq g j ≡ false → slice_get v.holders.items j ≡ Some x
          → slice_get w.holders.items j ≡ Some x
      code_other j x n e =
          sym (get_set_other w.holders.items g j c' n) ∙ sym (ap (λ l. slice_get l j) holders) ∙ e

      state_other : (j : ℕ) (y : spec.Holder) → nat_eq g j ≡ false → slice_get (slice_set s.holders g k) j ≡ Some y
          → slice_get s.holders j ≡ Some y
      state_other j y n e = sym (get_set_other s.holders g j k n) ∙ e

      each : (j : ℕ) (x : Holder) (y : spec.Holder) → slice_get v.holders.items j ≡ Some x
          → slice_get (slice_set s.holders g k) j ≡ Some y → HolderShows x y
      each j x y e f = split (nat_eq g j)
          (λ t. subst (λ z. HolderShows z y) (code_is j x (eq_of g j t) e)
          (subst (HolderShows c') (state_is j y (eq_of g j t) f) shows))
          (λ n. old.each j x y (code_other j x n e) (state_other j y n f))

      unmade : (j : ℕ) (x : Holder) (y : spec.Holder) → slice_get v.holders.items j ≡ Some x
          → slice_get (slice_set s.holders g k) j ≡ Some y → (r : ℕ) → length regions ≤ r
          → fill_in x (Numbered r) ≡ fill_of y.fills (Numbered r)
      unmade j x y e f r l = split (nat_eq g j)
          (λ t. subst (λ (z : Holder). fill_in z (Numbered r) ≡ fill_of y.fills (Numbered r))
          (code_is j x (eq_of g j t) e)
          (subst (λ (z : spec.Holder). fill_in c' (Numbered r) ≡ fill_of z.fills (Numbered r))
          (state_is j y (eq_of g j t) f) (fills r l)))
          (λ n. old.unmade j x y (code_other j x n e) (state_other j y n f) r (omega (arith, more, l)))

  -- the world after the step
  pub attended_by : Goes w.code.now w.sizes.page_words s g works.holder d ds → has_room_for w.sizes s d ≡ true
      → (k : spec.Holder) (regions : List RegionInfo) → duty_done s g (record works.holder { duties = ds }) d ≡ Some (next k regions)
      → k.duties ≡ ds → length s.regions ≤ length regions → RegionTableShows v.table regions s.global_pages s.owners
      → MemoryShows v.state.memory regions s.owners s.plain.memory → HolderShows c' k
      → ((r : ℕ) → length regions ≤ r → fill_in c' (Numbered r) ≡ fill_of k.fills (Numbered r))
      → AttendedBy w v s g ds k
  attended_by goes room k regions done owed more table memory shows fills =
      subst (λ u. AttendedBy w u s g ds k) (sym moved) (record {
        attended = record {
          events = Attend g ∷ [];
          only_regions = (tt, tt);
          state = next k regions;
          leads =
              ap (option_and_then (λ (t : RegionState). run (roomy_step w.code.now w.sizes) t []))
              (roomy ∙ goes.steps ∙ ap Some is);
          works = record {
            prepared = record {
              checked = works.prepared.checked;
              ascends = works.prepared.ascends;
              marks = works.prepared.marks;
              formals = works.prepared.formals;
            };
            good = subst (AllGood w.code.now) is goes.good;
            orderly = subst (Orderly w.code.now) is goes.orderly;
            shown = shows_next k regions more table memory shows fills;
            running = works.running;
            holder = k;
            is_holder = get_set_same s.holders g works.holder k works.is_holder;
            owed = owed;
          };
          plain = refl;
          same = record { code = refl; sizes = refl; print = refl };
          kept = λ j n. ap (λ l. slice_get l j) holders ∙ get_set_other w.holders.items g j c' (differ g j n);
          others = λ j n. get_set_other s.holders g j k (differ g j n);
        };
        holder = refl;
      })
    where
      the_same : (x y : RegionState) → Some x ≡ Some y → x ≡ y
      the_same x y e = cc

      is : goes.state ≡ next k regions
      is = the_same goes.state (next k regions) (sym goes.done ∙ done)

      roomy : roomy_step w.code.now w.sizes s (Attend g) ≡ region_step w.code.now w.sizes.page_words s (Attend g)
      roomy = ap (λ b. if b then region_step w.code.now w.sizes.page_words s (Attend g) else None)
          (ap (has_room_to_attend w.sizes s) works.is_holder ∙ ap (has_room_for_first w.sizes s) works.owed ∙ room)

  -- the same if regions, the table and the memory stay
  pub attended_same : Goes w.code.now w.sizes.page_words s g works.holder d ds → has_room_for w.sizes s d ≡ true
      → (k : spec.Holder) → duty_done s g (record works.holder { duties = ds }) d ≡ Some (attended s g k) → k.duties ≡ ds
      → v.table ≡ w.table → v.state.memory ≡ w.state.memory → HolderShows c' k → SameFills c c'
      → k.fills ≡ works.holder.fills → AttendedBy w v s g ds k
  attended_same goes room k done owed table memory shows fills kept =
      attended_by goes room k s.regions done owed (omega arith)
      (subst (λ t. RegionTableShows t s.regions s.global_pages s.owners) (sym table) works.shown.table)
      (memory ∙ works.shown.memory) shows
      (λ r l. fills (Numbered r) ∙ (works.shown.holders works.running).unmade g c works.holder there works.is_holder r l
      ∙ sym (ap (λ f. fill_of f (Numbered r)) kept))

-- only this holder is another
pub kept_set : (hs : List Holder) (g : ℕ) (d : Holder) (j : ℕ) → (j ≡ g → ⊥)
    → slice_get (slice_set hs g d) j ≡ slice_get hs j
kept_set hs g d j n = get_set_other hs g j d (differ g j n)

pub kept_others : (w v : World) (g : ℕ) (d : Holder) → v.holders.items ≡ slice_set w.holders.items g d
    → KeepsOthers w v g
kept_others w v g d is j n = ap (λ l. slice_get l j) is ∙ get_set_other w.holders.items g j d (differ g j n)

-- ---- a count

-- another count of the steps that are done changes nothing of what the world shows
pub counted_works : (w v : World) (g : ℕ) (c : Holder) (n : ℕ) → slice_get w.holders.items g ≡ Some c → IsMoved w v
    → v.table ≡ w.table → v.state.memory ≡ w.state.memory
    → v.holders.items ≡ slice_set w.holders.items g (record c { done = n }) → (s : RegionState) (ds : List Duty)
    → Works w s g ds → Works v s g ds
counted_works w v g c n there moved table memory holders s ds works =
    subst (λ u. Works u s g ds) (sym moved) (record {
      prepared = record {
        checked = works.prepared.checked;
        ascends = works.prepared.ascends;
        marks = works.prepared.marks;
        formals = works.prepared.formals;
      };
      good = works.good;
      orderly = works.orderly;
      shown = record {
        goroutines = works.shown.goroutines;
        memory = memory ∙ works.shown.memory;
        before = works.shown.before;
        printed = works.shown.printed;
        ended = works.shown.ended;
        goes_on = works.shown.goes_on;
        table = subst (λ t. RegionTableShows t s.regions s.global_pages s.owners) (sym table) works.shown.table;
        holders = λ m. record {
          as_many = ap length holders ∙ length_set w.holders.items g (record c { done = n }) ∙ old.as_many;
          each = λ j x y e f. split (nat_eq g j)
              (λ t. subst (λ z. HolderShows z y) (code_is j x (eq_of g j t) e)
              (counted c y (old.each j c y (ap (slice_get w.holders.items) (sym (eq_of g j t)) ∙ there) f)))
              (λ q. old.each j x y (code_other j x q e) f);
          unmade = λ j x y e f r l. split (nat_eq g j)
              (λ t. subst (λ (z : Holder). fill_in z (Numbered r) ≡ fill_of y.fills (Numbered r))
              (code_is j x (eq_of g j t) e)
              (filled c (Numbered r) ∙ old.unmade j c y (ap (slice_get w.holders.items) (sym (eq_of g j t)) ∙ there) f r l))
              (λ q. old.unmade j x y (code_other j x q e) f r l);
        };
      };
      running = works.running;
      holder = works.holder;
      is_holder = works.is_holder;
      owed = works.owed;
    })
  where
    old : HoldersShow w s
    old = works.shown.holders works.running

    the_same : {X : Type 0} (x y : X) → Some x ≡ Some y → x ≡ y
    the_same x y e = cc

    code_is : (j : ℕ) (x : Holder) → g ≡ j → slice_get v.holders.items j ≡ Some x → record c { done = n } ≡ x
    code_is j x t e = the_same (record c { done = n }) x
        (sym (get_set_same w.holders.items g c (record c { done = n }) there)
        ∙ ap (slice_get (slice_set w.holders.items g (record c { done = n }))) t
        ∙ sym (ap (λ l. slice_get l j) holders) ∙ e)

    code_other : (j : ℕ) (x : Holder) → nat_eq g j ≡ false → slice_get v.holders.items j ≡ Some x
        → slice_get w.holders.items j ≡ Some x
    code_other j x q e =
        sym (get_set_other w.holders.items g j (record c { done = n }) q) ∙ sym (ap (λ l. slice_get l j) holders) ∙ e

    filled : (x : Holder) (q : Region) → fill_in (record x { done = n }) q ≡ fill_in x q
    filled x GlobalRegion = refl
    filled x (Numbered r) = refl

    counted : (x : Holder) (y : spec.Holder) → HolderShows x y → HolderShows (record x { done = n }) y
    counted x y shows = record {
      names = shows.names;
      protections = shows.protections;
      base = shows.base;
      fills = shows.fills;
      global_fill = shows.global_fill;
      reserved = shows.reserved;
      no_offer = shows.no_offer;
    }

-- what the count is of a goroutine that the code keeps, and of none
pub count_at : (hs : List Holder) (g : ℕ) (c : Holder) → slice_get hs g ≡ Some c → done_in (slice_get hs g) ≡ c.done
count_at hs g c e = ap done_in e

pub count_kept : (hs : List Holder) (g : ℕ) (c d : Holder) → slice_get hs g ≡ Some c → d.done ≡ c.done
    → done_in (slice_get (slice_set hs g d) g) ≡ done_in (slice_get hs g)
count_kept hs g c d e same = ap done_in (get_set_same hs g c d e) ∙ same ∙ sym (ap done_in e)

-- what a place of a list holds
pub found : {X : Type 0} (xs : List X) (i : ℕ) (x : X) → i < length xs → x ≡ get_or xs i x → slice_get xs i ≡ Some x
found xs i x l e = slice_get_read xs (length xs) i x refl l e

-- the step of a goroutine that works
pub work_goes : (w : World) (s : RegionState) (g : ℕ) (d : Duty) (ds : List Duty) (works : Works w s g (d ∷ ds))
    (c : Holder) → slice_get w.holders.items g ≡ Some c → Goes w.code.now w.sizes.page_words s g works.holder d ds
work_goes w s g d ds works c there =
    duty_goes w.code.now w.sizes.page_words s g works.holder d ds works.prepared.checked works.prepared.ascends works.good
    works.orderly works.is_holder works.owed (shown_holder w s g (d ∷ ds) works c there).no_offer

-- ---- one after another

-- no step
abbrev pub attended_none : (w : World) (s : RegionState) (g : ℕ) (ds : List Duty) → Works w s g ds → Attended w w s g ds
attended_none w s g ds works = record {
  events = [];
  only_regions = tt;
  state = s;
  leads = refl;
  works = works;
  plain = refl;
  same = record { code = refl; sizes = refl; print = refl };
  kept = λ j n. refl;
  others = λ j n. refl;
}

pub same_then : (w u v : World) → SameRun w u → SameRun u v → SameRun w v
same_then w u v a b =
    record { code = b.code ∙ a.code; sizes = b.sizes ∙ a.sizes; print = b.print ∙ a.print }

pub only_append : (xs ys : List Event) → AreRegionSteps xs → AreRegionSteps ys → AreRegionSteps (xs ++ ys)
only_append [] ys a b = b
only_append (x ∷ xs) ys a b = (a.0, only_append xs ys a.1 b)

pub leads_append : {S E : Type 0} (step : S → E → Option S) (xs ys : List E) (s t u : S) → run step s xs ≡ Some t
    → run step t ys ≡ Some u → run step s (xs ++ ys) ≡ Some u
leads_append step [] ys s t u a b = ap (λ x. run step x ys) (the_same s t a) ∙ b
  where
    the_same : {S : Type 0} (x y : S) → Some x ≡ Some y → x ≡ y
    the_same x y e = cc
leads_append {S} step (x ∷ xs) ys s t u a b = go (step s x) a (λ r e. leads_append step xs ys r t u e b)
  where
    go : (o : Option S) → option_and_then (λ r. run step r xs) o ≡ Some t
        → ((r : S) → run step r xs ≡ Some t → run step r (xs ++ ys) ≡ Some u)
        → option_and_then (λ r. run step r (xs ++ ys)) o ≡ Some u
    go None a next = cc
    go (Some r) a next = next r a

pub leads_then : (w u v : World) (s : RegionState) (g : ℕ) (ds es : List Duty) (a : Attended w u s g ds)
    (b : Attended u v a.state g es) → run (roomy_step w.code.now w.sizes) s (a.events ++ b.events)
    ≡ Some b.state
leads_then w u v s g ds es a b =
    leads_append (roomy_step w.code.now w.sizes) a.events b.events s a.state b.state a.leads
    (subst (λ (z : Code × Sizes). run (roomy_step z.0 z.1) a.state b.events ≡ Some b.state) same b.leads)
  where
    same : ◌≡◌ {A = Code × Sizes} (u.code.now, u.sizes) (w.code.now, w.sizes)
    same = λ i. (a.same.code i, a.same.sizes i)

-- some steps, and then others
abbrev pub attended_then : (w u v : World) (s : RegionState) (g : ℕ) (ds es : List Duty) (a : Attended w u s g ds)
    → Attended u v a.state g es → Attended w v s g es
attended_then w u v s g ds es a b = record {
  events = a.events ++ b.events;
  only_regions = only_append a.events b.events a.only_regions b.only_regions;
  state = b.state;
  leads = leads_then w u v s g ds es a b;
  works = b.works;
  plain = b.plain ∙ a.plain;
  same = same_then w u v a.same b.same;
  kept = λ j n. b.kept j n ∙ a.kept j n;
  others = λ j n. b.others j n ∙ a.others j n;
}

-- a world in which nothing changed that a state is shown by
abbrev pub attended_to : (w u v : World) (s : RegionState) (g : ℕ) (ds : List Duty) → Attended w u s g ds
    → ((s : RegionState) (ds : List Duty) → Works u s g ds → Works v s g ds) → SameRun u v → KeepsOthers u v g
    → Attended w v s g ds
attended_to w u v s g ds a works same kept = record {
  events = a.events;
  only_regions = a.only_regions;
  state = a.state;
  leads = a.leads;
  works = works a.state ds a.works;
  plain = a.plain;
  same = same_then w u v a.same same;
  kept = λ j n. kept j n ∙ a.kept j n;
  others = a.others;
}

-- ---- memory

-- what is kept of the objects, if no more of their regions are removed
kept_same : (regions others : List RegionInfo) (owners : List Region) (heap : List Object)
    → ((o : ℕ) (q : Region) → slice_get owners o ≡ Some q → is_gone others q ≡ is_gone regions q)
    → kept_heap regions owners heap ≡ kept_heap others owners heap
kept_same regions others [] heap same = refl
kept_same regions others (q ∷ owners) [] same = refl
kept_same regions others (q ∷ owners) (object ∷ heap) same =
    let here : is_gone others q ≡ is_gone regions q = same 0 q refl in
    let rest = kept_same regions others owners heap (λ o p e. same (suc o) p e) in
    ap (λ b. kept_object b object ∷ kept_heap regions owners heap) (sym here)
    ∙ ap (λ l. kept_object (is_gone others q) object ∷ l) rest

pub memory_same : (m whole : Memory) (regions others : List RegionInfo) (owners : List Region)
    → ((o : ℕ) (q : Region) → slice_get owners o ≡ Some q → is_gone others q ≡ is_gone regions q)
    → MemoryShows m regions owners whole → MemoryShows m others owners whole
memory_same m whole regions others owners same shows =
    shows ∙ ap (λ h. record whole { heap = h }) (kept_same regions others owners whole.heap same)

-- a new region takes nothing away
created_keeps : (regions : List RegionInfo) (info : RegionInfo) (owners : List Region) → AreMade regions owners
    → (o : ℕ) (q : Region) → slice_get owners o ≡ Some q → is_gone (regions ++ info ∷ []) q ≡ is_gone regions q
created_keeps regions info owners made o GlobalRegion e = refl
created_keeps regions info owners made o (Numbered r) e =
    ap is_gone_in (get_append_left regions (info ∷ []) r (made o r e))

-- nor does one more stake in a live one
shared_keeps : (regions : List RegionInfo) (r : ℕ) → is_live regions (Numbered r) ≡ true → (q : Region)
    → is_gone (with_info regions r with_added_stake) q ≡ is_gone regions q
shared_keeps regions r live GlobalRegion = refl
shared_keeps regions r live (Numbered q) = split (nat_eq r q) (λ t. here (eq_of r q t))
    (λ n. ap is_gone_in (with_info_other regions r q with_added_stake n))
  where
    not_gone : (o : Option RegionInfo) → has_stakes o ≡ true → is_gone_in (option_map with_added_stake o) ≡ is_gone_in o
    not_gone None l = absurd (true≢false (sym l))
    not_gone (Some info) l = both info.stakes l
      where
        both : (n : ℕ) → nat_lt 0 n ≡ true → nat_eq (n + 1) 0 ≡ nat_eq n 0
        both n p = grind arith

    here : r ≡ q → is_gone_in (slice_get (with_info regions r with_added_stake) q) ≡ is_gone_in (slice_get regions q)
    here t =
        subst (λ x. is_gone_in (slice_get (with_info regions r with_added_stake) x) ≡ is_gone_in (slice_get regions x)) t
        (ap is_gone_in (with_info_same regions r with_added_stake) ∙ not_gone (slice_get regions r) live)

-- ---- a frame

-- a goroutine that owes a step with a name has an environment
pub record HasFrame (h : spec.Holder) : Type 0 where
  pub top : RegionEnvironment
  pub below : List RegionEnvironment
  pub is : h.environments ≡ top ∷ below

named_frame : (h : spec.Holder) (k : ℕ) (q : Region) → bound (top_names h.environments) k ≡ Some q → HasFrame h
named_frame h k q b = go h.environments refl
  where
    go : (es : List RegionEnvironment) → h.environments ≡ es → HasFrame h
    go [] e = let x : bound [] k ≡ Some q = sym (ap (λ es. bound (top_names es) k) e) ∙ b in cc
    go (e ∷ es) q = record { top = e; below = es; is = q }

creating_frame : (code : Code) (base : List Region) (frames : List TacFrame) (h : spec.Holder) (k : ℕ) (ds : List Duty)
    → FramesFit code base frames h.environments h.duties → h.duties ≡ Create k ∷ ds → HasFrame h
creating_frame code base frames h k ds fit q = go frames h.environments refl fit
  where
    no_end : (rs : List Region) → Create k ∷ ds ≡ map EndBase rs → ⊥
    no_end [] e = cc
    no_end (r ∷ rs) e = cc

    go : (frames : List TacFrame) (es : List RegionEnvironment) → h.environments ≡ es → FramesFit code base frames es h.duties
        → HasFrame h
    go [] [] e fit = absurd (no_end base (sym q ∙ fit))
    go (frame ∷ frames) [] e fit = absurd fit
    go frames (e ∷ es) p fit = record { top = e; below = es; is = p }

-- ---- Create

pub create_attends : (w v : World) (g name : ℕ) (c c' : Holder) → slice_get w.holders.items g ≡ Some c → IsMoved w v
    → v.state.memory ≡ w.state.memory → v.holders.items ≡ slice_set w.holders.items g c'
    → Binds c c' name (Numbered w.table.made)
    → ((regions : List RegionInfo) (global_pages : ℕ) (owners : List Region) → AreMade regions owners
    → RegionTableShows w.table regions global_pages owners
    → RegionTableShows v.table (regions ++ record { stakes = 1; pages = 0 } ∷ []) global_pages owners)
    → w.table.made - w.table.removed < w.sizes.regions → (rest : List Duty) → WorldAttends w v g (Create name ∷ rest) rest
create_attends w v g name c c' there moved memory holders binds creates fewer rest s works =
    (attended_by w v s g (Create name) rest works moved c c' there holders
    (work_goes w s g (Create name) rest works c there) room
    (record works.holder {
      stakes = length s.regions ∷ works.holder.stakes;
      environments = with_top works.holder.environments
          ((name, Numbered (length s.regions)) ∷ unbind (top_names works.holder.environments) name);
      duties = rest;
    })
    (s.regions ++ record { stakes = 1; pages = 0 } ∷ []) refl refl (omega (arith, longer))
    (creates s.regions s.global_pages s.owners works.orderly.owners works.shown.table)
    (memory ∙ memory_same w.state.memory s.plain.memory s.regions (s.regions ++ record { stakes = 1; pages = 0 } ∷ [])
    s.owners (created_keeps s.regions (record { stakes = 1; pages = 0 }) s.owners works.orderly.owners) works.shown.memory)
    (create_shown c c' works.holder shows rest frame.top frame.below frame.is name (length s.regions) binds'
    (unmade (length s.regions) (omega arith)))
    (λ r l. binds.kept.fills (Numbered r) ∙ unmade r (omega (arith, l, longer)))).attended
  where
    longer : length (s.regions ++ record { stakes = 1; pages = 0 } ∷ []) ≡ length s.regions + 1
    longer = omega (arith, length-append s.regions (record { stakes = 1; pages = 0 } ∷ []))

    live : w.table.made - w.table.removed ≡ live_regions s
    live = λ i. works.shown.table.made i - works.shown.table.removed i

    room : nat_lt (live_regions s) w.sizes.regions ≡ true
    room = below (live_regions s) w.sizes.regions (subst (λ n. n < w.sizes.regions) live fewer)
      where
        below : (n m : ℕ) → n < m → nat_lt n m ≡ true
        below n m l = grind (arith, nat_tests)

    shows : HolderShows c works.holder
    shows = shown_holder w s g (Create name ∷ rest) works c there

    frame : HasFrame works.holder
    frame = creating_frame w.code.now works.holder.base (frames_of s.plain g) works.holder name rest
        (works.good.good.fine.each g works.holder works.is_holder).fit works.owed

    binds' : Binds c c' name (Numbered (length s.regions))
    binds' = subst (λ n. Binds c c' name (Numbered n)) works.shown.table.made binds

    unmade : (r : ℕ) → length s.regions ≤ r → fill_in c (Numbered r) ≡ fill_of works.holder.fills (Numbered r)
    unmade = (works.shown.holders works.running).unmade g c works.holder there works.is_holder

-- ---- Protect and Unprotect

-- what a name of a goroutine that works denotes
works_bound : (w : World) (s : RegionState) (g : ℕ) (duties : List Duty) (works : Works w s g duties) (c : Holder)
    (name : ℕ) (q : Region) → slice_get w.holders.items g ≡ Some c → region_in c name ≡ Some q
    → bound (top_names works.holder.environments) name ≡ Some q
works_bound w s g duties works c name q there b =
    sym (region_shown c works.holder name (shown_holder w s g duties works c there)) ∙ b

pub protect_attends : (w v : World) (g name : ℕ) (c c' : Holder) (q : Region) → slice_get w.holders.items g ≡ Some c
    → IsMoved w v → v.table ≡ w.table → v.state.memory ≡ w.state.memory
    → v.holders.items ≡ slice_set w.holders.items g c' → region_in c name ≡ Some q → HolderProtects c c' q → (rest : List Duty)
    → WorldAttends w v g (Protect name ∷ rest) rest
protect_attends w v g name c c' q there moved table memory holders names protects rest s works =
    (attended_same w v s g (Protect name) rest works moved c c' there holders goes refl
    (record works.holder { environments = with_protection works.holder.environments q; duties = rest })
    (named_now ∙ live) refl table memory
    (protect_shown c c' works.holder (shown_holder w s g (Protect name ∷ rest) works c there) rest frame.top frame.below
    frame.is q protects)
    protects.1.fills refl).attended
  where
    goes : Goes w.code.now w.sizes.page_words s g works.holder (Protect name) rest
    goes = work_goes w s g (Protect name) rest works c there

    b : bound (top_names works.holder.environments) name ≡ Some q
    b = works_bound w s g (Protect name ∷ rest) works c name q there names

    frame : HasFrame works.holder
    frame = named_frame works.holder name q b

    after : RegionState
    after = attended s g
        (record works.holder { environments = with_protection works.holder.environments q; duties = rest })

    named_now : duty_done s g (record works.holder { duties = rest }) (Protect name)
        ≡ protected s g (record works.holder { duties = rest }) q
    named_now = ap (option_and_then (protected s g (record works.holder { duties = rest }))) b

    live : protected s g (record works.holder { duties = rest }) q ≡ Some (attended s g
        (record works.holder { environments = with_protection works.holder.environments q; duties = rest }))
    live = by (is_live s.regions q) (sym named_now ∙ goes.done)
      where
        by : (l : Bool) → (if l then Some after else None) ≡ Some goes.state → (if l then Some after else None) ≡ Some after
        by true e = refl
        by false e = cc

-- a goroutine that works owes no step with a name that denotes nothing, so the early return for it is never taken
pub no_name : (w : World) (s : RegionState) (g : ℕ) (d : Duty) (rest : List Duty) (works : Works w s g (d ∷ rest))
    (c : Holder) (name : ℕ) (f : Region → Option RegionState) → slice_get w.holders.items g ≡ Some c
    → duty_done s g (record works.holder { duties = rest }) d
    ≡ option_and_then f (bound (top_names works.holder.environments) name) → region_in c name ≡ None → ⊥
no_name w s g d rest works c name f there is none =
    let goes = work_goes w s g d rest works c there in
    let b = sym (region_shown c works.holder name (shown_holder w s g (d ∷ rest) works c there)) ∙ none in
    none_some (sym (ap (option_and_then f) b) ∙ sym is ∙ goes.done)

pub unprotect_attends : (w v : World) (g name : ℕ) (c c' : Holder) (q : Region) → slice_get w.holders.items g ≡ Some c
    → IsMoved w v → v.table ≡ w.table → v.state.memory ≡ w.state.memory
    → v.holders.items ≡ slice_set w.holders.items g c' → region_in c name ≡ Some q → Unprotects c c' q
    → (rest : List Duty) → WorldAttends w v g (Unprotect name ∷ rest) rest
unprotect_attends w v g name c c' q there moved table memory holders names unprotects rest s works =
    (attended_same w v s g (Unprotect name) rest works moved c c' there holders
    (work_goes w s g (Unprotect name) rest works c there) refl
    (record works.holder { environments = without_protection works.holder.environments q; duties = rest })
    (ap (option_and_then (λ r. Some (attended s g (unprotected (record works.holder { duties = rest }) r)))) b) refl table
    memory
    (unprotect_shown c c' works.holder (shown_holder w s g (Unprotect name ∷ rest) works c there) rest frame.top
    frame.below frame.is q protects unprotects)
    unprotects.1.fills refl).attended
  where
    b : bound (top_names works.holder.environments) name ≡ Some q
    b = works_bound w s g (Unprotect name ∷ rest) works c name q there names

    frame : HasFrame works.holder
    frame = named_frame works.holder name q b

    ends : UnprotectsIn (Unprotect name ∷ rest) (frame.top ∷ frame.below)
    ends = subst (UnprotectsIn (Unprotect name ∷ rest)) frame.is
        (subst (λ l. UnprotectsIn l works.holder.environments) works.owed
        (works.orderly.holders works.running g works.holder works.is_holder).unprotects)

    protects : 1 ≤ times q frame.top.protections
    protects = (ends q (sym (ap (λ es. bound (top_names es) name) frame.is) ∙ b)).0

-- ---- the end of a stake

-- by whether the goroutine protects the region
module _ (w v : World) (g r : ℕ) (c : Holder) (there : slice_get w.holders.items g ≡ Some c) where
  by_guard : (b : Bool) → nat_lt 0 (protections_in c r) ≡ b → LeavesUnless b w v g c r → EndsStake w v g (Numbered r)
  by_guard b e x = λ d f. subst (λ z. LeavesUnless (nat_lt 0 (protections_in z r)) w v g z r)
      (the_same c d (sym there ∙ f)) (subst (λ z. LeavesUnless z w v g c r) (sym e) x)
    where
      the_same : (x y : Holder) → Some x ≡ Some y → x ≡ y
      the_same x y e = cc

  pub ends_guarded : nat_lt 0 (protections_in c r) ≡ true → WorldStays w v → EndsStake w v g (Numbered r)
  ends_guarded e x = by_guard true e x

  pub ends_unguarded : nat_lt 0 (protections_in c r) ≡ false → LeavesRegion w v g c r → EndsStake w v g (Numbered r)
  ends_unguarded e x = by_guard false e x

-- one change after another
moved_on : (w u v : World) → IsMoved w u → IsMoved u v → IsMoved w v
moved_on w u v a b = b ∙ ap (λ (y : World). record y {
  state = record y.state { memory = v.state.memory };
  table = v.table;
  holders = v.holders;
}) a

module _ (w u v : World) (s : RegionState) (g : ℕ) (d : Duty) (ds : List Duty) (works : Works w s g (d ∷ ds))
    (moved : IsMoved w u) (table : u.table ≡ w.table) (memory : u.state.memory ≡ w.state.memory) (c c' : Holder)
    (there : slice_get w.holders.items g ≡ Some c) (holders : u.holders.items ≡ slice_set w.holders.items g c')
    (k : spec.Holder) (owed : k.duties ≡ ds) (shows : HolderShows c' k) (fills : SameFills c c')
    (kept : k.fills ≡ works.holder.fills) (goes : Goes w.code.now w.sizes.page_words s g works.holder d ds)
    (room : has_room_for w.sizes s d ≡ true) where
  there_now : slice_get u.holders.items g ≡ Some c'
  there_now = ap (λ l. slice_get l g) holders ∙ get_set_same w.holders.items g c c' there

  -- nothing more is done
  stays : duty_done s g (record works.holder { duties = ds }) d ≡ Some (attended s g k) → WorldStays u v → Attended w v s g ds
  stays done x =
      (attended_same w v s g d ds works (moved_on w u v moved x.moved) c c' there (x.holders ∙ holders) goes room k done owed
      (x.table ∙ table) (x.memory ∙ memory) shows fills kept).attended

  leaves : (r : ℕ) → is_live s.regions (Numbered r) ≡ true → duty_done s g (record works.holder { duties = ds }) d
      ≡ Some (record (attended s g (record k { stakes = without r k.stakes })) { regions = with_info s.regions r one_fewer })
      → LeavesRegion u v g c' r → Attended w v s g ds
  leaves r live done x =
      (attended_by w v s g d ds works (moved_on w u v moved x.moved) c x.holder there holders' goes room (record k { stakes = without r k.stakes })
      (with_info s.regions r one_fewer) done owed (omega (arith, same_length))
      (x.table s.regions s.global_pages s.owners live
      (subst (λ t. RegionTableShows t s.regions s.global_pages s.owners) (sym table) works.shown.table))
      (x.memory s.regions s.global_pages s.owners s.plain.memory live
      (subst (λ t. RegionTableShows t s.regions s.global_pages s.owners) (sym table) works.shown.table) works.orderly.owners
      works.good.good.values.memory.owned (memory ∙ works.shown.memory))
      (leave_shown c' x.holder k shows ds r x.leaves) fills').attended
    where
      same_length : length (with_info s.regions r one_fewer) ≡ length s.regions
      same_length = length_with_info s.regions r one_fewer

      holders' : v.holders.items ≡ slice_set w.holders.items g x.holder
      holders' = x.holders ∙ ap (λ l. slice_set l g x.holder) holders ∙ set_twice w.holders.items g c' x.holder

      below : (q : ℕ) → length s.regions ≤ q → r < length s.regions → nat_eq r q ≡ false
      below q l m = grind arith

      live_below : (o : Option RegionInfo) → slice_get s.regions r ≡ o → has_stakes o ≡ true → r < length s.regions
      live_below None e h = absurd (true≢false (sym h))
      live_below (Some info) e h = slice_get_within s.regions r info e

      fills' : (q : ℕ) → length (with_info s.regions r one_fewer) ≤ q
          → fill_in x.holder (Numbered q) ≡ fill_of k.fills (Numbered q)
      fills' q l =
          let l' : length s.regions ≤ q = omega (arith, l, same_length) in
          x.leaves.0 (Numbered q)
          ∙ ap (λ b. if b then None else fill_in c' (Numbered q))
          (below q l' (live_below (slice_get s.regions r) refl live))
          ∙ fills (Numbered q)
          ∙ (works.shown.holders works.running).unmade g c works.holder there works.is_holder q l'
          ∙ sym (ap (λ f. fill_of f (Numbered q)) kept)

  -- the end of a stake, unless it is guarded
  pub removal_attends : (q : Region) → duty_done s g (record works.holder { duties = ds }) d ≡ removal s g k q
      → EndsStake u v g q → Attended w v s g ds
  removal_attends GlobalRegion is e = stays is e
  removal_attends (Numbered r) is e =
      live (is_live s.regions (Numbered r)) refl (nat_lt 0 (protections_in c' r)) refl (e c' there_now)
    where
      guarded : nat_lt 0 (protections_in c' r) ≡ guards k.base k.environments (Numbered r)
      guarded = guards_shown c' k r shows

      gone : Option RegionState
      gone = Some (record (attended s g (record k { stakes = without r k.stakes }))
          { regions = with_info s.regions r one_fewer })

      live_is : (b : Bool) → is_live s.regions (Numbered r) ≡ b → duty_done s g (record works.holder { duties = ds }) d
          ≡ (if b then (if guards k.base k.environments (Numbered r) then Some (attended s g k) else gone) else None)
      live_is b l = is ∙ ap (λ b. if b then (if guards k.base k.environments (Numbered r) then Some (attended s g k) else
          gone) else None) l

      guards_is : (b : Bool) → nat_lt 0 (protections_in c' r) ≡ b
          → (if guards k.base k.environments (Numbered r) then Some (attended s g k) else gone)
          ≡ (if b then Some (attended s g k) else gone)
      guards_is b p = ap (λ b. if b then Some (attended s g k) else gone) (sym guarded ∙ p)

      live : (b : Bool) → is_live s.regions (Numbered r) ≡ b → (p : Bool) → nat_lt 0 (protections_in c' r) ≡ p
          → LeavesUnless p u v g c' r → Attended w v s g ds
      live false l p q x = absurd (none_some (sym (live_is false l) ∙ goes.done))
      live true l true q x = stays (live_is true l ∙ guards_is true q) x
      live true l false q x = leaves r l (live_is true l ∙ guards_is false q) x

pub remove_attends : (w u v : World) (g name : ℕ) (c c' : Holder) (q : Region) → slice_get w.holders.items g ≡ Some c
    → IsMoved w u → u.table ≡ w.table → u.state.memory ≡ w.state.memory
    → u.holders.items ≡ slice_set w.holders.items g c' → region_in c name ≡ Some q → Unbinds c c' name
    → EndsStake u v g q → (rest : List Duty) → WorldAttends w v g (Remove name ∷ rest) rest
remove_attends w u v g name c c' q there moved table memory holders names unbinds ends rest s works =
    removal_attends w u v s g (Remove name) rest works moved table memory c c' there holders
    (record works.holder {
      environments = with_top works.holder.environments (unbind (top_names works.holder.environments) name);
      duties = rest;
    }) refl
    (unbind_shown c c' works.holder (shown_holder w s g (Remove name ∷ rest) works c there) rest frame.top frame.below
    frame.is name unbinds)
    unbinds.kept.fills refl (work_goes w s g (Remove name) rest works c there) refl q
    (ap (option_and_then (removal s g (record works.holder {
      environments = with_top works.holder.environments (unbind (top_names works.holder.environments) name);
      duties = rest;
    }))) b) ends
  where
    b : bound (top_names works.holder.environments) name ≡ Some q
    b = works_bound w s g (Remove name ∷ rest) works c name q there names

    frame : HasFrame works.holder
    frame = named_frame works.holder name q b

-- ---- the base

-- one region of the base is unprotected and removed
pub end_base_attends : (w u v : World) (s : RegionState) (g q : ℕ) (c c' : Holder) (ds : List Duty)
    (works : Works w s g (EndBase (Numbered q) ∷ ds)) → slice_get w.holders.items g ≡ Some c → IsMoved w u
    → u.table ≡ w.table → u.state.memory ≡ w.state.memory → u.holders.items ≡ slice_set w.holders.items g c'
    → HolderEndsBase c c' (Some q) → EndsStake u v g (Numbered q) → Attended w v s g ds
end_base_attends w u v s g q c c' ds works there moved table memory holders ends stake =
    removal_attends w u v s g (EndBase (Numbered q)) ds works moved table memory c c' there holders
    (record works.holder { base = removed_once (Numbered q) works.holder.base; duties = ds }) refl
    (end_base_shown c c' works.holder (shown_holder w s g (EndBase (Numbered q) ∷ ds) works c there) ds q ends).1
    ends.3 refl (work_goes w s g (EndBase (Numbered q)) ds works c there) refl (Numbered q) refl stake

-- what is left of the base, and the count, after the end of a stake
module _ (u v : World) (g q : ℕ) (c : Holder) (there : slice_get u.holders.items g ≡ Some c)
    (ends : EndsStake u v g (Numbered q)) where
  pub ended_holder : (d : Holder) × (slice_get v.holders.items g ≡ Some d) × (d.base.items ≡ c.base.items)
  ended_holder = go (nat_lt 0 (protections_in c q)) (ends c there)
    where
      go : (b : Bool) → LeavesUnless b u v g c q
          → (d : Holder) × (slice_get v.holders.items g ≡ Some d) × (d.base.items ≡ c.base.items)
      go true x = (c, ap (λ l. slice_get l g) x.holders ∙ there, refl)
      go false x = (
        x.holder,
        ap (λ l. slice_get l g) x.holders ∙ get_set_same u.holders.items g c x.holder there,
        x.leaves.1.base,
      )

  pub base_kept : base_regions_of v g ≡ c.base.items
  base_kept = ap base_in ended_holder.1 ∙ ended_holder.2

-- the base as the code keeps it
pub base_shown : (w : World) (s : RegionState) (g : ℕ) (duties : List Duty) (works : Works w s g duties)
    → works.holder.base ≡ map Numbered (base_regions_of w g)
base_shown w s g duties works =
    let x = there_is w s g duties works in
    sym (shown_holder w s g duties works x.0 x.1).base ∙ ap (λ o. map Numbered (base_in o)) (sym x.1)

-- this much of the base has ended
pub record EndsSo (w v : World) (g : ℕ) : Type 0 where
  pub ends : (s : RegionState) (h : spec.Holder) → slice_get s.holders g ≡ Some h → Works w s g (map EndBase h.base)
      → Attended w v s g (map EndBase (map Numbered (base_regions_of v g)))
  pub done : done_of v g ≡ done_of w g

pub ends_none : (w : World) (g : ℕ) → EndsSo w w g
ends_none w g = record {
  ends = λ s h e works.
      let same : works.holder ≡ h = the_same works.holder h (sym works.is_holder ∙ e) in
      let base : h.base ≡ map Numbered (base_regions_of w g) =
      ap (λ (x : spec.Holder). x.base) (sym same) ∙ base_shown w s g (map EndBase h.base) works in
      attended_none w s g (map EndBase (map Numbered (base_regions_of w g)))
      (subst (λ b. Works w s g (map EndBase b)) base works);
  done = refl;
}
  where
    the_same : (x y : spec.Holder) → Some x ≡ Some y → x ≡ y
    the_same x y e = cc

-- one more of it ends
pub ends_next : (w v u x : World) (g q : ℕ) (c c' : Holder) → EndsSo w v g → slice_get v.holders.items g ≡ Some c
    → IsMoved v u → u.table ≡ v.table → u.state.memory ≡ v.state.memory
    → u.holders.items ≡ slice_set v.holders.items g c' → HolderEndsBase c c' (Some q) → EndsStake u x g (Numbered q)
    → done_of x g ≡ done_of u g → EndsSo w x g
ends_next w v u x g q c c' so there moved table memory holders ends stake counted = record {
  ends = λ s h e works.
      let a = so.ends s h e works in
      let left : base_regions_of v g ≡ q ∷ c'.base.items = ap base_in there ∙ ends.0 in
      let rest : base_regions_of x g ≡ c'.base.items = base_kept u x g q c' there' stake in
      let held = subst (λ b. Works v a.state g (map EndBase (map Numbered b))) left a.works in
      subst (λ b. Attended w x s g (map EndBase (map Numbered b))) (sym rest)
      (attended_then w v x s g (map EndBase (map Numbered (base_regions_of v g))) (map EndBase (map Numbered c'.base.items)) a
      (end_base_attends v u x a.state g q c c' (map EndBase (map Numbered c'.base.items)) held there moved table memory
      holders ends stake));
  done =
      counted ∙ ap (λ l. done_in (slice_get l g)) holders ∙ count_kept v.holders.items g c c' there ends.5 ∙ so.done;
}
  where
    there' : slice_get u.holders.items g ≡ Some c'
    there' = ap (λ l. slice_get l g) holders ∙ get_set_same v.holders.items g c c' there

pub ends_fewer : (v u x : World) (g q : ℕ) (c c' : Holder) → slice_get v.holders.items g ≡ Some c
    → u.holders.items ≡ slice_set v.holders.items g c' → HolderEndsBase c c' (Some q) → EndsStake u x g (Numbered q)
    → length (base_regions_of x g) < length (base_regions_of v g)
ends_fewer v u x g q c c' there holders ends stake =
    let there' : slice_get u.holders.items g ≡ Some c' =
    ap (λ l. slice_get l g) holders ∙ get_set_same v.holders.items g c c' there in
    let a : length (base_regions_of v g) ≡ suc (length c'.base.items) = ap length (ap base_in there ∙ ends.0) in
    let b : length (base_regions_of x g) ≡ length c'.base.items = ap length (base_kept u x g q c' there' stake) in
    omega (arith, a, b)

-- nothing is left of it
pub ends_all : (w v u : World) (g : ℕ) (c c' : Holder) → EndsSo w v g → slice_get v.holders.items g ≡ Some c
    → IsMoved v u → u.table ≡ v.table → u.state.memory ≡ v.state.memory
    → u.holders.items ≡ slice_set v.holders.items g c' → HolderEndsBase c c' None → (s : RegionState) (h : spec.Holder)
    → slice_get s.holders g ≡ Some h → Works w s g (map EndBase h.base) → Attended w u s g []
ends_all w v u g c c' so there moved table memory holders ends s h e works =
    let a = so.ends s h e works in
    let none : base_regions_of v g ≡ [] = ap base_in there ∙ ends.0 in
    attended_to w v u s g [] (subst (λ b. Attended w v s g (map EndBase (map Numbered b))) none a)
    (counted_works v u g c c.done there moved table memory (holders ∙ ap (slice_set v.holders.items g) ends.1))
    (record {
      code = ap (λ (y : World). y.code.now) moved;
      sizes = ap (λ (y : World). y.sizes) moved;
      print = ap (λ (y : World). y.state.printed) moved;
    }) (kept_others v u g c' holders)

-- there was no such goroutine
pub ends_nowhere : (w v : World) (g : ℕ) → EndsSo w v g → slice_get v.holders.items g ≡ None → (s : RegionState)
    (h : spec.Holder) → slice_get s.holders g ≡ Some h → Works w s g (map EndBase h.base) → Attended w v s g []
ends_nowhere w v g so none s h e works =
    let a = so.ends s h e works in
    absurd (nowhere v a.state g (map EndBase (map Numbered (base_regions_of v g))) a.works none)

-- ---- Share

-- the holder shows what it showed with fewer steps owed and other regions pending
pend_shown : (c : Holder) (h : spec.Holder) (pending : List ℕ) (ds : List Duty) → HolderShows c h
    → HolderShows c (record h { pending = pending; duties = ds })
pend_shown c h pending ds shows = record {
  names = shows.names;
  protections = shows.protections;
  base = shows.base;
  fills = shows.fills;
  global_fill = shows.global_fill;
  reserved = shows.reserved;
  no_offer = shows.no_offer;
}

module _ (w : World) (s : RegionState) (g name : ℕ) (rest : List Duty) (works : Works w s g (Share name ∷ rest))
    (c : Holder) (there : slice_get w.holders.items g ≡ Some c) (has : ℕ → Bool) (pends : PendsBy has works.holder) where
  abbrev h : spec.Holder
  h = record works.holder { duties = rest }

  goes_here : Goes w.code.now w.sizes.page_words s g works.holder (Share name) rest
  goes_here = work_goes w s g (Share name) rest works c there

  -- nothing is done, for Global and for a region that is pending
  shares_nothing : duty_done s g (record works.holder { duties = rest }) (Share name)
      ≡ Some (attended s g (record works.holder { duties = rest })) → SharesTo w w s g rest has
  shares_nothing done =
      let x = attended_same w w s g (Share name) rest works refl c c there (sym (set_same w.holders.items g c there))
      goes_here refl (record works.holder { duties = rest }) done refl refl refl
      (pend_shown c works.holder works.holder.pending rest
      (shown_holder w s g (Share name ∷ rest) works c there)) (λ r. refl) refl in
      record { attended = x.attended; pends = subst (PendsBy has) (sym x.holder) pends }

  abbrev more : ℕ → RegionState
  more r = record (attended s g (record works.holder { duties = rest; pending = r ∷ works.holder.pending })) {
    regions = with_info s.regions r with_added_stake;
  }

  module _ (r : ℕ) (names : region_in c name ≡ Some (Numbered r)) where
    named_now : duty_done s g (record works.holder { duties = rest }) (Share name)
        ≡ shared s g (record works.holder { duties = rest }) (Numbered r)
    named_now = ap (option_and_then (shared s g (record works.holder { duties = rest })))
        (works_bound w s g (Share name ∷ rest) works c name (Numbered r) there names)

    live : is_live s.regions (Numbered r) ≡ true
    live = by (is_live s.regions (Numbered r)) refl
      where
        by : (b : Bool) → is_live s.regions (Numbered r) ≡ b → b ≡ true
        by true l = refl
        by false l = absurd (none_some (
            sym (ap (λ b. if b then (if list_any (nat_eq r) works.holder.pending
            then Some (attended s g (record works.holder { duties = rest })) else Some (more r)) else None) l)
            ∙ sym named_now ∙ goes_here.done))

    shared_now : (b : Bool) → has r ≡ b → duty_done s g (record works.holder { duties = rest }) (Share name)
        ≡ (if b then Some (attended s g (record works.holder { duties = rest })) else Some (more r))
    shared_now b e =
        named_now
        ∙ ap (λ b. if b then (if list_any (nat_eq r) works.holder.pending
        then Some (attended s g (record works.holder { duties = rest })) else Some (more r)) else None) live
        ∙ ap (λ b. if b then Some (attended s g (record works.holder { duties = rest })) else Some (more r))
        (sym (pends r) ∙ e)

    shares_pending : has r ≡ true → SharesTo w w s g rest has
    shares_pending e = shares_nothing (shared_now true e)

    shares_more : (v : World) (also : ℕ → Bool) → IsMoved w v → v.holders.items ≡ w.holders.items → v.state.memory
        ≡ w.state.memory → ((regions : List RegionInfo) (global_pages : ℕ) (owners : List Region)
        → is_live regions (Numbered r) ≡ true → RegionTableShows w.table regions global_pages owners
        → RegionTableShows v.table (with_info regions r with_added_stake) global_pages owners)
        → has r ≡ false → ((q : ℕ) → also q ≡ (nat_eq q r || has q)) → SharesTo w v s g rest also
    shares_more v also moved holders memory table e adds =
        let l = length_with_info s.regions r with_added_stake in
        let x = attended_by w v s g (Share name) rest works moved c c there
        (holders ∙ sym (set_same w.holders.items g c there)) goes_here refl
        (record works.holder { duties = rest; pending = r ∷ works.holder.pending }) (with_info s.regions r with_added_stake)
        (shared_now false e) refl (omega (arith, l))
        (table s.regions s.global_pages s.owners live works.shown.table)
        (memory ∙ memory_same w.state.memory s.plain.memory s.regions (with_info s.regions r with_added_stake) s.owners
        (λ o q f. shared_keeps s.regions r live q) works.shown.memory)
        (pend_shown c works.holder (r ∷ works.holder.pending) rest
        (shown_holder w s g (Share name ∷ rest) works c there))
        (λ q m. (works.shown.holders works.running).unmade g c works.holder there works.is_holder q
        (omega (arith, m, l))) in
        record {
          attended = x.attended;
          pends = subst (PendsBy also) (sym x.holder) (λ q. adds q ∙ ap (λ b. nat_eq q r || b) (pends q));
        }

-- the keys of a map with one more
pub key_added : {X : Type 0} (x : X) (r q : ℕ) (o : Option X) → is_some (cond (nat_eq r q) (Some x) o)
    ≡ (nat_eq q r || is_some o)
key_added x r q o = go (nat_eq r q) refl
  where
    turned : (b : Bool) → nat_eq r q ≡ b → nat_eq q r ≡ b
    turned true h = grind arith
    turned false h = grind arith

    go : (b : Bool) → nat_eq r q ≡ b → is_some (cond b (Some x) o) ≡ (nat_eq q r || is_some o)
    go true e = sym (ap (λ z. z || is_some o) (turned true e))
    go false e = sym (ap (λ z. z || is_some o) (turned false e))

-- the name denotes Global
pub share_global : (w : World) (g name : ℕ) (c : Holder) (has : ℕ → Bool) → slice_get w.holders.items g ≡ Some c
    → region_in c name ≡ Some GlobalRegion → SharesOne w w g name has has
share_global w g name c has there names s rest works pends =
    shares_nothing w s g name rest works c there has pends
    (ap (option_and_then (shared s g (record works.holder { duties = rest })))
    (works_bound w s g (Share name ∷ rest) works c name GlobalRegion there names))

-- a region that is pending
pub share_pending : (w : World) (g name r : ℕ) (c : Holder) (has : ℕ → Bool) → slice_get w.holders.items g ≡ Some c
    → region_in c name ≡ Some (Numbered r) → has r ≡ true → SharesOne w w g name has has
share_pending w g name r c has there names e s rest works pends =
    shares_pending w s g name rest works c there has pends r names e

-- another region
pub share_more : (w v : World) (g name r : ℕ) (c : Holder) (has also : ℕ → Bool) → slice_get w.holders.items g ≡ Some c
    → region_in c name ≡ Some (Numbered r) → has r ≡ false → IsMoved w v → v.holders.items ≡ w.holders.items
    → v.state.memory ≡ w.state.memory → ((regions : List RegionInfo) (global_pages : ℕ) (owners : List Region)
    → is_live regions (Numbered r) ≡ true → RegionTableShows w.table regions global_pages owners
    → RegionTableShows v.table (with_info regions r with_added_stake) global_pages owners)
    → ((q : ℕ) → also q ≡ (nat_eq q r || has q)) → SharesOne w v g name has also
share_more w v g name r c has also there names e moved holders memory table adds s rest works pends =
    shares_more w s g name rest works c there has pends r names v also moved holders memory table e adds

-- a name that denotes nothing
pub share_nothing : (w : World) (g name : ℕ) (c : Holder) (has : ℕ → Bool) → slice_get w.holders.items g ≡ Some c
    → region_in c name ≡ None → SharesOne w w g name has has
share_nothing w g name c has there names s rest works pends =
    absurd (no_name w s g (Share name) rest works c name (shared s g (record works.holder { duties = rest })) there refl
    names)
