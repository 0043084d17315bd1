-- Turns of an instruction that neither calls, starts nor returns: without an object, and with one. With one, the owner of the object is
-- recorded after the step, so memory may run out in between.
use Rattle.std.proofs.Common.{◌≡◌, ◌⊎◌, inl, inr, ℕ, ◌+◌, ◌-◌, ◌≤◌, ◌<◌, Bool, true, false, if◌then◌else◌, List, [], ◌∷◌, ◌++◌, map}
use Rattle.std.proofs.Common.{length, Option, Some, None, refl, sym, ap, ◌∙◌, subst, nat_le, nat_lt, arith, true≢false}
use Rattle.std.proofs.Common.{slice_get, slice_set, unwrap_or}
use Rattle.std.proofs.lemmas.Bool.Decides.{nat_tests}
use Rattle.std.proofs.lemmas.List.{append-nil}
use Rattle.std.proofs.lemmas.Option.{slice_get_within}
use Rattle.rgo_memory.specs.Channels.{SameChannels, channel_in}
use Rattle.rgo_memory.specs.Memory.{Memory, Object}
use Rattle.rgo_machine.specs.declared.limits.Limits.{Limits}
use Rattle.rgo_machine.specs.declared.picks.End.{End}
use Rattle.rgo_machine.specs.declared.picks.Pick.TheVariants.{One}
use Rattle.rgo_interpreter.specs.declared.turns.TurnEnd.{TurnEnd}
use Rattle.rgo_interpreter.specs.declared.turns.TurnEnd.TheVariants as stop
use Rattle.rgo_interpreter.specs.declared.turns.Turned.{Turned}
use Rattle.rgo_tac.specs.Frames.{TacFrame}
use Rattle.rgo_tac.specs.Tac.{TacState}
use Rattle.rgo_code.specs.Code.{CodeInstr}
use Rattle.rgo_code.specs.Erasure.{erased_op}
use Rattle.rgo_region_machine.specs.declared.regions.Region.{Region}
use Rattle.rgo_region_machine.specs.declared.regions.Region.TheVariants.{Numbered}
use Rattle.rgo_region_machine.specs.Objects.{allotted, fill_of, fits_in_page, making_region, new_object, with_fill}
use Rattle.rgo_region_machine.specs.Owed.{function_at, next_duties, removes_behind}
use Rattle.rgo_region_machine.specs.Regions.{is_live}
use Rattle.rgo_region_machine.specs.States.{Duty, RegionState, Remove, frames_of, top_names}
use Rattle.rgo_sound.proofs.steps.Acting.{after, no_end, set_same}
use Rattle.rgo_sound.proofs.steps.OneStep.{IsSimple}
use Rattle.rgo_sound.proofs.Places.{get_append_left}
use Rattle.rgo_sound.proofs.Tests.{split}
use Rattle.rgo_region_interpreter.specs.declared.holders.Holder.{Holder}
use Rattle.rgo_region_interpreter.specs.declared.objects.Making.{Making}
use Rattle.rgo_region_interpreter.specs.declared.worlds.Next.{Next}
use Rattle.rgo_region_interpreter.specs.declared.worlds.World.{World}
use Rattle.rgo_region_interpreter.specs.Extents.{extent_data_pages, extent_is_spread, pages_wanted}
use Rattle.rgo_region_interpreter.specs.Holders.{Fills, HolderShows, Reserves, fill_in}
use Rattle.rgo_region_interpreter.specs.Objects.{IsRoomy, MakesNone, Placed, PlacesObject, fill_held, making_by, region_for}
use Rattle.rgo_region_interpreter.specs.Tables.{RegionTableShows}
use Rattle.rgo_region_interpreter.specs.Works.{ActsNext, OthersOwe, Ready, SameRun, WorldSettled, TakesStep, WorldTakesTurn, Works, goes_by}
use Rattle.rgo_region_interpreter.proofs.acts.Acts.{ActsSo, acts_so, ends_so, next_state, next_step, others_so, prepared_so, simple_next}
use Rattle.rgo_region_interpreter.proofs.acts.Acts.{still_running, works_so}
use Rattle.rgo_region_interpreter.proofs.owing.Attending.{same_then, shown_holder, there_is}
use Rattle.rgo_region_interpreter.proofs.acts.Instructed.{allots, allots_spread, its_region, made, making_act, making_acts, no_object, region_live}
use Rattle.rgo_region_interpreter.proofs.lifting.Steps.{live_not_gone}
use Rattle.rgo_region_interpreter.proofs.lifting.Good.{StepShows}
use Rattle.rgo_region_interpreter.proofs.lifting.Memory.{NoneGone, kept_length}
use Rattle.rgo_region_interpreter.proofs.holding.OneHolder.{the_same}
use Rattle.rgo_region_interpreter.proofs.owing.Paging.{fill_shown, fill_unmade, reserve_shown}
use Rattle.rgo_region_interpreter.proofs.stepping.PlainTurns.{goes_running, stays_ended}
use Rattle.rgo_region_interpreter.proofs.acts.Rooms.{before, fill_is, is_making, region_found}
use Rattle.rgo_region_interpreter.proofs.stepping.Taking.{leads_on, none_or_one, shows_step, takes_end, takes_fail, takes_none, takes_settled}
use Rattle.rgo_region_interpreter.proofs.stepping.Targets.{IsBefore}
use Rattle.rgo_region_interpreter.proofs.acts.Quiet.{nothing_more}

-- ---- turns

goes_some : (s : TurnEnd) (steps : ℕ) → goes_by s steps ≡ true → steps ≡ 0 → ⊥
goes_some (stop.Ended e) steps g z = cc
goes_some s steps g z = true≢false (sym g ∙ none steps z)
  where
    none : (n : ℕ) → n ≡ 0 → nat_lt 0 n ≡ false
    none n q = grind (arith, nat_tests)

-- the steps that are owed after a step of another world of the same run
pub settled_after : (w v u : World) (t : RegionState) → SameRun w v → WorldSettled v u t → WorldSettled w u t
settled_after w v u t same x = record {
  events = x.events;
  only_regions = x.only_regions;
  state = x.state;
  leads = leads_on w v t x.state x.events same x.leads;
  between = x.between;
  plain = x.plain;
  same = same_then w v u same x.same;
}

-- all that a turn of the three-address machine leaves
module _ (w v : World) (s : RegionState) (limits : Limits) (g : ℕ) (turned : Turned) (ready : Ready w s g)
    (takes : WorldTakesTurn w v limits g turned) where
  pub table_same : v.table ≡ w.table
  table_same = ap (λ (x : World). x.table) takes.same

  holders_same : v.holders ≡ w.holders
  holders_same = ap (λ (x : World). x.holders) takes.same

  pub v_is : v ≡ record w { state = v.state; table = v.table; holders = v.holders }
  v_is = takes.same
      ∙ (λ i. record w { state = v.state; table = sym table_same i; holders = sym holders_same i })

  pub goes_one : goes_by turned.stop turned.steps ≡ true → turned.steps ≡ 1
  goes_one e = go (none_or_one w v s limits g turned ready.between takes)
    where
      go : (turned.steps ≡ 0) ⊎ (turned.steps ≡ 1) → turned.steps ≡ 1
      go (inl z) = absurd (goes_some turned.stop turned.steps e z)
      go (inr o) = o

  pub goes_on : goes_by turned.stop turned.steps ≡ true → v.state.ended ≡ None
  goes_on e = goes_running w.code.now limits v.state g 1 turned.steps turned.stop e takes.turns.over

-- ---- no object is made

module _ (w v : World) (s : RegionState) (limits : Limits) (g : ℕ) {frame : TacFrame} {callers : List TacFrame}
    {instr : CodeInstr} (turned : Turned) (ready : Ready w s g)
    (i : IsBefore w.code.now s g ready.works.holder frame callers instr)
    (none : making_by w.code.now.structs frame (erased_op instr.op) ≡ None)
    (takes : WorldTakesTurn w v limits g turned) where
  pub fitting : (one : turned.steps ≡ 1) (x : ActsSo w v s limits g turned ready i takes one)
      → allotted w.sizes.page_words ready.works.holder
      (making_region (function_at w.code.now frame) (top_names ready.works.holder.environments)
      instr.op) (new_object s.plain (after s.plain g x.act))
      ≡ Some (
        record ready.works.holder {
          fills = ready.works.holder.fills;
          reserved = ready.works.holder.reserved;
        },
        [],
      )
  fitting one x = ap (allotted w.sizes.page_words ready.works.holder
      (making_region (function_at w.code.now frame) (top_names ready.works.holder.environments)
      instr.op)) (no_object i none x.act x.acts)

  pub table_now : RegionTableShows v.table s.regions s.global_pages (s.owners ++ [])
  table_now =
      subst (RegionTableShows v.table s.regions s.global_pages) (sym (append-nil s.owners))
      (subst (λ t. RegionTableShows t s.regions s.global_pages s.owners) (sym (table_same w v s limits g turned ready takes))
      ready.works.shown.table)

  pub plain_stays : goes_by turned.stop turned.steps ≡ false → TakesStep w v limits s g 1 turned
  plain_stays stays = go (none_or_one w v s limits g turned ready.between takes)
    where
      ended : (one : turned.steps ≡ 1) → (x : ActsSo w v s limits g turned ready i takes one)
          → (e : End) × (v.state.ended ≡ Some e) → TakesStep w v limits s g 1 turned
      ended one x (e, q) =
          let n = ends_so w v s limits g turned ready i takes one x ready.works.holder.fills ready.works.holder.reserved []
          (fitting one x) tt v (v_is w v s limits g turned ready takes) table_now e q in
          takes_end w v s limits g turned ready.between takes one
          (next_state w v s limits g turned ready i takes one x ready.works.holder.fills ready.works.holder.reserved []
          (fitting one x) tt)
          (next_step w v s limits g turned ready i takes one x ready.works.holder.fills ready.works.holder.reserved []
          (fitting one x) tt) refl refl [] tt refl refl
          (prepared_so w v s limits g turned ready i takes one x ready.works.holder.fills ready.works.holder.reserved []
          (fitting one x) tt v (v_is w v s limits g turned ready takes) table_now) n.1 n.0

      go : (turned.steps ≡ 0) ⊎ (turned.steps ≡ 1) → TakesStep w v limits s g 1 turned
      go (inl z) = takes_none w v s limits g turned ready.between takes z
      go (inr one) = ended one (acts_so w v s limits g turned ready i takes one)
          (stays_ended w.code.now limits v.state g 1 turned.steps turned.stop one stays takes.turns.over)

  pub plain_goes : IsSimple instr.op → (u : World) (removes : List ℕ) → goes_by turned.stop turned.steps ≡ true
      → removes ≡ removes_behind frame instr.op
      → ((t : RegionState) → Works v t g (map Remove removes ++ next_duties v.code.now (frames_of t.plain g))
      → OthersOwe v t g → WorldSettled v u t) → TakesStep w u limits s g 1 turned
  plain_goes simple u removes goes is settles = go (acts_so w v s limits g turned ready i takes one)
    where
      one : turned.steps ≡ 1
      one = goes_one w v s limits g turned ready takes goes

      running : v.state.ended ≡ None
      running = goes_on w v s limits g turned ready takes goes

      kept : (c : Holder) × (slice_get w.holders.items g ≡ Some c)
      kept = there_is w s g [] ready.works

      shows : HolderShows kept.0 ready.works.holder
      shows = shown_holder w s g [] ready.works kept.0 kept.1

      code : v.code.now ≡ w.code.now
      code = ap (λ (x : World). x.code.now) takes.same

      go : (x : ActsSo w v s limits g turned ready i takes one) → TakesStep w u limits s g 1 turned
      go x =
          takes_settled w v s limits g turned ready.between takes one t
          (next_step w v s limits g turned ready i takes one x ready.works.holder.fills ready.works.holder.reserved []
          (fitting one x) tt) refl refl [] tt refl refl u
          (settles t (subst (λ ds. Works v t g ds)
          (λ j. map Remove (sym is j) ++ next_duties (sym code j) (frames_of t.plain g)) works) others)
          (still_running w v s limits g turned ready i takes one x ready.works.holder.fills ready.works.holder.reserved []
          (fitting one x) tt v (v_is w v s limits g turned ready takes) table_now running)
        where
          t : RegionState
          t = next_state w v s limits g turned ready i takes one x ready.works.holder.fills ready.works.holder.reserved []
              (fitting one x) tt

          same : v.holders.items ≡ slice_set w.holders.items g kept.0
          same = ap (λ (x : World). x.holders.items) takes.same ∙ sym (set_same w.holders.items g kept.0 kept.1)

          shows_now : (ds : List Duty) → HolderShows kept.0 (record ready.works.holder {
            fills = ready.works.holder.fills;
            reserved = ready.works.holder.reserved;
            duties = ds;
          })
          shows_now ds = record {
            names = shows.names;
            protections = shows.protections;
            base = shows.base;
            fills = shows.fills;
            global_fill = shows.global_fill;
            reserved = shows.reserved;
            no_offer = shows.no_offer;
          }

          unmade : (r : ℕ) → length s.regions ≤ r
              → fill_in kept.0 (Numbered r) ≡ fill_of ready.works.holder.fills (Numbered r)
          unmade r l = (ready.works.shown.holders ready.works.running).unmade g kept.0 ready.works.holder kept.1
              ready.works.is_holder r l

          works : Works v t g (map Remove (removes_behind frame instr.op)
              ++ next_duties w.code.now (frames_of t.plain g))
          works = works_so w v s limits g turned ready i takes one x ready.works.holder.fills ready.works.holder.reserved []
              (fitting one x) tt v (v_is w v s limits g turned ready takes) table_now running simple kept.0 kept.0
              kept.1 same shows_now unmade

          others : OthersOwe v t g
          others = others_so w v s limits g turned ready i takes one x ready.works.holder.fills ready.works.holder.reserved []
              (fitting one x) tt v (v_is w v s limits g turned ready takes) table_now running simple kept.0 kept.0
              kept.1 same shows_now unmade

-- the same of the next instruction
abbrev pub making_none : (w : World) (g : ℕ) (next : Next) (makes : MakesNone w g next)
    → making_by w.code.now.structs makes.at.frame (erased_op makes.at.is.instr.op) ≡ None
making_none w g next makes = ap (making_by w.code.now.structs makes.at.frame) makes.at.is.op ∙ makes.is

module _ (w v : World) (s : RegionState) (limits : Limits) (g : ℕ) (next : Next) (turned : Turned) (ready : Ready w s g)
    (makes : MakesNone w g next) (takes : WorldTakesTurn w v limits g turned) where
  pub only_stays : goes_by turned.stop turned.steps ≡ false → TakesStep w v limits s g 1 turned
  only_stays stays = plain_stays w v s limits g turned ready (before w s g next ready makes.at)
      (making_none w g next makes) takes stays

  pub only_goes : (kind : ActsNext next) (u : World) (removes : List ℕ) → goes_by turned.stop turned.steps ≡ true
      → removes ≡ removes_behind makes.at.frame makes.at.is.instr.op
      → ((t : RegionState) → Works v t g (map Remove removes ++ next_duties v.code.now (frames_of t.plain g))
      → OthersOwe v t g → WorldSettled v u t) → TakesStep w u limits s g 1 turned
  only_goes kind u removes goes is settles = plain_goes w v s limits g turned ready (before w s g next ready makes.at)
      (making_none w g next makes) takes (simple_next w g next makes.at kind) u removes goes is settles

-- ---- an object is made

fits_used : (page_words n : ℕ) (o : Option ℕ) → fits_in_page page_words o n ≡ true
    → (used : ℕ) × (o ≡ Some used) × (used + n ≤ page_words)
fits_used page_words n None e = cc
fits_used page_words n (Some used) e = (used, refl, below (used + n) page_words e)
  where
    below : (a b : ℕ) → nat_le a b ≡ true → a ≤ b
    below a b e = grind (arith, nat_tests)

-- a new object changes no channel
made_same : (m : Memory) (object : Object) → SameChannels m (record m { heap = m.heap ++ object ∷ [] })
made_same m object o channel e = go (slice_get m.heap o) refl e
  where
    go : (x : Option Object) → slice_get m.heap o ≡ x → channel_in x ≡ Some channel
        → channel_in (slice_get (m.heap ++ object ∷ []) o) ≡ Some channel
    go None q e = cc
    go (Some old) q e =
        ap channel_in (get_append_left m.heap (object ∷ []) o (slice_get_within m.heap o old q) ∙ q) ∙ e

module _ (w v : World) (s : RegionState) (limits : Limits) (g : ℕ) (next : Next) (making : Making) (turned : Turned)
    (kind : ActsNext next) (roomy : IsRoomy w s g next making) (takes : WorldTakesTurn w v limits g turned) where
  abbrev ready : Ready w s g
  ready = roomy.ready

  abbrev before_it : IsBefore w.code.now s g roomy.ready.works.holder roomy.makes.at.frame roomy.makes.at.callers
      roomy.makes.at.is.instr
  before_it = before w s g next roomy.ready roomy.makes.at

  is_some : making_by w.code.now.structs roomy.makes.at.frame (erased_op roomy.makes.at.is.instr.op) ≡ Some making
  is_some = is_making w s g next making roomy.ready roomy.makes

  -- its region
  r : Region
  r = (its_region before_it making is_some).0

  r_is : making_region (function_at w.code.now roomy.makes.at.frame) (top_names roomy.ready.works.holder.environments)
      roomy.makes.at.is.instr.op ≡ Some r
  unfolding r
  r_is = (its_region before_it making is_some).1

  abbrev page_words : ℕ
  page_words = w.sizes.page_words

  kept : (c : Holder) × (slice_get w.holders.items g ≡ Some c)
  kept = there_is w s g [] roomy.ready.works

  old : HolderShows kept.0 roomy.ready.works.holder
  old = shown_holder w s g [] roomy.ready.works kept.0 kept.1

  fill_there : fill_in kept.0 r ≡ fill_of roomy.ready.works.holder.fills r
  unfolding r is_some
  fill_there = sym (ap (λ o. fill_held o (its_region before_it making is_some).0) kept.1)
      ∙ fill_is w s g next making roomy.ready roomy.makes

  has_pages : pages_wanted page_words roomy.ready.works.holder.reserved (fill_of roomy.ready.works.holder.fills r)
      making.extent ≡ 0
  has_pages = ap (λ q. pages_wanted page_words roomy.ready.works.holder.reserved
      (fill_of roomy.ready.works.holder.fills q) making.extent)
      (the_same r roomy.region (sym r_is
      ∙ ap (λ f. making_region f (top_names roomy.ready.works.holder.environments) roomy.makes.at.is.instr.op)
      roomy.makes.at.is.function ∙ roomy.is_region)) ∙ roomy.has_pages

  -- what the goroutine has of the pages once the object lies in them
  pub record LiesSo : Type 0 where
    fills : List (Region × ℕ)
    reserved : ℕ
    allots : allotted w.sizes.page_words roomy.ready.works.holder
        (making_region (function_at w.code.now roomy.makes.at.frame) (top_names roomy.ready.works.holder.environments)
        roomy.makes.at.is.instr.op) (new_object s.plain (after s.plain g (making_act before_it making is_some)))
        ≡ Some (record roomy.ready.works.holder { fills = fills; reserved = reserved }, r ∷ [])
    shows : (d : Holder) → Placed (extent_is_spread page_words making.extent) kept.0 d r making.extent.words → (ds : List Duty)
        → HolderShows d (record roomy.ready.works.holder { fills = fills; reserved = reserved; duties = ds })
    unmade : (d : Holder) → Placed (extent_is_spread page_words making.extent) kept.0 d r making.extent.words → (q : ℕ)
        → fill_in kept.0 (Numbered q) ≡ fill_of roomy.ready.works.holder.fills (Numbered q)
        → fill_in d (Numbered q) ≡ fill_of fills (Numbered q)

  lies_spread : extent_is_spread page_words making.extent ≡ true → LiesSo
  unfolding r
  lies_spread t = record {
    fills = roomy.ready.works.holder.fills;
    reserved = 0;
    allots = allots_spread before_it making is_some page_words t roomy.small all;
    shows = λ d p ds. reserve_shown kept.0 d roomy.ready.works.holder 0 ds old (so d p);
    unmade = λ d p q e. ap (λ (z : Holder). fill_in z (Numbered q)) (so d p) ∙ e;
  }
    where
      so : (d : Holder) → Placed (extent_is_spread page_words making.extent) kept.0 d r making.extent.words
          → Reserves kept.0 d 0
      so d p = subst (λ b. Placed b kept.0 d r making.extent.words) t p

      none_left : (n m : ℕ) → (n + 1) - m ≡ 0 → n < m
      none_left n m e = omega (arith, e)

      all : extent_data_pages page_words making.extent < roomy.ready.works.holder.reserved
      all = none_left (extent_data_pages page_words making.extent) roomy.ready.works.holder.reserved
          (sym (ap (λ b. if b then (extent_data_pages page_words making.extent + 1) - roomy.ready.works.holder.reserved
          else if fits_in_page page_words (fill_of roomy.ready.works.holder.fills r) making.extent.words then 0 else 1) t)
          ∙ has_pages)

  lies_own : extent_is_spread page_words making.extent ≡ false → LiesSo
  unfolding r
  lies_own f = record {
    fills = with_fill roomy.ready.works.holder.fills r (used.0 + making.extent.words);
    reserved = roomy.ready.works.holder.reserved;
    allots = allots before_it making is_some page_words used.0 f used.1 used.2;
    shows = λ d p ds. fill_shown kept.0 d roomy.ready.works.holder r (used.0 + making.extent.words) ds old (so d p);
    unmade = λ d p q e. fill_unmade kept.0 d roomy.ready.works.holder r (Numbered q) (used.0 + making.extent.words)
        (so d p) e;
  }
    where
      fits_now : (b : Bool) → ◌≡◌ {A = ℕ} (if b then 0 else 1) 0 → b ≡ true
      fits_now true e = refl
      fits_now false e = cc

      used : (used : ℕ) × (fill_of roomy.ready.works.holder.fills r ≡ Some used)
          × (used + making.extent.words ≤ page_words)
      used = fits_used page_words making.extent.words (fill_of roomy.ready.works.holder.fills r)
          (fits_now (fits_in_page page_words (fill_of roomy.ready.works.holder.fills r) making.extent.words)
          (sym (ap (λ b. if b then (extent_data_pages page_words making.extent + 1) - roomy.ready.works.holder.reserved
          else if fits_in_page page_words (fill_of roomy.ready.works.holder.fills r) making.extent.words then 0 else 1) f)
          ∙ has_pages))

      so : (d : Holder) → Placed (extent_is_spread page_words making.extent) kept.0 d r making.extent.words
          → Fills kept.0 d r (used.0 + making.extent.words)
      so d p = subst (Fills kept.0 d r) (ap (λ o. unwrap_or o 0 + making.extent.words) (fill_there ∙ used.1))
          (subst (λ b. Placed b kept.0 d r making.extent.words) f p)

  lies : LiesSo
  lies = split (extent_is_spread page_words making.extent) lies_spread lies_own

  live : is_live s.regions r ≡ true
  unfolding r
  live = region_live before_it making is_some

  none_gone : NoneGone s.regions (r ∷ [])
  none_gone = (live_not_gone s.regions r live, tt)

  module _ (one : turned.steps ≡ 1) where
    -- what the goroutine did
    x : ActsSo w v s limits g turned roomy.ready before_it takes one
    x =
        let y = acts_so w v s limits g turned roomy.ready before_it takes one in
        record {
          act = making_act before_it making is_some;
          acts = making_acts before_it making is_some;
          is =
              ap (after s.plain g)
              (the_same (making_act before_it making is_some) y.act
              (sym (making_acts before_it making is_some) ∙ y.acts))
              ∙ y.is;
        }

    fitting_made : allotted w.sizes.page_words roomy.ready.works.holder
        (making_region (function_at w.code.now roomy.makes.at.frame) (top_names roomy.ready.works.holder.environments)
        roomy.makes.at.is.instr.op) (new_object s.plain (after s.plain g x.act))
        ≡ Some (record roomy.ready.works.holder { fills = lies.fills; reserved = lies.reserved }, r ∷ [])
    unfolding x
    fitting_made = lies.allots

    y : StepShows w.code.now s w.state (One g) v.state
    y = shows_step w v s limits g turned roomy.ready.between takes one

    made_is : after s.plain g (making_act before_it making is_some) ≡ y.next
    unfolding x y
    made_is = x.is

    still : v.state.ended ≡ None
    still = y.ended ∙ sym (ap (λ (p : TacState). p.ended) made_is) ∙ no_end g _ roomy.makes.at.callers

    nothing_printed : v.state.printed ≡ w.state.printed
    nothing_printed =
        y.prints_kept
        ∙ ap (λ bytes. w.state.printed ++ bytes) (nothing_more s.plain.printed y.bytes
        (sym y.prints ∙ sym (ap (λ (p : TacState). p.printed) made_is)))
        ∙ append-nil w.state.printed

    t : RegionState
    t = next_state w v s limits g turned roomy.ready before_it takes one x lies.fills lies.reserved (r ∷ []) fitting_made
        none_gone

  pub making_stays : goes_by turned.stop turned.steps ≡ false → TakesStep w v limits s g 1 turned
  making_stays stays = go (none_or_one w v s limits g turned roomy.ready.between takes)
    where
      some_none : {e : End} → Some e ≡ None → ⊥
      some_none e = cc

      go : (turned.steps ≡ 0) ⊎ (turned.steps ≡ 1) → TakesStep w v limits s g 1 turned
      go (inl z) = takes_none w v s limits g turned roomy.ready.between takes z
      go (inr one) =
          let e = stays_ended w.code.now limits v.state g 1 turned.steps turned.stop one stays takes.turns.over in
          absurd (some_none (sym e.1 ∙ still one))

  -- memory ran out when the object was to be placed
  pub making_fails : (p : World) → goes_by turned.stop turned.steps ≡ true → SameRun v p
      → TakesStep w p limits s g 1 (record { steps = turned.steps; stop = stop.NoMemory })
  unfolding t y
  making_fails p goes same =
      takes_fail w v s limits g turned roomy.ready.between takes one (t one)
      (next_step w v s limits g turned roomy.ready before_it takes one (x one) lies.fills lies.reserved (r ∷ [])
      (fitting_made one) none_gone) refl refl (r ∷ []) none_gone refl refl p same (still one) channels
      (nothing_printed one)
    where
      one : turned.steps ≡ 1
      one = goes_one w v s limits g turned roomy.ready takes goes

      channels : SameChannels s.plain.memory (t one).plain.memory
      channels = subst (λ (q : TacState). SameChannels s.plain.memory q.memory) (made_is one)
          (made_same s.plain.memory (made before_it making is_some).object)

  -- it was placed, and what is owed after it is done
  pub making_goes : (p u : World) (object : ℕ) (removes : List ℕ) → goes_by turned.stop turned.steps ≡ true
      → object ≡ length w.state.memory.heap
      → ((region : Region) → region_for v g next making ≡ Some region → PlacesObject v p g region making.extent object)
      → SameRun v p → removes ≡ removes_behind roomy.makes.at.frame roomy.makes.at.is.instr.op
      → ((z : RegionState) → Works p z g (map Remove removes ++ next_duties p.code.now (frames_of z.plain g))
      → OthersOwe p z g → WorldSettled p u z) → TakesStep w u limits s g 1 turned
  unfolding r t is_some
  making_goes p u object removes goes number place same is settles =
      takes_settled w v s limits g turned roomy.ready.between takes one (t one)
      (next_step w v s limits g turned roomy.ready before_it takes one (x one) lies.fills lies.reserved (r ∷ [])
      (fitting_made one) none_gone) refl refl (r ∷ []) none_gone refl refl u
      (settled_after v p u (t one) same
      (settles (t one) (subst (Works p (t one) g) owed works) others))
      (still_running w v s limits g turned roomy.ready before_it takes one (x one) lies.fills lies.reserved (r ∷ [])
      (fitting_made one) none_gone p p_is table (still one))
    where
      one : turned.steps ≡ 1
      one = goes_one w v s limits g turned roomy.ready takes goes

      in_w : v.holders.items ≡ w.holders.items
      in_w = ap (λ (z : World). z.holders.items) takes.same

      found : region_for v g next making ≡ Some r
      found = ap (λ (z : World). region_for z g next making) takes.same
          ∙ region_found w s g next making roomy.ready roomy.makes

      placed : PlacesObject v p g r making.extent object
      placed = place r found

      p_is : p ≡ record w { state = v.state; table = p.table; holders = p.holders }
      p_is = placed.same ∙ ap (λ (z : World). record z { table = p.table; holders = p.holders }) takes.same

      object_is : object ≡ length s.owners
      object_is = number
          ∙ ap (λ (m : Memory). length m.heap) roomy.ready.works.shown.memory
          ∙ kept_length s.regions s.owners s.plain.memory.heap
          ∙ sym roomy.ready.works.good.good.values.memory.owned

      table : RegionTableShows p.table s.regions s.global_pages (s.owners ++ r ∷ [])
      table = placed.owned s.regions s.global_pages s.owners live object_is
          (subst (λ z. RegionTableShows z s.regions s.global_pages s.owners)
          (sym (table_same w v s limits g turned roomy.ready takes)) roomy.ready.works.shown.table)

      changed : (d : Holder) × (p.holders.items ≡ slice_set v.holders.items g d)
          × Placed (extent_is_spread page_words making.extent) kept.0 d r making.extent.words
      changed =
          let x = placed.changed kept.0 (ap (λ l. slice_get l g) in_w ∙ kept.1) in (
            x.0,
            x.1,
            subst (λ n. Placed (extent_is_spread n making.extent) kept.0 x.0 r making.extent.words)
                (ap (λ (z : World). z.sizes.page_words) takes.same) x.2,
          )

      p_holders : p.holders.items ≡ slice_set w.holders.items g changed.0
      p_holders = changed.1 ∙ ap (λ l. slice_set l g changed.0) in_w

      shows : (ds : List Duty) → HolderShows changed.0 (record roomy.ready.works.holder {
        fills = lies.fills;
        reserved = lies.reserved;
        duties = ds;
      })
      shows ds = lies.shows changed.0 changed.2 ds

      unmade : (q : ℕ) → length s.regions ≤ q → fill_in changed.0 (Numbered q) ≡ fill_of lies.fills (Numbered q)
      unmade q l = lies.unmade changed.0 changed.2 q
          ((roomy.ready.works.shown.holders roomy.ready.works.running).unmade g kept.0 roomy.ready.works.holder kept.1
          roomy.ready.works.is_holder q l)

      code : p.code.now ≡ w.code.now
      code = same.code ∙ ap (λ (z : World). z.code.now) takes.same

      owed : map Remove (removes_behind roomy.makes.at.frame roomy.makes.at.is.instr.op)
          ++ next_duties w.code.now (frames_of (t one).plain g)
          ≡ map Remove removes ++ next_duties p.code.now (frames_of (t one).plain g)
      owed = λ j. map Remove (sym is j) ++ next_duties (sym code j) (frames_of (t one).plain g)

      works : Works p (t one) g (map Remove (removes_behind roomy.makes.at.frame roomy.makes.at.is.instr.op)
          ++ next_duties w.code.now (frames_of (t one).plain g))
      works = works_so w v s limits g turned roomy.ready before_it takes one (x one) lies.fills lies.reserved (r ∷ [])
          (fitting_made one) none_gone p p_is table (still one) (simple_next w g next roomy.makes.at kind) kept.0
          changed.0 kept.1 p_holders shows unmade

      others : OthersOwe p (t one) g
      others = others_so w v s limits g turned roomy.ready before_it takes one (x one) lies.fills lies.reserved (r ∷ [])
          (fitting_made one) none_gone p p_is table (still one) (simple_next w g next roomy.makes.at kind) kept.0
          changed.0 kept.1 p_holders shows unmade
