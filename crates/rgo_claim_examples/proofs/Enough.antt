-- From the search to the claim: if each state that a program's code reaches has room, no run meets a limit, and none needs more room
-- than exists. The search is over runs of the three-address code, which are finitely many and short. Runs with regions are reached
-- through them: each has the steps of one (PlainRuns.antt), and the bounds of rgo_sound depend only on those.
use Rattle.std.proofs.Common.{◌≡◌, ℕ, zero, suc, ◌+◌, ◌-◌, ◌*◌, ◌/◌, ◌<◌, ◌≤◌, Bool, true, false, List, [], ◌∷◌, length}
use Rattle.std.proofs.Common.{Option, Some, None, refl, ap, subst, arith, slice_get, if◌then◌else◌}
use Rattle.std.specs.Prelude.{nat_le, nat_lt, option_and_then}
use Rattle.std.specs.List.{list_all}
use Rattle.std.proofs.Math.Nat.{le-max_right}
use Rattle.std.proofs.lemmas.Bool.{and_parts, ltb-true, leb-true}
use Rattle.std.proofs.lemmas.Nat.{mul-le}
use Rattle.std.proofs.lemmas.Option.{same_Some}
use Rattle.rgo_typed.specs.Tree.{Typed}
use Rattle.rgo_memory.specs.Memory.{Object}
use Rattle.rgo_machine.specs.declared.picks.Pick.{Pick}
use Rattle.rgo_machine.specs.declared.picks.Pick.TheVariants.{One}
use Rattle.rgo_machine.specs.Limits.{LeadsWithin, deepest}
use Rattle.rgo_machine.specs.Runs.{run}
use Rattle.rgo_tac.specs.Code.{Tac}
use Rattle.rgo_tac.specs.Frames.{TacFrame}
use Rattle.rgo_tac.specs.Tac.{TacState, tac, tac_start}
use Rattle.rgo_lower.specs.Lowered.{IsLowered}
use Rattle.rgo_lower.proofs.Determined.{lowering_is_determined}
use Rattle.rgo_code.specs.Code.{Code}
use Rattle.rgo_code.specs.Erasure.{erased}
use Rattle.rgo_region_machine.specs.Machine.{Event, next_object, object_made, plain_step, region_run, region_start}
use Rattle.rgo_region_machine.specs.Objects.{cells, data_pages, is_spread, new_object, object_words}
use Rattle.rgo_region_machine.specs.States.{RegionState}
use Rattle.rgo_sound.proofs.counts.Whole.{whole_is_enough}
use Rattle.rgo_sound.specs.Safety.{most_names}
use Rattle.rgo_machine.specs.declared.ends.RunEnd.TheVariants as run_end
use Rattle.rgo_command_line.specs.declared.limits.RunOptions.{RunOptions}
use Rattle.rgo_run.specs.Compiled.{IsCompiledFrom}
use Rattle.rgo_run.specs.Headline.{NeverEnds, Suffices}
use Rattle.rgo_run.specs.Runs.{of_program}
use Rattle.rgo_run.specs.Sufficing.{FewPages, FewSteps}
use Rattle.rgo_run.proofs.Sufficing.{few_suffice}
use Rattle.rgo_claim_examples.proofs.Fits.{fits, has_room, is_shallow, is_small, most_variables}
use Rattle.rgo_claim_examples.proofs.Names.{names_bounded}
use Rattle.rgo_claim_examples.proofs.PlainRuns.{PlainRun, joined, plain_run}
use Rattle.rgo_claim_examples.proofs.Quiet.{quiet, quiet_is_of, quiet_of, quiet_run, quiet_step}
use Rattle.rgo_claim_examples.proofs.Search.{found}

-- a test that passes for all of a list passes at each place
pub all_at : {X : Type 0} (test : X → Bool) (xs : List X) (i : ℕ) (x : X) → list_all test xs ≡ true
    → slice_get xs i ≡ Some x → test x ≡ true
all_at test [] i x all at = absurd cc
all_at test (y ∷ ys) zero x all at =
    subst (λ z. test z ≡ true) (same_Some y x at) (and_parts (test y) (list_all test ys) all).0
all_at test (y ∷ ys) (suc i) x all at = all_at test ys i x (and_parts (test y) (list_all test ys) all).1 at

-- an object that fits a page is not spread, and has no data pages
not_spread : (page_words : ℕ) (object : Object) → object_words object ≤ page_words → is_spread page_words object ≡ false
not_spread page_words object small = not_below page_words (object_words object) small
  where
    not_below : (m n : ℕ) → n ≤ m → nat_lt m n ≡ false
    not_below m n l = grind arith

no_data_pages : (page_words : ℕ) (object : Object) → object_words object ≤ page_words → data_pages page_words object ≡ 0
no_data_pages page_words object small =
    ap (λ b. if b then (cells object - 1) / page_words + 1 else 0) (not_spread page_words object small)

module _ (options : RunOptions) (code : Tac) (steps : ℕ) where
  -- what the search finds about a state
  record HasRoom (t : TacState) (picks : List Pick) : Type 0 where
    short : length picks < steps
    shallow : (g : ℕ) (frames : List TacFrame) → slice_get t.goroutines g ≡ Some frames → length frames < deepest
    few : length t.goroutines < options.limits.goroutines
    objects : length t.memory.heap + length t.goroutines ≤ options.sizes.pages
    small : (o : ℕ) (object : Object) → slice_get t.memory.heap o ≡ Some object → object_words object ≤ options.sizes.page_words
    regions : (steps + length t.goroutines) * most_variables code.functions ≤ options.sizes.regions

  of_test : (t : TacState) (picks : List Pick) → length picks < steps
      → has_room options.limits options.sizes steps (most_variables code.functions) t ≡ true → HasRoom t picks
  of_test t picks short passes =
      let a = and_parts (list_all is_shallow t.goroutines) _ passes in
      let b = and_parts (nat_lt (length t.goroutines) options.limits.goroutines) _ a.1 in
      let c = and_parts (nat_le (length t.memory.heap + length t.goroutines) options.sizes.pages) _ b.1 in
      let d = and_parts (list_all (is_small options.sizes) t.memory.heap) _ c.1 in
      record {
        short = short;
        shallow = λ g frames at. ltb-true (length frames) deepest (all_at is_shallow t.goroutines g frames a.0 at);
        few = ltb-true (length t.goroutines) options.limits.goroutines b.0;
        objects = leb-true (length t.memory.heap + length t.goroutines) options.sizes.pages c.0;
        small =
            λ o object at. leb-true (object_words object) options.sizes.page_words
            (all_at (is_small options.sizes) t.memory.heap o object d.0 at);
        regions =
            leb-true ((steps + length t.goroutines) * most_variables code.functions) options.sizes.regions d.1;
      }

  module _ (search : fits options.limits options.sizes steps code ≡ true) where
    within_limit : steps ≤ options.limits.steps
    within_limit = leb-true steps options.limits.steps (and_parts (nat_le steps options.limits.steps) _ search).0

    room_at : (picks : List Pick) (t : TacState) → run (quiet_step (tac code)) (tac_start code) picks ≡ Some (quiet t)
        → HasRoom t picks
    room_at picks t leads =
        let all = (and_parts (nat_le steps options.limits.steps) _ search).1 in
        let f = found (tac code) (quiet_step (tac code)) (quiet_is_of (tac code))
        (has_room options.limits options.sizes steps (most_variables code.functions)) steps
        picks (tac_start code) (quiet t) all leads in
        of_test t picks f.1 f.0

    module _ (program : Typed) (lowered : IsLowered program code) where
      -- ---- runs of the three-address code

      room_within : (other : Tac) → IsLowered program other → (picks : List Pick) (t : TacState)
          → LeadsWithin (tac other) options.limits (tac_start other) picks t → HasRoom t picks
      room_within other is picks t leads =
          let same = lowering_is_determined program code other lowered is in
          room_at picks t (quiet_run (tac code) options.limits picks (tac_start code) t
          (subst (λ c. LeadsWithin (tac c) options.limits (tac_start c) picks t) same leads))

      calls : NeverEnds options.limits (of_program program) run_end.CallsTooDeep
      calls other is before picks t leads end =
          let room = room_within other is picks t leads in
          let deep = end.1 in
          let less = room.shallow deep.goroutine (deep.frame ∷ deep.callers) deep.frames in
          omega (arith, less, deep.deep)

      never_spent : NeverEnds options.limits (of_program program) run_end.StepsSpent
      never_spent other is before picks t leads end =
          let room = room_within other is picks t leads in
          omega (arith, room.short, within_limit, end.1)

      goroutines : NeverEnds options.limits (of_program program) run_end.GoroutinesSpent
      goroutines other is before picks t leads end =
          let room = room_within other is picks t leads in
          let full = end.1 in
          let least = le-max_right 1 options.limits.goroutines in
          omega (arith, room.few, full.full, least)

      -- ---- runs with regions

      module _ (made : Code) (compiled : IsCompiledFrom program made) (events : List Event) (s : RegionState)
          (is_run : region_run made options.sizes.page_words events ≡ Some s) where
        same : erased made ≡ code
        same = lowering_is_determined program code (erased made) lowered compiled.lowered

        plain : PlainRun made options.sizes.page_words (region_start made) s
        plain = plain_run made options.sizes.page_words events (region_start made) s is_run

        room_by : (picks : List Pick) (t : TacState)
            → run (quiet_step (tac (erased made))) (tac_start (erased made)) picks ≡ Some (quiet t) → HasRoom t picks
        room_by picks t leads =
            room_at picks t (subst (λ c. run (quiet_step (tac c)) (tac_start c) picks ≡ Some (quiet t)) same leads)

        room_in : HasRoom s.plain (PlainRun.picks plain)
        room_in = room_by (PlainRun.picks plain) s.plain (PlainRun.leads plain)

        pub few_steps : FewSteps options.sizes made s
        few_steps =
            let most = names_bounded made.functions in
            let same_most = ap (λ (c : Tac). most_variables c.functions) same in
            let taken = PlainRun.steps plain in
            let short = HasRoom.short room_in in
            let product = mul-le (s.steps + length s.plain.goroutines) (most_names made.functions)
            (steps + length s.plain.goroutines) (most_variables code.functions) (omega (arith, taken, short))
            (omega (arith, most, same_most)) in
            omega (arith, product, HasRoom.regions room_in)

        -- the object that a step makes from here is in a state of a longer run
        no_large : (g : ℕ) (next : TacState) (object : Object) → plain_step made s.plain (One g) ≡ Some next
            → new_object s.plain next ≡ Some object → object_words object ≤ options.sizes.page_words
        no_large g next object e at =
            let one = quiet_of (tac (erased made)) s.plain (One g) next e in
            let longer = joined made options.sizes.page_words (PlainRun.picks plain) (One g ∷ [])
            (tac_start (erased made)) (quiet s.plain) (quiet next) (PlainRun.leads plain)
            (ap (option_and_then (λ u. Some u)) one) in
            HasRoom.small (room_by longer.0 next longer.1) (length s.plain.memory.heap) object at

        none_next : (object : Object) → ◌≡◌ {A = Option Object} None (Some object) → ⊥
        none_next object e = cc

        next_small : (g : ℕ) (object : Object) → next_object made s g ≡ Some object
            → object_words object ≤ options.sizes.page_words
        next_small g object = by (plain_step made s.plain (One g)) refl
          where
            by : (o : Option TacState) → plain_step made s.plain (One g) ≡ o → object_made s o ≡ Some object
                → object_words object ≤ options.sizes.page_words
            by None e at = absurd (none_next object at)
            by (Some next) e at = no_large g next object e at

        -- no object is spread, so as many pages are enough as there are objects and goroutines
        pub few_pages : FewPages options.sizes made s
        few_pages =
            let whole = whole_is_enough made options.sizes.page_words s
            (λ o object at. not_spread options.sizes.page_words object (HasRoom.small room_in o object at))
            (λ g object next. not_spread options.sizes.page_words object (next_small g object next)) in
            omega (arith, whole, HasRoom.objects room_in)

      -- every run of the program has what it needs
      pub suffices : Suffices options (of_program program)
      suffices = record {
        calls = calls;
        steps = never_spent;
        goroutines = goroutines;
        pages =
            few_suffice.pages options.sizes (of_program program)
            (λ made events s compiled is_run. few_pages made compiled events s is_run);
        regions =
            few_suffice.regions options.sizes (of_program program)
            (λ made events s compiled is_run. few_steps made compiled events s is_run);
        object_size =
            λ made compiled events s is_run lacks.
            let small = no_large made compiled events s is_run lacks.0 lacks.1 lacks.3.0 lacks.2 lacks.3.1 in
            let none = no_data_pages options.sizes.page_words lacks.3.0 small in
            omega (arith, none, lacks.3.2);
      }
