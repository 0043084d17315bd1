-- The steps of the region machine for an instruction of one goroutine: the page that it takes before it makes an object, and the
-- instruction itself. The machine finds the object by trying its step over the whole memory; the code computes its size beforehand
-- (Making.antt).
use Rattle.std.proofs.Common.{◌≡◌, ℕ, ◌+◌, ◌-◌, ◌/◌, ◌≤◌, ◌<◌, Bool, true, false, not, ◌&&◌, List, [], ◌∷◌, ◌++◌, length}
use Rattle.std.proofs.Common.{Option, Some, None, refl, sym, ap, ◌∙◌, subst, nat_le, nat_lt, if◌then◌else◌, true≢false}
use Rattle.std.proofs.Common.{slice_get, option_map, option_and_then, arith, length-append}
use Rattle.std.proofs.lemmas.Bool.Decides.{nat_tests}
use Rattle.std.proofs.lemmas.Option.{slice_get_past}
use Rattle.rgo_memory.specs.declared.values.Value.TheVariants as value
use Rattle.rgo_memory.specs.Memory.{Memory}
use Rattle.rgo_machine.specs.declared.picks.Pick.TheVariants.{One}
use Rattle.rgo_machine.specs.Machines.{alone as machine_alone, picked, unless_ended}
use Rattle.rgo_tac.specs.Frames.{TacFrame, frame_after_instr, operand_values}
use Rattle.rgo_tac.specs.Steps.{destination_type}
use Rattle.rgo_tac.specs.Tac.{TacState, tac}
use Rattle.rgo_code.specs.Code.{Branch, Call, Code, CodeInstr, CodeOp, Do, Go, Jump, Print, Return}
use Rattle.rgo_code.specs.Erasure.{erased, erased_fn, erased_instr, erased_op}
use Rattle.rgo_region_machine.specs.declared.regions.Region.{Region}
use Rattle.rgo_region_machine.specs.Duties.{may_go}
use Rattle.rgo_region_machine.specs.Instructions.{has_none, instruct, instructed, instructed_at, instructed_with}
use Rattle.rgo_region_machine.specs.Instructions.{one_instructed, some_instructed}
use Rattle.rgo_region_machine.specs.Machine.{Instruct, TakePage, object_made, page_before, page_for, page_taken}
use Rattle.rgo_region_machine.specs.Machine.{plain_step, region_step, take_page, takes_page}
use Rattle.rgo_region_machine.specs.Objects.{allotted, data_pages, fill_of, fits_in_page, is_spread, is_too_large}
use Rattle.rgo_region_machine.specs.Objects.{making_region, most_data_pages, new_object, placed, spread_out, wants_page}
use Rattle.rgo_region_machine.specs.Objects.{with_fill, with_page, object_words}
use Rattle.rgo_region_machine.specs.Owed.{function_at}
use Rattle.rgo_region_machine.specs.Regions.{is_live}
use Rattle.rgo_region_machine.specs.States.{Holder, RegionState, frames_in, frames_of, top_names}
use Rattle.rgo_sound.proofs.steps.Acting.{Acted, act, act_at, after, alone, alone_is, trap_place}
use Rattle.rgo_sound.proofs.plain.Steps.{Always}
use Rattle.rgo_sound.proofs.offers.Offers.{SteadyActed, alone_steady, makes_at}
use Rattle.rgo_sound.proofs.steps.OneStep.{current_erased}
use Rattle.rgo_sound.proofs.Places.{get_append_last}
use Rattle.rgo_sound.proofs.Progress.{HasTarget, live_of}
use Rattle.rgo_sound.proofs.Tests.{split}
use Rattle.rgo_region_machine.specs.Room.{MakesTooLarge}
use Rattle.rgo_region_interpreter.specs.declared.objects.Making.{Making}
use Rattle.rgo_region_interpreter.specs.Extents as extents
use Rattle.rgo_region_interpreter.specs.Extents.{pages_wanted}
use Rattle.rgo_region_interpreter.specs.Objects.{extent_made, making_by, making_of}
use Rattle.rgo_region_interpreter.proofs.acts.Making.{Makes, acts_none, makes, makes_none}
use Rattle.rgo_region_interpreter.proofs.stepping.Targets.{IsBefore, ready_now, region_staked, region_there, target, top}

-- what a goroutine does alone, by its frames
abbrev pub acted : Code → TacState → ℕ → Option Acted
acted code p g = option_and_then (alone (erased code) p.memory) (slice_get p.goroutines g)

-- the step of a goroutine by what it does alone
pub steps_alone : (code : Code) (p : TacState) (g : ℕ) → p.ended ≡ None
    → plain_step code p (One g) ≡ option_map (after p g) (acted code p g)
steps_alone code p g running =
    ap (λ e. unless_ended e (picked (tac (erased code)) p (One g))) running ∙ go (slice_get p.goroutines g) refl
  where
    go : (o : Option (List TacFrame)) → slice_get p.goroutines g ≡ o
        → option_and_then (machine_alone (tac (erased code)) p g) o
        ≡ option_map (after p g) (option_and_then (alone (erased code) p.memory) o)
    go None q = refl
    go (Some frames) q = alone_is (erased code) p g running frames q

module _ {code : Code} {s : RegionState} {g : ℕ} {h : Holder} {frame : TacFrame} {callers : List TacFrame}
    {instr : CodeInstr} (i : IsBefore code s g h frame callers instr) where
  pub acts_by : (m : Memory) → alone (erased code) m (frame ∷ callers)
      ≡ act (erased code) m (erased_op instr.op) instr.place frame callers
  acts_by m = ap (λ o. act_at (erased code) m o frame callers)
      (current_erased code frame ∙ ap (option_map erased_instr) i.cur)

  pub acted_by : acted code s.plain g ≡ alone (erased code) s.plain.memory (frame ∷ callers)
  acted_by = ap (option_and_then (alone (erased code) s.plain.memory)) i.at

  pub step_of : (a : Acted) → alone (erased code) s.plain.memory (frame ∷ callers) ≡ Some a
      → plain_step code s.plain (One g) ≡ Some (after s.plain g a)
  step_of a q = steps_alone code s.plain g i.running ∙ ap (option_map (after s.plain g)) (acted_by ∙ q)

  -- ---- no object is made

  none_larger : making_by code.structs frame (erased_op instr.op) ≡ None → (a : Acted)
      → alone (erased code) s.plain.memory (frame ∷ callers) ≡ Some a
      → length a.memory.heap ≡ length s.plain.memory.heap
  none_larger none a q = split (makes_at instr.op) (λ t. by instr.op refl t none) (λ f. steady.1 f)
    where
      steady : SteadyActed s.plain.memory (makes_at instr.op) a
      steady = subst (Always (SteadyActed s.plain.memory (makes_at instr.op))) q
          (alone_steady code s.plain.memory frame callers instr i.cur)

      by : (op : CodeOp) → instr.op ≡ op → makes_at op ≡ true → making_by code.structs frame (erased_op op) ≡ None
          → length a.memory.heap ≡ length s.plain.memory.heap
      by (Do to action from removes) is t n =
          subst (Always (λ (a : Acted). length a.memory.heap ≡ length s.plain.memory.heap))
          (ap (λ op. act (erased code) s.plain.memory (erased_op op) instr.place frame callers) (sym is)
          ∙ sym (acts_by s.plain.memory) ∙ q)
          (acts_none s.plain.memory frame callers to (trap_place action instr.place) _
          (makes_none code.structs (destination_type (erased code) frame to) s.plain.memory action w.variable
          (operand_values frame from) t
          (ap (λ d. making_of d (extent_made code.structs action (operand_values frame from))) (sym w.is) ∙ n)))
        where
          w : HasTarget (erased_fn (top i).stands.fn) to
          w = target i to action from removes is t
      by (Call to n from passes protects removes) is t e = absurd (true≢false (sym t))
      by (Go n from passes removes) is t e = absurd (true≢false (sym t))
      by (Print pieces from removes) is t e = absurd (true≢false (sym t))
      by (Jump j removes) is t e = absurd (true≢false (sym t))
      by (Branch v j removes k others) is t e = absurd (true≢false (sym t))
      by (Return v) is t e = absurd (true≢false (sym t))

  pub no_object : making_by code.structs frame (erased_op instr.op) ≡ None → (a : Acted)
      → alone (erased code) s.plain.memory (frame ∷ callers) ≡ Some a
      → new_object s.plain (after s.plain g a) ≡ None
  no_object none a q =
      let l = none_larger none a q in slice_get_past a.memory.heap (length s.plain.memory.heap) (omega (arith, l))

  -- ---- the instruction

  pub instructs : (page_words : ℕ) (a : Acted) (given : Holder × List Region)
      → alone (erased code) s.plain.memory (frame ∷ callers) ≡ Some a
      → allotted page_words h (making_region (function_at code frame) (top_names h.environments) instr.op)
      (new_object s.plain (after s.plain g a)) ≡ Some given
      → region_step code page_words s (Instruct (One g))
      ≡ Some (instructed_with code s g frame callers instr (after s.plain g a) given)
  instructs page_words a given q fitting =
      ap (option_and_then (instruct code page_words s (One g))) (step_of a q)
      ∙ ap (λ o. one_instructed code page_words s g o (frames_of s.plain g) (after s.plain g a)) i.there
      ∙ ap (λ fr. one_instructed code page_words s g (Some h) fr (after s.plain g a)) (ap frames_in i.at)
      ∙ ap (λ b. if b then instructed_at code page_words s g h frame callers (after s.plain g a) else None)
      (ready_now i)
      ∙ ap (option_and_then (instructed code page_words s g h frame callers (after s.plain g a))) i.cur
      ∙ ap (option_and_then (some_instructed code s g frame callers instr (after s.plain g a))) fitting

  -- ---- the object that is made

  module _ (making : Making) (is : making_by code.structs frame (erased_op instr.op) ≡ Some making) where
    pub made : Makes (erased code) (erased_op instr.op) instr.place frame callers making
    made = makes (erased code) instr.place frame callers (erased_op instr.op) making is

    abbrev pub making_act : Acted
    making_act = record {
      memory = record s.plain.memory { heap = s.plain.memory.heap ++ made.object ∷ [] };
      frames = frame_after_instr frame (Some making.to) (value.Object (length s.plain.memory.heap)) ∷ callers;
      started = [];
      printed = [];
      trap = None;
    }

    pub making_acts : alone (erased code) s.plain.memory (frame ∷ callers) ≡ Some making_act
    making_acts = acts_by s.plain.memory ∙ made.acts s.plain.memory

    pub making_new : new_object s.plain (after s.plain g making_act) ≡ Some made.object
    making_new = get_append_last s.plain.memory.heap made.object (length s.plain.memory.heap) refl

    pub makes_one : makes_at instr.op ≡ true
    makes_one = split (makes_at instr.op) (λ t. t) (λ f. absurd (larger f))
      where
        steady : SteadyActed s.plain.memory (makes_at instr.op) making_act
        steady = subst (Always (SteadyActed s.plain.memory (makes_at instr.op))) making_acts
            (alone_steady code s.plain.memory frame callers instr i.cur)

        larger : makes_at instr.op ≡ false → ⊥
        larger f =
            let e : length (s.plain.memory.heap ++ made.object ∷ []) ≡ length s.plain.memory.heap = steady.1 f in
            let l = length-append s.plain.memory.heap (made.object ∷ []) in omega (arith, e, l)

    pub its_region : (r : Region)
        × (making_region (function_at code frame) (top_names h.environments) instr.op ≡ Some r)
    its_region = region_there i makes_one

    pub region_live : is_live s.regions its_region.0 ≡ true
    region_live = live_of s h its_region.0 (region_staked i its_region.0 its_region.1)

    -- how large the object is, as the code counts it
    spread_is : (page_words : ℕ) → is_spread page_words made.object ≡ extents.extent_is_spread page_words making.extent
    spread_is page_words = ap (nat_lt page_words) made.large.words

    data_is : (page_words : ℕ) → data_pages page_words made.object ≡ extents.extent_data_pages page_words making.extent
    data_is page_words = λ j. if spread_is page_words j then (made.large.cells j - 1) / page_words + 1 else 0

    too_large_is : (page_words : ℕ)
        → is_too_large page_words made.object ≡ extents.extent_is_too_large page_words making.extent
    too_large_is page_words = ap (nat_lt (most_data_pages page_words)) (data_is page_words)

    -- it needs more data pages than an object can have
    pub too_large : (page_words : ℕ) → extents.extent_is_too_large page_words making.extent ≡ true → (next : TacState)
        × (plain_step code s.plain (One g) ≡ Some next) × MakesTooLarge page_words s.plain next
    too_large page_words large = (
      after s.plain g making_act,
      step_of making_act making_acts,
      (
        made.object,
        making_new,
        below (most_data_pages page_words) (data_pages page_words made.object)
            (too_large_is page_words ∙ large),
      ),
    )
      where
        below : (n m : ℕ) → nat_lt n m ≡ true → n < m
        below n m e = grind (arith, nat_tests)

    -- a page is wanted for it
    wants_one : (page_words : ℕ) (used : Option ℕ) → extents.extent_is_too_large page_words making.extent ≡ false
        → 0 < pages_wanted page_words h.reserved used making.extent
        → wants_page page_words h.reserved used made.object ≡ true
    wants_one page_words used small more = split (extents.extent_is_spread page_words making.extent) whole part
      where
        le : (n m : ℕ) → 0 < (m + 1) - n → nat_le n m ≡ true
        le n m l = grind (arith, nat_tests)

        none_true : (b : Bool) → 0 < (if b then 0 else 1) → not b ≡ true
        none_true true l = absurd (omega (arith, l))
        none_true false l = refl

        whole : extents.extent_is_spread page_words making.extent ≡ true
            → wants_page page_words h.reserved used made.object ≡ true
        whole t =
            ap (λ b. if b then not (is_too_large page_words made.object) && nat_le h.reserved
            (data_pages page_words made.object) else not (fits_in_page page_words used (object_words made.object)))
            (spread_is page_words ∙ t)
            ∙ ap (λ b. not b && nat_le h.reserved (data_pages page_words made.object)) (too_large_is page_words ∙ small)
            ∙ ap (nat_le h.reserved) (data_is page_words)
            ∙ le h.reserved (extents.extent_data_pages page_words making.extent)
            (subst (λ b. 0 < (if b then (extents.extent_data_pages page_words making.extent + 1) - h.reserved
            else if fits_in_page page_words used making.extent.words then 0 else 1)) t more)

        part : extents.extent_is_spread page_words making.extent ≡ false
            → wants_page page_words h.reserved used made.object ≡ true
        part f =
            ap (λ b. if b then not (is_too_large page_words made.object) && nat_le h.reserved
            (data_pages page_words made.object) else not (fits_in_page page_words used (object_words made.object)))
            (spread_is page_words ∙ f)
            ∙ ap (λ n. not (fits_in_page page_words used n)) made.large.words
            ∙ none_true (fits_in_page page_words used making.extent.words)
            (subst (λ b. 0 < (if b then (extents.extent_data_pages page_words making.extent + 1) - h.reserved
            else if fits_in_page page_words used making.extent.words then 0 else 1)) f more)

    -- the goroutine takes a page for it
    pub page_step : (page_words : ℕ) → extents.extent_is_too_large page_words making.extent ≡ false
        → 0 < pages_wanted page_words h.reserved (fill_of h.fills its_region.0) making.extent
        → region_step code page_words s (TakePage g)
        ≡ Some (page_taken s g (with_page page_words h its_region.0 made.object) its_region.0)
    page_step page_words small more =
        ap (option_and_then (λ k. take_page code page_words s g k (frames_of s.plain g))) i.there
        ∙ ap (take_page code page_words s g h) (ap frames_in i.at)
        ∙ ap (option_and_then (page_for code page_words s g h frame)) i.cur
        ∙ ap (option_and_then (takes_page code page_words s g h)) its_region.1
        ∙ ap (λ o. option_and_then (page_before page_words s g h its_region.0) (object_made s o))
        (step_of making_act making_acts)
        ∙ ap (option_and_then (page_before page_words s g h its_region.0)) making_new
        ∙ ap (λ ds. if has_none ds && may_go h.offer && is_live s.regions its_region.0 && wants then Some paged else None)
        i.none
        ∙ ap (λ b. if b && is_live s.regions its_region.0 && wants then Some paged else None) i.free
        ∙ ap (λ b. if b && wants then Some paged else None) region_live
        ∙ ap (λ b. if b then Some paged else None)
        (wants_one page_words (fill_of h.fills its_region.0) small more)
      where
        paged : RegionState
        paged = page_taken s g (with_page page_words h its_region.0 made.object) its_region.0

        wants : Bool
        wants = wants_page page_words h.reserved (fill_of h.fills its_region.0) made.object

    -- the holder after it, by whether the object is spread
    pub paged_spread : (page_words : ℕ) → extents.extent_is_spread page_words making.extent ≡ true
        → with_page page_words h its_region.0 made.object ≡ record h { reserved = h.reserved + 1 }
    paged_spread page_words t = λ j. record h {
      fills = if (spread_is page_words ∙ t) j then h.fills else with_fill h.fills its_region.0 0;
      reserved = if (spread_is page_words ∙ t) j then h.reserved + 1 else h.reserved;
    }

    pub paged_own : (page_words : ℕ) → extents.extent_is_spread page_words making.extent ≡ false
        → with_page page_words h its_region.0 made.object ≡ record h { fills = with_fill h.fills its_region.0 0 }
    paged_own page_words f = λ j. record h {
      fills = if (spread_is page_words ∙ f) j then h.fills else with_fill h.fills its_region.0 0;
      reserved = if (spread_is page_words ∙ f) j then h.reserved + 1 else h.reserved;
    }

    -- it fits the goroutine's own page
    pub allots : (page_words used : ℕ) → extents.extent_is_spread page_words making.extent ≡ false
        → fill_of h.fills its_region.0 ≡ Some used → used + making.extent.words ≤ page_words
        → allotted page_words h (making_region (function_at code frame) (top_names h.environments) instr.op)
        (new_object s.plain (after s.plain g making_act))
        ≡ Some (record h { fills = with_fill h.fills its_region.0 (used + making.extent.words) }, its_region.0 ∷ [])
    allots page_words used f q fitting =
        ap (λ o. allotted page_words h o (new_object s.plain (after s.plain g making_act))) its_region.1
        ∙ ap (allotted page_words h (Some its_region.0)) making_new
        ∙ ap (λ b. if b then spread_out page_words h its_region.0 made.object
        else placed page_words h its_region.0 made.object (fill_of h.fills its_region.0)) (spread_is page_words ∙ f)
        ∙ ap (placed page_words h its_region.0 made.object) q
        ∙ ap (λ n. if nat_le (used + n) page_words then Some (
          record h { fills = with_fill h.fills its_region.0 (used + n) },
          its_region.0 ∷ [],
        ) else None) made.large.words
        ∙ ap (λ b. if b then Some (
          record h { fills = with_fill h.fills its_region.0 (used + making.extent.words) },
          its_region.0 ∷ [],
        ) else None) (small_enough (used + making.extent.words) page_words fitting)
      where
        small_enough : (n m : ℕ) → n ≤ m → nat_le n m ≡ true
        small_enough n m l = grind (arith, nat_tests)

    -- all of its pages are reserved
    pub allots_spread : (page_words : ℕ) → extents.extent_is_spread page_words making.extent ≡ true
        → extents.extent_is_too_large page_words making.extent ≡ false
        → extents.extent_data_pages page_words making.extent < h.reserved
        → allotted page_words h (making_region (function_at code frame) (top_names h.environments) instr.op)
        (new_object s.plain (after s.plain g making_act)) ≡ Some (record h { reserved = 0 }, its_region.0 ∷ [])
    allots_spread page_words t small all =
        ap (λ o. allotted page_words h o (new_object s.plain (after s.plain g making_act))) its_region.1
        ∙ ap (allotted page_words h (Some its_region.0)) making_new
        ∙ ap (λ b. if b then spread_out page_words h its_region.0 made.object
        else placed page_words h its_region.0 made.object (fill_of h.fills its_region.0)) (spread_is page_words ∙ t)
        ∙ ap (λ b. if not b && nat_lt (data_pages page_words made.object) h.reserved then Some (
          record h { reserved = 0 },
          its_region.0 ∷ [],
        ) else None) (too_large_is page_words ∙ small)
        ∙ ap (λ n. if nat_lt n h.reserved then Some (record h { reserved = 0 }, its_region.0 ∷ []) else None)
        (data_is page_words)
        ∙ ap (λ b. if b then Some (record h { reserved = 0 }, its_region.0 ∷ []) else None)
        (fewer (extents.extent_data_pages page_words making.extent) h.reserved all)
      where
        fewer : (n m : ℕ) → n < m → nat_lt n m ≡ true
        fewer n m l = grind (arith, nat_tests)
