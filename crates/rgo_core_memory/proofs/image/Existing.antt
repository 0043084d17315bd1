-- The region machine has the step. Its definition is a chain of tests, and each of them is shown to be true: the object is live by
-- region safety, the types by checked code, the room by what the goroutine knows of its page.
use Rattle.std.proofs.Common.{◌≡◌, ℕ, ◌+◌, ◌<◌, ◌≤◌, Bool, true, false, not, ◌&&◌, List, [], ◌∷◌, ◌++◌, map, length, replicate, pos, Option, Some, None, option_and_then, option_map, slice_get, nat_le, if◌then◌else◌, refl, ap, sym, subst, ◌∙◌, ⊎_elim, arith}
use Rattle.std.proofs.lemmas.Bool.Decides.{nat_tests}
use Rattle.rgo_sound.specs.Typed.declared.actions.Action.{Action}
use Rattle.rgo_sound.specs.Typed.declared.actions.Action.TheVariants as action
use Rattle.rgo_sound.specs.Typed.declared.programs.Struct.{Struct}
use Rattle.rgo_sound.specs.Code.Code.{Code, CodeInstr, CodeOp}
use Rattle.rgo_sound.specs.Code.Erasure.{erased, erased_instr, erased_op}
use Rattle.rgo_sound.specs.Machine.Machines.{alone as machine_alone, picked, unless_ended}
use Rattle.rgo_sound.specs.Machine.declared.picks.End.{End}
use Rattle.rgo_sound.specs.Machine.declared.picks.Pick.TheVariants.{One}
use Rattle.rgo_sound.specs.Memory.Making.{made as made_effect, made_struct}
use Rattle.rgo_sound.specs.Memory.Memory.{Object, StructObject, SliceObject, Channel}
use Rattle.rgo_sound.specs.Memory.Values.{zero_of, element_zero}
use Rattle.rgo_sound.specs.Memory.declared.values.Value.{Value}
use Rattle.rgo_sound.specs.Memory.declared.values.Value.TheVariants as value
use Rattle.rgo_sound.specs.RegionMachine.Duties.{may_go}
use Rattle.rgo_sound.specs.RegionMachine.Instructions.{has_none, instruct, one_instructed, instructed, some_instructed, instructed_with, is_ready, touches}
use Rattle.rgo_sound.specs.RegionMachine.Machine.{Instruct, TakePage, region_step, take_page, takes_page, page_for, page_taken, next_object, object_made, plain_step}
use Rattle.rgo_sound.specs.RegionMachine.Objects.{allotted, placed, making_region, may_touch, owner_live, new_object, touched, object_words, fill_of, with_fill, fits_in_page, wants_page}
use Rattle.rgo_sound.specs.RegionMachine.Owed.{current, function_at}
use Rattle.rgo_sound.specs.RegionMachine.Regions.{is_live}
use Rattle.rgo_sound.specs.RegionMachine.States.{Holder, RegionState, frames_in, frames_of, top_names}
use Rattle.rgo_sound.specs.RegionMachine.declared.regions.Region.{Region}
use Rattle.rgo_sound.specs.RegionMachine.declared.regions.Region.TheVariants.{Global as GlobalRegion, Numbered}
use Rattle.rgo_sound.proofs.steps.Acting.{Acted, act, act_at, after, alone, alone_is, effected, performed, trap_place}
use Rattle.rgo_sound.proofs.duties.Attends.{staked_live}
use Rattle.rgo_sound.proofs.steps.OneStep.{current_erased}
use Rattle.rgo_sound.proofs.offers.Offers.{touched_home}
use Rattle.rgo_sound.proofs.pointers.Steps.{top_of}
use Rattle.rgo_sound.specs.Invariant.{GoodHolder}
use Rattle.rgo_sound.specs.NextNames.{HasStake}
use Rattle.rgo_core_memory.proofs.image.Stepped.{slice_get_none}
use Rattle.rgo_sound.proofs.Places.{get_append_last}
use Rattle.rgo_sound.specs.Good.{AllGood}
use Rattle.rgo_sound.specs.Tac.Frames.{TacFrame, frame_after_instr}
use Rattle.rgo_sound.specs.Tac.Steps.{destination_type}
use Rattle.rgo_sound.specs.Tac.Tac.{tac}
use Rattle.rgo_core_memory.specs.Accesses.{Before}
use Rattle.rgo_core_memory.specs.Allocations.{MakesNext}
use Rattle.rgo_core_memory.specs.Exists.{HolderSettled, AllocationExists, PageExists, AccessExists}
use Rattle.rgo_core_memory.specs.Ground.{MayUseRegion, held_of}
use Rattle.rgo_core_memory.proofs.regions.Attending.{makes_used}
use Rattle.rgo_core_memory.proofs.objects.Spreads.{whole_of}
use Rattle.rgo_sound.specs.RegionMachine.Objects.{is_spread, spread_out, is_too_large, data_pages, with_page}
use Rattle.rgo_sound.specs.RegionMachine.Machine.{page_before}
use Rattle.rgo_core_memory.specs.Exists.{AllocationExistsApart, ReservedPageExists}
use Rattle.std.proofs.Common.{nat_lt}

-- ---- an instruction

module _ (code : Code) (page_words : ℕ) (s : RegionState) (g : ℕ) (h : Holder) (settled : HolderSettled s g h) (frame : TacFrame) (callers : List TacFrame)
    (at : slice_get s.plain.goroutines g ≡ Some (frame ∷ callers)) (a : Acted) (acts : alone (erased code) s.plain.memory
    (frame ∷ callers) ≡ Some a) where
  -- the plain machine's step
  plain_done : plain_step code s.plain (One g) ≡ Some (after s.plain g a)
  plain_done =
      ap (λ (e : Option End). unless_ended e (picked (tac (erased code)) s.plain (One g))) settled.running
      ∙ (ap (option_and_then (machine_alone (tac (erased code)) s.plain g)) at
      ∙ (alone_is (erased code) s.plain g settled.running (frame ∷ callers) at
      ∙ ap (option_map (after s.plain g)) acts))

  module _ (instr : CodeInstr) (cur : current code frame ≡ Some instr) (live : may_touch s (touched frame instr.op) ≡ true) (given : Holder
      × List Region)
      (allots : allotted page_words h (making_region (function_at code frame) (top_names h.environments) instr.op) (new_object s.plain
      (after s.plain g a)) ≡ Some given) where
    ready : is_ready code s h (frame ∷ callers) ≡ true
    ready = ap (λ ds. has_none ds && may_go h.offer && touches s frame (current code frame)) settled.owes
        ∙ (ap (λ (b : Bool). b && touches s frame (current code frame)) settled.free
        ∙ (ap (touches s frame) cur ∙ live))

    if_true : {A : Type 0} (b : Bool) (x y : A) → b ≡ true → (if b then x else y) ≡ x
    if_true b x y e = ap (λ (c : Bool). if c then x else y) e

    instruct_exists : region_step code page_words s (Instruct (One g)) ≡ Some (instructed_with code s g frame callers instr (after s.plain g a) given)
    instruct_exists =
        ap (option_and_then (instruct code page_words s (One g))) plain_done
        ∙ (ap (λ (o : Option Holder). one_instructed code page_words s g o (frames_of s.plain g) (after s.plain g a)) settled.there
        ∙ (ap (λ (o : Option (List TacFrame)). one_instructed code page_words s g (Some h) (frames_in o) (after s.plain g a)) at
        ∙ (if_true (is_ready code s h (frame ∷ callers)) _ None ready
        ∙ (ap (option_and_then (instructed code page_words s g h frame callers (after s.plain g a))) cur
        ∙ ap (option_and_then (some_instructed code s g frame callers instr (after s.plain g a))) allots))))

-- ---- an object that is made

-- what an action does that was found to make this object
module _ (code : Code) (page_words : ℕ) (s : RegionState) (g : ℕ) (h : Holder) (settled : HolderSettled s g h) (all : AllGood code s) (r : Region)
    (object : Object)
    (a : Action) (values : List Value) (b : Before code s g a values) (region : making_region (function_at code b.frame)
    (top_names h.environments) b.instr.op ≡ Some r)
    (does : performed code.structs a (destination_type (erased code) b.frame b.to) values s.plain.memory ≡ Some (made_effect s.plain.memory object)) where
  abbrev result : Acted
  result = record {
    memory = record (s.plain.memory) { heap = s.plain.memory.heap ++ object ∷ [] };
    frames = frame_after_instr b.frame b.to (value.Object (length s.plain.memory.heap)) ∷ b.callers;
    started = [];
    printed = [];
    trap = None;
  }

  does_so : alone (erased code) s.plain.memory (b.frame ∷ b.callers) ≡ Some result
  does_so =
      ap (λ i. act_at (erased code) s.plain.memory i b.frame b.callers) (current_erased code b.frame ∙ ap (option_map erased_instr) b.cur)
      ∙ ap (λ op. act (erased code) s.plain.memory (erased_op op) b.instr.place b.frame b.callers) b.is
      ∙ ap (λ vs. effected s.plain.memory b.frame b.callers b.to (trap_place a b.instr.place) (performed code.structs a (destination_type
      (erased code) b.frame b.to) vs s.plain.memory)) b.operands
      ∙ ap (effected s.plain.memory b.frame b.callers b.to (trap_place a b.instr.place)) does

  new_is : new_object s.plain (after s.plain g result) ≡ Some object
  new_is = get_append_last s.plain.memory.heap object (length s.plain.memory.heap) refl

  makes : (n : ℕ) → fill_of h.fills r ≡ Some n → n + object_words object ≤ page_words → may_touch s (touched b.frame b.instr.op) ≡ true
      → (t : RegionState) × (region_step code page_words s (Instruct (One g)) ≡ Some t)
  makes n fill small live = (
    instructed_with code s g b.frame b.callers b.instr (after s.plain g result) (record h { fills = with_fill h.fills r (n + object_words object) }, r ∷ []),
    instruct_exists code page_words s g h settled b.frame b.callers b.at result does_so b.instr b.cur live (
      record h {
        fills = with_fill h.fills r
            (n + object_words object);
      },
      r ∷ [],
    )
        (ap (λ (y : Option Region). allotted page_words h y (new_object s.plain (after s.plain g result))) region
        ∙ (ap (allotted page_words h (Some r)) new_is
        ∙ (ap (λ b. if b then spread_out page_words h r object else placed page_words h r object (fill_of h.fills r))
        (whole_of page_words object (omega (arith, small)))
        ∙ (ap (placed page_words h r object) fill
        ∙ ap (λ (c : Bool). if c then Some (record h { fills = with_fill h.fills r (n + object_words object) }, r ∷ []) else None) (test
        (n + object_words object) page_words small))))),
  )
    where
      test : (x y : ℕ) → x ≤ y → nat_le x y ≡ true
      test x y l = grind (arith, nat_tests)

  makes_apart : is_spread page_words object ≡ true → is_too_large page_words object ≡ false
      → data_pages page_words object < h.reserved → may_touch s (touched b.frame b.instr.op) ≡ true
      → (t : RegionState) × (region_step code page_words s (Instruct (One g)) ≡ Some t)
  makes_apart sp small more live = (
    instructed_with code s g b.frame b.callers b.instr (after s.plain g result) (record h { reserved = 0 }, r ∷ []),
    instruct_exists code page_words s g h settled b.frame b.callers b.at result does_so b.instr b.cur live
        (record h { reserved = 0 }, r ∷ [])
        (ap (λ (y : Option Region). allotted page_words h y (new_object s.plain (after s.plain g result))) region
        ∙ (ap (allotted page_words h (Some r)) new_is
        ∙ (ap (λ b. if b then spread_out page_words h r object else placed page_words h r object (fill_of h.fills r)) sp
        ∙ (ap (λ b. if not b && nat_lt (data_pages page_words object) h.reserved then Some
        (record h { reserved = 0 }, r ∷ []) else None) small
        ∙ ap (λ (c : Bool). if c then Some (record h { reserved = 0 }, r ∷ []) else None)
        (test (data_pages page_words object) h.reserved more))))),
  )
    where
      test : (x y : ℕ) → x < y → nat_lt x y ≡ true
      test x y l = grind (arith, nat_tests)

  takes_if : wants_page page_words h.reserved (fill_of h.fills r) object ≡ true
      → (t : RegionState) × (region_step code page_words s (TakePage g) ≡ Some t)
  takes_if wants = (
    page_taken s g (with_page page_words h r object) r,
    ap (option_and_then (λ (y : Holder). take_page code page_words s g y (frames_of s.plain g))) settled.there
        ∙ (ap (λ (y : Option (List TacFrame)). take_page code page_words s g h (frames_in y)) b.at
        ∙ (ap (option_and_then (page_for code page_words s g h b.frame)) b.cur
        ∙ (ap (option_and_then (takes_page code page_words s g h)) region
        ∙ (ap (option_and_then (page_before page_words s g h r)) next
        ∙ ap (λ (c : Bool). if c then Some (page_taken s g (with_page page_words h r object) r) else None) tested)))),
  )
    where
      used : MayUseRegion (held_of h) r
      used = makes_used code s g h r all settled.there (b.frame, b.callers, b.instr, b.at, b.cur, region)

      lives : (q : Region) → MayUseRegion (held_of h) q → is_live s.regions q ≡ true
      lives GlobalRegion u = refl
      lives (Numbered j) u = staked_live code s g h j all.good.fine settled.there u

      next : next_object code s g ≡ Some object
      next = ap (object_made s) (plain_done code page_words s g h settled b.frame b.callers b.at result does_so) ∙ new_is

      tested : (has_none h.duties && may_go h.offer && is_live s.regions r
          && wants_page page_words h.reserved (fill_of h.fills r) object) ≡ true
      tested = ap (λ ds. has_none ds && may_go h.offer && is_live s.regions r
          && wants_page page_words h.reserved (fill_of h.fills r) object) settled.owes
          ∙ (ap (λ (c : Bool). c && is_live s.regions r && wants_page page_words h.reserved (fill_of h.fills r) object) settled.free
          ∙ (ap (λ (c : Bool). c && wants_page page_words h.reserved (fill_of h.fills r) object) (lives r used) ∙ wants))

  takes : object_words object ≤ page_words → ((n : ℕ) → fill_of h.fills r ≡ Some n → page_words < n + object_words object)
      → (t : RegionState) × (region_step code page_words s (TakePage g) ≡ Some t)
  takes small full = takes_if wants
    where
      untrue : (x y : ℕ) → y < x → nat_le x y ≡ false
      untrue x y l = grind (arith, nat_tests)

      unfit : (o : Option ℕ) → fill_of h.fills r ≡ o → fits_in_page page_words o (object_words object) ≡ false
      unfit None e = refl
      unfit (Some n) e = untrue (n + object_words object) page_words (full n e)

      wants : wants_page page_words h.reserved (fill_of h.fills r) object ≡ true
      wants =
          ap (λ b. if b then not (is_too_large page_words object) && nat_le h.reserved (data_pages page_words object) else
          not (fits_in_page page_words (fill_of h.fills r) (object_words object))) (whole_of page_words object small)
          ∙ ap not (unfit (fill_of h.fills r) refl)

  takes_apart : is_spread page_words object ≡ true → is_too_large page_words object ≡ false
      → h.reserved ≤ data_pages page_words object
      → (t : RegionState) × (region_step code page_words s (TakePage g) ≡ Some t)
  takes_apart sp small few = takes_if
      (ap (λ b. if b then not (is_too_large page_words object) && nat_le h.reserved (data_pages page_words object) else
      not (fits_in_page page_words (fill_of h.fills r) (object_words object))) sp
      ∙ (ap (λ b. not b && nat_le h.reserved (data_pages page_words object)) small
      ∙ test h.reserved (data_pages page_words object) few))
    where
      test : (x y : ℕ) → x ≤ y → nat_le x y ≡ true
      test x y l = grind (arith, nat_tests)

-- by the kind of object
by_kind : (P : Type 0) (code : Code) (s : RegionState) (g : ℕ) (h : Holder) (r : Region) (object : Object) → MakesNext code s g h r object
    → ((a : Action) (values : List Value) (b : Before code s g a values)
    → making_region (function_at code b.frame) (top_names h.environments) b.instr.op ≡ Some r
    → performed code.structs a (destination_type (erased code) b.frame b.to) values s.plain.memory ≡ Some (made_effect s.plain.memory object)
    → may_touch s (touched b.frame b.instr.op) ≡ true → P) → P
by_kind P code s g h r object next f = ⊎_elim
    (λ (u : (n : ℕ) × (made : Struct) × (b : Before code s g (action.New n) []) × (slice_get code.structs n ≡ Some made)
    × (object ≡ StructObject (map zero_of made.fields)) × (making_region (function_at code b.frame) (top_names h.environments) b.instr.op ≡ Some r)).
    f (action.New u.0) [] u.2 u.5 (ap (λ (y : Option Struct). Some (made_struct y s.plain.memory)) u.3
    ∙ ap (λ (y : Object). Some (made_effect s.plain.memory y)) (sym u.4))
    (ap (λ (op : CodeOp). may_touch s (touched u.2.frame op)) u.2.is))
    (λ v. ⊎_elim
    (λ (u : (n : ℕ) × (b : Before code s g action.Slice (value.Int (pos n) ∷ []))
    × (object ≡ SliceObject (replicate n (element_zero (destination_type (erased code) b.frame b.to))))
    × (making_region (function_at code b.frame) (top_names h.environments) b.instr.op ≡ Some r)).
    f action.Slice (value.Int (pos u.0) ∷ []) u.1 u.3 (ap (λ (y : Object). Some (made_effect s.plain.memory y)) (sym u.2)) (ap (λ
    (op : CodeOp). may_touch s (touched u.1.frame op)) u.1.is))
    (λ (u : (n : ℕ) × (b : Before code s g action.Chan (value.Int (pos n) ∷ []))
    × (object ≡ Channel n [] false) × (making_region (function_at code b.frame) (top_names h.environments) b.instr.op ≡ Some r)).
    f action.Chan (value.Int (pos u.0) ∷ []) u.1 u.3 (ap (λ (y : Object). Some (made_effect s.plain.memory y)) (sym u.2)) (ap (λ
    (op : CodeOp). may_touch s (touched u.1.frame op)) u.1.is))
    v)
    next

pub allocation_exists : AllocationExists
allocation_exists code page_words s g n h r object all settled next fill small = by_kind _ code s g h r object next
    (λ a values b region does live. makes code page_words s g h settled all r object a values b region does n fill small live)

pub allocation_exists_apart : AllocationExistsApart
allocation_exists_apart code page_words s g h r object all settled next sp small more = by_kind _ code s g h r object next
    (λ a values b region does live. makes_apart code page_words s g h settled all r object a values b region does sp small more
    live)

pub reserved_page_exists : ReservedPageExists
reserved_page_exists code page_words s g h r object all settled next sp small few = by_kind _ code s g h r object next
    (λ a values b region does live. takes_apart code page_words s g h settled all r object a values b region does sp small few)

pub page_exists : PageExists
page_exists code page_words s g h r object all settled next small full = by_kind _ code s g h r object next
    (λ a values b region does live. takes code page_words s g h settled all r object a values b region does small full)

-- ---- an access

owner_lives : (s : RegionState) (o : ℕ) (r : Region) (h : Holder) → slice_get s.owners o ≡ Some r → HasStake s h r → may_touch s (Some o) ≡ true
owner_lives s o r h e st = ap (owner_live s) e ∙ go r st
  where
    go : (q : Region) → HasStake s h q → is_live s.regions q ≡ true
    go GlobalRegion st = refl
    go (Numbered j) st = st.0

pub access_exists : AccessExists
access_exists code page_words s g h a values m u checked all settled b does same = (
  instructed_with code s g b.frame b.callers b.instr (after s.plain g acted) (h, []),
  instruct_exists code page_words s g h settled b.frame b.callers b.at acted does_it b.instr b.cur (touchable (touched b.frame b.instr.op) refl)
      (h, [])
      (ap (allotted page_words h (making_region (function_at code b.frame) (top_names h.environments) b.instr.op)) (slice_get_none m.heap
      (length s.plain.memory.heap) (omega (arith, same)))),
)
  where
    acted : Acted
    acted = record { memory = m; frames = frame_after_instr b.frame b.to u ∷ b.callers; started = []; printed = []; trap = None }

    does_it : alone (erased code) s.plain.memory (b.frame ∷ b.callers) ≡ Some acted
    does_it =
        ap (λ i. act_at (erased code) s.plain.memory i b.frame b.callers) (current_erased code b.frame ∙ ap (option_map erased_instr) b.cur)
        ∙ ap (λ op. act (erased code) s.plain.memory (erased_op op) b.instr.place b.frame b.callers) b.is
        ∙ ap (λ vs. effected s.plain.memory b.frame b.callers b.to (trap_place a b.instr.place) (performed code.structs a (destination_type
        (erased code) b.frame b.to) vs s.plain.memory)) b.operands
        ∙ ap (effected s.plain.memory b.frame b.callers b.to (trap_place a b.instr.place)) does

    frames : frames_of s.plain g ≡ b.frame ∷ b.callers
    frames = ap frames_in b.at

    touchable : (o : Option ℕ) → touched b.frame b.instr.op ≡ o → may_touch s (touched b.frame b.instr.op) ≡ true
    touchable None e = ap (may_touch s) e
    touchable (Some o) e =
        let good = all.good.fine.each g h settled.there in
        let top = top_of code h b.frame b.callers (subst (λ (y : List TacFrame). GoodHolder code y h) frames good) in
        let t = touched_home code s g h b.frame b.callers b.instr top o checked all.good settled.there frames b.cur e in
        ap (may_touch s) e ∙ owner_lives s o t.0 h t.1 t.2
