-- The regions made are bounded by the names of a function, for each step and each goroutine.
-- The invariant counts a creation when it comes to be owed (`Bounded`), so doing it changes nothing. An instruction pays for the
-- creations that came before it with its own step: they are at most the names of its function (`few_at`). A meeting is one step for two
-- instructions, so for it they must be none: a receive and a send name only regions that are held before them (`none_created`).
use Rattle.std.proofs.Common.{◌≡◌, ◌≢◌, ℕ, zero, suc, ◌+◌, ◌*◌, ◌≤◌, Bool, true, false, ◌||◌, ◌&&◌, List, [], ◌∷◌, ◌++◌}
use Rattle.std.proofs.Common.{map, length, Option, Some, None, refl, sym, ap, ◌∙◌, subst, if◌then◌else◌, arith}
use Rattle.std.proofs.Common.{true≢false, slice_get, slice_set, option_map, ◌⊎◌, inl, inr, length-append, Contains}
use Rattle.std.proofs.lemmas.Option.{slice_get_within, same_Some, slice_get-map}
use Rattle.std.specs.List.{list_any}
use Rattle.std.proofs.Math.Nat.{le-max_left, le-max_right}
use Rattle.std.proofs.lemmas.List.Elements.{Contains-append_left}
use Rattle.rgo_sound.proofs.Places.{get_contains, contains_here, contains_there, AreDistinct, ascending_distinct}
use Rattle.rgo_sound.proofs.Places.{get_append_left, get_set_other, get_set_same, length_set}
use Rattle.rgo_sound.proofs.Tests.{eq_of}
use Rattle.rgo_typed.specs.declared.actions.Action.TheVariants.{Recv, Send}
use Rattle.rgo_typed.specs.declared.types.Type.{«Type»}
use Rattle.rgo_machine.specs.declared.picks.End.{End}
use Rattle.rgo_machine.specs.declared.picks.End.TheVariants.{Exit, Trap}
use Rattle.rgo_machine.specs.declared.picks.Pick.TheVariants.{Meet, One}
use Rattle.rgo_tac.specs.Code.{TacFn}
use Rattle.rgo_tac.specs.Flow.{reads, writes}
use Rattle.rgo_tac.specs.Frames.{TacFrame, new_tac_frame, operand_values}
use Rattle.rgo_tac.specs.Joins.{is_pointer_like_member, is_pointer_like_type, joined_variables}
use Rattle.rgo_tac.specs.Tac.{TacState, tac_start}
use Rattle.rgo_tac.specs.declared.regions.Class.{Class}
use Rattle.rgo_tac.specs.declared.regions.Class.TheVariants.{Global, Name, NoClass}
use Rattle.rgo_tac.specs.declared.regions.Member.{Member}
use Rattle.rgo_tac.specs.declared.regions.Member.TheVariants.{Variable}
use Rattle.rgo_wellformed.specs.TypeRules.{chan_of}
use Rattle.rgo_code.specs.Checked.{IsChecked}
use Rattle.rgo_code.specs.ClassRules.{Agree, JoinsAgree}
use Rattle.rgo_code.specs.Code.{Branch, Call, Code, CodeFn, CodeInstr, CodeOp, Do, Go, Jump, Print, Return, Slot}
use Rattle.rgo_code.specs.Erasure.{erased, erased_fn, erased_instr, erased_op}
use Rattle.rgo_code.specs.Exists.{InstrExists, OpExists, StartExists}
use Rattle.rgo_code.specs.NameRules.{Ascends}
use Rattle.rgo_code.specs.Names.{Holds, IsOwn, UsesRegionName, class_of, distinct_names, is_class_named, result_class, slot_class}
use Rattle.rgo_code.specs.Types.{DoFits, VariablesHaveTypes, IsWellTypedOp}
use Rattle.rgo_code.specs.declared.rules.Line.TheVariants as line
use Rattle.rgo_code.specs.declared.rules.Rule.TheVariants as rule
use Rattle.rgo_region_machine.specs.Counts.{counts_of}
use Rattle.rgo_region_machine.specs.Duties.{attend, attended, duty_done, protected, removal, shared, unprotected}
use Rattle.rgo_region_machine.specs.Duties.{with_protection}
use Rattle.rgo_region_machine.specs.Instructions.{child_holder, holder_after, instructed_with, last_frames, taken_offer}
use Rattle.rgo_region_machine.specs.Instructions.{unless_trapped}
use Rattle.rgo_region_machine.specs.Machine.{Acknowledge, Attend, Event, Finish, Instruct, MakeOffer, TakePage}
use Rattle.rgo_region_machine.specs.Machine.{finished, page_for, page_taken, region_run, region_start, region_step}
use Rattle.rgo_region_machine.specs.Machine.{take_page, takes_page, page_before}
use Rattle.rgo_region_machine.specs.Objects.{with_page}
use Rattle.rgo_region_machine.specs.Offers.{acknowledge, make_offer, offer_for, offered}
use Rattle.rgo_region_machine.specs.Owed.{caller_duties, current, current_in, duties_before, duties_behind}
use Rattle.rgo_region_machine.specs.Owed.{duties_behind_call, duties_of_op, entry_removes, function_at, code_function}
use Rattle.rgo_region_machine.specs.Owed.{next_duties, regions_named, removes_behind}
use Rattle.rgo_region_machine.specs.Regions.{RegionInfo, one_fewer, with_added_stake, one_page_more, removed_once, unbind}
use Rattle.rgo_region_machine.specs.Regions.{with_info, without}
use Rattle.rgo_region_machine.specs.States.{Create, Duty, EndBase, Holder, NoOffer, Offer, Protect, RegionState, Remove}
use Rattle.rgo_region_machine.specs.States.{Share, Standing, Taken, Unprotect, frames_in, frames_of, top_names}
use Rattle.rgo_region_machine.specs.States.{with_top}
use Rattle.rgo_region_machine.specs.declared.limits.Limit.{Limit}
use Rattle.rgo_region_machine.specs.declared.regions.Region.{Region}
use Rattle.rgo_region_machine.specs.declared.regions.Region.TheVariants.{Global as GlobalRegion, Numbered}
use Rattle.rgo_memory.specs.Memory.{Object}
use Rattle.rgo_sound.proofs.steps.Acting.{after, Acted, act, act_at, start}
use Rattle.rgo_sound.proofs.duties.Attends.{total_at, total_set, length_with_info}
use Rattle.rgo_sound.proofs.plain.Steps.{Yields, yields, yields_none, yields_if, yields_then, yields_at, yields_from}
use Rattle.rgo_sound.proofs.pointers.Variables.{live_read}
use Rattle.rgo_sound.proofs.calls.Lists.{listed}
use Rattle.rgo_sound.proofs.steps.OneStep.{OneDone, one_done, MeetDone, meet_done, OnFrom, current_erased, gone_on}
use Rattle.rgo_sound.proofs.steps.OneStep.{receive_goes, send_goes}
use Rattle.rgo_sound.proofs.steps.Each.{fine_step, fine_start}
use Rattle.rgo_sound.proofs.RunLemmas.{run_keeps}
use Rattle.rgo_sound.proofs.calls.Starts.{last_frames_snoc}
use Rattle.rgo_sound.proofs.types.Steps.{here}
use Rattle.rgo_sound.proofs.pointers.Steps.{Top, top_of}
use Rattle.rgo_sound.specs.Invariant.{Fine, GoodHolder, HasInstr}
use Rattle.rgo_sound.specs.Safety.{most_names, name_count}
use Rattle.rgo_sound.specs.Stakes.{total}

mul_more : (a n : ℕ) → (a + 1) * n ≡ a * n + n
mul_more a n = grind arith

mul_add : (a b n : ℕ) → (a + b) * n ≡ a * n + b * n
mul_add a b n = grind arith

-- ---- creations that are owed, and those of the next instructions of all goroutines

abbrev creates_in : List Duty → ℕ
creates_in [] = 0
creates_in (Create k ∷ ds) = 1 + creates_in ds
creates_in (Share k ∷ ds) = creates_in ds
creates_in (Protect k ∷ ds) = creates_in ds
creates_in (Unprotect k ∷ ds) = creates_in ds
creates_in (Remove k ∷ ds) = creates_in ds
creates_in (EndBase r ∷ ds) = creates_in ds

abbrev creates_at : Option CodeInstr → ℕ
creates_at None = 0
creates_at (Some i) = length i.creates

abbrev creates_of : Code → List TacFrame → ℕ
creates_of code [] = 0
creates_of code (frame ∷ callers) = creates_at (current code frame)

abbrev sum_of : Code → List (List TacFrame) → ℕ
sum_of code [] = 0
sum_of code (frames ∷ gs) = creates_of code frames + sum_of code gs

creates_append : (ds es : List Duty) → creates_in (ds ++ es) ≡ creates_in ds + creates_in es
creates_append [] es = omega arith
creates_append (Create k ∷ ds) es = let e = creates_append ds es in omega (arith, e)
creates_append (Share k ∷ ds) es = creates_append ds es
creates_append (Protect k ∷ ds) es = creates_append ds es
creates_append (Unprotect k ∷ ds) es = creates_append ds es
creates_append (Remove k ∷ ds) es = creates_append ds es
creates_append (EndBase r ∷ ds) es = creates_append ds es

none_removes : (ks : List ℕ) → creates_in (map Remove ks) ≡ 0
none_removes [] = refl
none_removes (k ∷ ks) = none_removes ks

none_unprotects : (ks : List ℕ) → creates_in (map Unprotect ks) ≡ 0
none_unprotects [] = refl
none_unprotects (k ∷ ks) = none_unprotects ks

none_protects : (ks : List ℕ) → creates_in (map Protect ks) ≡ 0
none_protects [] = refl
none_protects (k ∷ ks) = none_protects ks

none_shares : (ks : List ℕ) → creates_in (map Share ks) ≡ 0
none_shares [] = refl
none_shares (k ∷ ks) = none_shares ks

none_ends : (rs : List Region) → creates_in (map EndBase rs) ≡ 0
none_ends [] = refl
none_ends (r ∷ rs) = none_ends rs

all_creates : (ks : List ℕ) → creates_in (map Create ks) ≡ length ks
all_creates [] = refl
all_creates (k ∷ ks) = let e = all_creates ks in omega (arith, e)

none_op : (op : CodeOp) → creates_in (duties_of_op op) ≡ 0
none_op (Call to n from passes protects removes) = none_protects protects
none_op (Go n from passes removes) = none_shares (regions_named passes)
none_op (Do to action from removes) = refl
none_op (Print pieces from removes) = refl
none_op (Jump j removes) = refl
none_op (Branch v j removes k others) = refl
none_op (Return value) = refl

next_creates : (code : Code) (frames : List TacFrame) → creates_in (next_duties code frames) ≡ creates_of code frames
next_creates code [] = refl
next_creates code (frame ∷ callers) = go (current code frame)
  where
    go : (o : Option CodeInstr) → creates_in (duties_before o) ≡ creates_at o
    go None = refl
    go (Some i) = let a = creates_append (map Create i.creates) (duties_of_op i.op) in let b = all_creates i.creates in
        let c = none_op i.op in omega (arith, a, b, c)

front_creates : (code : Code) (front : List Duty) (frames : List TacFrame) → creates_in front ≡ 0
    → creates_in (front ++ next_duties code frames) ≡ creates_of code frames
front_creates code front frames z = let a = creates_append front (next_duties code frames) in let b =
    next_creates code frames in omega (arith, a, b, z)

goes_creates : (code : Code) (h : Holder) (frames next : List TacFrame) (x : OnFrom code frames next)
    → creates_in (gone_on x h).duties ≡ creates_of code next
goes_creates code h frames next x = front_creates code (map Remove (removes_behind x.frame x.instr.op))
    (x.frame' ∷ x.callers) (none_removes (removes_behind x.frame x.instr.op)) ∙ ap (creates_of code) (sym x.next_is)

sum_set : (code : Code) (gs : List (List TacFrame)) (g : ℕ) (old new : List TacFrame) → slice_get gs g ≡ Some old
    → sum_of code (slice_set gs g new) + creates_of code old ≡ sum_of code gs + creates_of code new
sum_set code [] g old new e = cc
sum_set code (x ∷ xs) zero old new e = let q : creates_of code x ≡ creates_of code old =
    ap (creates_of code) (same_Some x old e) in omega (arith, q)
sum_set code (x ∷ xs) (suc g) old new e = let q = sum_set code xs g old new e in omega (arith, q)

sum_append : (code : Code) (xs ys : List (List TacFrame)) → sum_of code (xs ++ ys) ≡ sum_of code xs + sum_of code ys
sum_append code [] ys = omega arith
sum_append code (x ∷ xs) ys = let q = sum_append code xs ys in omega (arith, q)

total_append : (f : Holder → ℕ) (xs ys : List Holder) → total f (xs ++ ys) ≡ total f xs + total f ys
total_append f [] ys = omega arith
total_append f (x ∷ xs) ys = let q = total_append f xs ys in omega (arith, q)

abbrev owed_of : Holder → ℕ
owed_of h = creates_in h.duties

-- ---- an instruction creates at most the names of its function

abbrev removed_name : ℕ → List Class → List Class
removed_name k [] = []
removed_name k (c ∷ cs) = if is_class_named k c then cs else c ∷ removed_name k cs

removed_length : (k : ℕ) (cs : List Class) → list_any (is_class_named k) cs ≡ true → length cs ≡ length (removed_name k cs) + 1
removed_length k [] e = absurd (true≢false (sym e))
removed_length k (c ∷ cs) e = go (is_class_named k c) e (removed_length k cs)
  where
    go : (b : Bool) → (b || list_any (is_class_named k) cs) ≡ true
        → (list_any (is_class_named k) cs ≡ true → length cs ≡ length (removed_name k cs) + 1) → length (c ∷ cs)
        ≡ length (if b then cs else c ∷ removed_name k cs) + 1
    go true e next = omega arith
    go false e next = let x = next e in omega (arith, x)

the_name : (j k : ℕ) (c : Class) → is_class_named j c ≡ true → is_class_named k c ≡ true → j ≡ k
the_name j k NoClass a b = absurd (true≢false (sym a))
the_name j k Global a b = absurd (true≢false (sym a))
the_name j k (Name n) a b = eq_of j n a ∙ sym (eq_of k n b)

removed_other : (k j : ℕ) (cs : List Class) → (j ≡ k → ⊥) → list_any (is_class_named j) cs ≡ true
    → list_any (is_class_named j) (removed_name k cs) ≡ true
removed_other k j [] n e = e
removed_other k j (c ∷ cs) n e = go (is_class_named k c) refl (is_class_named j c) refl e (removed_other k j cs n)
  where
    or_there : (b : Bool) → list_any (is_class_named j) (removed_name k cs) ≡ true
        → (b || list_any (is_class_named j) (removed_name k cs)) ≡ true
    or_there true h = refl
    or_there false h = h

    go : (a : Bool) → is_class_named k c ≡ a → (b : Bool) → is_class_named j c ≡ b → (b || list_any (is_class_named j) cs) ≡ true
        → (list_any (is_class_named j) cs ≡ true → list_any (is_class_named j) (removed_name k cs) ≡ true)
        → list_any (is_class_named j) (if a then cs else c ∷ removed_name k cs) ≡ true
    go true ea true eb e next = absurd (n (the_name j k c eb ea))
    go true ea false eb e next = e
    go false ea true eb e next = ap (λ x. x || list_any (is_class_named j) (removed_name k cs)) eb
    go false ea false eb e next = or_there (is_class_named j c) (next e)

-- distinct names from a list are at most as many as its elements
fewer : (ks : List ℕ) (cs : List Class) → AreDistinct ks → ((k : ℕ) → Contains ks k → list_any (is_class_named k) cs ≡ true)
    → length ks ≤ length cs
fewer [] cs d h = omega arith
fewer (k ∷ ks) cs d h =
    let a = removed_length k cs (h k (contains_here k ks)) in
    let b = fewer ks (removed_name k cs) d.1 (λ j c. removed_other k j cs (λ e. d.0 (subst (Contains ks) e c))
    (h j (contains_there k ks j c))) in
    omega (arith, a, b)

most_of : (fs : List CodeFn) (n : ℕ) (f : CodeFn) → slice_get fs n ≡ Some f → name_count f ≤ most_names fs
most_of [] n f e = cc
most_of (g ∷ fs) zero f e = let a = le-max_left (name_count g) (most_names fs) in let b : name_count g ≡ name_count f =
    ap name_count (same_Some g f e) in omega (arith, a, b)
most_of (g ∷ fs) (suc n) f e = let a = le-max_right (name_count g) (most_names fs) in let b = most_of fs n f e in
    omega (arith, a, b)

module _ (code : Code) (checked : IsChecked code) (written : Ascends code) where
  -- an instruction creates at most the names of its function, since its list of creations has each name once
  few_at : (frame : TacFrame) (o : Option CodeFn) → function_at code frame ≡ o → (instr : CodeInstr) → current code frame
      ≡ Some instr → length instr.creates ≤ most_names code.functions
  few_at frame None q instr cur = let x : None ≡ Some instr = sym (ap (λ o. current_in o frame.next) q) ∙ cur in cc
  few_at frame (Some fn) q instr cur = let a = few in let b = most_of code.functions frame.function fn q in
      omega (arith, a, b)
    where
      there : HasInstr fn frame.next instr
      there = here code checked frame fn instr q cur

      stands : (k : ℕ) → Contains instr.creates k → list_any (is_class_named k)
          (distinct_names [] (map (λ (slot : Slot). slot.class) fn.variables ++ result_class fn ∷ [])) ≡ true
      stands k c = listed [] (map (λ (slot : Slot). slot.class) fn.variables ++ result_class fn ∷ []) k
          (Contains-append_left (map (λ (slot : Slot). slot.class) fn.variables) (result_class fn ∷ []) (Name k)
          (variable (slice_get fn.variables names.variable) refl)) refl
        where
          names : UsesRegionName fn instr.op k
          names = ((checked rule.Creations (line.Instr frame.function frame.next) fn instr q there k).0 c).1

          variable : (o : Option Slot) → slice_get fn.variables names.variable ≡ o
              → Contains (map (λ (slot : Slot). slot.class) fn.variables) (Name k)
          variable None e = let x : NoClass ≡ Name k = sym (ap slot_class e) ∙ names.named in cc
          variable (Some s) e = get_contains (map (λ (slot : Slot). slot.class) fn.variables) names.variable (Name k)
              (slice_get-map (λ (slot : Slot). slot.class) fn.variables names.variable
              ∙ ap (option_map (λ (slot : Slot). slot.class)) e ∙ ap Some (sym (ap slot_class e) ∙ names.named))

      few : length instr.creates ≤ name_count fn
      few = fewer instr.creates (distinct_names [] (map (λ (slot : Slot). slot.class) fn.variables
          ++ result_class fn ∷ [])) (ascending_distinct instr.creates
          ((written frame.function fn q).body frame.next instr there).creates) stands

  few_of : (frames : List TacFrame) → creates_of code frames ≤ most_names code.functions
  few_of [] = omega arith
  few_of (frame ∷ callers) = go (current code frame) refl
    where
      go : (o : Option CodeInstr) → current code frame ≡ o → creates_at o ≤ most_names code.functions
      go None q = omega arith
      go (Some i) q = few_at frame (function_at code frame) refl i q

  few_sum : (gs : List (List TacFrame)) → sum_of code gs ≤ length gs * most_names code.functions
  few_sum [] = omega arith
  few_sum (frames ∷ gs) =
      let a = few_of frames in
      let b = few_sum gs in
      let c = mul_more (length gs) (most_names code.functions) in
      let d : length (frames ∷ gs) * most_names code.functions ≡ (length gs + 1) * most_names code.functions =
      ap (λ n. n * most_names code.functions) (more (length gs)) in
      omega (arith, a, b, c, d)
    where
      more : (n : ℕ) → suc n ≡ n + 1
      more n = omega arith

  -- An instruction creates nothing if the variable that it writes, in case that has a class, is joined with one that it reads: the name
  -- of their class is held before it, and what is held is not created.
  none_created : (frame : TacFrame) (fn : CodeFn) (instr : CodeInstr) → function_at code frame ≡ Some fn
      → current code frame ≡ Some instr → ((v : ℕ) → writes (erased_op instr.op) ≡ Some v → class_of fn v ≢ NoClass
      → (c : ℕ) × Contains (reads (erased_op instr.op)) c × (class_of fn c ≡ class_of fn v)) → length instr.creates ≡ 0
  none_created frame fn instr q cur joined = go instr.creates refl
    where
      there : HasInstr fn frame.next instr
      there = here code checked frame fn instr q cur

      go : (ks : List ℕ) → instr.creates ≡ ks → length ks ≡ 0
      go [] e = refl
      go (k ∷ ks) e = absurd (never names.used)
        where
          x : IsOwn fn k × UsesRegionName fn instr.op k × (Holds fn k frame.next → ⊥)
          x = (checked rule.Creations (line.Instr frame.function frame.next) fn instr q there k).0
              (subst (λ y. Contains y k) (sym e) (contains_here k ks))

          names : UsesRegionName fn instr.op k
          names = x.1

          some_class : Name k ≡ NoClass → ⊥
          some_class z = cc

          held : (c : ℕ) → Contains (reads (erased_op instr.op)) c → class_of fn c ≡ Name k → ⊥
          held c r named = x.2 (
            x.0,
            record {
              variable = c;
              named = named;
              live =
                  live_read fn frame.next c instr there r;
            },
          )

          never : Contains (reads (erased_op instr.op)) names.variable
              ⊎ (writes (erased_op instr.op) ≡ Some names.variable) → ⊥
          never (inl r) = held names.variable r names.named
          never (inr w) = let j = joined names.variable w (λ z. some_class (sym names.named ∙ z)) in
              held j.0 j.1 (j.2 ∙ names.named)

  -- a variable that has a class is pointer-like
  pointer_of : (n : ℕ) (fn : CodeFn) → slice_get code.functions n ≡ Some fn → (v : ℕ) → class_of fn v ≢ NoClass
      → is_pointer_like_member (erased_fn fn) (Variable v) ≡ true
  pointer_of n fn q v classed = go (slice_get fn.variables v) refl
    where
      go : (o : Option Slot) → slice_get fn.variables v ≡ o → is_pointer_like_member (erased_fn fn) (Variable v) ≡ true
      go None e = absurd (classed (ap slot_class e))
      go (Some s) e = ap is_pointer_like_type (slice_get-map (λ (slot : Slot). slot.ty) fn.variables v
          ∙ ap (option_map (λ (slot : Slot). slot.ty)) e) ∙ (checked rule.Classes (line.Slot n v) fn s q e).0
          (λ z. classed (ap slot_class e ∙ z))

  -- a receive and a send create nothing: the value received is joined with the channel, and a send writes no pointer
  receive_none : (frame : TacFrame) (fn : CodeFn) (instr : CodeInstr) (to : Option ℕ) (channel : ℕ) (removes : List ℕ)
      → function_at code frame ≡ Some fn → current code frame ≡ Some instr → instr.op
      ≡ Do to Recv (channel ∷ []) removes → length instr.creates ≡ 0
  receive_none frame fn instr to channel removes q cur is = by to is
    where
      there : HasInstr fn frame.next instr
      there = here code checked frame fn instr q cur

      by : (o : Option ℕ) → instr.op ≡ Do o Recv (channel ∷ []) removes → length instr.creates ≡ 0
      by None is = none_created frame fn instr q cur (λ v w n.
          absurd (no_target v (sym (ap (λ op. writes (erased_op op)) is) ∙ w)))
        where
          no_target : (v : ℕ) → None ≡ Some v → ⊥
          no_target v e = cc
      by (Some d) is = none_created frame fn instr q cur (λ v w n. (
        channel,
        subst (λ op. Contains (reads (erased_op op)) channel) (sym is) (contains_here channel []),
        sym (join (subst (λ x. class_of fn x ≢ NoClass) (sym (target v w)) n)) ∙ ap (class_of fn) (target v w),
      ))
        where
          target : (v : ℕ) → writes (erased_op instr.op) ≡ Some v → d ≡ v
          target v w = same_Some d v (sym (ap (λ op. writes (erased_op op)) is) ∙ w)

          fits : IsWellTypedOp (erased code) (erased_fn fn) (erased_op (Do (Some d) Recv (channel ∷ []) removes))
          fits = subst (λ op. IsWellTypedOp (erased code) (erased_fn fn) (erased_op op)) is
              (checked rule.Types (line.Instr frame.function frame.next) fn instr q there)

          the_first : (x y : Option «Type») (xs ys : List (Option «Type»)) → x ∷ xs ≡ y ∷ ys → x ≡ y
          the_first x y xs ys e = cc

          channel_pointer : is_pointer_like_member (erased_fn fn) (Variable channel) ≡ true
          channel_pointer = by_types fits.0 fits.1 fits.2
            where
              by_types : (operands : List «Type») → VariablesHaveTypes (erased_fn fn) (channel ∷ []) operands
                  → DoFits (erased code) (erased_fn fn) (Some d) Recv operands
                  → is_pointer_like_member (erased_fn fn) (Variable channel) ≡ true
              by_types operands have x = ap is_pointer_like_type
                  (the_first (slice_get (erased_fn fn).variables channel) (Some (chan_of x.0)) [] []
                  (have ∙ ap (map Some) x.2))

          joins : JoinsAgree fn (Do (Some d) Recv (channel ∷ []) removes)
          joins = subst (JoinsAgree fn) is (checked rule.Joins (line.Instr frame.function frame.next) fn instr q there)

          join : class_of fn d ≢ NoClass → class_of fn d ≡ class_of fn channel
          join n = subst (Agree fn) (both (is_pointer_like_member (erased_fn fn) (Variable d))
              (is_pointer_like_member (erased_fn fn) (Variable channel)) (pointer_of frame.function fn q d n)
              channel_pointer (joined_variables d channel)) (joins refl)
            where
              both : (a b : Bool) → a ≡ true → b ≡ true → (o : Option (Member × Member)) → (if a && b then o else None)
                  ≡ o
              both a b e f o = ap (λ x. if x && b then o else None) e ∙ ap (λ x. if x then o else None) f

  send_none : (frame : TacFrame) (fn : CodeFn) (instr : CodeInstr) (to : Option ℕ) (channel sent : ℕ) (removes : List ℕ)
      → function_at code frame ≡ Some fn → current code frame ≡ Some instr → instr.op
      ≡ Do to Send (channel ∷ sent ∷ []) removes → length instr.creates ≡ 0
  send_none frame fn instr to channel sent removes q cur is =
      none_created frame fn instr q cur (λ v w n. absurd (unwritten to is v w))
    where
      there : HasInstr fn frame.next instr
      there = here code checked frame fn instr q cur

      unwritten : (o : Option ℕ) → instr.op ≡ Do o Send (channel ∷ sent ∷ []) removes → (v : ℕ)
          → writes (erased_op instr.op) ≡ Some v → ⊥
      unwritten None is v w = let x : None ≡ Some v = sym (ap (λ op. writes (erased_op op)) is) ∙ w in cc
      unwritten (Some d) is v w = (subst (λ op. IsWellTypedOp (erased code) (erased_fn fn) (erased_op op)) is
          (checked rule.Types (line.Instr frame.function frame.next) fn instr q there)).2.2

  -- the function that a `go` starts
  started_is : (frame : TacFrame) (instr : CodeInstr) (n : ℕ) (from : List ℕ) (passes : List Class) (removes : List ℕ)
      → current code frame ≡ Some instr → instr.op ≡ Go n from passes removes → (callee : TacFn)
      × (slice_get (erased code).functions n ≡ Some callee)
  started_is frame instr n from passes removes cur is = by (function_at code frame) refl
    where
      by : (o : Option CodeFn) → function_at code frame ≡ o → (callee : TacFn)
          × (slice_get (erased code).functions n ≡ Some callee)
      by None q = let x : None ≡ Some instr = sym (ap (λ o. current_in o frame.next) q) ∙ cur in cc
      by (Some fn) q = (StartExists.callee starts, StartExists.declared starts)
        where
          exists : InstrExists (erased code) (erased_fn fn) frame.next (erased_op instr.op)
          exists = checked rule.Exists (line.Instr frame.function frame.next) fn instr q
              (here code checked frame fn instr q cur)

          starts : StartExists (erased code) n from
          starts = subst (λ op. OpExists (erased code) (erased_fn fn) (erased_op op)) is exists.exists

-- ---- each step

record Bounded (code : Code) (s : RegionState) : Type 0 where
  counted : length s.regions + total owed_of s.holders ≤ s.steps * most_names code.functions + sum_of code
      s.plain.goroutines

module _ (code : Code) (page_words : ℕ) (s : RegionState) (old : Bounded code s) where
  -- one goroutine has another holder, and regions made and creations owed are together as many as before
  bounded_with : (t : RegionState) (g : ℕ) (h k : Holder) → slice_get s.holders g ≡ Some h → t.plain ≡ s.plain → t.steps
      ≡ s.steps → t.holders ≡ slice_set s.holders g k → length t.regions + creates_in k.duties
      ≡ length s.regions + creates_in h.duties → Bounded code t
  bounded_with t g h k e ps ss hs same =
      record {
        counted =
            let a = old.counted in
            let b = total_set owed_of s.holders g h k e in
            let c = ap (total owed_of) hs in
            let d = ap (λ (p : TacState). sum_of code p.goroutines) ps in
            let f = ap (λ n. n * most_names code.functions) ss in
            omega (arith, a, b, c, d, f, same);
      }

  module _ (g : ℕ) (h : Holder) (e : slice_get s.holders g ≡ Some h) where
    kept : (t : RegionState) (k : Holder) → t.plain ≡ s.plain → t.steps ≡ s.steps → t.holders ≡ slice_set s.holders g k
        → length t.regions + creates_in k.duties ≡ length s.regions + creates_in h.duties
        → Yields (Bounded code) (Some t)
    kept t k ps ss hs same = yields t (bounded_with t g h k e ps ss hs same)

    infos : (r : ℕ) (change : RegionInfo → RegionInfo) (n : ℕ) → length s.regions + n
        ≡ length s.regions + creates_in h.duties → length (with_info s.regions r change) + n
        ≡ length s.regions + creates_in h.duties
    infos r change n z = let l = length_with_info s.regions r change in omega (arith, l, z)

    removes : (k : Holder) (q : Region) → length s.regions + creates_in k.duties
        ≡ length s.regions + creates_in h.duties → Yields (Bounded code) (removal s g k q)
    removes k GlobalRegion z = kept _ k refl refl refl z
    removes k (Numbered r) z = yields_if _ _ _ (yields_if _ _ _ (kept _ k refl refl refl z)
        (kept _ (record k { stakes = without r k.stakes }) refl refl refl (infos r one_fewer (creates_in k.duties) z)))
        yields_none

    shares : (k : Holder) (q : Region) → length s.regions + creates_in k.duties ≡ length s.regions + creates_in h.duties
        → Yields (Bounded code) (shared s g k q)
    shares k GlobalRegion z = kept _ k refl refl refl z
    shares k (Numbered r) z = yields_if _ _ _ (yields_if _ _ _ (kept _ k refl refl refl z)
        (kept _ (record k { pending = r ∷ k.pending }) refl refl refl (infos r with_added_stake (creates_in k.duties) z)))
        yields_none

    done : (k : Holder) (d : Duty) → creates_in h.duties ≡ creates_in (d ∷ k.duties)
        → Yields (Bounded code) (duty_done s g k d)
    done k (Create n) z = kept _ (record k {
      stakes = length s.regions ∷ k.stakes;
      environments =
          with_top k.environments ((n, Numbered (length s.regions)) ∷ unbind (top_names k.environments) n);
    }) refl refl
        refl (let a = length-append s.regions (record { stakes = 1; pages = 0 } ∷ []) in omega (arith, a, z))
    done k (Share n) z = yields_then (shared s g k) _ (λ q. shares k q (omega (arith, z)))
    done k (Protect n) z = yields_then (protected s g k) _
        (λ q. yields_if _ _ _ (kept _ (record k { environments = with_protection k.environments q }) refl refl refl
        (omega (arith, z))) yields_none)
    done k (Unprotect n) z = yields_then (λ q. Some (attended s g (unprotected k q))) _
        (λ q. kept _ (unprotected k q) refl refl refl (omega (arith, z)))
    done k (Remove n) z = yields_then (removal s g (record k
        { environments = with_top k.environments (unbind (top_names k.environments) n) })) _
        (λ q. removes (record k { environments = with_top k.environments (unbind (top_names k.environments) n) }) q
        (omega (arith, z)))
    done k (EndBase r) z = removes (record k { base = removed_once r k.base }) r (omega (arith, z))

    attends : Yields (Bounded code) (attend s g h h.duties)
    attends = go h.duties refl
      where
        go : (ds : List Duty) → h.duties ≡ ds → Yields (Bounded code) (attend s g h ds)
        go [] q = yields_none
        go (d ∷ ds) q = yields_if _ _ _ (done (record h { duties = ds }) d (ap creates_in q)) yields_none

    takes : (frames : List TacFrame) → Yields (Bounded code) (take_page code page_words s g h frames)
    takes [] = yields_none
    takes (frame ∷ callers) = yields_then (page_for code page_words s g h frame) _
        (λ i. yields_then (takes_page code page_words s g h) _ (λ r. yields_then (page_before page_words s g h r) _
        (λ x. yields_if _ _ _ (taken r x) yields_none)))
      where
        taken : (r : Region) (x : Object) → Yields (Bounded code) (Some (page_taken s g (with_page page_words h r x) r))
        taken GlobalRegion x = kept _ (with_page page_words h GlobalRegion x) refl refl refl refl
        taken (Numbered r) x = kept _ (with_page page_words h (Numbered r) x) refl refl refl
            (infos r one_page_more (creates_in h.duties) refl)

    makes : (frames : List TacFrame) → Yields (Bounded code) (make_offer code s g h frames)
    makes [] = yields_none
    makes (frame ∷ callers) = yields_if _ _ _ (yields_then (offer_for s g h frame) _
        (λ i. yields_then (offered s g h) _ (λ o. yields_if _ _ _ yields_none
        (kept _ (record h { offer = Standing o }) refl refl refl refl)))) yields_none

    acknowledges : (o : Offer) → Yields (Bounded code) (acknowledge s g h o)
    acknowledges NoOffer = yields_none
    acknowledges (Standing o) = yields_none
    acknowledges (Taken o) = yields_if _ _ _ (kept _ (record h { offer = NoOffer }) refl refl refl refl) yields_none

  finishes : (limit : Limit) → Bounded code (finished s limit)
  finishes limit = record { counted = old.counted }

  -- ---- instructions

  -- what is owed after an instruction creates what the next instruction asks for, and nothing else
  after_creates : (k : Holder) (frame : TacFrame) (callers : List TacFrame) (op : CodeOp) (next : List TacFrame)
      → creates_in (holder_after code k frame callers op next).duties ≡ creates_of code next
  after_creates k frame callers (Do to action from removes) next =
      front_creates code (map Remove removes) next (none_removes removes)
  after_creates k frame callers (Call to n from passes protects removes) next =
      front_creates code (map Remove (entry_removes (code_function code n))) next
      (none_removes (entry_removes (code_function code n)))
  after_creates k frame callers (Go n from passes removes) next =
      front_creates code (map Remove removes) next (none_removes removes)
  after_creates k frame callers (Print pieces from removes) next =
      front_creates code (map Remove removes) next (none_removes removes)
  after_creates k frame callers (Jump j removes) next = front_creates code (map Remove removes) next
      (none_removes removes)
  after_creates k frame callers (Branch v j removes k' others) next =
      front_creates code (map Remove (removes_behind frame (Branch v j removes k' others))) next
      (none_removes (removes_behind frame (Branch v j removes k' others)))
  after_creates k frame callers (Return value) next = front_creates code (caller_duties code k callers) next
      (none_caller callers)
    where
      none_behind : (op : CodeOp) → creates_in (duties_behind op) ≡ 0
      none_behind (Call to n from passes protects removes) = let a =
          creates_append (map Unprotect protects) (map Remove removes) in let b = none_unprotects protects in let c =
          none_removes removes in omega (arith, a, b, c)
      none_behind (Do to action from removes) = refl
      none_behind (Go n from passes removes) = refl
      none_behind (Print pieces from removes) = refl
      none_behind (Jump j removes) = refl
      none_behind (Branch v j removes k' others) = refl
      none_behind (Return value) = refl

      of_call : (o : Option CodeInstr) → creates_in (duties_behind_call o) ≡ 0
      of_call None = refl
      of_call (Some i) = none_behind i.op

      none_caller : (callers : List TacFrame) → creates_in (caller_duties code k callers) ≡ 0
      none_caller [] = none_ends k.base
      none_caller (caller ∷ cs) = of_call (current code caller)

  unless_creates : (end : Option End) (before after : Holder) (n : ℕ) → before.duties ≡ [] → creates_in after.duties ≡ n
      → creates_in (unless_trapped end before after).duties ≤ n
  unless_creates None before after n b a = omega (arith, a)
  unless_creates (Some Exit) before after n b a = omega (arith, a)
  unless_creates (Some (Trap kind at)) before after n b a = let z : creates_in before.duties ≡ 0 = ap creates_in b in
      omega (arith, z)

  bounded_one : (g : ℕ) (t : RegionState) → IsChecked code → Ascends code → Fine code s → OneDone code page_words s g t
      → Bounded code t
  bounded_one g t checked written fine x = subst (Bounded code) (sym x.is) done
    where
      given_none : x.given.0.duties ≡ []
      given_none = ap (λ (y : Holder). y.duties) x.same.same ∙ x.ready.none

      own : frames_of (after s.plain g x.a) g ≡ x.a.frames
      own = ap frames_in (get_append_left (slice_set s.plain.goroutines g x.a.frames) x.a.started g
          (let b = slice_get_within s.plain.goroutines g (x.frame ∷ x.callers) x.at in let l =
          length_set s.plain.goroutines g x.a.frames in omega (arith, b, l))
          ∙ get_set_same s.plain.goroutines g (x.frame ∷ x.callers) x.a.frames x.at)

      owes : creates_in (unless_trapped (after s.plain g x.a).ended x.given.0
          (holder_after code x.given.0 x.frame x.callers x.instr.op (frames_of (after s.plain g x.a) g))).duties ≤
          creates_of code x.a.frames
      owes = unless_creates (after s.plain g x.a).ended x.given.0
          (holder_after code x.given.0 x.frame x.callers x.instr.op (frames_of (after s.plain g x.a) g))
          (creates_of code x.a.frames) given_none (after_creates x.given.0 x.frame x.callers x.instr.op
          (frames_of (after s.plain g x.a) g) ∙ ap (creates_of code) own)

      -- what a child owes
      child : total owed_of (child_holder code x.given.0 x.instr.op
          (last_frames (slice_set s.plain.goroutines g x.a.frames ++ x.a.started))) ≤ sum_of code x.a.started
      child = by x.instr.op refl
        where
          acts : (op : CodeOp) → x.instr.op ≡ op → act (erased code) s.plain.memory (erased_op op) x.instr.place x.frame
              x.callers ≡ Some x.a
          acts op is = sym (ap (λ i. act_at (erased code) s.plain.memory i x.frame x.callers)
              (current_erased code x.frame ∙ ap (option_map erased_instr) x.cur)
              ∙ ap (λ o. act (erased code) s.plain.memory (erased_op o) x.instr.place x.frame x.callers) is) ∙ x.acts

          by : (op : CodeOp) → x.instr.op ≡ op → total owed_of
              (child_holder code x.given.0 x.instr.op (last_frames
              (slice_set s.plain.goroutines g x.a.frames ++ x.a.started))) ≤ sum_of code x.a.started
          by (Go n from passes removes) is = go (started_is code checked written x.frame x.instr n from passes removes
              x.cur is)
            where
              go : (callee : TacFn) × (slice_get (erased code).functions n ≡ Some callee)
                  → total owed_of (child_holder code x.given.0 x.instr.op
                  (last_frames (slice_set s.plain.goroutines g x.a.frames ++ x.a.started))) ≤ sum_of code x.a.started
              go (callee, q) =
                  let st : x.a.started ≡ (new_tac_frame callee n (operand_values x.frame from) ∷ []) ∷ [] =
                  ap (λ (y : Acted). y.started) (same_Some x.a _
                  (sym (sym (ap (start s.plain.memory x.frame x.callers n (operand_values x.frame from)) q)
                  ∙ acts (Go n from passes removes) is))) in
                  let l : last_frames (slice_set s.plain.goroutines g x.a.frames ++ x.a.started)
                  ≡ new_tac_frame callee n (operand_values x.frame from) ∷ [] =
                  ap (λ y. last_frames (slice_set s.plain.goroutines g x.a.frames ++ y)) st
                  ∙ last_frames_snoc (slice_set s.plain.goroutines g x.a.frames)
                  (new_tac_frame callee n (operand_values x.frame from) ∷ []) in
                  let a : total owed_of (child_holder code x.given.0 x.instr.op
                  (last_frames (slice_set s.plain.goroutines g x.a.frames ++ x.a.started)))
                  ≡ total owed_of (child_holder code x.given.0 (Go n from passes removes)
                  (new_tac_frame callee n (operand_values x.frame from) ∷ [])) =
                  ap (λ o. total owed_of (child_holder code x.given.0 o
                  (last_frames (slice_set s.plain.goroutines g x.a.frames ++ x.a.started)))) is
                  ∙ ap (λ y. total owed_of (child_holder code x.given.0 (Go n from passes removes) y)) l in
                  let b = front_creates code (map Remove (entry_removes (code_function code n)))
                  (new_tac_frame callee n (operand_values x.frame from) ∷ [])
                  (none_removes (entry_removes (code_function code n))) in
                  let c = ap (sum_of code) st in
                  omega (arith, a, b, c)
          by (Do to action from removes) is = let a = ap (λ o.
              total owed_of (child_holder code x.given.0 o (last_frames
              (slice_set s.plain.goroutines g x.a.frames ++ x.a.started)))) is in omega (arith, a)
          by (Call to n from passes protects removes) is = let a =
              ap (λ o. total owed_of (child_holder code x.given.0 o
              (last_frames (slice_set s.plain.goroutines g x.a.frames ++ x.a.started)))) is in omega (arith, a)
          by (Print pieces from removes) is = let a = ap (λ o.
              total owed_of (child_holder code x.given.0 o (last_frames
              (slice_set s.plain.goroutines g x.a.frames ++ x.a.started)))) is in omega (arith, a)
          by (Jump j removes) is = let a = ap (λ o. total owed_of
              (child_holder code x.given.0 o (last_frames (slice_set s.plain.goroutines g x.a.frames ++ x.a.started))))
              is in omega (arith, a)
          by (Branch v j removes k others) is = let a = ap (λ o.
              total owed_of (child_holder code x.given.0 o (last_frames
              (slice_set s.plain.goroutines g x.a.frames ++ x.a.started)))) is in omega (arith, a)
          by (Return value) is = let a = ap (λ o. total owed_of
              (child_holder code x.given.0 o (last_frames (slice_set s.plain.goroutines g x.a.frames ++ x.a.started))))
              is in omega (arith, a)

      done : Bounded code (instructed_with code s g x.frame x.callers x.instr (after s.plain g x.a) x.given)
      done =
          record {
            counted =
                let a = old.counted in
                let b = total_set owed_of s.holders g x.h (unless_trapped (after s.plain g x.a).ended x.given.0
                (holder_after code x.given.0 x.frame x.callers x.instr.op (frames_of (after s.plain g x.a) g)))
                x.there in
                let b' = total_append owed_of (slice_set s.holders g
                (unless_trapped (after s.plain g x.a).ended x.given.0
                (holder_after code x.given.0 x.frame x.callers x.instr.op (frames_of (after s.plain g x.a) g))))
                (child_holder code x.given.0 x.instr.op (last_frames
                (slice_set s.plain.goroutines g x.a.frames ++ x.a.started))) in
                let c = sum_set code s.plain.goroutines g (x.frame ∷ x.callers) x.a.frames x.at in
                let c' = sum_append code (slice_set s.plain.goroutines g x.a.frames) x.a.started in
                let d = few_of code checked written (x.frame ∷ x.callers) in
                let e = owes in
                let f = child in
                let m = mul_more s.steps (most_names code.functions) in
                let z : creates_in x.h.duties ≡ 0 = ap creates_in x.ready.none in
                omega (arith, a, b, b', c, c', d, e, f, m, z);
          }

  bounded_meet : (r u : ℕ) (t : RegionState) → IsChecked code → Ascends code → Fine code s → MeetDone code s r u t
      → Bounded code t
  bounded_meet r u t checked written fine x =
      record {
        counted =
            let a = old.counted in
            let b = total_set owed_of s.holders r x.h h' x.there_h in
            let b' = total_set owed_of (slice_set s.holders r h') u x.k k'
            (get_set_other s.holders r u h' x.apart ∙ x.there_k) in
            let c = sum_set code s.plain.goroutines r x.receiver (x.go_on x.v) x.at_r in
            let c' = sum_set code (slice_set s.plain.goroutines r (x.go_on x.v)) u x.sender x.next
            (get_set_other s.plain.goroutines r u (x.go_on x.v) x.apart ∙ x.at_u) in
            let d = none_r in
            let d' = none_u in
            let e = owes_h in
            let e' = owes_k in
            let z : creates_in x.h.duties ≡ 0 = ap creates_in x.ready_h.none in
            let z' : creates_in x.k.duties ≡ 0 = ap creates_in x.ready_k.none in
            let hs = ap (total owed_of) x.holders in
            let gs = ap (λ (p : TacState). sum_of code p.goroutines) x.plain in
            let rs = ap length x.regions in
            let ss = ap (λ n. n * most_names code.functions) x.steps in
            let m = mul_more s.steps (most_names code.functions) in
            omega (arith, a, b, b', c, c', d, d', e, e', z, z', hs, gs, rs, ss, m);
      }
    where
      h' : Holder
      h' = gone_on (receive_goes x.receives x.v) x.h

      k' : Holder
      k' = record (gone_on (send_goes x.sends) x.k) { offer = taken_offer x.k.offer }

      owes_h : creates_in (gone_on (receive_goes x.receives x.v) x.h).duties ≡ creates_of code (x.go_on x.v)
      owes_h = goes_creates code x.h x.receiver (x.go_on x.v) (receive_goes x.receives x.v)

      owes_k : creates_in (gone_on (send_goes x.sends) x.k).duties ≡ creates_of code x.next
      owes_k = goes_creates code x.k x.sender x.next (send_goes x.sends)

      top_r : Top code x.h x.receives.frame x.receives.callers
      top_r = top_of code x.h x.receives.frame x.receives.callers
          (subst (λ y. GoodHolder code y x.h) (ap frames_in x.at_r ∙ x.receives.at) (fine.each r x.h x.there_h))

      top_u : Top code x.k x.sends.frame x.sends.callers
      top_u = top_of code x.k x.sends.frame x.sends.callers
          (subst (λ y. GoodHolder code y x.k) (ap frames_in x.at_u ∙ x.sends.at) (fine.each u x.k x.there_k))

      none_r : creates_of code x.receiver ≡ 0
      none_r = ap (creates_of code) x.receives.at ∙ ap creates_at x.receives.cur
          ∙ receive_none code checked written x.receives.frame top_r.stands.fn x.receives.instr x.receives.to
          x.receives.channel x.receives.removes top_r.stands.is_fn x.receives.cur x.receives.is

      none_u : creates_of code x.sender ≡ 0
      none_u = ap (creates_of code) x.sends.at ∙ ap creates_at x.sends.cur
          ∙ send_none code checked written x.sends.frame top_u.stands.fn x.sends.instr x.sends.to x.sends.channel
          x.sends.sent x.sends.removes top_u.stands.is_fn x.sends.cur x.sends.is

  bounded_step : (event : Event) → IsChecked code → Ascends code → Fine code s
      → Yields (Bounded code) (region_step code page_words s event)
  bounded_step (Instruct (One g)) checked written fine =
      yields_from _ (one_done code page_words s g) (λ t x. bounded_one g t checked written fine x)
  bounded_step (Instruct (Meet r u)) checked written fine =
      yields_from _ (meet_done code page_words s r u) (λ t x. bounded_meet r u t checked written fine x)
  bounded_step (Attend g) checked written fine = yields_at (slice_get s.holders g)
      (λ (h : Holder). attend s g h h.duties) (λ h e. attends g h e)
  bounded_step (TakePage g) checked written fine = yields_at (slice_get s.holders g)
      (λ h. take_page code page_words s g h (frames_of s.plain g)) (λ h e. takes g h e (frames_of s.plain g))
  bounded_step (MakeOffer g) checked written fine = yields_at (slice_get s.holders g)
      (λ h. make_offer code s g h (frames_of s.plain g)) (λ h e. makes g h e (frames_of s.plain g))
  bounded_step (Acknowledge g) checked written fine = yields_at (slice_get s.holders g)
      (λ (h : Holder). acknowledge s g h h.offer) (λ h e. acknowledges g h e h.offer)
  bounded_step (Finish limit) checked written fine = yields _ (finishes limit)

record FineBounded (code : Code) (s : RegionState) : Type 0 where
  fine : Fine code s
  bounded : Bounded code s

-- every state of every run of checked code keeps the bound
bounded_always : (code : Code) (page_words : ℕ) (events : List Event) (s : RegionState) → IsChecked code → Ascends code
    → region_run code page_words events ≡ Some s → FineBounded code s
bounded_always code page_words events s checked written run =
    run_keeps code page_words (FineBounded code) step events (region_start code) s start run
  where
    step : (t : RegionState) (e : Event) → FineBounded code t
        → Yields (FineBounded code) (region_step code page_words t e)
    step t e x = both (region_step code page_words t e) (fine_step code page_words t x.fine e checked written)
        (bounded_step code page_words t x.bounded e checked written x.fine)
      where
        both : (o : Option RegionState) → Yields (Fine code) o → Yields (Bounded code) o → Yields (FineBounded code) o
        both None a b = yields_none
        both (Some u) a b = yields u (record { fine = a.fact; bounded = b.fact })

    start : FineBounded code (region_start code)
    start = record {
      fine = fine_start code checked written;
      bounded =
          record { counted = let a = next_creates code (frames_of (tac_start (erased code)) 0) in omega (arith, a) };
    }

-- regions are at most the names of a function, for each step and each goroutine
pub regions_always : (code : Code) (page_words : ℕ) (events : List Event) (s : RegionState) → IsChecked code
    → Ascends code → region_run code page_words events ≡ Some s
    → (counts_of s).made ≤ ((counts_of s).steps + (counts_of s).goroutines) * most_names code.functions
regions_always code page_words events s checked written run =
    let a = Bounded.counted (FineBounded.bounded (bounded_always code page_words events s checked written run)) in
    let b = few_sum code checked written s.plain.goroutines in
    let c = mul_add s.steps (length s.plain.goroutines) (most_names code.functions) in
    omega (arith, a, b, c)

-- and if a goroutine is to create a region, there is one fewer than that
pub regions_to_come : (code : Code) (page_words : ℕ) (events : List Event) (s : RegionState) (g k : ℕ) (h : Holder)
    (duties : List Duty) → IsChecked code → Ascends code → region_run code page_words events ≡ Some s
    → slice_get s.holders g ≡ Some h → h.duties ≡ Create k ∷ duties
    → (counts_of s).made + 1 ≤ ((counts_of s).steps + (counts_of s).goroutines) * most_names code.functions
regions_to_come code page_words events s g k h duties checked written run there owes =
    let a = Bounded.counted (FineBounded.bounded (bounded_always code page_words events s checked written run)) in
    let b = few_sum code checked written s.plain.goroutines in
    let c = mul_add s.steps (length s.plain.goroutines) (most_names code.functions) in
    let d = total_at owed_of s.holders g h there in
    let e : owed_of h ≡ 1 + creates_in duties = ap creates_in owes in
    omega (arith, a, b, c, d, e)
