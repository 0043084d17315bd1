-- Pages are taken for objects: a goroutine that took a page makes an object there before it takes another.
-- A page is paid for by an object that may not exist yet. So the invariant gives each goroutine a number of pages that it has taken in
-- advance (`Paged`), all for the one object that it makes next (`Full`). The hard part is that this object cannot change in between,
-- whatever other goroutines do: what an instruction makes depends on its frame alone, and not on memory (`MakesNext`). When the object
-- is made, its pages move from the advance to the sum over the heap, which never shrinks.
use Rattle.std.proofs.Common.{◌≡◌, ℕ, zero, suc, ◌+◌, ◌≤◌, ◌<◌, Bool, true, false, not, ◌&&◌, List, [], ◌∷◌, ◌++◌, map}
use Rattle.std.proofs.Common.{length, Option, Some, None, refl, sym, ap, ◌∙◌, subst, nat_eq, nat_lt, nat_le}
use Rattle.std.proofs.Common.{if◌then◌else◌, arith, true≢false, slice_get, slice_set, option_map, option_and_then}
use Rattle.std.proofs.Common.{sum_by, length-append, replicate, ◌*◌, ◌-◌, ◌/◌, ◌⊎◌, inl, inr}
use Rattle.std.proofs.Math.Nat.{le-max_left, le-max_right, mul-suc}
use Rattle.std.proofs.lemmas.Option.{slice_get_within, slice_get_past, same_Some}
use Rattle.std.specs.Prelude.{pos, negsuc}
use Rattle.std.proofs.lemmas.List.Sums.{sum_by-cons, sum_by_push}
use Rattle.std.proofs.lemmas.Bool.Decides.{nat_tests}
use Rattle.rgo_sound.proofs.Tests.{and_split, split, eq_of, nat_eq_refl, nat_ne_sym}
use Rattle.rgo_typed.specs.declared.actions.Action.{Action}
use Rattle.rgo_typed.specs.declared.actions.Action.TheVariants.{At, Binary, Bool as BoolConstant, Chan, Close, Copy}
use Rattle.rgo_typed.specs.declared.actions.Action.TheVariants.{Get, Int, IsNil, Len, Load, Neg, New, Nil, Not, Put}
use Rattle.rgo_typed.specs.declared.actions.Action.TheVariants.{Recv, Send, Set, Slice, Store}
use Rattle.rgo_typed.specs.declared.programs.Struct.{Struct}
use Rattle.rgo_typed.specs.declared.types.Type.{«Type»}
use Rattle.rgo_memory.specs.Effects.{Effect, Traps, nothing}
use Rattle.rgo_memory.specs.Making.{made, made_struct, new_channel, new_slice, new_struct, sized}
use Rattle.rgo_memory.specs.Memory.{Channel, Memory, Object, SliceObject, StructObject}
use Rattle.rgo_memory.specs.Values.{element_zero, zero_of}
use Rattle.rgo_memory.specs.declared.traps.Trap.{Trap as TrapKind}
use Rattle.rgo_memory.specs.declared.traps.Trap.TheVariants.{BadSize}
use Rattle.rgo_memory.specs.declared.values.Value.{Value}
use Rattle.rgo_memory.specs.declared.values.Value.TheVariants as value
use Rattle.rgo_machine.specs.Machines.{alone as machine_alone, picked, unless_ended}
use Rattle.rgo_machine.specs.declared.picks.End.{End}
use Rattle.rgo_machine.specs.declared.picks.End.TheVariants.{Exit, Trap}
use Rattle.rgo_machine.specs.declared.picks.Pick.TheVariants.{Meet, One}
use Rattle.rgo_tac.specs.Frames.{TacFrame, operand_values}
use Rattle.rgo_tac.specs.Steps.{destination_type}
use Rattle.rgo_tac.specs.Tac.{TacState, tac}
use Rattle.rgo_code.specs.Checked.{IsChecked}
use Rattle.rgo_code.specs.Code.{Branch, Call, Code, CodeFn, CodeInstr, CodeOp, Do, Go, Jump, Print, Return}
use Rattle.rgo_code.specs.Erasure.{erased, erased_instr, erased_op}
use Rattle.rgo_code.specs.NameRules.{Ascends}
use Rattle.rgo_region_machine.specs.Counts.{counts_of}
use Rattle.rgo_region_machine.specs.Duties.{attend, attended, duty_done, may_go, protected, removal, shared}
use Rattle.rgo_region_machine.specs.Duties.{unprotected, with_protection}
use Rattle.rgo_region_machine.specs.Instructions.{child_holder, has_none, holder_after, instructed_with, last_frames}
use Rattle.rgo_region_machine.specs.Instructions.{taken_offer, unless_trapped}
use Rattle.rgo_region_machine.specs.Machine.{Acknowledge, Attend, Event, Finish, Instruct, MakeOffer, TakePage}
use Rattle.rgo_region_machine.specs.Machine.{finished, next_object, object_made, page_before, page_for, page_taken}
use Rattle.rgo_region_machine.specs.Machine.{region_run}
use Rattle.rgo_region_machine.specs.Machine.{region_start, region_step, take_page, takes_page}
use Rattle.rgo_region_machine.specs.Objects.{allotted, new_object, placed, spread_out}
use Rattle.rgo_region_machine.specs.Objects.{cells, data_pages, fill_of, fits_in_page, is_spread, is_too_large, makes_object}
use Rattle.rgo_region_machine.specs.Objects.{making_region, wants_page, with_fill, with_page, object_words}
use Rattle.rgo_region_machine.specs.Room.{enough_pages, most_next, most_of, most_pages, object_pages, pages_before}
use Rattle.rgo_region_machine.specs.Room.{pages_of}
use Rattle.rgo_region_machine.specs.Offers.{acknowledge, make_offer, offer_for, offered}
use Rattle.rgo_region_machine.specs.Owed.{current, function_at}
use Rattle.rgo_region_machine.specs.Regions.{Bindings, RegionInfo, is_live, one_fewer, with_added_stake, one_page_more, unbind}
use Rattle.rgo_region_machine.specs.Regions.{with_info, without}
use Rattle.rgo_region_machine.specs.States.{Create, Duty, EndBase, Holder, NoOffer, Offer, Protect, RegionState, Remove}
use Rattle.rgo_region_machine.specs.States.{Share, Standing, Taken, Unprotect, frames_in, frames_of, top_names}
use Rattle.rgo_region_machine.specs.States.{with_top}
use Rattle.rgo_region_machine.specs.declared.limits.Limit.{Limit}
use Rattle.rgo_region_machine.specs.declared.regions.Region.{Region}
use Rattle.rgo_region_machine.specs.declared.regions.Region.TheVariants.{Global as GlobalRegion, Numbered}
use Rattle.rgo_sound.proofs.steps.Acting.{after, Acted, act, act_at, alone, alone_is, effected, performed, trap_place}
use Rattle.rgo_sound.proofs.plain.Steps.{Always, Yields, yields, yields_none, yields_if, yields_then, yields_at}
use Rattle.rgo_sound.proofs.plain.Steps.{yields_from, yields_where}
use Rattle.rgo_sound.proofs.offers.Offers.{alone_steady, SteadyActed, makes_at}
use Rattle.rgo_sound.proofs.steps.OneStep.{OneDone, one_done, MeetDone, meet_done, current_erased, gone_on, none_owed}
use Rattle.rgo_sound.proofs.steps.OneStep.{receive_goes, send_goes}
use Rattle.rgo_sound.proofs.steps.Each.{fine_step, fine_start}
use Rattle.rgo_sound.proofs.Places.{get_append_cases, get_append_left, get_set_other, get_set_same, get_some, length_set, head_is}
use Rattle.rgo_sound.proofs.steps.HeapGrows.{SameSize, sum_only_grows}
use Rattle.rgo_sound.proofs.Progress.{fill_with, frames_some, one_step}
use Rattle.rgo_sound.proofs.plain.Running.{running_step}
use Rattle.rgo_sound.specs.Reserved.{IsReserved, ReservedForNext}
use Rattle.rgo_sound.specs.Running.{IsRunning}
use Rattle.rgo_sound.proofs.RunLemmas.{run_keeps}
use Rattle.rgo_sound.specs.Invariant.{Fine}
use Rattle.rgo_sound.proofs.Places.{tail_is}

-- ---- what an instruction makes depends on its frame alone

-- what f does to a memory: it makes this object, traps, or does nothing, whatever the memory
data MakesView (f : Memory → Effect) : Type 0 where
  makes : (object : Object) → ((m : Memory) → f m ≡ made m object) → MakesView f
  traps : (trap : TrapKind) → ((m : Memory) → f m ≡ Traps trap) → MakesView f
  idles : ((m : Memory) → f m ≡ nothing m) → MakesView f

sized_view : (object : ℕ → Object) (v : Value) → MakesView (sized object v)
sized_view object (value.Int (pos n)) = makes (object n) (λ m. refl)
sized_view object (value.Int (negsuc n)) = traps BadSize (λ m. refl)
sized_view object (value.Bool b) = idles (λ m. refl)
sized_view object value.Nil = idles (λ m. refl)
sized_view object (value.Object o) = idles (λ m. refl)

-- an action that makes an object is not an operation on a channel, and does the same to each memory
record MakesAction (structs : List Struct) (a : Action) (ty : «Type») (vs : List Value) : Type 0 where
  effect : Memory → Effect
  performs : (m : Memory) → performed structs a ty vs m ≡ Some (effect m)
  view : MakesView effect

makes_action : (structs : List Struct) (a : Action) (ty : «Type») (vs : List Value) → makes_object a ≡ true
    → MakesAction structs a ty vs
makes_action structs (Int k) ty vs m = absurd (true≢false (sym m))
makes_action structs (BoolConstant b) ty vs m = absurd (true≢false (sym m))
makes_action structs Nil ty vs m = absurd (true≢false (sym m))
makes_action structs Copy ty vs m = absurd (true≢false (sym m))
makes_action structs (Binary op) ty vs m = absurd (true≢false (sym m))
makes_action structs Neg ty vs m = absurd (true≢false (sym m))
makes_action structs Not ty vs m = absurd (true≢false (sym m))
makes_action structs IsNil ty vs m = absurd (true≢false (sym m))
makes_action structs Len ty vs m = absurd (true≢false (sym m))
makes_action structs (Load k) ty vs m = absurd (true≢false (sym m))
makes_action structs (Store k) ty vs m = absurd (true≢false (sym m))
makes_action structs At ty vs m = absurd (true≢false (sym m))
makes_action structs Put ty vs m = absurd (true≢false (sym m))
makes_action structs (New n) ty [] m = record {
  effect = λ m. new_struct structs n m;
  performs = λ m. refl;
  view =
      by (slice_get structs n);
}
  where
    by : (o : Option Struct) → MakesView (λ m. made_struct o m)
    by None = idles (λ m. refl)
    by (Some s) = makes (StructObject (map zero_of s.fields)) (λ m. refl)
makes_action structs (New n) ty (v ∷ []) m = record {
  effect = λ m. nothing m;
  performs = λ m. refl;
  view =
      idles (λ m. refl);
}
makes_action structs (New n) ty (v ∷ w ∷ []) m = record
    { effect = λ m. nothing m; performs = λ m. refl; view = idles (λ m. refl) }
makes_action structs (New n) ty (v ∷ w ∷ x ∷ []) m = record
    { effect = λ m. nothing m; performs = λ m. refl; view = idles (λ m. refl) }
makes_action structs (New n) ty (v ∷ w ∷ x ∷ y ∷ vs) m =
    record { effect = λ m. nothing m; performs = λ m. refl; view = idles (λ m. refl) }
makes_action structs Slice ty [] m = record { effect = λ m. nothing m; performs = λ m. refl; view = idles (λ m. refl) }
makes_action structs Slice ty (v ∷ []) m = record {
  effect = λ m. new_slice ty v m;
  performs = λ m. refl;
  view =
      sized_view (λ n. SliceObject (replicate n (element_zero ty))) v;
}
makes_action structs Slice ty (v ∷ w ∷ []) m = record {
  effect = λ m. nothing m;
  performs = λ m. refl;
  view =
      idles (λ m. refl);
}
makes_action structs Slice ty (v ∷ w ∷ x ∷ []) m = record
    { effect = λ m. nothing m; performs = λ m. refl; view = idles (λ m. refl) }
makes_action structs Slice ty (v ∷ w ∷ x ∷ y ∷ vs) m = record
    { effect = λ m. nothing m; performs = λ m. refl; view = idles (λ m. refl) }
makes_action structs Chan ty [] m = record { effect = λ m. nothing m; performs = λ m. refl; view = idles (λ m. refl) }
makes_action structs Chan ty (v ∷ []) m = record {
  effect = λ m. new_channel v m;
  performs = λ m. refl;
  view =
      sized_view (λ n. Channel n [] false) v;
}
makes_action structs Chan ty (v ∷ w ∷ []) m = record {
  effect = λ m. nothing m;
  performs = λ m. refl;
  view =
      idles (λ m. refl);
}
makes_action structs Chan ty (v ∷ w ∷ x ∷ []) m = record
    { effect = λ m. nothing m; performs = λ m. refl; view = idles (λ m. refl) }
makes_action structs Chan ty (v ∷ w ∷ x ∷ y ∷ vs) m = record
    { effect = λ m. nothing m; performs = λ m. refl; view = idles (λ m. refl) }
makes_action structs Recv ty vs m = absurd (true≢false (sym m))
makes_action structs Send ty vs m = absurd (true≢false (sym m))
makes_action structs Close ty vs m = absurd (true≢false (sym m))
makes_action structs (Get n) ty vs m = absurd (true≢false (sym m))
makes_action structs (Set n) ty vs m = absurd (true≢false (sym m))

-- the next instruction of these frames makes this object, whatever the memory; a fact about the present memory alone would not survive
-- the steps of others
record MakesNext (code : Code) (frame : TacFrame) (callers : List TacFrame) (object : Object) : Type 0 where
  acted : (m : Memory) → (a : Acted) × (alone (erased code) m (frame ∷ callers) ≡ Some a)
      × (a.memory.heap ≡ m.heap ++ object ∷ [])

-- the heap after it
made_heap : {code : Code} → {frame : TacFrame} → {callers : List TacFrame} → {object : Object}
    → MakesNext code frame callers object → (m : Memory) (a : Acted) → alone (erased code) m (frame ∷ callers) ≡ Some a
    → a.memory.heap ≡ m.heap ++ object ∷ []
made_heap n m a e =
    let x = MakesNext.acted n m in ap (λ (y : Acted). y.memory.heap) (same_Some a x.0 (sym e ∙ x.1)) ∙ x.2

get_last : {X : Type 0} (xs : List X) (x : X) → slice_get (xs ++ x ∷ []) (length xs) ≡ Some x
get_last [] x = refl
get_last (y ∷ ys) x = get_last ys x

-- an instruction that may make an object: what it does to each memory
record MakesAlone (code : Code) (frame : TacFrame) (callers : List TacFrame) : Type 0 where
  to : Option ℕ
  place : ℕ
  effect : Memory → Effect
  does : (m : Memory) → alone (erased code) m (frame ∷ callers) ≡ effected m frame callers to place (Some (effect m))
  view : MakesView effect

makes_alone : (code : Code) (frame : TacFrame) (callers : List TacFrame) (instr : CodeInstr) → current code frame ≡ Some instr
    → makes_at instr.op ≡ true → MakesAlone code frame callers
makes_alone code frame callers instr cur t = by instr.op refl t
  where
    acts_are : (op : CodeOp) → instr.op ≡ op → (m : Memory) → alone (erased code) m (frame ∷ callers)
        ≡ act (erased code) m (erased_op op) instr.place frame callers
    acts_are op is m = ap (λ i. act_at (erased code) m i frame callers)
        (current_erased code frame ∙ ap (option_map erased_instr) cur)
        ∙ ap (λ o. act (erased code) m (erased_op o) instr.place frame callers) is

    by : (op : CodeOp) → instr.op ≡ op → makes_at op ≡ true → MakesAlone code frame callers
    by (Do to action from removes) is t = of (makes_action code.structs action (destination_type (erased code) frame to)
        (operand_values frame from) t)
      where
        of : MakesAction code.structs action (destination_type (erased code) frame to) (operand_values frame from)
            → MakesAlone code frame callers
        of x = record {
          to = to;
          place = trap_place action instr.place;
          effect = x.effect;
          does = λ m. acts_are (Do to action from removes) is m
              ∙ ap (effected m frame callers to (trap_place action instr.place)) (x.performs m);
          view = x.view;
        }
    by (Call to n from passes protects removes) is t = absurd (true≢false (sym t))
    by (Go n from passes removes) is t = absurd (true≢false (sym t))
    by (Print pieces from removes) is t = absurd (true≢false (sym t))
    by (Jump j removes) is t = absurd (true≢false (sym t))
    by (Branch v j removes k others) is t = absurd (true≢false (sym t))
    by (Return value) is t = absurd (true≢false (sym t))

-- what memory has after it
module _ {code : Code} {frame : TacFrame} {callers : List TacFrame} (x : MakesAlone code frame callers) where
  after_makes : (m : Memory) (b : Acted) (object : Object) → alone (erased code) m (frame ∷ callers) ≡ Some b
      → x.effect m ≡ made m object → b.memory.heap ≡ m.heap ++ object ∷ []
  after_makes m b object w p = ap (λ (y : Acted). y.memory.heap)
      (same_Some b _ (sym w ∙ x.does m ∙ ap (λ e. effected m frame callers x.to x.place (Some e)) p))

  after_traps : (m : Memory) (b : Acted) (trap : TrapKind) → alone (erased code) m (frame ∷ callers) ≡ Some b
      → x.effect m ≡ Traps trap → b.memory.heap ≡ m.heap
  after_traps m b trap w p = ap (λ (y : Acted). y.memory.heap)
      (same_Some b _ (sym w ∙ x.does m ∙ ap (λ e. effected m frame callers x.to x.place (Some e)) p))

  after_nothing : (m : Memory) (b : Acted) → alone (erased code) m (frame ∷ callers) ≡ Some b → x.effect m ≡ nothing m
      → b.memory.heap ≡ m.heap
  after_nothing m b w p = ap (λ (y : Acted). y.memory.heap)
      (same_Some b _ (sym w ∙ x.does m ∙ ap (λ e. effected m frame callers x.to x.place (Some e)) p))

-- a step that made an object in one memory shows what it makes in every memory
makes_next : (code : Code) (m : Memory) (frame : TacFrame) (callers : List TacFrame) (instr : CodeInstr) (a : Acted)
    (object : Object) → current code frame ≡ Some instr → alone (erased code) m (frame ∷ callers) ≡ Some a
    → slice_get a.memory.heap (length m.heap) ≡ Some object → MakesNext code frame callers object
makes_next code m frame callers instr a object cur acts q =
    split (makes_at instr.op) (λ t. by (makes_alone code frame callers instr cur t)) (λ n. absurd (still (grown.1 n)))
  where
    grown : SteadyActed m (makes_at instr.op) a
    grown = subst (Always (SteadyActed m (makes_at instr.op))) acts (alone_steady code m frame callers instr cur)

    still : length a.memory.heap ≡ length m.heap → ⊥
    still e = let x : None ≡ Some object = sym (slice_get_past a.memory.heap (length m.heap) (omega (arith, e))) ∙ q in
        cc

    by : MakesAlone code frame callers → MakesNext code frame callers object
    by x = view x.view
      where
        view : MakesView x.effect → MakesNext code frame callers object
        view (makes y p) = record {
          acted = λ m'. (
            _,
            x.does m' ∙ ap (λ e. effected m' frame callers x.to x.place (Some e)) (p m'),
            ap (λ z. m'.heap ++ z ∷ []) same,
          );
        }
          where
            same : y ≡ object
            same = same_Some y object (sym (get_last m.heap y)
                ∙ sym (ap (λ z. slice_get z (length m.heap)) (after_makes x m a y acts (p m))) ∙ q)
        view (traps trap p) = absurd (still (ap length (after_traps x m a trap acts (p m))))
        view (idles p) = absurd (still (ap length (after_nothing x m a acts (p m))))

-- two steps of one goroutine make the same object
same_object : {code : Code} → {frame : TacFrame} → {callers : List TacFrame} → {x y : Object}
    → MakesNext code frame callers x → MakesNext code frame callers y → Memory → x ≡ y
same_object {code} {frame} {callers} {x} {y} n k m =
    let a = MakesNext.acted n m in
    same_Some x y (sym (get_last m.heap x) ∙ ap (λ z. slice_get z (length m.heap)) (sym a.2 ∙ made_heap k m a.0 a.1)
    ∙ get_last m.heap y)

-- ---- a goroutine that has taken n pages for the object that it makes next

record Full (code : Code) (page_words : ℕ) (p : TacState) (g : ℕ) (h : Holder) (n : ℕ) : Type 0 where
  frame : TacFrame
  callers : List TacFrame
  at : frames_of p g ≡ frame ∷ callers
  instr : CodeInstr
  cur : current code frame ≡ Some instr
  none : h.duties ≡ []
  region : Region
  making : making_region (function_at code frame) (top_names h.environments) instr.op ≡ Some region
  object : Object
  next : MakesNext code frame callers object
  enough : n ≤ pages_of page_words object
  -- it fits its own page, or the pages are reserved for it
  fitting : is_spread page_words object ≡ false → (fits_in_page page_words (fill_of h.fills region) (object_words object) ≡ true)
      × (h.reserved ≡ 0)
  kept : is_spread page_words object ≡ true → (n ≤ h.reserved) × (is_too_large page_words object ≡ false)

abbrev sum_to : (ℕ → ℕ) → ℕ → ℕ
sum_to c zero = 0
sum_to c (suc n) = c n + sum_to c n

abbrev with_at : (ℕ → ℕ) → ℕ → ℕ → ℕ → ℕ
with_at c g x j = if nat_eq j g then x else c j

at_other : (c : ℕ → ℕ) (g x j : ℕ) → nat_eq j g ≡ false → with_at c g x j ≡ c j
at_other c g x j n = ap (λ b. if b then x else c j) n

at_same : (c : ℕ → ℕ) (g x : ℕ) → with_at c g x g ≡ x
at_same c g x = ap (λ b. if b then x else c g) (nat_eq_refl g)

sum_below : (c : ℕ → ℕ) (g x n : ℕ) → n ≤ g → sum_to (with_at c g x) n ≡ sum_to c n
sum_below c g x zero h = refl
sum_below c g x (suc n) h =
    let a = at_other c g x n (differs n g (omega (arith, h))) in
    let b = sum_below c g x n (omega (arith, h)) in
    omega (arith, a, b)
  where
    differs : (n g : ℕ) → n < g → nat_eq n g ≡ false
    differs n g h = grind arith

sum_with : (c : ℕ → ℕ) (g x n : ℕ) → g < n → sum_to (with_at c g x) n + c g ≡ sum_to c n + x
sum_with c g x zero h = absurd (omega (arith, h))
sum_with c g x (suc n) h = split (nat_eq n g) (λ t. here (eq_of n g t)) (λ f. there f (λ l. sum_with c g x n l))
  where
    here : n ≡ g → sum_to (with_at c g x) (suc n) + c g ≡ sum_to c (suc n) + x
    here e =
        let a : with_at c g x n ≡ x = ap (with_at c g x) e ∙ at_same c g x in
        let b = sum_below c g x n (omega (arith, e)) in
        let d : c n ≡ c g = ap c e in
        omega (arith, a, b, d)

    there : nat_eq n g ≡ false → (g < n → sum_to (with_at c g x) n + c g ≡ sum_to c n + x)
        → sum_to (with_at c g x) (suc n) + c g ≡ sum_to c (suc n) + x
    there f next =
        let a = at_other c g x n f in
        let b = next (below n g f h) in
        omega (arith, a, b)
      where
        below : (n g : ℕ) → nat_eq n g ≡ false → g < suc n → g < n
        below n g f h = grind arith

sum_small : (c : ℕ → ℕ) (k n : ℕ) → ((g : ℕ) → g < n → c g ≤ k) → sum_to c n ≤ k * n
sum_small c k zero h = omega arith
sum_small c k (suc n) h =
    let a = h n (omega arith) in
    let b = sum_small c k n (λ g l. h g (omega (arith, l))) in
    let d = mul-suc k n in
    omega (arith, a, b, d)

-- Each page was taken for an object that was made, or for the one that its goroutine makes next. `counted` is not an equation: an object
-- that fits what is left of a page needs no page of its own, and still counts for one.
record Paged (code : Code) (page_words : ℕ) (s : RegionState) : Type 0 where
  c : ℕ → ℕ
  beyond : (g : ℕ) → length s.holders ≤ g → c g ≡ 0
  counted : s.global_pages + sum_by (λ (i : RegionInfo). i.pages) s.regions ≤ object_pages page_words s + sum_to c
      (length s.holders)
  full : (g : ℕ) (h : Holder) → slice_get s.holders g ≡ Some h → (n : ℕ) → c g ≡ suc n
      → Full code page_words s.plain g h (suc n)
  -- reserved pages are among those taken in advance, so they are bounded, too
  covers : (g : ℕ) (h : Holder) → slice_get s.holders g ≡ Some h → h.reserved ≤ c g

sum_beyond : (c : ℕ → ℕ) (n more : ℕ) → n ≤ more → ((j : ℕ) → n ≤ j → c j ≡ 0) → sum_to c more ≡ sum_to c n
sum_beyond c n zero h z = let e : 0 ≡ n = omega (arith, h) in ap (sum_to c) e
sum_beyond c n (suc more) h z = split (nat_eq n (suc more)) (λ t. ap (sum_to c) (sym (eq_of n (suc more) t)))
    (λ f. further (less n more f h) (λ l. sum_beyond c n more l z))
  where
    less : (n more : ℕ) → nat_eq n (suc more) ≡ false → n ≤ suc more → n ≤ more
    less n more f h = grind arith

    further : n ≤ more → (n ≤ more → sum_to c more ≡ sum_to c n) → sum_to c (suc more) ≡ sum_to c n
    further l next = let a = z more l in let b = next l in omega (arith, a, b)

-- ---- the pages of regions

pub pages_kept : (infos : List RegionInfo) (r : ℕ) (change : RegionInfo → RegionInfo)
    → ((i : RegionInfo) → (change i).pages ≡ i.pages) → sum_by (λ (i : RegionInfo). i.pages) (with_info infos r change)
    ≡ sum_by (λ (i : RegionInfo). i.pages) infos
pages_kept [] r change h = refl
pages_kept (i ∷ is) zero change h =
    let a = sum_by-cons (λ (i : RegionInfo). i.pages) (change i) is in
    let b = sum_by-cons (λ (i : RegionInfo). i.pages) i is in
    let c = h i in
    omega (arith, a, b, c)
pages_kept (i ∷ is) (suc r) change h =
    let a = sum_by-cons (λ (i : RegionInfo). i.pages) i (with_info is r change) in
    let b = sum_by-cons (λ (i : RegionInfo). i.pages) i is in
    let c = pages_kept is r change h in
    omega (arith, a, b, c)

pages_more : (infos : List RegionInfo) (r : ℕ) → sum_by (λ (i : RegionInfo). i.pages) (with_info infos r one_page_more)
    ≤ sum_by (λ (i : RegionInfo). i.pages) infos + 1
pages_more [] r = omega arith
pages_more (i ∷ is) zero =
    let a = sum_by-cons (λ (i : RegionInfo). i.pages) (one_page_more i) is in
    let b = sum_by-cons (λ (i : RegionInfo). i.pages) i is in
    omega (arith, a, b)
pages_more (i ∷ is) (suc r) =
    let a = sum_by-cons (λ (i : RegionInfo). i.pages) i (with_info is r one_page_more) in
    let b = sum_by-cons (λ (i : RegionInfo). i.pages) i is in
    let c = pages_more is r in
    omega (arith, a, b, c)

-- the pages of objects of one size
pages_kept_by : (page_words : ℕ) (old new : Object) → SameSize old new → pages_of page_words new ≡ pages_of page_words old
pages_kept_by page_words old new same =
    ap (λ w. (if nat_lt page_words w then (cells new - 1) / page_words + 1 else 0) + 1) same.0
    ∙ ap (λ k. (if nat_lt page_words (object_words old) then (k - 1) / page_words + 1 else 0) + 1) same.1

-- ---- reserved pages

get_set_there : {X : Type 0} (xs : List X) (i : ℕ) (y : X) → i < length xs → slice_get (slice_set xs i y) i ≡ Some y
get_set_there xs i y l = let z = get_some xs i l in get_set_same xs i z.0 y z.1

-- they stay, and the object is not spread
abbrev KeptReserved : ℕ → Holder → Option Object → Holder × List Region → Type 0
KeptReserved page_words h object given =
    (Holder.reserved given.0 ≡ h.reserved) × ((x : Object) → object ≡ Some x → is_spread page_words x ≡ false)

-- when an object is placed, either no page stays reserved, or all do
allotted_reserved : (page_words : ℕ) (h : Holder) (region : Option Region) (object : Option Object)
    (given : Holder × List Region) → allotted page_words h region object ≡ Some given
    → (Holder.reserved given.0 ≡ 0) ⊎ KeptReserved page_words h object given
allotted_reserved page_words h region None given e =
    inr (ap (λ (x : Holder × List Region). Holder.reserved x.0) (sym (same_Some (h, []) given e)), λ x n. cc)
allotted_reserved page_words h None (Some object) given e = cc
allotted_reserved page_words h (Some r) (Some object) given e =
    by (is_spread page_words object) refl
    (ap (λ b. if b then spread_out page_words h r object else placed page_words h r object (fill_of h.fills r)) refl
    ∙ e)
  where
    by : (b : Bool) → is_spread page_words object ≡ b → (if b then spread_out page_words h r object else
        placed page_words h r object (fill_of h.fills r)) ≡ Some given
        → (Holder.reserved given.0 ≡ 0) ⊎ KeptReserved page_words h (Some object) given
    by true w z = spread (not (is_too_large page_words object) && nat_lt (data_pages page_words object) h.reserved) z
      where
        spread : (b : Bool) → (if b then Some (record h { reserved = 0 }, r ∷ []) else None) ≡ Some given
            → (Holder.reserved given.0 ≡ 0) ⊎ KeptReserved page_words h (Some object) given
        spread true z = inl (ap (λ (x : Holder × List Region). Holder.reserved x.0)
            (sym (same_Some (record h { reserved = 0 }, r ∷ []) given z)))
        spread false z = cc
    by false w z = own (fill_of h.fills r) z
      where
        into : (used : ℕ) (b : Bool) → (if b then Some (
          record h { fills = with_fill h.fills r (used + object_words object) },
          r ∷ [],
        ) else None) ≡ Some given → (Holder.reserved given.0 ≡ 0)
            ⊎ KeptReserved page_words h (Some object) given
        into used true z = inr (
          ap (λ (x : Holder × List Region). Holder.reserved x.0)
              (sym (same_Some (record h { fills = with_fill h.fills r (used + object_words object) }, r ∷ []) given z)),
          λ x n. ap (is_spread page_words) (sym (same_Some object x n)) ∙ w,
        )
        into used false z = cc

        own : (o : Option ℕ) → placed page_words h r object o ≡ Some given
            → (Holder.reserved given.0 ≡ 0) ⊎ KeptReserved page_words h (Some object) given
        own None z = cc
        own (Some used) z = into used (nat_le (used + object_words object) page_words) z

after_reserved : (code : Code) (h : Holder) (frame : TacFrame) (callers : List TacFrame) (op : CodeOp) (next : List TacFrame)
    → Holder.reserved (holder_after code h frame callers op next) ≡ h.reserved
after_reserved code h frame callers (Do to action from removes) next = refl
after_reserved code h frame callers (Call to n from passes protects removes) next = refl
after_reserved code h frame callers (Go n from passes removes) next = refl
after_reserved code h frame callers (Print pieces from removes) next = refl
after_reserved code h frame callers (Jump target removes) next = refl
after_reserved code h frame callers (Branch test target removes other otherwise) next = refl
after_reserved code h frame callers (Return value) next = refl

child_reserved : (code : Code) (h : Holder) (op : CodeOp) (child : List TacFrame) (i : ℕ) (y : Holder)
    → slice_get (child_holder code h op child) i ≡ Some y → y.reserved ≡ 0
child_reserved code h (Do to action from removes) child i y e = cc
child_reserved code h (Call to n from passes protects removes) child i y e = cc
child_reserved code h (Go n from passes removes) child zero y e = ap Holder.reserved (sym (same_Some _ y e))
child_reserved code h (Go n from passes removes) child (suc i) y e = cc
child_reserved code h (Print pieces from removes) child i y e = cc
child_reserved code h (Jump target removes) child i y e = cc
child_reserved code h (Branch test target removes other otherwise) child i y e = cc
child_reserved code h (Return value) child i y e = cc

-- ---- each step

differs : (j g : ℕ) → g < j → nat_eq j g ≡ false
differs j g l = grind arith

-- the holder after an instruction
abbrev after_of : {code : Code} → {page_words : ℕ} → {s : RegionState} → {g : ℕ} → {t : RegionState}
    → OneDone code page_words s g t → Holder
after_of {code} {page_words} {s} {g} x = unless_trapped (after s.plain g x.a).ended x.given.0
    (holder_after code x.given.0 x.frame x.callers x.instr.op (frames_of (after s.plain g x.a) g))

module _ (code : Code) (page_words : ℕ) (s : RegionState) (paged : Paged code page_words s) where
  moved_full : (p q : TacState) (g : ℕ) (h k : Holder) (n : ℕ) → frames_of q g ≡ frames_of p g → k.duties ≡ h.duties
      → k.environments ≡ h.environments → k.fills ≡ h.fills → k.reserved ≡ h.reserved → Full code page_words p g h n
      → Full code page_words q g k n
  moved_full p q g h k n fr d sh fl rs x =
      record {
        frame = x.frame;
        callers = x.callers;
        at = fr ∙ x.at;
        instr = x.instr;
        cur = x.cur;
        none = d ∙ x.none;
        region = x.region;
        making = ap (λ y. making_region (function_at code x.frame) (top_names y) x.instr.op) sh ∙ x.making;
        object = x.object;
        next = x.next;
        enough = x.enough;
        fitting = λ w. (
          ap (λ y. fits_in_page page_words (fill_of y x.region) (object_words x.object)) fl ∙ (x.fitting w).0,
          rs ∙ (x.fitting w).1,
        );
        kept = λ w. (let a = (x.kept w).0 in omega (arith, a, rs), (x.kept w).1);
      }

  -- one goroutine has another holder, and no page is taken
  paged_with : (t : RegionState) (g : ℕ) (h k : Holder) → slice_get s.holders g ≡ Some h → k.reserved ≡ h.reserved
      → t.plain ≡ s.plain → t.holders
      ≡ slice_set s.holders g k → t.global_pages + sum_by (λ (i : RegionInfo). i.pages) t.regions
      ≡ s.global_pages + sum_by (λ (i : RegionInfo). i.pages) s.regions
      → ((n : ℕ) → Full code page_words s.plain g h n → Full code page_words s.plain g k n) → Paged code page_words t
  paged_with t g h k e rs ps hs pages still =
      record {
        c = paged.c;
        beyond = λ j l. paged.beyond j (let a = long in omega (arith, a, l));
        counted =
            let a = paged.counted in
            let b = ap (λ (p : TacState). sum_by (pages_of page_words) p.memory.heap) ps in
            let d = ap (sum_to paged.c) long in
            omega (arith, a, b, d, pages);
        full = λ j x q n w. moved_full s.plain t.plain j x x (suc n) (ap (λ p. frames_of p j) ps) refl refl refl refl
            (each j x (sym (ap (λ y. slice_get y j) hs) ∙ q) n w);
        covers = λ j x q. covered j x (sym (ap (λ y. slice_get y j) hs) ∙ q);
      }
    where
      long : length t.holders ≡ length s.holders
      long = ap length hs ∙ length_set s.holders g k

      covered : (j : ℕ) (x : Holder) → slice_get (slice_set s.holders g k) j ≡ Some x → x.reserved ≤ paged.c j
      covered j x q =
          split (nat_eq g j)
          (λ t. subst (λ (y : Holder). y.reserved ≤ paged.c j)
          (same_Some k x (sym (get_set_same s.holders g h k e)
          ∙ ap (slice_get (slice_set s.holders g k)) (eq_of g j t) ∙ q))
          (subst (λ i. k.reserved ≤ paged.c i) (eq_of g j t) (let a = paged.covers g h e in omega (arith, a, rs))))
          (λ f. paged.covers j x (sym (get_set_other s.holders g j k f) ∙ q))

      each : (j : ℕ) (x : Holder) → slice_get (slice_set s.holders g k) j ≡ Some x → (n : ℕ) → paged.c j ≡ suc n
          → Full code page_words s.plain j x (suc n)
      each j x q n w =
          split (nat_eq g j)
          (λ t. subst (λ (y : Holder). Full code page_words s.plain j y (suc n))
          (same_Some k x (sym (get_set_same s.holders g h k e)
          ∙ ap (slice_get (slice_set s.holders g k)) (eq_of g j t) ∙ q))
          (subst (λ i. Full code page_words s.plain i k (suc n)) (eq_of g j t)
          (still (suc n) (paged.full g h e n (ap paged.c (eq_of g j t) ∙ w)))))
          (λ f. paged.full j x (sym (get_set_other s.holders g j k f) ∙ q) n w)

  -- duties
  module _ (g : ℕ) (h : Holder) (d : Duty) (ds : List Duty) (e : slice_get s.holders g ≡ Some h)
      (owed : h.duties ≡ d ∷ ds) where
    some_none : d ∷ ds ≡ [] → ⊥
    some_none z = cc

    kept : (t : RegionState) (k : Holder) → k.reserved ≡ h.reserved → t.plain ≡ s.plain → t.holders ≡ slice_set s.holders g k
        → t.global_pages + sum_by (λ (i : RegionInfo). i.pages) t.regions
        ≡ s.global_pages + sum_by (λ (i : RegionInfo). i.pages) s.regions → Yields (Paged code page_words) (Some t)
    kept t k rs ps hs pages = yields t (paged_with t g h k e rs ps hs pages
        (λ n f. absurd (some_none (sym owed ∙ Full.none f))))

    infos : (r : ℕ) (change : RegionInfo → RegionInfo) → ((i : RegionInfo) → (change i).pages ≡ i.pages)
        → s.global_pages + sum_by (λ (i : RegionInfo). i.pages) (with_info s.regions r change)
        ≡ s.global_pages + sum_by (λ (i : RegionInfo). i.pages) s.regions
    infos r change h = ap (λ x. s.global_pages + x) (pages_kept s.regions r change h)

    removes : (k : Holder) (q : Region) → k.reserved ≡ h.reserved → Yields (Paged code page_words) (removal s g k q)
    removes k GlobalRegion rs = kept _ k rs refl refl refl
    removes k (Numbered r) rs = yields_if _ _ _ (yields_if _ _ _ (kept _ k rs refl refl refl)
        (kept _ (record k { stakes = without r k.stakes }) rs refl refl (infos r one_fewer (λ i. refl)))) yields_none

    shares : (k : Holder) (q : Region) → k.reserved ≡ h.reserved → Yields (Paged code page_words) (shared s g k q)
    shares k GlobalRegion rs = kept _ k rs refl refl refl
    shares k (Numbered r) rs = yields_if _ _ _ (yields_if _ _ _ (kept _ k rs refl refl refl)
        (kept _ (record k { pending = r ∷ k.pending }) rs refl refl (infos r with_added_stake (λ i. refl)))) yields_none

    done : (k : Holder) (d : Duty) → k.reserved ≡ h.reserved → Yields (Paged code page_words) (duty_done s g k d)
    done k (Create n) rs = kept _ (record k {
      stakes = length s.regions ∷ k.stakes;
      environments =
          with_top k.environments ((n, Numbered (length s.regions)) ∷ unbind (top_names k.environments) n);
    }) rs refl refl
        (let a = sum_by_push (λ (i : RegionInfo). i.pages) s.regions (record { stakes = 1; pages = 0 }) in
        omega (arith, a))
    done k (Share n) rs = yields_then (shared s g k) _ (λ q. shares k q rs)
    done k (Protect n) rs = yields_then (protected s g k) _ (λ q.
        yields_if _ _ _ (kept _ (record k { environments = with_protection k.environments q }) rs refl refl refl)
        yields_none)
    done k (Unprotect n) rs = yields_then (λ q. Some (attended s g (unprotected k q))) _
        (λ q. kept _ (unprotected k q) rs refl refl refl)
    done k (Remove n) rs = yields_then (removal s g (record k
        { environments = with_top k.environments (unbind (top_names k.environments) n) })) _ (λ q. removes _ q rs)
    done k (EndBase r) rs = removes _ r rs

  paged_attend : (g : ℕ) (h : Holder) → slice_get s.holders g ≡ Some h
      → Yields (Paged code page_words) (attend s g h h.duties)
  paged_attend g h e = go h.duties refl
    where
      go : (ds : List Duty) → h.duties ≡ ds → Yields (Paged code page_words) (attend s g h ds)
      go [] q = yields_none
      go (d ∷ ds) q = yields_if _ _ _ (done g h d ds e q _ d refl) yields_none

  same_full : (g : ℕ) (h : Holder) (offer : Offer) (n : ℕ) → Full code page_words s.plain g h n
      → Full code page_words s.plain g (record h { offer = offer }) n
  same_full g h offer n x = moved_full s.plain s.plain g h (record h { offer = offer }) n refl refl refl refl refl x

  paged_make : (g : ℕ) (h : Holder) (frames : List TacFrame) → slice_get s.holders g ≡ Some h
      → Yields (Paged code page_words) (make_offer code s g h frames)
  paged_make g h [] e = yields_none
  paged_make g h (frame ∷ callers) e = yields_if _ _ _ (yields_then (offer_for s g h frame) _
      (λ i. yields_then (offered s g h) _ (λ o. yields_if _ _ _ yields_none
      (yields _ (paged_with _ g h (record h { offer = Standing o }) e refl refl refl refl (same_full g h (Standing o)))))))
      yields_none

  paged_acknowledge : (g : ℕ) (h : Holder) (o : Offer) → slice_get s.holders g ≡ Some h
      → Yields (Paged code page_words) (acknowledge s g h o)
  paged_acknowledge g h NoOffer e = yields_none
  paged_acknowledge g h (Standing o) e = yields_none
  paged_acknowledge g h (Taken o) e = yields_if _ _ _ (yields _
      (paged_with _ g h (record h { offer = NoOffer }) e refl refl refl refl (same_full g h NoOffer))) yields_none

  paged_finish : (limit : Limit) → Paged code page_words (finished s limit)
  paged_finish limit = record {
    c = paged.c;
    beyond = paged.beyond;
    counted = paged.counted;
    full = paged.full;
    covers = paged.covers;
  }

  -- ---- a page is taken

  paged_take : (g : ℕ) (h : Holder) → slice_get s.holders g ≡ Some h → (frame : TacFrame) (callers : List TacFrame)
      → frames_of s.plain g ≡ frame ∷ callers → (instr : CodeInstr) → current code frame ≡ Some instr → (r : Region)
      → making_region (function_at code frame) (top_names h.environments) instr.op ≡ Some r → has_none h.duties ≡ true
      → (x : Object) → next_object code s g ≡ Some x → wants_page page_words h.reserved (fill_of h.fills r) x ≡ true
      → Paged code page_words (page_taken s g (with_page page_words h r x) r)
  paged_take g h there frame callers at instr cur r making none x is wants = by r refl
    where
      no_true : (b : Bool) → not b ≡ true → b ≡ false
      no_true true e = absurd (true≢false (sym e))
      no_true false e = refl

      le_of : (m n : ℕ) → nat_le m n ≡ true → m ≤ n
      le_of m n e = grind (arith, nat_tests)

      le_not : (m n : ℕ) → nat_lt m n ≡ false → nat_le (0 + n) m ≡ true
      le_not m n e = grind (arith, nat_tests)

      frames_some : (o : Option (List TacFrame)) → frames_in o ≡ frame ∷ callers → o ≡ Some (frame ∷ callers)
      frames_some None e = cc
      frames_some (Some fs) e = ap Some e

      -- the step whose object it is
      acted : (a : Acted) × (alone (erased code) s.plain.memory (frame ∷ callers) ≡ Some a)
          × (slice_get a.memory.heap (length s.plain.memory.heap) ≡ Some x)
      acted = by s.plain.ended refl is
        where
          go : s.plain.ended ≡ None → (o : Option Acted) → alone (erased code) s.plain.memory (frame ∷ callers) ≡ o
              → object_made s (option_map (after s.plain g) o) ≡ Some x → (a : Acted)
              × (alone (erased code) s.plain.memory (frame ∷ callers) ≡ Some a)
              × (slice_get a.memory.heap (length s.plain.memory.heap) ≡ Some x)
          go e None w z = cc
          go e (Some a) w z = (a, w, z)

          stands : slice_get s.plain.goroutines g ≡ Some (frame ∷ callers)
          stands = frames_some (slice_get s.plain.goroutines g) at

          by : (o : Option End) → s.plain.ended ≡ o → object_made s
              (unless_ended o (picked (tac (erased code)) s.plain (One g))) ≡ Some x → (a : Acted)
              × (alone (erased code) s.plain.memory (frame ∷ callers) ≡ Some a)
              × (slice_get a.memory.heap (length s.plain.memory.heap) ≡ Some x)
          by (Some end) e z = cc
          by None e z = go e (alone (erased code) s.plain.memory (frame ∷ callers)) refl
              (sym (ap (object_made s) (ap (option_and_then (machine_alone (tac (erased code)) s.plain g)) stands
              ∙ alone_is (erased code) s.plain g e (frame ∷ callers) stands)) ∙ z)

      next : MakesNext code frame callers x
      next = makes_next code s.plain.memory frame callers instr acted.0 x cur acted.1 acted.2

      -- the pages taken before were for this object: both objects are what the same frame makes next
      same_as : (n : ℕ) (f : Full code page_words s.plain g h n) → (f.object ≡ x) × (f.region ≡ r)
      same_as n f =
          let fr : f.frame ≡ frame = head_is f.frame frame f.callers callers (sym f.at ∙ at) in
          let tl : f.callers ≡ callers = tail_is f.frame frame f.callers callers (sym f.at ∙ at) in
          let i : f.instr ≡ instr = same_Some f.instr instr (sym f.cur ∙ ap (current code) fr ∙ cur) in (
            same_object (subst (λ y. MakesNext code frame y f.object) tl
                (subst (λ y. MakesNext code y f.callers f.object) fr f.next)) next s.plain.memory,
            same_Some f.region r (sym f.making
                ∙ ap (λ (y : CodeInstr). making_region (function_at code f.frame) (top_names h.environments) y.op) i
                ∙ ap (λ y. making_region (function_at code y) (top_names h.environments) instr.op) fr ∙ making),
          )

      k : Holder
      k = record h {
        fills = if is_spread page_words x then h.fills else with_fill h.fills r 0;
        reserved = if is_spread page_words x then h.reserved + 1 else h.reserved;
      }

      -- what it has now
      full_with : suc (paged.c g) ≤ pages_of page_words x
          → (is_spread page_words x ≡ false → (fits_in_page page_words (fill_of (with_page page_words h r x).fills r) (object_words x)
          ≡ true) × ((with_page page_words h r x).reserved ≡ 0))
          → (is_spread page_words x ≡ true → (suc (paged.c g) ≤ (with_page page_words h r x).reserved)
          × (is_too_large page_words x ≡ false))
          → Full code page_words s.plain g (with_page page_words h r x) (suc (paged.c g))
      full_with enough fitting kept =
          record {
            frame = frame;
            callers = callers;
            at = at;
            instr = instr;
            cur = cur;
            none = none_owed h.duties none;
            region = r;
            making = making;
            object = x;
            next = next;
            enough = enough;
            fitting = fitting;
            kept = kept;
          }

      -- It had no page with room, so it had taken none in advance: a page taken for this object would have had room for it.
      full_whole : is_spread page_words x ≡ false
          → Full code page_words s.plain g (with_page page_words h r x) (suc (paged.c g))
      full_whole n = full_with (let a = was_none (paged.c g) refl in omega (arith, a))
          (λ w. (
            ap (λ b. fits_in_page page_words (fill_of (if b then h.fills else with_fill h.fills r 0) r) (object_words x)) n
                ∙ ap (λ o. fits_in_page page_words o (object_words x)) (fill_with h.fills r 0) ∙ le_not page_words (object_words x) n,
            ap (λ b. if b then h.reserved + 1 else h.reserved) n
                ∙ (let a = paged.covers g h there in let b = was_none (paged.c g) refl in omega (arith, a, b)),
          ))
          (λ w. absurd (true≢false (sym w ∙ n)))
        where
          not_fitting : fits_in_page page_words (fill_of h.fills r) (object_words x) ≡ false
          not_fitting = no_true (fits_in_page page_words (fill_of h.fills r) (object_words x))
              (sym (ap (λ b. if b then not (is_too_large page_words x) && nat_le h.reserved (data_pages page_words x)
              else not (fits_in_page page_words (fill_of h.fills r) (object_words x))) n) ∙ wants)

          clash : (m : ℕ) → Full code page_words s.plain g h m → ⊥
          clash m f =
              let a = same_as m f in
              true≢false (sym (f.fitting (ap (is_spread page_words) a.0 ∙ n)).0
              ∙ ap (λ y. fits_in_page page_words (fill_of h.fills y) (object_words f.object)) a.1
              ∙ ap (λ y. fits_in_page page_words (fill_of h.fills r) (object_words y)) a.0 ∙ not_fitting)

          was_none : (m : ℕ) → paged.c g ≡ m → paged.c g ≡ 0
          was_none zero e = e
          was_none (suc m) e = absurd (clash (suc m) (paged.full g h there m e))

      -- it had reserved no more than its data pages
      full_spread : is_spread page_words x ≡ true
          → Full code page_words s.plain g (with_page page_words h r x) (suc (paged.c g))
      full_spread w = full_with
          (let a = were_kept (paged.c g) refl in let b = le_of h.reserved (data_pages page_words x) small.1 in
          omega (arith, a, b))
          (λ n. absurd (true≢false (sym w ∙ n)))
          (λ v. (
            let a = were_kept (paged.c g) refl in
                let b : (with_page page_words h r x).reserved ≡ h.reserved + 1 =
                ap (λ b. if b then h.reserved + 1 else h.reserved) w in
                omega (arith, a, b),
            no_true (is_too_large page_words x) small.0,
          ))
        where
          small : (not (is_too_large page_words x) ≡ true) × (nat_le h.reserved (data_pages page_words x) ≡ true)
          small = and_split (not (is_too_large page_words x)) (nat_le h.reserved (data_pages page_words x))
              (sym (ap (λ b. if b then not (is_too_large page_words x) && nat_le h.reserved (data_pages page_words x)
              else not (fits_in_page page_words (fill_of h.fills r) (object_words x))) w) ∙ wants)

          were_kept : (m : ℕ) → paged.c g ≡ m → paged.c g ≤ h.reserved
          were_kept zero e = omega (arith, e)
          were_kept (suc m) e =
              let f = paged.full g h there m e in
              let a = (f.kept (ap (is_spread page_words) (same_as (suc m) f).0 ∙ w)).0 in
              omega (arith, a, e)

      full_now : Full code page_words s.plain g (with_page page_words h r x) (suc (paged.c g))
      full_now = split (is_spread page_words x) full_spread full_whole

      below : g < length s.holders
      below = slice_get_within s.holders g h there

      taken : (t : RegionState) → t.plain ≡ s.plain → t.holders ≡ slice_set s.holders g (with_page page_words h r x)
          → t.global_pages + sum_by (λ (i : RegionInfo). i.pages) t.regions ≤ s.global_pages + sum_by
          (λ (i : RegionInfo). i.pages) s.regions + 1 → Paged code page_words t
      taken t ps hs pages =
          record {
            c = with_at paged.c g (suc (paged.c g));
            beyond = λ j l.
                let a = at_other paged.c g (suc (paged.c g)) j (differs j g (omega (arith, l, long, below))) in
                let b = paged.beyond j (omega (arith, l, long)) in
                omega (arith, a, b);
            counted =
                let a = paged.counted in
                let b = ap (λ (p : TacState). sum_by (pages_of page_words) p.memory.heap) ps in
                let d = ap (sum_to (with_at paged.c g (suc (paged.c g)))) long in
                let f = sum_with paged.c g (suc (paged.c g)) (length s.holders) below in
                omega (arith, a, b, d, f, pages);
            full = λ j y q n w. moved_full s.plain t.plain j y y (suc n) (ap (λ p. frames_of p j) ps) refl refl refl
                refl (each j y (sym (ap (λ z. slice_get z j) hs) ∙ q) n w);
            covers = λ j y q. covered j y (sym (ap (λ z. slice_get z j) hs) ∙ q);
          }
        where
          long : length t.holders ≡ length s.holders
          long = ap length hs ∙ length_set s.holders g (with_page page_words h r x)

          at_most_one : (b : Bool) → (if b then h.reserved + 1 else h.reserved) ≤ suc (paged.c g)
          at_most_one true = let a = paged.covers g h there in omega (arith, a)
          at_most_one false = let a = paged.covers g h there in omega (arith, a)

          covered : (j : ℕ) (y : Holder) → slice_get (slice_set s.holders g (with_page page_words h r x)) j ≡ Some y
              → y.reserved ≤ with_at paged.c g (suc (paged.c g)) j
          covered j y q =
              split (nat_eq g j)
              (λ u. subst (λ (z : Holder). z.reserved ≤ with_at paged.c g (suc (paged.c g)) j)
              (same_Some (with_page page_words h r x) y
              (sym (get_set_same s.holders g h (with_page page_words h r x) there)
              ∙ ap (slice_get (slice_set s.holders g (with_page page_words h r x))) (eq_of g j u) ∙ q))
              (subst (λ i. (with_page page_words h r x).reserved ≤ with_at paged.c g (suc (paged.c g)) i) (eq_of g j u)
              (let a = at_same paged.c g (suc (paged.c g)) in let b = at_most_one (is_spread page_words x) in
              omega (arith, a, b))))
              (λ f. let a = paged.covers j y (sym (get_set_other s.holders g j (with_page page_words h r x) f) ∙ q) in
              let b = at_other paged.c g (suc (paged.c g)) j (nat_ne_sym g j f) in omega (arith, a, b))

          each : (j : ℕ) (y : Holder) → slice_get (slice_set s.holders g (with_page page_words h r x)) j ≡ Some y
              → (n : ℕ) → with_at paged.c g (suc (paged.c g)) j ≡ suc n → Full code page_words s.plain j y (suc n)
          each j y q n w =
              split (nat_eq g j)
              (λ u. subst (λ (z : Holder). Full code page_words s.plain j z (suc n))
              (same_Some (with_page page_words h r x) y
              (sym (get_set_same s.holders g h (with_page page_words h r x) there)
              ∙ ap (slice_get (slice_set s.holders g (with_page page_words h r x))) (eq_of g j u) ∙ q))
              (subst (λ i. Full code page_words s.plain i (with_page page_words h r x) (suc n)) (eq_of g j u)
              (subst (Full code page_words s.plain g (with_page page_words h r x))
              (sym (at_same paged.c g (suc (paged.c g)))
              ∙ ap (with_at paged.c g (suc (paged.c g))) (eq_of g j u) ∙ w) full_now)))
              (λ f. paged.full j y (sym (get_set_other s.holders g j (with_page page_words h r x) f) ∙ q) n
              (sym (at_other paged.c g (suc (paged.c g)) j (nat_ne_sym g j f)) ∙ w))

      by : (q : Region) → r ≡ q → Paged code page_words (page_taken s g (with_page page_words h r x) r)
      by GlobalRegion e' = subst (λ z. Paged code page_words (page_taken s g (with_page page_words h r x) z)) (sym e')
          (taken (page_taken s g (with_page page_words h r x) GlobalRegion) refl refl (omega arith))
      by (Numbered n) e' = subst (λ z. Paged code page_words (page_taken s g (with_page page_words h r x) z)) (sym e')
          (taken (page_taken s g (with_page page_words h r x) (Numbered n)) refl refl
          (let a = pages_more s.regions n in omega (arith, a)))

  paged_takes : (g : ℕ) (h : Holder) (frames : List TacFrame) → frames_of s.plain g ≡ frames → slice_get s.holders g
      ≡ Some h → Yields (Paged code page_words) (take_page code page_words s g h frames)
  paged_takes g h [] at e = yields_none
  paged_takes g h (frame ∷ callers) at e = instr (current code frame) refl
    where
      all_four : (a b c d : Bool) → (a && b && c && d) ≡ true → (a ≡ true) × (d ≡ true)
      all_four true true true d q = (refl, q)
      all_four true true false d q = absurd (true≢false (sym q))
      all_four true false c d q = absurd (true≢false (sym q))
      all_four false b c d q = absurd (true≢false (sym q))

      region_of : (i : CodeInstr) → current code frame ≡ Some i → (o : Option Region)
          → making_region (function_at code frame) (top_names h.environments) i.op ≡ o
          → Yields (Paged code page_words) (option_and_then (takes_page code page_words s g h) o)
      region_of i cur None m = yields_none
      region_of i cur (Some r) m = object (next_object code s g) refl
        where
          object : (o : Option Object) → next_object code s g ≡ o
              → Yields (Paged code page_words) (option_and_then (page_before page_words s g h r) o)
          object None q = yields_none
          object (Some x) q =
              yields_where (has_none h.duties && may_go h.offer && is_live s.regions r && wants_page page_words
              h.reserved (fill_of h.fills r) x) _ (λ w.
              let y = all_four (has_none h.duties) (may_go h.offer) (is_live s.regions r)
              (wants_page page_words h.reserved (fill_of h.fills r) x) w in
              yields _ (paged_take g h e frame callers at i cur r m y.0 x q y.1))

      instr : (o : Option CodeInstr) → current code frame ≡ o
          → Yields (Paged code page_words) (option_and_then (page_for code page_words s g h frame) o)
      instr None cur = yields_none
      instr (Some i) cur = region_of i cur (making_region (function_at code frame) (top_names h.environments) i.op) refl

  -- ---- instructions

  paged_one : (g : ℕ) (t : RegionState) → Fine code s → OneDone code page_words s g t → Paged code page_words t
  paged_one g t fine x = subst (Paged code page_words) (sym x.is) done
    where
      below : g < length s.holders
      below = slice_get_within s.holders g x.h x.there

      grows : object_pages page_words s ≤ sum_by (pages_of page_words) x.a.memory.heap
      grows = sum_only_grows (pages_of page_words) (pages_kept_by page_words) (erased code) s.plain.memory
          (x.frame ∷ x.callers) x.a x.acts

      -- the object for which the pages were taken is made: they are paid for from now on
      paid : object_pages page_words s + paged.c g ≤ sum_by (pages_of page_words) x.a.memory.heap
      paid = go (paged.c g) refl
        where
          made_one : (n : ℕ) → Full code page_words s.plain g x.h n
              → object_pages page_words s + n ≤ sum_by (pages_of page_words) x.a.memory.heap
          made_one n f =
              let q : f.frame ∷ f.callers ≡ x.frame ∷ x.callers = sym f.at ∙ ap frames_in x.at in
              let z = ap (sum_by (pages_of page_words)) (made_heap f.next s.plain.memory x.a
              (ap (alone (erased code) s.plain.memory) q ∙ x.acts)) in
              let y = sum_by_push (pages_of page_words) s.plain.memory.heap f.object in
              let l = f.enough in
              omega (arith, y, z, l)

          go : (n : ℕ) → paged.c g ≡ n
              → object_pages page_words s + paged.c g ≤ sum_by (pages_of page_words) x.a.memory.heap
          go zero e = omega (arith, e, grows)
          go (suc n) e = let a = made_one (suc n) (paged.full g x.h x.there n e) in omega (arith, a, e)

      zero_beyond : (j : ℕ) → length s.holders ≤ j → with_at paged.c g 0 j ≡ 0
      zero_beyond j l = let a = at_other paged.c g 0 j (differs j g (omega (arith, l, below))) in let b =
          paged.beyond j l in omega (arith, a, b)

      zero_more : (n : ℕ) → ◌≡◌ {A = ℕ} 0 (suc n) → ⊥
      zero_more n e = omega (arith, e)

      -- nothing is reserved any more
      region_is : Option Region
      region_is = making_region (function_at code x.frame) (top_names x.h.environments) x.instr.op

      given_none : Holder.reserved x.given.0 ≡ 0
      given_none = by (allotted_reserved page_words x.h region_is (new_object s.plain (after s.plain g x.a)) x.given
          x.fits)
        where
          by : (Holder.reserved x.given.0 ≡ 0) ⊎ KeptReserved page_words x.h (new_object s.plain (after s.plain g x.a))
              x.given → Holder.reserved x.given.0 ≡ 0
          by (inl e) = e
          by (inr (e, whole)) = e ∙ go (paged.c g) refl
            where
              go : (n : ℕ) → paged.c g ≡ n → x.h.reserved ≡ 0
              go zero z = let a = paged.covers g x.h x.there in omega (arith, a, z)
              go (suc n) z =
                  let f = paged.full g x.h x.there n z in
                  let q : f.frame ∷ f.callers ≡ x.frame ∷ x.callers = sym f.at ∙ ap frames_in x.at in
                  let made = made_heap f.next s.plain.memory x.a
                  (ap (alone (erased code) s.plain.memory) q ∙ x.acts) in
                  (f.fitting (whole f.object (ap (λ y. slice_get y (length s.plain.memory.heap)) made
                  ∙ get_last s.plain.memory.heap f.object))).1

      none_after : (after_of x).reserved ≡ 0
      none_after = by (after s.plain g x.a).ended
        where
          by : (end : Option End) → Holder.reserved (unless_trapped end x.given.0
              (holder_after code x.given.0 x.frame x.callers x.instr.op (frames_of (after s.plain g x.a) g))) ≡ 0
          by None = after_reserved code x.given.0 x.frame x.callers x.instr.op (frames_of (after s.plain g x.a) g)
              ∙ given_none
          by (Some Exit) = after_reserved code x.given.0 x.frame x.callers x.instr.op
              (frames_of (after s.plain g x.a) g) ∙ given_none
          by (Some (Trap trap place)) = given_none

      covered : (j : ℕ) (y : Holder) → slice_get (slice_set s.holders g (after_of x)
          ++ child_holder code x.given.0 x.instr.op (last_frames (after s.plain g x.a).goroutines)) j ≡ Some y
          → y.reserved ≤ with_at paged.c g 0 j
      covered j y q = by (get_append_cases (slice_set s.holders g (after_of x)) (child_holder code x.given.0 x.instr.op
          (last_frames (after s.plain g x.a).goroutines)) j y q)
        where
          by : (slice_get (slice_set s.holders g (after_of x)) j ≡ Some y) ⊎ ((i : ℕ) × (slice_get
              (child_holder code x.given.0 x.instr.op (last_frames (after s.plain g x.a).goroutines)) i ≡ Some y))
              → y.reserved ≤ with_at paged.c g 0 j
          by (inl e) =
              split (nat_eq g j)
              (λ u. let a = ap Holder.reserved (same_Some (after_of x) y
              (sym (get_set_same s.holders g x.h (after_of x) x.there)
              ∙ ap (slice_get (slice_set s.holders g (after_of x))) (eq_of g j u) ∙ e)) in
              let b = none_after in omega (arith, a, b))
              (λ f. let a = paged.covers j y (sym (get_set_other s.holders g j (after_of x) f) ∙ e) in
              let b = at_other paged.c g 0 j (nat_ne_sym g j f) in omega (arith, a, b))
          by (inr (i, e)) =
              let a = child_reserved code x.given.0 x.instr.op (last_frames (after s.plain g x.a).goroutines) i y e in
              omega (arith, a)

      done : Paged code page_words (instructed_with code s g x.frame x.callers x.instr (after s.plain g x.a) x.given)
      done =
          record {
            c = with_at paged.c g 0;
            beyond = λ j l. zero_beyond j (let a = length-append (slice_set s.holders g (after_of x))
                (child_holder code x.given.0 x.instr.op (last_frames (after s.plain g x.a).goroutines)) in let b =
                length_set s.holders g (after_of x) in omega (arith, l, a, b));
            counted = let a = paged.counted in let b = sum_with paged.c g 0 (length s.holders) below in let d =
                sum_beyond (with_at paged.c g 0) (length s.holders)
                (length (slice_set s.holders g (after_of x) ++ child_holder code x.given.0 x.instr.op
                (last_frames (after s.plain g x.a).goroutines)))
                (let a = length-append (slice_set s.holders g (after_of x))
                (child_holder code x.given.0 x.instr.op (last_frames (after s.plain g x.a).goroutines)) in let b =
                length_set s.holders g (after_of x) in omega (arith, a, b)) zero_beyond in let p = paid in
                omega (arith, a, b, d, p);
            full = full;
            covers = covered;
          }
        where
          full : (j : ℕ) (y : Holder) → slice_get (slice_set s.holders g
              (unless_trapped (after s.plain g x.a).ended x.given.0
              (holder_after code x.given.0 x.frame x.callers x.instr.op (frames_of (after s.plain g x.a) g)))
              ++ child_holder code x.given.0 x.instr.op (last_frames (after s.plain g x.a).goroutines)) j ≡ Some y
              → (m : ℕ) → with_at paged.c g 0 j ≡ suc m → Full code page_words
              (instructed_with code s g x.frame x.callers x.instr (after s.plain g x.a) x.given).plain j y (suc m)
          full j y q m w =
              split (nat_eq j g) (λ u. absurd (zero_more m (sym (ap (λ b. if b then 0 else paged.c j) u) ∙ w)))
              (λ n. other n)
            where
              other : nat_eq j g ≡ false → Full code page_words
                  (instructed_with code s g x.frame x.callers x.instr (after s.plain g x.a) x.given).plain j y (suc m)
              other n =
                  let cj : paged.c j ≡ suc m = sym (at_other paged.c g 0 j n) ∙ w in
                  let l : j < length s.holders = within (nat_lt j (length s.holders)) refl cj in
                  let old : slice_get s.holders j ≡ Some y = sym
                  (get_set_other s.holders g j (after_of x) (nat_ne_sym j g n))
                  ∙ sym (get_append_left (slice_set s.holders g (after_of x))
                  (child_holder code x.given.0 x.instr.op (last_frames (after s.plain g x.a).goroutines)) j
                  (let b = length_set s.holders g (after_of x) in omega (arith, b, l))) ∙ q in
                  moved_full s.plain (instructed_with code s g x.frame x.callers x.instr (after s.plain g x.a)
                  x.given).plain j y y (suc m)
                  (ap frames_in (get_append_left (slice_set s.plain.goroutines g x.a.frames) x.a.started j
                  (let b = length_set s.plain.goroutines g x.a.frames in let c = fine.as_many in
                  omega (arith, b, c, l)) ∙ get_set_other s.plain.goroutines g j x.a.frames (nat_ne_sym j g n)))
                  refl refl refl refl (paged.full j y old m cj)
                where
                  lt_of : (a b : ℕ) → nat_lt a b ≡ true → a < b
                  lt_of a b e = grind (arith, nat_tests)

                  ge_of : (a b : ℕ) → nat_lt a b ≡ false → b ≤ a
                  ge_of a b e = grind (arith, nat_tests)

                  within : (b : Bool) → nat_lt j (length s.holders) ≡ b → paged.c j ≡ suc m → j < length s.holders
                  within true e c = lt_of j (length s.holders) e
                  within false e c = let a = paged.beyond j (ge_of j (length s.holders) e) in
                      absurd (omega (arith, a, c))

  -- a goroutine whose next instruction makes no object has taken no page in advance; so at a meeting both sides have none
  not_full : (g : ℕ) (h : Holder) (frame : TacFrame) (callers : List TacFrame) (instr : CodeInstr) → frames_of s.plain g
      ≡ frame ∷ callers → current code frame ≡ Some instr → ((f : Option CodeFn) (names : Bindings)
      → making_region f names instr.op ≡ None) → (n : ℕ) → Full code page_words s.plain g h n → ⊥
  not_full g h frame callers instr at cur none n f = clash
      (sym (none (function_at code f.frame) (top_names h.environments))
      ∙ ap (λ (y : CodeInstr). making_region (function_at code f.frame) (top_names h.environments) y.op) (sym i)
      ∙ f.making)
    where
      clash : None ≡ Some f.region → ⊥
      clash e = cc

      i : f.instr ≡ instr
      i = same_Some f.instr instr (sym f.cur ∙ ap (current code)
          (head_is f.frame frame f.callers callers (sym f.at ∙ at)) ∙ cur)

  paged_meet : (r u : ℕ) (t : RegionState) → MeetDone code s r u t → Paged code page_words t
  paged_meet r u t x =
      record {
        c = paged.c;
        beyond = λ j l. paged.beyond j (let a = long in omega (arith, a, l));
        counted =
            let a = paged.counted in
            let b = ap (λ (p : TacState). sum_by (pages_of page_words) p.memory.heap) x.plain in
            let d = ap (sum_to paged.c) long in
            let e = pages in
            omega (arith, a, b, d, e);
        full = λ j y q n w. full j y (sym (ap (λ z. slice_get z j) x.holders) ∙ q) n w;
        covers = λ j y q. covered j y (sym (ap (λ z. slice_get z j) x.holders) ∙ q);
      }
    where
      pages : t.global_pages + sum_by (λ (i : RegionInfo). i.pages) t.regions
          ≡ s.global_pages + sum_by (λ (i : RegionInfo). i.pages) s.regions
      pages = ap (λ z. z + sum_by (λ (i : RegionInfo). i.pages) t.regions) x.global_pages
          ∙ ap (λ z. s.global_pages + sum_by (λ (i : RegionInfo). i.pages) z) x.regions

      long : length t.holders ≡ length s.holders
      long = ap length x.holders ∙ length_set (slice_set s.holders r (gone_on (receive_goes x.receives x.v) x.h)) u _
          ∙ length_set s.holders r (gone_on (receive_goes x.receives x.v) x.h)

      covered : (j : ℕ) (y : Holder) → slice_get (slice_set (slice_set s.holders r
          (gone_on (receive_goes x.receives x.v) x.h)) u (record (gone_on (send_goes x.sends) x.k)
          { offer = taken_offer x.k.offer })) j ≡ Some y → y.reserved ≤ paged.c j
      covered j y q =
          split (nat_eq u j)
          (λ e. subst (λ i. y.reserved ≤ paged.c i) (eq_of u j e)
          (let a = ap Holder.reserved (same_Some _ y (sym (get_set_there (slice_set s.holders r
          (gone_on (receive_goes x.receives x.v) x.h)) u _ (let a = length_set s.holders r
          (gone_on (receive_goes x.receives x.v) x.h) in let b = slice_get_within s.holders u x.k x.there_k in
          omega (arith, a, b))) ∙ ap (slice_get (slice_set (slice_set s.holders r
          (gone_on (receive_goes x.receives x.v) x.h)) u (record (gone_on (send_goes x.sends) x.k)
          { offer = taken_offer x.k.offer }))) (eq_of u j e) ∙ q)) in
          let b = paged.covers u x.k x.there_k in omega (arith, a, b)))
          (λ n. split (nat_eq r j)
          (λ e. subst (λ i. y.reserved ≤ paged.c i) (eq_of r j e)
          (let a = ap Holder.reserved (same_Some (gone_on (receive_goes x.receives x.v) x.h) y
          (sym (get_set_same s.holders r x.h (gone_on (receive_goes x.receives x.v) x.h) x.there_h)
          ∙ ap (slice_get (slice_set s.holders r (gone_on (receive_goes x.receives x.v) x.h))) (eq_of r j e)
          ∙ sym (get_set_other (slice_set s.holders r (gone_on (receive_goes x.receives x.v) x.h)) u j _ n) ∙ q)) in
          let b = paged.covers r x.h x.there_h in omega (arith, a, b)))
          (λ m. paged.covers j y (sym (get_set_other s.holders r j (gone_on (receive_goes x.receives x.v) x.h) m)
          ∙ sym (get_set_other (slice_set s.holders r (gone_on (receive_goes x.receives x.v) x.h)) u j _ n) ∙ q)))

      not_r : (n : ℕ) → paged.c r ≡ suc n → ⊥
      not_r n w = not_full r x.h x.receives.frame x.receives.callers x.receives.instr
          (ap frames_in x.at_r ∙ x.receives.at) x.receives.cur (λ f names. ap (making_region f names) x.receives.is)
          (suc n) (paged.full r x.h x.there_h n w)

      not_u : (n : ℕ) → paged.c u ≡ suc n → ⊥
      not_u n w = not_full u x.k x.sends.frame x.sends.callers x.sends.instr (ap frames_in x.at_u ∙ x.sends.at)
          x.sends.cur (λ f names. ap (making_region f names) x.sends.is) (suc n)
          (paged.full u x.k x.there_k n w)

      full : (j : ℕ) (y : Holder) → slice_get (slice_set (slice_set s.holders r
          (gone_on (receive_goes x.receives x.v) x.h)) u (record (gone_on (send_goes x.sends) x.k)
          { offer = taken_offer x.k.offer })) j ≡ Some y → (i : ℕ) → paged.c j ≡ suc i
          → Full code page_words t.plain j y (suc i)
      full j y q i w =
          split (nat_eq u j)
          (λ e. absurd (not_u i (ap paged.c (eq_of u j e) ∙ w)))
          (λ n. split (nat_eq r j)
          (λ e. absurd (not_r i (ap paged.c (eq_of r j e) ∙ w)))
          (λ m. moved_full s.plain t.plain j y y (suc i) (ap (λ p. frames_of p j) x.plain
          ∙ ap frames_in (get_set_other (slice_set s.plain.goroutines r (x.go_on x.v)) u j x.next n
          ∙ get_set_other s.plain.goroutines r j (x.go_on x.v) m)) refl refl refl refl
          (paged.full j y (sym (get_set_other s.holders r j (gone_on (receive_goes x.receives x.v) x.h) m)
          ∙ sym (get_set_other (slice_set s.holders r (gone_on (receive_goes x.receives x.v) x.h)) u j _ n) ∙ q)
          i w)))

  paged_step : (event : Event) → Fine code s → Yields (Paged code page_words) (region_step code page_words s event)
  paged_step (Instruct (One g)) fine = yields_from _ (one_done code page_words s g) (λ t x. paged_one g t fine x)
  paged_step (Instruct (Meet r u)) fine = yields_from _ (meet_done code page_words s r u) (λ t x. paged_meet r u t x)
  paged_step (Attend g) fine = yields_at (slice_get s.holders g) (λ (h : Holder). attend s g h h.duties)
      (λ h e. paged_attend g h e)
  paged_step (TakePage g) fine = yields_at (slice_get s.holders g)
      (λ h. take_page code page_words s g h (frames_of s.plain g)) (λ h e. paged_takes g h (frames_of s.plain g) refl e)
  paged_step (MakeOffer g) fine = yields_at (slice_get s.holders g) (λ h. make_offer code s g h (frames_of s.plain g))
      (λ h e. paged_make g h (frames_of s.plain g) e)
  paged_step (Acknowledge g) fine = yields_at (slice_get s.holders g) (λ (h : Holder). acknowledge s g h h.offer)
      (λ h e. paged_acknowledge g h h.offer e)
  paged_step (Finish limit) fine = yields _ (paged_finish limit)

record FinePaged (code : Code) (page_words : ℕ) (s : RegionState) : Type 0 where
  fine : Fine code s
  paged : Paged code page_words s
  running : IsRunning s

-- ---- the most pages of one object

-- of an object that one of the first n goroutines makes next
next_within : (code : Code) (page_words : ℕ) (s : RegionState) (g n : ℕ) → g < n
    → pages_before page_words (next_object code s g) ≤ most_next code page_words s n
next_within code page_words s g zero l = absurd (omega (arith, l))
next_within code page_words s g (suc n) l = split (nat_eq g n) (λ e. here (eq_of g n e))
    (λ f. there f (λ k. next_within code page_words s g n k))
  where
    here : g ≡ n → pages_before page_words (next_object code s g) ≤ most_next code page_words s (suc n)
    here e =
        let a = le-max_left (pages_before page_words (next_object code s n)) (most_next code page_words s n) in
        let b = ap (λ j. pages_before page_words (next_object code s j)) e in
        omega (arith, a, b)

    below : (g n : ℕ) → nat_eq g n ≡ false → g < suc n → g < n
    below g n f l = grind arith

    there : nat_eq g n ≡ false
        → (g < n → pages_before page_words (next_object code s g) ≤ most_next code page_words s n)
        → pages_before page_words (next_object code s g) ≤ most_next code page_words s (suc n)
    there f before =
        let a = le-max_right (pages_before page_words (next_object code s n)) (most_next code page_words s n) in
        let b = before (below g n f l) in
        omega (arith, a, b)

-- a goroutine that has taken pages for an object makes that object next
full_next : (code : Code) (page_words : ℕ) (s : RegionState) (g : ℕ) (h : Holder) (n : ℕ) → IsRunning s
    → (f : Full code page_words s.plain g h n) → next_object code s g ≡ Some f.object
full_next code page_words s g h n running f =
    let a = MakesNext.acted f.next s.plain.memory in
    ap (object_made s) (one_step code s.plain g (f.frame ∷ f.callers) running
    (frames_some (slice_get s.plain.goroutines g) f.frame f.callers f.at) ∙ ap (option_map (after s.plain g)) a.1)
    ∙ ap (λ z. slice_get z (length s.plain.memory.heap)) a.2 ∙ get_last s.plain.memory.heap f.object

-- each goroutine has taken no more pages than the most that one object has
at_most : (code : Code) (page_words : ℕ) (s : RegionState) (x : FinePaged code page_words s) (g : ℕ)
    → g < length s.holders → Paged.c x.paged g ≤ most_pages code page_words s
at_most code page_words s x g l = go (Paged.c x.paged g) refl
  where
    h : (h : Holder) × (slice_get s.holders g ≡ Some h)
    h = get_some s.holders g l

    go : (n : ℕ) → Paged.c x.paged g ≡ n → Paged.c x.paged g ≤ most_pages code page_words s
    go zero e = omega (arith, e)
    go (suc n) e =
        let f = Paged.full x.paged g h.0 h.1 n e in
        let a = next_within code page_words s g (length s.plain.goroutines)
        (let b = (FinePaged.fine x).as_many in omega (arith, b, l)) in
        let b = ap (pages_before page_words) (full_next code page_words s g h.0 (suc n) x.running f) in
        let d = le-max_right (most_of page_words s.plain.memory.heap)
        (most_next code page_words s (length s.plain.goroutines)) in
        let k = f.enough in
        omega (arith, a, b, d, e, k)

-- ---- runs

runs_paged : (code : Code) (page_words : ℕ) (events : List Event) (s : RegionState) → IsChecked code → Ascends code
    → region_run code page_words events ≡ Some s → FinePaged code page_words s
runs_paged code page_words events s checked written run =
    run_keeps code page_words (FinePaged code page_words) step events (region_start code) s start run
  where
    step : (t : RegionState) (e : Event) → FinePaged code page_words t
        → Yields (FinePaged code page_words) (region_step code page_words t e)
    step t e x = all (region_step code page_words t e) (fine_step code page_words t x.fine e checked written)
        (paged_step code page_words t x.paged e x.fine) (running_step code page_words t e x.running)
      where
        all : (o : Option RegionState) → Yields (Fine code) o → Yields (Paged code page_words) o → Yields IsRunning o
            → Yields (FinePaged code page_words) o
        all None a b d = yields_none
        all (Some u) a b d = yields u (record { fine = a.fact; paged = b.fact; running = d.fact })

    zero_more : (n : ℕ) → ◌≡◌ {A = ℕ} 0 (suc n) → ⊥
    zero_more n e = omega (arith, e)

    none : (g : ℕ) (h : Holder) → slice_get (region_start code).holders g ≡ Some h → h.reserved ≤ 0
    none zero h e = let a = ap Holder.reserved (same_Some _ h e) in omega (arith, a)
    none (suc g) h e = cc

    start : FinePaged code page_words (region_start code)
    start = record {
      fine = fine_start code checked written;
      paged = record {
        c = λ g. 0;
        beyond = λ g l. refl;
        counted = omega arith;
        full = λ g h e n w. absurd (zero_more n w);
        covers = none;
      };
      running = refl;
    }

-- no more pages are taken than are enough for what was made and is made next
pub pages_always : (code : Code) (page_words : ℕ) (events : List Event) (s : RegionState) → IsChecked code
    → Ascends code → region_run code page_words events ≡ Some s
    → (counts_of s).taken ≤ enough_pages code page_words s
pages_always code page_words events s checked written run =
    let x = runs_paged code page_words events s checked written run in
    let a = Paged.counted (FinePaged.paged x) in
    let b = sum_small (Paged.c (FinePaged.paged x)) (most_pages code page_words s) (length s.holders)
    (at_most code page_words s x) in
    let d = ap (λ n. most_pages code page_words s * n) (FinePaged.fine x).as_many in
    omega (arith, a, b, d)

-- reserved pages are for the object that is made next
pub reserved_for_next : ReservedForNext
reserved_for_next code page_words events s g h checked written run there some =
    by (runs_paged code page_words events s checked written run)
  where
    by : FinePaged code page_words s → IsReserved code page_words s g h
    by x = go (Paged.c x.paged g) refl
      where
        go : (n : ℕ) → Paged.c x.paged g ≡ n → IsReserved code page_words s g h
        go zero e = absurd (let a = Paged.covers x.paged g h there in omega (arith, a, e, some))
        go (suc n) e = of (Paged.full x.paged g h there n e)
          where
            of : Full code page_words s.plain g h (suc n) → IsReserved code page_words s g h
            of f = split (is_spread page_words f.object) spread
                (λ w. absurd (let a = (f.fitting w).1 in omega (arith, a, some)))
              where
                spread : is_spread page_words f.object ≡ true → IsReserved code page_words s g h
                spread w = record {
                  none = f.none;
                  object = f.object;
                  next = full_next code page_words s g h (suc n) x.running f;
                  spread = w;
                  small = (f.kept w).1;
                  within =
                      let a = Paged.covers x.paged g h there in
                      let b = f.enough in
                      omega (arith, a, b, e);
                }
