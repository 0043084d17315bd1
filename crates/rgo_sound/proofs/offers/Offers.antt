-- Offers: an open one is that of the send of its goroutine, and one that was taken is on a live channel.
-- The goroutine of an open offer can still do one thing by itself: its send traps if the channel was closed in the meantime. It never
-- goes through by itself, since a channel without a buffer stays one (`Steady`, `sends_trap`). When an offer is taken, the variable of
-- the channel is live, so the sender has a stake in its region; until the acknowledgement the sender has no step that could end it.
-- Offers need all other parts of the invariant, so the whole of it is put together at the end of this file (`all_good_step`).
use Rattle.std.proofs.Common.{◌≡◌, ℕ, zero, suc, ◌+◌, ◌==◌, Bool, true, false, List, [], ◌∷◌, ◌++◌, map, length, Option}
use Rattle.std.proofs.Common.{Some, None, refl, sym, ap, ◌∙◌, subst, nat_eq, nat_lt, if◌then◌else◌, arith, true≢false}
use Rattle.std.proofs.Common.{slice_get, slice_set, option_map, option_and_then, ◌⊎◌, inl, inr, Contains}
use Rattle.std.proofs.lemmas.Option.{slice_get_within, same_Some}
use Rattle.std.specs.Prelude.{ℤ, pos, negsuc, Result, Ok, Err}
use Rattle.rgo_sound.proofs.Places.{contains_here, get_append_left, get_append_place, get_set_other, get_set_same}
use Rattle.rgo_sound.proofs.Places.{length_set, head_is}
use Rattle.rgo_sound.proofs.Tests.{split, eq_of}
use Rattle.rgo_sound.proofs.names.Stakes.{name_staked, duty_staked, has_stake}
use Rattle.rgo_sound.proofs.plain.Steps.{Always, Yields, yields, yields_none, yields_if, yields_then, yields_is}
use Rattle.rgo_sound.proofs.plain.Steps.{yields_at, yields_from, yields_where}
use Rattle.rgo_sound.proofs.pointers.Variables.{reads_home}
use Rattle.rgo_sound.proofs.steps.OneStep.{Ready, ready_is, OneDone, one_done, MeetDone, meet_done, current_erased, gone_on}
use Rattle.rgo_sound.proofs.steps.OneStep.{receive_goes, send_goes}
use Rattle.rgo_sound.proofs.pointers.Steps.{Top, top_of, good_step, good_start}
use Rattle.rgo_sound.proofs.RunLemmas.{run_keeps}
use Rattle.rgo_code.specs.Checked.{IsChecked}
use Rattle.rgo_code.specs.Code.{Branch, Call, Code, CodeFn, CodeInstr, CodeOp, Do, Go, Jump, Print, Return}
use Rattle.rgo_code.specs.Erasure.{erased, erased_instr, erased_op}
use Rattle.rgo_code.specs.NameRules.{Ascends}
use Rattle.rgo_code.specs.Names.{class_of}
use Rattle.rgo_tac.specs.Code.{TacFn}
use Rattle.rgo_tac.specs.Flow.{reads}
use Rattle.rgo_tac.specs.Steps.{destination_type}
use Rattle.rgo_machine.specs.declared.picks.End.{End}
use Rattle.rgo_machine.specs.declared.picks.End.TheVariants.{Exit, Trap}
use Rattle.rgo_machine.specs.declared.picks.Pick.TheVariants.{Meet, One}
use Rattle.rgo_memory.specs.Channels.{close, is_meeting_at, receive, received, send, sent, shut}
use Rattle.rgo_memory.specs.Effects.{Does, Traps, Outcome, Effect, answered, nothing, in_memory, to_object, at_object}
use Rattle.rgo_memory.specs.Effects.{in_memory_if_ready, to_object_if_ready, at_object_if_ready}
use Rattle.rgo_memory.specs.Elements.{cell_put, element_at, length_of, put, put_in}
use Rattle.rgo_memory.specs.Fields.{load, or_nil, store, store_outcome}
use Rattle.rgo_memory.specs.Making.{made, made_struct, sized}
use Rattle.rgo_memory.specs.Memory.{Channel, Memory, Object, SliceObject, StructObject, with_object}
use Rattle.rgo_memory.specs.Operators.{binary_of, inverted, negated_value, nil_test}
use Rattle.rgo_memory.specs.Perform.{on_none, on_one, on_three, on_two, perform}
use Rattle.rgo_memory.specs.Values.{zero_of}
use Rattle.rgo_memory.specs.declared.traps.Trap.{Trap as TrapKind}
use Rattle.rgo_memory.specs.declared.traps.Trap.TheVariants.{SendClosed, IndexRange}
use Rattle.rgo_memory.specs.declared.values.Value.{Value}
use Rattle.rgo_region_machine.specs.Duties.{attend, attended, duty_done, may_go, protected, removal, shared}
use Rattle.rgo_region_machine.specs.Duties.{unprotected, with_protection}
use Rattle.rgo_region_machine.specs.Instructions.{child_holder, holder_after, instructed_with, is_ready, last_frames}
use Rattle.rgo_region_machine.specs.Instructions.{standing_at, taken_offer, unless_trapped}
use Rattle.rgo_region_machine.specs.Machine.{Acknowledge, Attend, Event, Finish, Instruct, MakeOffer, TakePage}
use Rattle.rgo_region_machine.specs.Machine.{finished, page_for, page_taken, region_run, region_start, region_step}
use Rattle.rgo_region_machine.specs.Machine.{take_page, takes_page, page_before}
use Rattle.rgo_region_machine.specs.Objects.{makes_object, making_region, target_class, touched, touched_by}
use Rattle.rgo_region_machine.specs.Objects.{with_page}
use Rattle.rgo_region_machine.specs.Offers.{acknowledge, make_offer, offer_for, offered, offered_channel, open_channel}
use Rattle.rgo_region_machine.specs.Owed.{current, function_at}
use Rattle.rgo_region_machine.specs.Regions.{Bindings, bound, class_region, removed_once, unbind, without}
use Rattle.rgo_region_machine.specs.States.{Create, Duty, EndBase, Holder, NoOffer, Offer, Protect, RegionState, Remove}
use Rattle.rgo_region_machine.specs.States.{Share, Standing, Taken, Unprotect, frames_in, frames_of, top_names}
use Rattle.rgo_region_machine.specs.States.{with_top}
use Rattle.rgo_region_machine.specs.declared.limits.Limit.{Limit}
use Rattle.rgo_region_machine.specs.declared.regions.Region.{Region}
use Rattle.rgo_region_machine.specs.declared.regions.Region.TheVariants.{Global as GlobalRegion, Numbered}
use Rattle.rgo_sound.proofs.steps.Acting.{after, Acted, act, act_at, alone, call, effected, performed, silent, start}
use Rattle.rgo_sound.proofs.steps.Acting.{trap_place}
use Rattle.rgo_sound.specs.Good.{AllGood, Good, StartIsGood, StepsKeepGood}
use Rattle.rgo_sound.specs.Invariant.{Fine, GoodHolder}
use Rattle.rgo_sound.specs.NextNames.{HasStake, InstructionNames, NamesOnlyLive, NextNames}
use Rattle.rgo_sound.specs.Offers.{IsUnbuffered, OfferFits, OffersFit, StandsAtSend, channel_capacity}
use Rattle.rgo_sound.specs.Stakes.{is_in}
use Rattle.rgo_sound.specs.Values.{FramesLead, LeadsHome, ValuesStay}
use Rattle.rgo_tac.specs.Frames.{TacFrame, value_at, operand_values}
use Rattle.rgo_tac.specs.Tac.{TacState}
use Rattle.rgo_tac.specs.declared.regions.Class.{Class}
use Rattle.rgo_tac.specs.declared.regions.Class.TheVariants.{Global, Name, NoClass}
use Rattle.rgo_typed.specs.declared.actions.Action.{Action}
use Rattle.rgo_typed.specs.declared.actions.Action.TheVariants.{At, Binary, Bool as BoolConstant, Chan, Close, Copy}
use Rattle.rgo_typed.specs.declared.actions.Action.TheVariants.{Get, Int, IsNil, Len, Load, Neg, New, Nil, Not, Put}
use Rattle.rgo_typed.specs.declared.actions.Action.TheVariants.{Recv, Send, Set, Slice, Store}
use Rattle.rgo_typed.specs.declared.programs.Struct.{Struct}
use Rattle.rgo_typed.specs.declared.types.Type.{«Type»}
use Rattle.rgo_memory.specs.declared.values.Value.TheVariants as value

-- ---- an operation on one object keeps its capacity

abbrev KeepsCapacity : Object → Outcome Object → Type 0
KeepsCapacity old (Does new v) = channel_capacity new ≡ channel_capacity old
KeepsCapacity old (Traps trap) = Unit {0}

stored_keeps : (k : ℕ) (v : Value) (old : Object) → KeepsCapacity old (store_outcome k v old)
stored_keeps k v (StructObject cells) = refl
stored_keeps k v (SliceObject cells) = refl
stored_keeps k v (Channel capacity queue closed) = refl

cell_put_keeps : (cells : List Value) (i : ℤ) (v : Value) → KeepsCapacity (SliceObject cells) (cell_put cells i v)
cell_put_keeps cells (negsuc n) v = tt
cell_put_keeps cells (pos i) v = by (nat_lt i (length cells))
  where
    by : (b : Bool) → KeepsCapacity (SliceObject cells) (if b then Does (SliceObject (slice_set cells i v)) value.Nil
        else Traps IndexRange)
    by true = refl
    by false = tt

put_keeps : (i : ℤ) (v : Value) (old : Object) → KeepsCapacity old (put_in i v old)
put_keeps i v (StructObject cells) = refl
put_keeps i v (SliceObject cells) = cell_put_keeps cells i v
put_keeps i v (Channel capacity queue closed) = refl

received_keeps : (blank : Value) (old : Object) → Always (KeepsCapacity old) (received blank old)
received_keeps blank (StructObject cells) = refl
received_keeps blank (SliceObject cells) = refl
received_keeps blank (Channel capacity (v ∷ queue) closed) = refl
received_keeps blank (Channel capacity [] true) = refl
received_keeps blank (Channel capacity [] false) = tt

sent_keeps : (v : Value) (old : Object) → Always (KeepsCapacity old) (sent v old)
sent_keeps v (StructObject cells) = refl
sent_keeps v (SliceObject cells) = refl
sent_keeps v (Channel capacity queue true) = tt
sent_keeps v (Channel capacity queue false) = by (nat_lt (length queue) capacity)
  where
    by : (b : Bool) → Always (KeepsCapacity (Channel capacity queue false))
        (if b then Some (Does (Channel capacity (queue ++ v ∷ []) false) value.Nil) else None)
    by true = refl
    by false = tt

shut_keeps : (old : Object) → KeepsCapacity old (shut old)
shut_keeps (StructObject cells) = refl
shut_keeps (SliceObject cells) = refl
shut_keeps (Channel capacity queue true) = tt
shut_keeps (Channel capacity queue false) = refl

-- ---- a channel without a buffer stays one

module _ (m : Memory) (b : Bool) where
  -- a channel without a buffer stays one, and the heap grows only if b is true
  abbrev Steady : Effect → Type 0
  Steady (Does m' v) = ((o : ℕ) → IsUnbuffered m o → IsUnbuffered m' o) × (b ≡ false → length m'.heap ≡ length m.heap)
  Steady (Traps trap) = Unit {0}

  stays : (v : Value) → Steady (Does m v)
  stays v = ((λ o u. u), λ f. refl)

  answers : (r : Result Value TrapKind) → Steady (answered m r)
  answers (Ok v) = stays v
  answers (Err trap) = tt

  writes : (o : ℕ) (object old : Object) (v : Value) → slice_get m.heap o ≡ Some old → channel_capacity object
      ≡ channel_capacity old → Steady (Does (with_object m o object) v)
  writes o object old v e same = (keeps, λ f. length_set m.heap o object)
    where
      here : (p : ℕ) (x : Object) → slice_get m.heap p ≡ Some x → channel_capacity x ≡ Some 0 → o ≡ p
          → IsUnbuffered (with_object m o object) p
      here p x q c u = (
        object,
        ap (slice_get (slice_set m.heap o object)) (sym u)
            ∙ get_set_same m.heap o old object e,
        same ∙ ap channel_capacity
            (same_Some old x (sym e ∙ ap (slice_get m.heap) u ∙ q)) ∙ c,
      )

      keeps : (p : ℕ) → IsUnbuffered m p → IsUnbuffered (with_object m o object) p
      keeps p (x, q, c) = split (nat_eq o p) (λ t. here p x q c (eq_of o p t))
          (λ n. (x, get_set_other m.heap o p object n ∙ q, c))

  in_place : (o : ℕ) (old : Object) → slice_get m.heap o ≡ Some old → (x : Outcome Object) → KeepsCapacity old x
      → Steady (in_memory m o x)
  in_place o old e (Does new v) k = writes o new old v e k
  in_place o old e (Traps trap) k = tt

  at_one : (o : ℕ) (f : Object → Outcome Object) → ((old : Object) → KeepsCapacity old (f old))
      → Steady (at_object m o f)
  at_one o f k = go (slice_get m.heap o) refl
    where
      go : (x : Option Object) → slice_get m.heap o ≡ x → Steady (to_object m o f x)
      go None e = stays value.Nil
      go (Some old) e = in_place o old e (f old) (k old)

  at_one_if_ready : (o : ℕ) (f : Object → Option (Outcome Object))
      → ((old : Object) → Always (KeepsCapacity old) (f old)) → Always Steady (at_object_if_ready m o f)
  at_one_if_ready o f k = go (slice_get m.heap o) refl
    where
      ready : (old : Object) → slice_get m.heap o ≡ Some old → (x : Option (Outcome Object))
          → Always (KeepsCapacity old) x → Always Steady (in_memory_if_ready m o x)
      ready old e None k = tt
      ready old e (Some x) k = in_place o old e x k

      go : (x : Option Object) → slice_get m.heap o ≡ x → Always Steady (to_object_if_ready m o f x)
      go None e = stays value.Nil
      go (Some old) e = ready old e (f old) (k old)

  stores : (k : ℕ) (p v : Value) → Steady (store m p k v)
  stores k (value.Int x) v = stays value.Nil
  stores k (value.Bool x) v = stays value.Nil
  stores k value.Nil v = tt
  stores k (value.Object o) v = at_one o (store_outcome k v) (stored_keeps k v)

  puts : (u v w : Value) → Steady (put m u v w)
  puts (value.Int n) v w = stays value.Nil
  puts (value.Bool n) v w = stays value.Nil
  puts value.Nil (value.Int i) w = tt
  puts value.Nil (value.Bool n) w = stays value.Nil
  puts value.Nil value.Nil w = stays value.Nil
  puts value.Nil (value.Object n) w = stays value.Nil
  puts (value.Object o) (value.Int i) w = at_one o (put_in i w) (put_keeps i w)
  puts (value.Object o) (value.Bool n) w = stays value.Nil
  puts (value.Object o) value.Nil w = stays value.Nil
  puts (value.Object o) (value.Object n) w = stays value.Nil

  receives : (v blank : Value) → Always Steady (receive m v blank)
  receives (value.Int x) blank = stays value.Nil
  receives (value.Bool x) blank = stays value.Nil
  receives value.Nil blank = tt
  receives (value.Object o) blank = at_one_if_ready o (received blank) (received_keeps blank)

  sends : (v w : Value) → Always Steady (send m v w)
  sends (value.Int x) w = stays value.Nil
  sends (value.Bool x) w = stays value.Nil
  sends value.Nil w = tt
  sends (value.Object o) w = at_one_if_ready o (sent w) (sent_keeps w)

  closes : (v : Value) → Steady (close m v)
  closes (value.Int x) = stays value.Nil
  closes (value.Bool x) = stays value.Nil
  closes value.Nil = tt
  closes (value.Object o) = at_one o shut shut_keeps

  silent_steady : (e : Effect) → Steady e → Steady (silent e)
  silent_steady (Does m' v) h = h
  silent_steady (Traps trap) h = tt

  silent_always : (e : Option Effect) → Always Steady e → Always Steady (option_map silent e)
  silent_always None h = tt
  silent_always (Some e) h = silent_steady e h

  -- actions by how many operands they take; with another number of them they do nothing
  module _ (structs : List Struct) (a : Action) (ty : «Type») where
    takes_none : Steady (on_none structs a m) → ((v : Value) → on_one a ty v m ≡ nothing m)
        → ((v w : Value) → on_two a v w m ≡ nothing m) → ((u v w : Value) → on_three a u v w m ≡ nothing m)
        → (vs : List Value) → Steady (perform structs a ty vs m)
    takes_none h one two three [] = h
    takes_none h one two three (v ∷ []) = subst Steady (sym (one v)) (stays value.Nil)
    takes_none h one two three (v ∷ w ∷ []) = subst Steady (sym (two v w)) (stays value.Nil)
    takes_none h one two three (u ∷ v ∷ w ∷ []) = subst Steady (sym (three u v w)) (stays value.Nil)
    takes_none h one two three (u ∷ v ∷ w ∷ x ∷ vs) = stays value.Nil

    takes_one : on_none structs a m ≡ nothing m → ((v : Value) → Steady (on_one a ty v m))
        → ((v w : Value) → on_two a v w m ≡ nothing m) → ((u v w : Value) → on_three a u v w m ≡ nothing m)
        → (vs : List Value) → Steady (perform structs a ty vs m)
    takes_one none h two three [] = subst Steady (sym none) (stays value.Nil)
    takes_one none h two three (v ∷ []) = h v
    takes_one none h two three (v ∷ w ∷ []) = subst Steady (sym (two v w)) (stays value.Nil)
    takes_one none h two three (u ∷ v ∷ w ∷ []) = subst Steady (sym (three u v w)) (stays value.Nil)
    takes_one none h two three (u ∷ v ∷ w ∷ x ∷ vs) = stays value.Nil

    takes_two : on_none structs a m ≡ nothing m → ((v : Value) → on_one a ty v m ≡ nothing m)
        → ((v w : Value) → Steady (on_two a v w m)) → ((u v w : Value) → on_three a u v w m ≡ nothing m)
        → (vs : List Value) → Steady (perform structs a ty vs m)
    takes_two none one h three [] = subst Steady (sym none) (stays value.Nil)
    takes_two none one h three (v ∷ []) = subst Steady (sym (one v)) (stays value.Nil)
    takes_two none one h three (v ∷ w ∷ []) = h v w
    takes_two none one h three (u ∷ v ∷ w ∷ []) = subst Steady (sym (three u v w)) (stays value.Nil)
    takes_two none one h three (u ∷ v ∷ w ∷ x ∷ vs) = stays value.Nil

    takes_three : on_none structs a m ≡ nothing m → ((v : Value) → on_one a ty v m ≡ nothing m)
        → ((v w : Value) → on_two a v w m ≡ nothing m) → ((u v w : Value) → Steady (on_three a u v w m))
        → (vs : List Value) → Steady (perform structs a ty vs m)
    takes_three none one two h [] = subst Steady (sym none) (stays value.Nil)
    takes_three none one two h (v ∷ []) = subst Steady (sym (one v)) (stays value.Nil)
    takes_three none one two h (v ∷ w ∷ []) = subst Steady (sym (two v w)) (stays value.Nil)
    takes_three none one two h (u ∷ v ∷ w ∷ []) = h u v w
    takes_three none one two h (u ∷ v ∷ w ∷ x ∷ vs) = stays value.Nil

module _ (m : Memory) where
  makes : (object : Object) → Steady m true (made m object)
  makes object = ((λ p u. keeps p u.0 u.1 u.2), λ f. absurd (true≢false f))
    where
      keeps : (p : ℕ) (x : Object) → slice_get m.heap p ≡ Some x → channel_capacity x ≡ Some 0
          → IsUnbuffered (record m { heap = m.heap ++ object ∷ [] }) p
      keeps p x q c = (x, get_append_left m.heap (object ∷ []) p (slice_get_within m.heap p x q) ∙ q, c)

  news : (o : Option Struct) → Steady m true (made_struct o m)
  news None = stays m true value.Nil
  news (Some s) = makes (StructObject (map zero_of s.fields))

  sizes : (object : ℕ → Object) (v : Value) → Steady m true (sized object v m)
  sizes object (value.Int (pos n)) = makes (object n)
  sizes object (value.Int (negsuc n)) = tt
  sizes object (value.Bool b) = stays m true value.Nil
  sizes object value.Nil = stays m true value.Nil
  sizes object (value.Object o) = stays m true value.Nil

module _ (m : Memory) (structs : List Struct) (ty : «Type») where
  -- each action, with any operands
  steady : (action : Action) (vs : List Value) → Always (Steady m (makes_object action))
      (performed structs action ty vs m)
  steady (Int k) vs = takes_none m false structs (Int k) ty (stays m false (value.Int k)) (λ v. refl) (λ v w. refl)
      (λ u v w. refl) vs
  steady (BoolConstant b) vs = takes_none m false structs (BoolConstant b) ty (stays m false (value.Bool b)) (λ v. refl)
      (λ v w. refl) (λ u v w. refl) vs
  steady Nil vs = takes_none m false structs Nil ty (stays m false value.Nil) (λ v. refl) (λ v w. refl) (λ u v w. refl)
      vs
  steady Copy vs = takes_one m false structs Copy ty refl (λ v. stays m false v) (λ v w. refl) (λ u v w. refl) vs
  steady (Binary op) vs = takes_two m false structs (Binary op) ty refl (λ v. refl)
      (λ v w. answers m false (binary_of op v w)) (λ u v w. refl) vs
  steady Neg vs = takes_one m false structs Neg ty refl (λ v. stays m false (negated_value v)) (λ v w. refl) (λ u v w. refl)
      vs
  steady Not vs = takes_one m false structs Not ty refl (λ v. stays m false (inverted v)) (λ v w. refl) (λ u v w. refl)
      vs
  steady IsNil vs = takes_one m false structs IsNil ty refl (λ v. stays m false (nil_test v)) (λ v w. refl)
      (λ u v w. refl) vs
  steady Len vs = takes_one m false structs Len ty refl (λ v. stays m false (length_of m v)) (λ v w. refl)
      (λ u v w. refl) vs
  steady (Load k) vs = takes_one m false structs (Load k) ty refl (λ v. answers m false (load m v k)) (λ v w. refl)
      (λ u v w. refl) vs
  steady (Store k) vs = takes_two m false structs (Store k) ty refl (λ v. refl) (λ v w. stores m false k v w)
      (λ u v w. refl) vs
  steady At vs = takes_two m false structs At ty refl (λ v. refl) (λ v w. answers m false (element_at m v w))
      (λ u v w. refl) vs
  steady Put vs = takes_three m false structs Put ty refl (λ v. refl) (λ v w. refl) (λ u v w. puts m false u v w) vs
  steady (New n) vs = takes_none m true structs (New n) ty (news m (slice_get structs n)) (λ v. refl) (λ v w. refl)
      (λ u v w. refl) vs
  steady Slice vs = takes_one m true structs Slice ty refl (λ v. sizes m _ v) (λ v w. refl) (λ u v w. refl) vs
  steady Chan vs = takes_one m true structs Chan ty refl (λ v. sizes m _ v) (λ v w. refl) (λ u v w. refl) vs
  steady Recv [] = stays m false value.Nil
  steady Recv (c ∷ []) = receives m false c (zero_of ty)
  steady Recv (c ∷ v ∷ []) = stays m false value.Nil
  steady Recv (c ∷ v ∷ w ∷ []) = stays m false value.Nil
  steady Recv (c ∷ v ∷ w ∷ x ∷ vs) = stays m false value.Nil
  steady Send [] = stays m false value.Nil
  steady Send (c ∷ []) = stays m false value.Nil
  steady Send (c ∷ v ∷ []) = silent_always m false (send m c v) (sends m false c v)
  steady Send (c ∷ v ∷ w ∷ []) = stays m false value.Nil
  steady Send (c ∷ v ∷ w ∷ x ∷ vs) = stays m false value.Nil
  steady Close [] = stays m false value.Nil
  steady Close (c ∷ []) = silent_steady m false (close m c) (closes m false c)
  steady Close (c ∷ v ∷ []) = stays m false value.Nil
  steady Close (c ∷ v ∷ w ∷ []) = stays m false value.Nil
  steady Close (c ∷ v ∷ w ∷ x ∷ vs) = stays m false value.Nil
  steady (Get n) vs = takes_none m false structs (Get n) ty (stays m false (or_nil (slice_get m.variables n)))
      (λ v. refl) (λ v w. refl) (λ u v w. refl) vs
  steady (Set n) vs = takes_one m false structs (Set n) ty refl (λ v. ((λ o u. u), λ f. refl)) (λ v w. refl)
      (λ u v w. refl) vs

-- the instruction makes an object
abbrev pub makes_at : CodeOp → Bool
makes_at (Do to action from removes) = makes_object action
makes_at op = false

-- a channel without a buffer stays one, and the heap grows only if b is true
abbrev pub SteadyActed : Memory → Bool → Acted → Type 0
SteadyActed m b a = ((o : ℕ) → IsUnbuffered m o → IsUnbuffered a.memory o)
    × (b ≡ false → length a.memory.heap ≡ length m.heap)

module _ (code : Code) (m : Memory) where
  effected_steady : (frame : TacFrame) (callers : List TacFrame) (to : Option ℕ) (place : ℕ) (b : Bool) (e : Option Effect)
      → Always (Steady m b) e → Always (SteadyActed m b) (effected m frame callers to place e)
  effected_steady frame callers to place b None h = tt
  effected_steady frame callers to place b (Some (Does m' v)) h = h
  effected_steady frame callers to place b (Some (Traps trap)) h = ((λ o u. u), λ f. refl)

  acts_steady : (op : CodeOp) (place : ℕ) (frame : TacFrame) (callers : List TacFrame)
      → Always (SteadyActed m (makes_at op)) (act (erased code) m (erased_op op) place frame callers)
  acts_steady (Do to action from removes) place frame callers =
      effected_steady frame callers to (trap_place action place) (makes_object action) _
      (steady m code.structs (destination_type (erased code) frame to) action (operand_values frame from))
  acts_steady (Call to n from passes protects removes) place frame callers = go (slice_get (erased code).functions n)
    where
      go : (o : Option TacFn) → Always (SteadyActed m false) (call m frame callers n (operand_values frame from) o)
      go None = ((λ o u. u), λ f. refl)
      go (Some fn) = ((λ o u. u), λ f. refl)
  acts_steady (Go n from passes removes) place frame callers = go (slice_get (erased code).functions n)
    where
      go : (o : Option TacFn) → Always (SteadyActed m false) (start m frame callers n (operand_values frame from) o)
      go None = ((λ o u. u), λ f. refl)
      go (Some fn) = ((λ o u. u), λ f. refl)
  acts_steady (Print pieces from removes) place frame callers = ((λ o u. u), λ f. refl)
  acts_steady (Jump j removes) place frame callers = ((λ o u. u), λ f. refl)
  acts_steady (Branch v j removes k others) place frame callers = ((λ o u. u), λ f. refl)
  acts_steady (Return value) place frame [] = ((λ o u. u), λ f. refl)
  acts_steady (Return value) place frame (caller ∷ callers) = ((λ o u. u), λ f. refl)

  -- an instruction keeps channels without a buffer, and the heap grows only if the instruction makes an object
  pub alone_steady : (frame : TacFrame) (callers : List TacFrame) (instr : CodeInstr) → current code frame ≡ Some instr
      → Always (SteadyActed m (makes_at instr.op)) (alone (erased code) m (frame ∷ callers))
  alone_steady frame callers instr cur = subst (λ o. Always (SteadyActed m (makes_at instr.op))
      (act_at (erased code) m o frame callers)) (sym (current_erased code frame ∙ ap (option_map erased_instr) cur))
      (acts_steady instr.op instr.place frame callers)

-- ---- what an instruction touches, and where it makes an offer

-- the object that an action touches is its first operand
pub touched_first : (action : Action) (vs : List Value) (o : ℕ) → touched_by action vs ≡ Some o → (rest : List Value)
    × (vs ≡ value.Object o ∷ rest)
touched_first (Int k) vs o e = cc
touched_first (BoolConstant b) vs o e = cc
touched_first Nil vs o e = cc
touched_first Copy vs o e = cc
touched_first (Binary op) vs o e = cc
touched_first Neg vs o e = cc
touched_first Not vs o e = cc
touched_first IsNil vs o e = cc
touched_first Len [] o e = cc
touched_first Len ((value.Int i) ∷ vs) o e = cc
touched_first Len ((value.Bool b) ∷ vs) o e = cc
touched_first Len (value.Nil ∷ vs) o e = cc
touched_first Len (value.Object p ∷ vs) o e = (vs, ap (λ x. value.Object x ∷ vs) (same_Some p o e))
touched_first (Load k) [] o e = cc
touched_first (Load k) ((value.Int i) ∷ vs) o e = cc
touched_first (Load k) ((value.Bool b) ∷ vs) o e = cc
touched_first (Load k) (value.Nil ∷ vs) o e = cc
touched_first (Load k) (value.Object p ∷ vs) o e = (vs, ap (λ x. value.Object x ∷ vs) (same_Some p o e))
touched_first (Store k) [] o e = cc
touched_first (Store k) ((value.Int i) ∷ vs) o e = cc
touched_first (Store k) ((value.Bool b) ∷ vs) o e = cc
touched_first (Store k) (value.Nil ∷ vs) o e = cc
touched_first (Store k) (value.Object p ∷ vs) o e = (vs, ap (λ x. value.Object x ∷ vs) (same_Some p o e))
touched_first At [] o e = cc
touched_first At ((value.Int i) ∷ vs) o e = cc
touched_first At ((value.Bool b) ∷ vs) o e = cc
touched_first At (value.Nil ∷ vs) o e = cc
touched_first At (value.Object p ∷ vs) o e = (vs, ap (λ x. value.Object x ∷ vs) (same_Some p o e))
touched_first Put [] o e = cc
touched_first Put ((value.Int i) ∷ vs) o e = cc
touched_first Put ((value.Bool b) ∷ vs) o e = cc
touched_first Put (value.Nil ∷ vs) o e = cc
touched_first Put (value.Object p ∷ vs) o e = (vs, ap (λ x. value.Object x ∷ vs) (same_Some p o e))
touched_first (New name) vs o e = cc
touched_first Slice vs o e = cc
touched_first Chan vs o e = cc
touched_first Recv [] o e = cc
touched_first Recv ((value.Int i) ∷ vs) o e = cc
touched_first Recv ((value.Bool b) ∷ vs) o e = cc
touched_first Recv (value.Nil ∷ vs) o e = cc
touched_first Recv (value.Object p ∷ vs) o e = (vs, ap (λ x. value.Object x ∷ vs) (same_Some p o e))
touched_first Send [] o e = cc
touched_first Send ((value.Int i) ∷ vs) o e = cc
touched_first Send ((value.Bool b) ∷ vs) o e = cc
touched_first Send (value.Nil ∷ vs) o e = cc
touched_first Send (value.Object p ∷ vs) o e = (vs, ap (λ x. value.Object x ∷ vs) (same_Some p o e))
touched_first Close [] o e = cc
touched_first Close ((value.Int i) ∷ vs) o e = cc
touched_first Close ((value.Bool b) ∷ vs) o e = cc
touched_first Close (value.Nil ∷ vs) o e = cc
touched_first Close (value.Object p ∷ vs) o e = (vs, ap (λ x. value.Object x ∷ vs) (same_Some p o e))
touched_first (Get name) vs o e = cc
touched_first (Set name) vs o e = cc

-- the instruction is a send on this channel, which is unbuffered
pub record OffersAt (s : RegionState) (frame : TacFrame) (op : CodeOp) (o : ℕ) : Type 0 where
  pub to : Option ℕ
  pub channel : ℕ
  pub sent : ℕ
  pub removes : List ℕ
  pub is : op ≡ Do to Send (channel ∷ sent ∷ []) removes
  pub channel_is : value_at frame channel ≡ value.Object o
  pub unbuffered : IsUnbuffered s.plain.memory o

-- only such a send makes an offer
pub offers_at : (s : RegionState) (frame : TacFrame) (op : CodeOp) (o : ℕ) → offered_channel s frame op ≡ Some o
    → OffersAt s frame op o
offers_at s frame (Do to act' from removes) o q = action act' from q
  where
    one : (v : Value) → open_channel s (v ∷ []) ≡ Some o → ⊥
    one (value.Int i) q = cc
    one (value.Bool b) q = cc
    one value.Nil q = cc
    one (value.Object p) q = cc

    three : (w x : Value) (more : List Value) (v : Value) → open_channel s (v ∷ w ∷ x ∷ more) ≡ Some o → ⊥
    three w x more (value.Int i) q = cc
    three w x more (value.Bool b) q = cc
    three w x more value.Nil q = cc
    three w x more (value.Object p) q = cc

    none : (p : ℕ) (b : Bool) → b ≡ false → (if b then Some p else None) ≡ Some o → ⊥
    none p true e q = true≢false e
    none p false e q = cc

    nonzero : (n : ℕ) → (suc n == 0) ≡ false
    nonzero n = grind arith

    place : (p : ℕ) (x : Option Object) → slice_get s.plain.memory.heap p ≡ x
        → (if is_meeting_at x then Some p else None) ≡ Some o → (p ≡ o) × IsUnbuffered s.plain.memory p
    place p None e q = cc
    place p (Some (StructObject cells)) e q = cc
    place p (Some (SliceObject cells)) e q = cc
    place p (Some (Channel zero queue true)) e q = cc
    place p (Some (Channel zero queue false)) e q = (same_Some p o q, (Channel zero queue false, e, refl))
    place p (Some (Channel (suc n) queue true)) e q = cc
    place p (Some (Channel (suc n) queue false)) e q = absurd (none p (suc n == 0) (nonzero n) q)

    two : (a b : ℕ) (v : Value) → value_at frame a ≡ v → open_channel s (v ∷ value_at frame b ∷ []) ≡ Some o
        → OffersAt s frame (Do to Send (a ∷ b ∷ []) removes) o
    two a b (value.Int i) e q = cc
    two a b (value.Bool x) e q = cc
    two a b value.Nil e q = cc
    two a b (value.Object p) e q =
        let x = place p (slice_get s.plain.memory.heap p) refl q in
        record {
          to = to;
          channel = a;
          sent = b;
          removes = removes;
          is = refl;
          channel_is =
              e ∙ ap value.Object x.0;
          unbuffered = subst (IsUnbuffered s.plain.memory) x.0 x.1;
        }

    action : (act' : Action) (from : List ℕ) → offered_channel s frame (Do to act' from removes) ≡ Some o
        → OffersAt s frame (Do to act' from removes) o
    action (Int k) from q = cc
    action (BoolConstant b) from q = cc
    action Nil from q = cc
    action Copy from q = cc
    action (Binary op) from q = cc
    action Neg from q = cc
    action Not from q = cc
    action IsNil from q = cc
    action Len from q = cc
    action (Load k) from q = cc
    action (Store k) from q = cc
    action At from q = cc
    action Put from q = cc
    action (New name) from q = cc
    action Slice from q = cc
    action Chan from q = cc
    action Recv from q = cc
    action Send [] q = cc
    action Send (a ∷ []) q = absurd (one (value_at frame a) q)
    action Send (a ∷ b ∷ []) q = two a b (value_at frame a) refl q
    action Send (a ∷ b ∷ c ∷ more) q = absurd (three (value_at frame b) (value_at frame c) (map (value_at frame) more)
        (value_at frame a) q)
    action Close from q = cc
    action (Get name) from q = cc
    action (Set name) from q = cc
offers_at s frame (Call to n from passes protects removes) o q = cc
offers_at s frame (Go n from passes removes) o q = cc
offers_at s frame (Print pieces from removes) o q = cc
offers_at s frame (Jump j removes) o q = cc
offers_at s frame (Branch v j removes k others) o q = cc
offers_at s frame (Return value) o q = cc

-- ---- each step

-- an instruction changes no offer; only a meeting takes one
pub after_offer : (code : Code) (k : Holder) (frame : TacFrame) (callers : List TacFrame) (op : CodeOp) (next : List TacFrame)
    → (holder_after code k frame callers op next).offer ≡ k.offer
after_offer code k frame callers (Do to action from removes) next = refl
after_offer code k frame callers (Call to n from passes protects removes) next = refl
after_offer code k frame callers (Go n from passes removes) next = refl
after_offer code k frame callers (Print pieces from removes) next = refl
after_offer code k frame callers (Jump j removes) next = refl
after_offer code k frame callers (Branch v j removes k' others) next = refl
after_offer code k frame callers (Return value) next = refl

pub unless_offer : (end : Option End) (before after : Holder) → after.offer ≡ before.offer
    → (unless_trapped end before after).offer ≡ before.offer
unless_offer None before after h = h
unless_offer (Some Exit) before after h = h
unless_offer (Some (Trap kind place)) before after h = refl

-- a goroutine whose next instruction is a send, if its frames are known in another form
pub at_send : (code : Code) (p : TacState) (g o : ℕ) (st : StandsAtSend code p g o) (frame : TacFrame)
    (callers : List TacFrame) (instr : CodeInstr) → frames_of p g ≡ frame ∷ callers → current code frame ≡ Some instr
    → (instr.op ≡ Do st.to Send (st.channel ∷ st.sent ∷ []) st.removes) × (value_at frame st.channel ≡ value.Object o)
at_send code p g o st frame callers instr q cur =
    let same : st.frame ≡ frame = head_is st.frame frame st.callers callers (sym st.at ∙ q) in
    let one : st.instr ≡ instr = same_Some st.instr instr (sym st.cur ∙ ap (current code) same ∙ cur) in
    (ap (λ (i : CodeInstr). i.op) (sym one) ∙ st.is, ap (λ f. value_at f st.channel) (sym same) ∙ st.channel_is)

-- a goroutine that traps leaves its frames and the memory as they were
abbrev trapped_there : Memory → List TacFrame → End → Acted
trapped_there m frames e = record { memory = m; frames = frames; started = []; printed = []; trap = Some e }

-- at a channel without a buffer a send by itself only traps: if the channel is open, the buffer has no room, and there is no step
sends_trap : (m : Memory) (frame : TacFrame) (callers : List TacFrame) (to : Option ℕ) (place : ℕ) (o : ℕ) (w : Value)
    (a : Acted) → IsUnbuffered m o → effected m frame callers to place (option_map silent (send m (value.Object o) w))
    ≡ Some a → (kind : TrapKind) × (a ≡ trapped_there m (frame ∷ callers) (Trap kind place))
sends_trap m frame callers to place o w a (object, e, c) q =
    go object c (sym (ap (λ x. effected m frame callers to place
    (option_map silent (to_object_if_ready m o (sent w) x))) e) ∙ q)
  where
    waits : (b : Bool) (x : Outcome Object) → b ≡ false → effected m frame callers to place
        (option_map silent (in_memory_if_ready m o (if b then Some x else None))) ≡ Some a → ⊥
    waits true x n q = true≢false n
    waits false x n q = cc

    not_below : (n : ℕ) → nat_lt n 0 ≡ false
    not_below n = grind arith

    go : (object : Object) → channel_capacity object ≡ Some 0 → effected m frame callers to place
        (option_map silent (in_memory_if_ready m o (sent w object))) ≡ Some a → (kind : TrapKind)
        × (a ≡ trapped_there m (frame ∷ callers) (Trap kind place))
    go (StructObject cells) c q = cc
    go (SliceObject cells) c q = cc
    go (Channel capacity queue true) c q = (
      SendClosed,
      sym
          (same_Some (trapped_there m (frame ∷ callers) (Trap SendClosed place)) a q),
    )
    go (Channel capacity queue false) c q =
        let zero' : capacity ≡ 0 = cc in
        absurd (waits (nat_lt (length queue) capacity) (Does (Channel capacity (queue ++ w ∷ []) false) value.Nil)
        (ap (nat_lt (length queue)) zero' ∙ not_below (length queue)) q)

module _ (code : Code) (s : RegionState) (old : OffersFit code s) where
  carry : (t : RegionState) (j : ℕ) (x : Holder) → frames_of t.plain j ≡ frames_of s.plain j
      → ((o : ℕ) (r : Region) → slice_get s.owners o ≡ Some r → slice_get t.owners o ≡ Some r)
      → ((o : ℕ) → IsUnbuffered s.plain.memory o → IsUnbuffered t.plain.memory o) → (offer : Offer)
      → OfferFits code s j x offer → OfferFits code t j x offer
  carry t j x fr os ms NoOffer h = tt
  carry t j x fr os ms (Standing o) (d, u, st) = (
    d,
    ms o u,
    record {
      frame = st.frame;
      callers = st.callers;
      at = fr ∙ st.at;
      instr = st.instr;
      cur = st.cur;
      to = st.to;
      channel =
          st.channel;
      sent = st.sent;
      removes = st.removes;
      is = st.is;
      channel_is = st.channel_is;
    },
  )
  carry t j x fr os ms (Taken o) (r, w, i) = (r, os o r w, i)

  offers_with : (t : RegionState) (g : ℕ) (h k : Holder) → slice_get s.holders g ≡ Some h → t.owners ≡ s.owners
      → t.plain ≡ s.plain → t.holders ≡ slice_set s.holders g k → OfferFits code s g k k.offer → OffersFit code t
  offers_with t g h k e os ps hs new =
      record {
        fits = λ j x q. carry t j x (ap (λ p. frames_of p j) ps) (λ o r w. ap (λ y. slice_get y o) os ∙ w)
            (λ o u. subst (λ (p : TacState). IsUnbuffered p.memory o) (sym ps) u) x.offer
            (each j x (sym (ap (λ y. slice_get y j) hs) ∙ q));
      }
    where
      each : (j : ℕ) (x : Holder) → slice_get (slice_set s.holders g k) j ≡ Some x → OfferFits code s j x x.offer
      each j x q =
          split (nat_eq g j)
          (λ t. subst (λ (y : Holder). OfferFits code s j y y.offer)
          (same_Some k x (sym (get_set_same s.holders g h k e)
          ∙ ap (slice_get (slice_set s.holders g k)) (eq_of g j t) ∙ q))
          (subst (λ i. OfferFits code s i k k.offer) (eq_of g j t) new))
          (λ n. old.fits j x (sym (get_set_other s.holders g j k n) ∙ q))

  -- a goroutine that owes something and has nothing to acknowledge has no offer: with an open one it would owe nothing. So a duty never
  -- meets an open offer.
  no_offer : (g : ℕ) (h : Holder) (d : Duty) (ds : List Duty) → slice_get s.holders g ≡ Some h → may_go h.offer ≡ true
      → h.duties ≡ d ∷ ds → h.offer ≡ NoOffer
  no_offer g h d ds e m q = go h.offer m (old.fits g h e)
    where
      some_none : d ∷ ds ≡ [] → ⊥
      some_none z = cc

      go : (offer : Offer) → may_go offer ≡ true → OfferFits code s g h offer → offer ≡ NoOffer
      go NoOffer m f = refl
      go (Standing o) m f = absurd (some_none (sym q ∙ f.0))
      go (Taken o) m f = absurd (true≢false (sym m))

  module _ (g : ℕ) (h : Holder) (e : slice_get s.holders g ≡ Some h) (none : h.offer ≡ NoOffer) where
    kept : (t : RegionState) (k : Holder) → t.owners ≡ s.owners → t.plain ≡ s.plain → t.holders
        ≡ slice_set s.holders g k → k.offer ≡ h.offer → Yields (OffersFit code) (Some t)
    kept t k os ps hs ks = yields t (offers_with t g h k e os ps hs (subst (OfferFits code s g k) (sym (ks ∙ none)) tt))

    removes : (k : Holder) (q : Region) → k.offer ≡ h.offer → Yields (OffersFit code) (removal s g k q)
    removes k GlobalRegion ks = kept _ k refl refl refl ks
    removes k (Numbered r) ks = yields_if _ _ _ (yields_if _ _ _ (kept _ k refl refl refl ks)
        (kept _ (record k { stakes = without r k.stakes }) refl refl refl ks)) yields_none

    shares : (k : Holder) (q : Region) → k.offer ≡ h.offer → Yields (OffersFit code) (shared s g k q)
    shares k GlobalRegion ks = kept _ k refl refl refl ks
    shares k (Numbered r) ks = yields_if _ _ _ (yields_if _ _ _ (kept _ k refl refl refl ks)
        (kept _ (record k { pending = r ∷ k.pending }) refl refl refl ks)) yields_none

    done : (k : Holder) (d : Duty) → k.offer ≡ h.offer → Yields (OffersFit code) (duty_done s g k d)
    done k (Create n) ks = kept _ (record k {
      stakes = length s.regions ∷ k.stakes;
      environments =
          with_top k.environments ((n, Numbered (length s.regions)) ∷ unbind (top_names k.environments) n);
    }) refl refl
        refl ks
    done k (Share n) ks = yields_then (shared s g k) _ (λ q. shares k q ks)
    done k (Protect n) ks = yields_then (protected s g k) _
        (λ q. yields_if _ _ _ (kept _ (record k { environments = with_protection k.environments q }) refl refl refl ks)
        yields_none)
    done k (Unprotect n) ks = yields_then (λ q. Some (attended s g (unprotected k q))) _
        (λ q. kept _ (unprotected k q) refl refl refl ks)
    done k (Remove n) ks = yields_then (removal s g (record k
        { environments = with_top k.environments (unbind (top_names k.environments) n) })) _
        (λ q. removes (record k { environments = with_top k.environments (unbind (top_names k.environments) n) }) q ks)
    done k (EndBase r) ks = removes (record k { base = removed_once r k.base }) r ks

  offers_attend : (g : ℕ) (h : Holder) → slice_get s.holders g ≡ Some h
      → Yields (OffersFit code) (attend s g h h.duties)
  offers_attend g h e = go h.duties refl
    where
      go : (ds : List Duty) → h.duties ≡ ds → Yields (OffersFit code) (attend s g h ds)
      go [] q = yields_none
      go (d ∷ ds) q = yields_where (may_go h.offer) _ (λ m.
          done g h e (no_offer g h d ds e m q) (record h { duties = ds }) d refl)

  -- pages
  offers_take : (g : ℕ) (h : Holder) (page_words : ℕ) (frames : List TacFrame) → slice_get s.holders g ≡ Some h
      → Yields (OffersFit code) (take_page code page_words s g h frames)
  offers_take g h page_words [] e = yields_none
  offers_take g h page_words (frame ∷ callers) e = yields_then (page_for code page_words s g h frame) _
      (λ i. yields_then (takes_page code page_words s g h) _ (λ r. yields_then (page_before page_words s g h r) _
      (λ x. yields_if _ _ _ (taken r x) yields_none)))
    where
      same : (r : Region) (x : Object) (offer : Offer) → OfferFits code s g h offer
          → OfferFits code s g (with_page page_words h r x) offer
      same r x NoOffer f = f
      same r x (Standing o) f = f
      same r x (Taken o) f = f

      taken : (r : Region) (x : Object) → Yields (OffersFit code) (Some (page_taken s g (with_page page_words h r x) r))
      taken GlobalRegion x = yields _ (offers_with _ g h (with_page page_words h GlobalRegion x) e refl refl refl
          (same GlobalRegion x h.offer (old.fits g h e)))
      taken (Numbered r) x = yields _ (offers_with _ g h (with_page page_words h (Numbered r) x) e refl refl refl
          (same (Numbered r) x h.offer (old.fits g h e)))

  offers_make : (g : ℕ) (h : Holder) (frames : List TacFrame) → frames_of s.plain g ≡ frames → slice_get s.holders g
      ≡ Some h → Yields (OffersFit code) (make_offer code s g h frames)
  offers_make g h [] q e = yields_none
  offers_make g h (frame ∷ callers) q e = yields_where (is_ready code s h (frame ∷ callers)) _
      (λ r. at (current code frame) refl r)
    where
      at : (o : Option CodeInstr) → current code frame ≡ o → is_ready code s h (frame ∷ callers) ≡ true
          → Yields (OffersFit code) (option_and_then (offer_for s g h frame) o)
      at None c r = yields_none
      at (Some instr) c r = on (offered_channel s frame instr.op) refl
        where
          ready : Ready s h frame instr
          ready = ready_is code s h frame callers instr c r

          by : (b : Bool) (o : ℕ) → offered_channel s frame instr.op ≡ Some o
              → Yields (OffersFit code) (if b then None else Some (attended s g (record h { offer = Standing o })))
          by true o w = yields_none
          by false o w =
              let x = offers_at s frame instr.op o w in
              yields _ (offers_with _ g h (record h { offer = Standing o }) e refl refl refl (
                ready.none,
                x.unbuffered,
                record {
                  frame = frame;
                  callers = callers;
                  at = q;
                  instr = instr;
                  cur = c;
                  to =
                      x.to;
                  channel = x.channel;
                  sent = x.sent;
                  removes = x.removes;
                  is = x.is;
                  channel_is =
                      x.channel_is;
                },
              ))

          on : (o : Option ℕ) → offered_channel s frame instr.op ≡ o
              → Yields (OffersFit code) (option_and_then (offered s g h) o)
          on None w = yields_none
          on (Some o) w = by _ o w

  offers_acknowledge : (g : ℕ) (h : Holder) (o : Offer) → slice_get s.holders g ≡ Some h
      → Yields (OffersFit code) (acknowledge s g h o)
  offers_acknowledge g h NoOffer e = yields_none
  offers_acknowledge g h (Standing o) e = yields_none
  offers_acknowledge g h (Taken o) e = yields_if _ _ _ (yields _
      (offers_with _ g h (record h { offer = NoOffer }) e refl refl refl tt)) yields_none

  offers_finish : (limit : Limit) → OffersFit code (finished s limit)
  offers_finish limit = record {
    fits = λ j x q. carry (finished s limit) j x refl (λ o r w. w) (λ o u. u) x.offer
        (old.fits j x q);
  }

  -- ---- one goroutine's instruction

  offers_one : (page_words g : ℕ) (t : RegionState) → Fine code s → OneDone code page_words s g t → OffersFit code t
  offers_one page_words g t fine x = subst (OffersFit code) (sym x.is)
      (record {
        fits = λ j y q. place j y (get_append_place
            (slice_set s.holders g (unless_trapped (after s.plain g x.a).ended x.given.0
            (holder_after code x.given.0 x.frame x.callers x.instr.op (frames_of (after s.plain g x.a) g))))
            (child_holder code x.given.0 x.instr.op (last_frames (after s.plain g x.a).goroutines)) j y q);
      })
    where
      steadily : (o : ℕ) → IsUnbuffered s.plain.memory o → IsUnbuffered x.a.memory o
      steadily = (subst (Always (SteadyActed s.plain.memory (makes_at x.instr.op))) x.acts
          (alone_steady code s.plain.memory x.frame x.callers x.instr x.cur)).0

      more : (o : ℕ) (r : Region) → slice_get s.owners o ≡ Some r → slice_get (s.owners ++ x.given.1) o ≡ Some r
      more o r w = get_append_left s.owners x.given.1 o (slice_get_within s.owners o r w) ∙ w

      given_offer : x.given.0.offer ≡ x.h.offer
      given_offer = ap (λ (y : Holder). y.offer) x.same.same

      k_offer : (unless_trapped (after s.plain g x.a).ended x.given.0
          (holder_after code x.given.0 x.frame x.callers x.instr.op (frames_of (after s.plain g x.a) g))).offer
          ≡ x.h.offer
      k_offer = unless_offer (after s.plain g x.a).ended x.given.0
          (holder_after code x.given.0 x.frame x.callers x.instr.op (frames_of (after s.plain g x.a) g))
          (after_offer code x.given.0 x.frame x.callers x.instr.op (frames_of (after s.plain g x.a) g)) ∙ given_offer

      -- its own offer
      own : (offer : Offer) → x.h.offer ≡ offer → OfferFits code s g x.h offer
          → OfferFits code (instructed_with code s g x.frame x.callers x.instr (after s.plain g x.a) x.given) g
          (unless_trapped (after s.plain g x.a).ended x.given.0
          (holder_after code x.given.0 x.frame x.callers x.instr.op (frames_of (after s.plain g x.a) g))) offer
      own NoOffer e f = tt
      own (Taken o) e f = absurd (true≢false (sym x.ready.free ∙ ap may_go e))
      own (Standing o) e (d, u, st) = (
        ap (λ (y : Holder). y.duties) k_is ∙ ap (λ (y : Holder). y.duties) x.same.same ∙ d,
        steadily o u,
        record {
          frame = x.frame;
          callers = x.callers;
          at = frames_same;
          instr = x.instr;
          cur = x.cur;
          to =
              st.to;
          channel = st.channel;
          sent = st.sent;
          removes = st.removes;
          is = w.0;
          channel_is = w.1;
        },
      )
        where
          w : (x.instr.op ≡ Do st.to Send (st.channel ∷ st.sent ∷ []) st.removes)
              × (value_at x.frame st.channel ≡ value.Object o)
          w = at_send code s.plain g o st x.frame x.callers x.instr (ap frames_in x.at) x.cur

          acts : effected s.plain.memory x.frame x.callers st.to x.instr.place
              (option_map silent (send s.plain.memory (value.Object o) (value_at x.frame st.sent))) ≡ Some x.a
          acts =
              ap (λ v. effected s.plain.memory x.frame x.callers st.to x.instr.place
              (option_map silent (send s.plain.memory v (value_at x.frame st.sent)))) (sym w.1)
              ∙ sym (ap (λ op. act (erased code) s.plain.memory (erased_op op) x.instr.place x.frame x.callers) w.0)
              ∙ sym (ap (λ i. act_at (erased code) s.plain.memory i x.frame x.callers)
              (current_erased code x.frame ∙ ap (option_map erased_instr) x.cur))
              ∙ x.acts

          trapped : (kind : TrapKind) × (x.a ≡ trapped_there s.plain.memory (x.frame ∷ x.callers)
              (Trap kind x.instr.place))
          trapped = sends_trap s.plain.memory x.frame x.callers st.to x.instr.place o (value_at x.frame st.sent) x.a u
              acts

          k_is : unless_trapped (after s.plain g x.a).ended x.given.0
              (holder_after code x.given.0 x.frame x.callers x.instr.op (frames_of (after s.plain g x.a) g)) ≡ x.given.0
          k_is = ap (λ (y : Acted). unless_trapped (after s.plain g y).ended x.given.0
              (holder_after code x.given.0 x.frame x.callers x.instr.op (frames_of (after s.plain g y) g))) trapped.1

          frames_same : frames_in (slice_get (slice_set s.plain.goroutines g x.a.frames ++ x.a.started) g)
              ≡ x.frame ∷ x.callers
          frames_same =
              ap frames_in (get_append_left (slice_set s.plain.goroutines g x.a.frames) x.a.started g
              (let b = slice_get_within s.plain.goroutines g (x.frame ∷ x.callers) x.at in let l =
              length_set s.plain.goroutines g x.a.frames in omega (arith, b, l)))
              ∙ ap frames_in (get_set_same s.plain.goroutines g (x.frame ∷ x.callers) x.a.frames x.at)
              ∙ ap (λ (y : Acted). y.frames) trapped.1

      long : length (slice_set s.holders g (unless_trapped (after s.plain g x.a).ended x.given.0
          (holder_after code x.given.0 x.frame x.callers x.instr.op (frames_of (after s.plain g x.a) g))))
          ≡ length (slice_set s.plain.goroutines g x.a.frames)
      long = length_set s.holders g _ ∙ fine.as_many ∙ sym (length_set s.plain.goroutines g x.a.frames)

      child : (op : CodeOp) (frames : List TacFrame) (i : ℕ) (y : Holder)
          → slice_get (child_holder code x.given.0 op frames) i ≡ Some y → y.offer ≡ NoOffer
      child (Go n from passes removes) frames zero y q = ap (λ (z : Holder). z.offer) (sym (same_Some _ y q))
      child (Go n from passes removes) frames (suc i) y q = cc
      child (Do to action from removes) frames i y q = cc
      child (Call to n from passes protects removes) frames i y q = cc
      child (Print pieces from removes) frames i y q = cc
      child (Jump j removes) frames i y q = cc
      child (Branch v j removes k others) frames i y q = cc
      child (Return value) frames i y q = cc

      place : (j : ℕ) (y : Holder) → (slice_get (slice_set s.holders g
          (unless_trapped (after s.plain g x.a).ended x.given.0
          (holder_after code x.given.0 x.frame x.callers x.instr.op (frames_of (after s.plain g x.a) g)))) j ≡ Some y)
          ⊎ ((i : ℕ) × (j ≡ length (slice_set s.holders g (unless_trapped (after s.plain g x.a).ended x.given.0
          (holder_after code x.given.0 x.frame x.callers x.instr.op (frames_of (after s.plain g x.a) g)))) + i)
          × (slice_get (child_holder code x.given.0 x.instr.op (last_frames (after s.plain g x.a).goroutines)) i
          ≡ Some y)) → OfferFits code (instructed_with code s g x.frame x.callers x.instr (after s.plain g x.a) x.given)
          j y y.offer
      place j y (inr (i, at, q)) = subst (OfferFits code (instructed_with code s g x.frame x.callers x.instr
          (after s.plain g x.a) x.given) j y) (sym (child x.instr.op (last_frames (after s.plain g x.a).goroutines) i y
          q)) tt
      place j y (inl q) =
          split (nat_eq g j)
          (λ u. subst (λ (z : Holder). OfferFits code (instructed_with code s g x.frame x.callers x.instr
          (after s.plain g x.a) x.given) j z z.offer) (same_Some _ y
          (sym (get_set_same s.holders g x.h _ x.there) ∙ ap
          (slice_get (slice_set s.holders g (unless_trapped (after s.plain g x.a).ended x.given.0
          (holder_after code x.given.0 x.frame x.callers x.instr.op (frames_of (after s.plain g x.a) g)))))
          (eq_of g j u) ∙ q))
          (subst (λ i. OfferFits code (instructed_with code s g x.frame x.callers x.instr (after s.plain g x.a) x.given)
          i (unless_trapped (after s.plain g x.a).ended x.given.0
          (holder_after code x.given.0 x.frame x.callers x.instr.op (frames_of (after s.plain g x.a) g)))
          (unless_trapped (after s.plain g x.a).ended x.given.0
          (holder_after code x.given.0 x.frame x.callers x.instr.op (frames_of (after s.plain g x.a) g))).offer)
          (eq_of g j u)
          (subst (OfferFits code (instructed_with code s g x.frame x.callers x.instr (after s.plain g x.a) x.given) g
          (unless_trapped (after s.plain g x.a).ended x.given.0
          (holder_after code x.given.0 x.frame x.callers x.instr.op (frames_of (after s.plain g x.a) g))))
          (sym k_offer) (own x.h.offer refl (old.fits g x.h x.there)))))
          (λ n. carry (instructed_with code s g x.frame x.callers x.instr (after s.plain g x.a) x.given) j y
          (ap frames_in (get_append_left (slice_set s.plain.goroutines g x.a.frames) x.a.started j
          (let b = slice_get_within _ j y q in let l = long in omega (arith, b, l)))
          ∙ ap frames_in (get_set_other s.plain.goroutines g j x.a.frames n))
          more steadily y.offer (old.fits j y (sym (get_set_other s.holders g j _ n) ∙ q)))

  -- ---- a meeting

  offers_meet : (r u : ℕ) (t : RegionState) → IsChecked code → Fine code s → ValuesStay code s → MeetDone code s r u t
      → OffersFit code t
  offers_meet r u t checked fine values x =
      record { fits = λ j y q. each j y (sym (ap (λ z. slice_get z j) x.holders) ∙ q) }
    where
      h' : Holder
      h' = gone_on (receive_goes x.receives x.v) x.h

      k' : Holder
      k' = record (gone_on (send_goes x.sends) x.k) { offer = taken_offer x.k.offer }

      frames_r : frames_of s.plain r ≡ x.receives.frame ∷ x.receives.callers
      frames_r = ap frames_in x.at_r ∙ x.receives.at

      frames_u : frames_of s.plain u ≡ x.sends.frame ∷ x.sends.callers
      frames_u = ap frames_in x.at_u ∙ x.sends.at

      -- the receiver has no offer: its next instruction is not a send
      receiver : x.h.offer ≡ NoOffer
      receiver = go x.h.offer refl (old.fits r x.h x.there_h)
        where
          clash : (a b : Option ℕ) (vs ws rs qs : List ℕ) → Do a Send vs rs ≡ Do b Recv ws qs → ⊥
          clash a b vs ws rs qs e = cc

          go : (offer : Offer) → x.h.offer ≡ offer → OfferFits code s r x.h offer → x.h.offer ≡ NoOffer
          go NoOffer e f = e
          go (Taken o) e f = absurd (true≢false (sym x.ready_h.free ∙ ap may_go e))
          go (Standing o) e (d, w, st) =
              let z = at_send code s.plain r o st x.receives.frame x.receives.callers x.receives.instr frames_r
              x.receives.cur in
              absurd (clash st.to x.receives.to (st.channel ∷ st.sent ∷ []) (x.receives.channel ∷ []) st.removes
              x.receives.removes (sym z.0 ∙ x.receives.is))

      -- the sender's channel is in Global or in a region in which it has a stake: the variable of the channel is live before the send
      sender : (offer : Offer) → x.k.offer ≡ offer → OfferFits code s u x.k offer
          → OfferFits code t u (record (gone_on (send_goes x.sends) x.k) { offer = taken_offer x.k.offer })
          (taken_offer offer)
      sender NoOffer e f = tt
      sender (Taken o) e f = absurd (true≢false (sym x.standing ∙ ap standing_at e))
      sender (Standing o) e (d, w, st) = (
        channel.0,
        ap (λ z. slice_get z o) x.owners ∙ channel.2,
        (λ q is. class_staked (class_of top.stands.fn st.channel) q (channel.1 ∙ ap Some is)),
      )
        where
          z : (x.sends.instr.op ≡ Do st.to Send (st.channel ∷ st.sent ∷ []) st.removes)
              × (value_at x.sends.frame st.channel ≡ value.Object o)
          z = at_send code s.plain u o st x.sends.frame x.sends.callers x.sends.instr frames_u x.sends.cur

          top : Top code x.k x.sends.frame x.sends.callers
          top = top_of code x.k x.sends.frame x.sends.callers
              (subst (λ y. GoodHolder code y x.k) frames_u (fine.each u x.k x.there_k))

          lead : FramesLead code s.owners (x.sends.frame ∷ x.sends.callers) (top.f ∷ top.fs)
          lead = subst (FramesLead code s.owners (x.sends.frame ∷ x.sends.callers)) top.environments
              (subst (λ y. FramesLead code s.owners y x.k.environments) frames_u (values.frames u x.k x.there_k))

          channel : LeadsHome s.owners top.f.names (class_of top.stands.fn st.channel) (value.Object o)
          channel = subst (LeadsHome s.owners top.f.names (class_of top.stands.fn st.channel)) z.1
              (reads_home code checked s.owners s.plain.memory values.memory x.sends.frame x.sends.callers x.sends.instr
              x.sends.cur top.f top.fs lead top.stands.fn top.stands.is_fn top.stands.lends st.channel
              (subst (λ op. Contains (reads (erased_op op)) st.channel) (sym z.0)
              (contains_here st.channel (st.sent ∷ []))))

          class_staked : (c : Class) (q : ℕ) → class_region top.f.names c ≡ Some (Numbered q) → is_in q x.k.stakes
              ≡ true
          class_staked NoClass q e = cc
          class_staked Global q e = cc
          class_staked (Name n) q e = top.staked n q e

      each : (j : ℕ) (y : Holder) → slice_get (slice_set (slice_set s.holders r
          (gone_on (receive_goes x.receives x.v) x.h)) u (record (gone_on (send_goes x.sends) x.k)
          { offer = taken_offer x.k.offer })) j ≡ Some y → OfferFits code t j y y.offer
      each j y q =
          split (nat_eq u j)
          (λ w. subst (λ (z : Holder). OfferFits code t j z z.offer)
          (same_Some k' y (sym (get_set_same (slice_set s.holders r h') u x.k k'
          (get_set_other s.holders r u h' x.apart ∙ x.there_k))
          ∙ ap (slice_get (slice_set (slice_set s.holders r h') u k')) (eq_of u j w) ∙ q))
          (subst (λ i. OfferFits code t i k' (taken_offer x.k.offer)) (eq_of u j w)
          (sender x.k.offer refl (old.fits u x.k x.there_k))))
          (λ n. other n (sym (get_set_other (slice_set s.holders r h') u j k' n) ∙ q))
        where
          other : nat_eq u j ≡ false → slice_get (slice_set s.holders r (gone_on (receive_goes x.receives x.v) x.h)) j
              ≡ Some y → OfferFits code t j y y.offer
          other n q =
              split (nat_eq r j)
              (λ w. subst (λ (z : Holder). OfferFits code t j z z.offer)
              (same_Some (gone_on (receive_goes x.receives x.v) x.h) y
              (sym (get_set_same s.holders r x.h (gone_on (receive_goes x.receives x.v) x.h) x.there_h)
              ∙ ap (slice_get (slice_set s.holders r (gone_on (receive_goes x.receives x.v) x.h))) (eq_of r j w)
              ∙ q))
              (subst (OfferFits code t j (gone_on (receive_goes x.receives x.v) x.h)) (sym receiver) tt))
              (λ n'. carry t j y
              (ap (λ p. frames_of p j) x.plain ∙ ap frames_in (get_set_other
              (slice_set s.plain.goroutines r (x.go_on x.v)) u j x.next n
              ∙ get_set_other s.plain.goroutines r j (x.go_on x.v) n'))
              (λ o q w. ap (λ z. slice_get z o) x.owners ∙ w) (λ o w.
              subst (λ (p : TacState). IsUnbuffered p.memory o) (sym x.plain) w) y.offer
              (old.fits j y (sym (get_set_other s.holders r j (gone_on (receive_goes x.receives x.v) x.h) n') ∙ q)))

  pub offers_step : (page_words : ℕ) (event : Event) → IsChecked code → Good code s
      → Yields (OffersFit code) (region_step code page_words s event)
  offers_step page_words (Instruct (One g)) checked good =
      yields_from _ (one_done code page_words s g) (λ t x. offers_one page_words g t good.fine x)
  offers_step page_words (Instruct (Meet r u)) checked good =
      yields_from _ (meet_done code page_words s r u) (λ t x. offers_meet r u t checked good.fine good.values x)
  offers_step page_words (Attend g) checked good = yields_at (slice_get s.holders g)
      (λ (h : Holder). attend s g h h.duties) (λ h e. offers_attend g h e)
  offers_step page_words (TakePage g) checked good = yields_at (slice_get s.holders g)
      (λ h. take_page code page_words s g h (frames_of s.plain g))
      (λ h e. offers_take g h page_words (frames_of s.plain g) e)
  offers_step page_words (MakeOffer g) checked good = yields_at (slice_get s.holders g)
      (λ h. make_offer code s g h (frames_of s.plain g)) (λ h e. offers_make g h (frames_of s.plain g) refl e)
  offers_step page_words (Acknowledge g) checked good = yields_at (slice_get s.holders g)
      (λ (h : Holder). acknowledge s g h h.offer) (λ h e. offers_acknowledge g h h.offer e)
  offers_step page_words (Finish limit) checked good = yields _ (offers_finish limit)

-- ---- all of it, in every run

-- each step keeps the whole invariant
pub all_good_step : (code : Code) (page_words : ℕ) (s : RegionState) (event : Event) → IsChecked code → Ascends code
    → AllGood code s → Yields (AllGood code) (region_step code page_words s event)
all_good_step code page_words s event checked written all =
    go (region_step code page_words s event) (good_step code page_words s event checked written all.good)
    (offers_step code s all.offers page_words event checked all.good)
  where
    go : (o : Option RegionState) → Yields (Good code) o → Yields (OffersFit code) o → Yields (AllGood code) o
    go None a b = yields_none
    go (Some t) a b = yields t (record { good = a.fact; offers = b.fact })

-- the whole invariant holds at the start
pub all_good_start : StartIsGood
all_good_start code checked written = record { good = good_start code checked written; offers = record { fits = fits } }
  where
    fits : (g : ℕ) (h : Holder) → slice_get (region_start code).holders g ≡ Some h
        → OfferFits code (region_start code) g h h.offer
    fits zero h q = subst (OfferFits code (region_start code) 0 h) (ap (λ (x : Holder). x.offer) (same_Some _ h q)) tt
    fits (suc g) h q = cc

pub steps_keep_good : StepsKeepGood
steps_keep_good code page_words s t event checked written all e =
    yields_is {P = AllGood code} (region_step code page_words s event) t
    (all_good_step code page_words s event checked written all) e

-- every state of every run of checked code is good
pub runs_are_good : (code : Code) (page_words : ℕ) (events : List Event) (s : RegionState) → IsChecked code
    → Ascends code → region_run code page_words events ≡ Some s → AllGood code s
runs_are_good code page_words events s checked written r =
    run_keeps code page_words (AllGood code) (λ t e all. all_good_step code page_words t e checked written all) events
    (region_start code) s (all_good_start code checked written) r

-- ---- what the next step names is Global, or live with an own stake

-- a goroutine has a stake in the region of each class of its top frame
pub class_has_stake : (code : Code) (s : RegionState) (g : ℕ) (h : Holder) (frame : TacFrame) (callers : List TacFrame)
    (top : Top code h frame callers) (c : Class) (r : Region) → Fine code s → slice_get s.holders g ≡ Some h
    → class_region top.f.names c ≡ Some r → HasStake s h r
class_has_stake code s g h frame callers top NoClass r fine e q = cc
class_has_stake code s g h frame callers top Global r fine e q = subst (HasStake s h) (same_Some GlobalRegion r q) tt
class_has_stake code s g h frame callers top (Name k) r fine e q =
    name_staked code s g h k r fine e (ap (λ sh. bound (top_names sh) k) top.environments ∙ q)

-- the object that an instruction touches
pub touched_home : (code : Code) (s : RegionState) (g : ℕ) (h : Holder) (frame : TacFrame) (callers : List TacFrame)
    (instr : CodeInstr) (top : Top code h frame callers) (o : ℕ) → IsChecked code → Good code s → slice_get s.holders g
    ≡ Some h → frames_of s.plain g ≡ frame ∷ callers → current code frame ≡ Some instr → touched frame instr.op ≡ Some o
    → (r : Region) × (slice_get s.owners o ≡ Some r) × HasStake s h r
touched_home code s g h frame callers instr top o checked good e at cur t = by instr.op refl (t)
  where
    lead : FramesLead code s.owners (frame ∷ callers) (top.f ∷ top.fs)
    lead = subst (FramesLead code s.owners (frame ∷ callers)) top.environments
        (subst (λ y. FramesLead code s.owners y h.environments) at (good.values.frames g h e))

    by : (op : CodeOp) → instr.op ≡ op → touched frame op ≡ Some o → (r : Region) × (slice_get s.owners o ≡ Some r)
        × HasStake s h r
    by (Do to action from removes) is q = first from refl (touched_first action (map (value_at frame) from) o q)
      where
        the_value : (v : Value) (vs rest : List Value) → v ∷ vs ≡ value.Object o ∷ rest → v ≡ value.Object o
        the_value v vs rest e = cc

        first : (vs : List ℕ) → vs ≡ from → (rest : List Value) × (map (value_at frame) from ≡ value.Object o ∷ rest)
            → (r : Region) × (slice_get s.owners o ≡ Some r) × HasStake s h r
        first [] f (rest, z) = let x : [] ≡ value.Object o ∷ rest = ap (map (value_at frame)) f ∙ z in cc
        first (v ∷ vs) f (rest, z) =
            let leads : value_at frame v ≡ value.Object o = the_value (value_at frame v) (map (value_at frame) vs) rest
            (ap (map (value_at frame)) f ∙ z) in
            let home : LeadsHome s.owners top.f.names (class_of top.stands.fn v) (value.Object o) =
            subst (LeadsHome s.owners top.f.names (class_of top.stands.fn v)) leads
            (reads_home code checked s.owners s.plain.memory good.values.memory frame callers instr cur top.f top.fs
            lead top.stands.fn top.stands.is_fn top.stands.lends v
            (subst (λ op. Contains (reads (erased_op op)) v) (sym is)
            (subst (λ x. Contains x v) f (contains_here v vs)))) in (
              home.0,
              home.2,
              class_has_stake code s g h frame callers top (class_of top.stands.fn v) home.0 good.fine e
                  home.1,
            )
    by (Call to n from passes protects removes) is q = cc
    by (Go n from passes removes) is q = cc
    by (Print pieces from removes) is q = cc
    by (Jump j removes) is q = cc
    by (Branch v j removes k others) is q = cc
    by (Return value) is q = cc

-- the region in which an instruction makes an object
pub making_class : (fn : CodeFn) (names : Bindings) (op : CodeOp) (r : Region) → making_region (Some fn) names op
    ≡ Some r → (c : Class) × (class_region names c ≡ Some r)
making_class fn names (Do to action from removes) r q = go (makes_object action) q
  where
    go : (b : Bool) → (if b then class_region names (target_class (Some fn) to) else None) ≡ Some r → (c : Class)
        × (class_region names c ≡ Some r)
    go true q = (target_class (Some fn) to, q)
    go false q = cc
making_class fn names (Call to n from passes protects removes) r q = cc
making_class fn names (Go n from passes removes) r q = cc
making_class fn names (Print pieces from removes) r q = cc
making_class fn names (Jump j removes) r q = cc
making_class fn names (Branch v j removes k others) r q = cc
making_class fn names (Return value) r q = cc

pub names_only_live : NamesOnlyLive
names_only_live code page_words events s g h r checked written run e n = go h.duties refl h.offer refl n
  where
    all : AllGood code s
    all = runs_are_good code page_words events s checked written run

    instruction : (frames : List TacFrame) → frames_of s.plain g ≡ frames → InstructionNames code s h frames r
        → HasStake s h r
    instruction [] at n = absurd n
    instruction (frame ∷ callers) at (instr, cur, n) = by n
      where
        top : Top code h frame callers
        top = top_of code h frame callers (subst (λ y. GoodHolder code y h) at (all.good.fine.each g h e))

        by : (making_region (function_at code frame) (top_names h.environments) instr.op ≡ Some r)
            ⊎ ((o : ℕ) × (touched frame instr.op ≡ Some o) × (slice_get s.owners o ≡ Some r)) → HasStake s h r
        by (inl m) =
            let c = making_class top.stands.fn top.f.names instr.op r
            (ap (λ sh. making_region (Some top.stands.fn) (top_names sh) instr.op) (sym top.environments)
            ∙ ap (λ o. making_region o (top_names h.environments) instr.op) (sym top.stands.is_fn) ∙ m) in
            class_has_stake code s g h frame callers top c.0 r all.good.fine e c.1
        by (inr (o, t, w)) =
            let x = touched_home code s g h frame callers instr top o checked all.good e at cur t in
            subst (HasStake s h) (same_Some x.0 r (sym x.1 ∙ w)) x.2

    taken : (o : ℕ) → h.offer ≡ Taken o → slice_get s.owners o ≡ Some r → HasStake s h r
    taken o w n =
        let f : OfferFits code s g h (Taken o) = subst (OfferFits code s g h) w (all.offers.fits g h e) in
        has_stake code s g h r all.good.fine e (λ p i. f.2 p (same_Some f.0 r (sym f.1 ∙ n) ∙ i))

    go : (ds : List Duty) → h.duties ≡ ds → (offer : Offer) → h.offer ≡ offer → NextNames code s g h ds offer r
        → HasStake s h r
    go (d ∷ ds) q (Taken o) w (inl n) = taken o w n
    go (d ∷ ds) q (Taken o) w (inr n) = duty_staked code s g h d ds r all.good.fine e q n
    go (d ∷ ds) q NoOffer w n = duty_staked code s g h d ds r all.good.fine e q n
    go (d ∷ ds) q (Standing o) w n = duty_staked code s g h d ds r all.good.fine e q n
    go [] q (Taken o) w n = taken o w n
    go [] q NoOffer w n = instruction (frames_of s.plain g) refl n
    go [] q (Standing o) w n = instruction (frames_of s.plain g) refl n
