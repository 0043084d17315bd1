-- A meeting at a channel without a buffer: three steps of the region machine (offer, meeting, acknowledgement) for one step of the
-- three-address machine and one call of the code. That the two owe nothing before it has to be shown: a send and a receive create
-- nothing, since the regions that they name are held.
use Rattle.std.proofs.Common.{◌≡◌, ◌⊎◌, inl, inr, ℕ, zero, suc, ◌+◌, ◌≤◌, ◌<◌, Bool, true, false}
use Rattle.std.proofs.Common.{◌&&◌, ◌||◌, List, [], ◌∷◌, ◌++◌, map, drop, length, Contains, Option, Some, None, refl}
use Rattle.std.proofs.Common.{sym, ap, ◌∙◌, subst, nat_eq, if◌then◌else◌, arith, true≢false, slice_get, slice_set}
use Rattle.std.proofs.Common.{option_and_then}
use Rattle.std.specs.List.{list_any}
use Rattle.std.specs.Prelude.{Ok}
use Rattle.std.proofs.lemmas.List.{append-nil}
use Rattle.std.proofs.lemmas.Option.{slice_get_within}
use Rattle.rgo_typed.specs.Types.{is_pointer_like}
use Rattle.rgo_typed.specs.declared.actions.Action.{Action}
use Rattle.rgo_typed.specs.declared.actions.Action.TheVariants.{Recv, Send}
use Rattle.rgo_typed.specs.declared.types.Type.{«Type»}
use Rattle.rgo_wellformed.specs.TypeRules.{chan_of}
use Rattle.rgo_memory.specs.declared.values.Value.{Value}
use Rattle.rgo_memory.specs.declared.values.Value.TheVariants as value
use Rattle.rgo_memory.specs.Channels.{is_meeting_at, meets_at}
use Rattle.rgo_machine.specs.declared.limits.Sizes.{Sizes}
use Rattle.rgo_machine.specs.declared.picks.End.{End}
use Rattle.rgo_machine.specs.declared.picks.Pick.TheVariants.{Meet}
use Rattle.rgo_interpreter.specs.declared.steps.Stepped.{Stepped}
use Rattle.rgo_interpreter.specs.declared.steps.Stepped.TheVariants as stepped
use Rattle.rgo_interpreter.specs.Acting.{MachineSteps}
use Rattle.rgo_machine.specs.Machines.{AtCall, AtClose, AtReceive, AtSend, AtStart, Elsewhere, Stand, met, met_by}
use Rattle.rgo_machine.specs.Machines.{picked, unless_ended}
use Rattle.rgo_machine.specs.Runs.{Leads, run}
use Rattle.rgo_tac.specs.declared.regions.Class.TheVariants.{Name, NoClass}
use Rattle.rgo_tac.specs.declared.regions.Member.TheVariants as member
use Rattle.rgo_tac.specs.Flow.{reads, writes}
use Rattle.rgo_tac.specs.Frames.{TacFrame, value_at}
use Rattle.rgo_tac.specs.Joins.{action_joins}
use Rattle.rgo_tac.specs.Steps.{tac_stand}
use Rattle.rgo_tac.specs.Tac.{TacState, tac, tac_step}
use Rattle.rgo_code.specs.Checked.{IsChecked}
use Rattle.rgo_code.specs.Code.{Code, CodeFn, CodeInstr, CodeOp, Do, Slot}
use Rattle.rgo_code.specs.Erasure.{erased, erased_fn, erased_op}
use Rattle.rgo_code.specs.Exists.{UsesVariable}
use Rattle.rgo_code.specs.Lists.{removes_in, removes_of}
use Rattle.rgo_code.specs.NameRules.{Ascends, CreatesUsed}
use Rattle.rgo_code.specs.Names.{Holds, IsOwn, class_of, slot_class}
use Rattle.rgo_code.specs.Types.{DoFits, VariableHasType, IsWellTypedOp}
use Rattle.rgo_code.specs.declared.rules.Line.TheVariants as line
use Rattle.rgo_code.specs.declared.rules.Rule.TheVariants as rule
use Rattle.rgo_region_machine.specs.declared.regions.Region.{Region}
use Rattle.rgo_region_machine.specs.declared.regions.Region.TheVariants.{Numbered}
use Rattle.rgo_region_machine.specs.Duties.{attended, may_go}
use Rattle.rgo_region_machine.specs.Instructions.{both_instructed, has_none, instruct, is_ready, mark_with_end, plain_after}
use Rattle.rgo_region_machine.specs.Instructions.{printed_if, side_after, standing_at, touches}
use Rattle.rgo_region_machine.specs.Machine.{Acknowledge, Instruct, MakeOffer, region_step}
use Rattle.rgo_region_machine.specs.Objects.{fill_of, may_touch, owner_live, touched, touched_by}
use Rattle.rgo_region_machine.specs.Offers.{acknowledge, make_offer, offer_at, offer_for, offered, offered_channel}
use Rattle.rgo_region_machine.specs.Offers.{offers_on, open_channel}
use Rattle.rgo_region_machine.specs.Owed.{current, current_in, duties_before, duties_of_op, function_at, next_duties}
use Rattle.rgo_region_machine.specs.Owed.{removes_behind}
use Rattle.rgo_region_machine.specs.Regions.{RegionInfo, is_live}
use Rattle.rgo_region_machine.specs.Room.{roomy_step}
use Rattle.rgo_region_machine.specs.States as spec
use Rattle.rgo_region_machine.specs.States.{Create, Duty, NoOffer, RegionState, Remove, Standing, Taken, frames_in}
use Rattle.rgo_region_machine.specs.States.{frames_of, plain_at}
use Rattle.rgo_sound.proofs.plain.Steps.{Yields, yields, yields_is, yields_none, yields_where}
use Rattle.rgo_sound.proofs.pointers.Variables.{joins_agree, live_read}
use Rattle.rgo_sound.proofs.offers.Offers.{steps_keep_good}
use Rattle.rgo_sound.proofs.steps.OneStep.{OnFrom, ReceivesAt, SendsAt, StandsAt, gone_on, met_with, receive_goes}
use Rattle.rgo_sound.proofs.steps.OneStep.{send_goes, side_is, stands_at_channel}
use Rattle.rgo_sound.proofs.Places.{contains_here, get_set_other, get_set_same, get_some, length_set}
use Rattle.rgo_sound.proofs.Progress.{slot_of}
use Rattle.rgo_sound.proofs.Tests.{eq_of, nat_eq_refl, nat_ne_sym, split}
use Rattle.rgo_sound.proofs.types.Steps.{here, one_object}
use Rattle.rgo_sound.specs.Good.{AllGood}
use Rattle.rgo_sound.specs.Invariant.{HasInstr}
use Rattle.rgo_region_interpreter.specs.declared.holders.Holder.{Holder}
use Rattle.rgo_region_interpreter.specs.declared.worlds.Next.{Next}
use Rattle.rgo_region_interpreter.specs.declared.worlds.World.{World}
use Rattle.rgo_region_interpreter.specs.Holders.{HolderShows, fill_in}
use Rattle.rgo_region_interpreter.specs.Orderly.{Orderly}
use Rattle.rgo_region_interpreter.specs.Tables.{RegionTableShows}
use Rattle.rgo_region_interpreter.specs.Works.{Between, BothWork, GoroutineHasNoNext, IsNextInWorld, WorldMeets, WorldSettled, first_frame_of}
use Rattle.rgo_region_interpreter.specs.Worlds.{HoldersShow, OwesNext, Prepared, Shown, next_creates}
use Rattle.rgo_region_interpreter.proofs.owing.Attending.{leads_append}
use Rattle.rgo_region_interpreter.proofs.lifting.Good.{StateShows, StepShows, plain_at_after, shown_after, shown_none, shown_step}
use Rattle.rgo_region_interpreter.proofs.lifting.Good.{state_shows}
use Rattle.rgo_region_interpreter.proofs.holding.OneHolder.{differs, none_some, the_same}
use Rattle.rgo_region_interpreter.proofs.holding.Orderly.{orderly_step}
use Rattle.rgo_region_interpreter.proofs.stepping.Taking.{plain_at_same}
use Rattle.rgo_region_interpreter.proofs.stepping.Targets.{next_live}

-- ---- the step of the three-address machine

-- two have met on the three-address machine, with the instructions at which they were
pub record MetSo (code : Code) (p : TacState) (r u : ℕ) (next : TacState) : Type 0 where
  pub running : p.ended ≡ None
  pub apart : nat_eq r u ≡ false
  pub receiver : List TacFrame
  pub sender : List TacFrame
  pub at_r : slice_get p.goroutines r ≡ Some receiver
  pub at_u : slice_get p.goroutines u ≡ Some sender
  pub c : Value
  pub d : Value
  pub v : Value
  pub go_on : Value → List TacFrame
  pub on : List TacFrame
  pub receives : ReceivesAt code receiver c go_on
  pub sends : SendsAt code sender d v on
  pub meets : meets_at p.memory c d ≡ true
  pub is : next ≡ met_with p r u (go_on v) on

-- each meeting of it is so
pub met_so : (code : Code) (p : TacState) (r u : ℕ) → Yields (MetSo code p r u) (tac_step (erased code) p (Meet r u))
met_so code p r u = runs p.ended refl
  where
    met_from : p.ended ≡ None → nat_eq r u ≡ false → (a b : List TacFrame) → slice_get p.goroutines r ≡ Some a
        → slice_get p.goroutines u ≡ Some b → Yields (MetSo code p r u) (met_by (tac (erased code)) p r u a b)
    met_from e0 ne [] b qa qb = yields_none
    met_from e0 ne (f ∷ fs) [] qa qb = yields_none
    met_from e0 ne (f ∷ fs) (h ∷ hs) qa qb = meets (tac_stand (erased code) f) (tac_stand (erased code) h)
        (stands_at_channel code f fs) (stands_at_channel code h hs)
      where
        meets : (x y : Stand TacFrame) → StandsAt code f fs x → StandsAt code h hs y
            → Yields (MetSo code p r u) (met p r u fs hs x y)
        meets (AtReceive c blank go_on) (AtSend d v place sender) ha hb =
            yields_where (meets_at p.memory c d) (Some (met_with p r u (go_on v ∷ fs) (sender ∷ hs))) (λ m.
            yields (met_with p r u (go_on v ∷ fs) (sender ∷ hs)) (record {
              running = e0;
              apart = ne;
              receiver = f ∷ fs;
              sender = h ∷ hs;
              at_r = qa;
              at_u = qb;
              c = c;
              d = d;
              v = v;
              go_on = λ w. go_on w ∷ fs;
              on = sender ∷ hs;
              receives = ha;
              sends = hb;
              meets = m;
              is = refl;
            }))
        meets (AtReceive c blank go_on) (AtReceive d blank' go_on') ha hb = yields_none
        meets (AtReceive c blank go_on) (AtClose d place next) ha hb = yields_none
        meets (AtReceive c blank go_on) (AtCall next callee) ha hb = yields_none
        meets (AtReceive c blank go_on) (AtStart next child) ha hb = yields_none
        meets (AtReceive c blank go_on) Elsewhere ha hb = yields_none
        meets (AtSend c v place sender) y ha hb = yields_none
        meets (AtClose c place next) y ha hb = yields_none
        meets (AtCall next callee) y ha hb = yields_none
        meets (AtStart next child) y ha hb = yields_none
        meets Elsewhere y ha hb = yields_none

    go : p.ended ≡ None → (b : Bool) → nat_eq r u ≡ b → (o q : Option (List TacFrame)) → slice_get p.goroutines r ≡ o
        → slice_get p.goroutines u ≡ q → Yields (MetSo code p r u) (if b then None else option_and_then (λ f.
        option_and_then (met_by (tac (erased code)) p r u f) q) o)
    go e0 true e o q eo eq = yields_none
    go e0 false e None q eo eq = yields_none
    go e0 false e (Some a) None eo eq = yields_none
    go e0 false e (Some a) (Some b) eo eq = met_from e0 e a b eo eq

    runs : (ended : Option End) → p.ended ≡ ended
        → Yields (MetSo code p r u) (unless_ended ended (picked (tac (erased code)) p (Meet r u)))
    runs None e0 = go e0 (nat_eq r u) refl (slice_get p.goroutines r) (slice_get p.goroutines u) refl refl
    runs (Some x) e0 = yields_none

-- ---- a send and a receive create nothing

-- the function of a frame that has a next instruction
known_fn : (code : Code) (frame : TacFrame) (instr : CodeInstr) → current code frame ≡ Some instr
    → (fn : CodeFn) × (function_at code frame ≡ Some fn)
known_fn code frame instr cur = go (function_at code frame) refl
  where
    go : (o : Option CodeFn) → function_at code frame ≡ o → (fn : CodeFn) × (function_at code frame ≡ Some fn)
    go None e = absurd (none_some (sym (ap (λ o. current_in o frame.next) e) ∙ cur))
    go (Some fn) e = (fn, e)

module _ (code : Code) (checked : IsChecked code) (frame : TacFrame) (fn : CodeFn) (instr : CodeInstr)
    (is_fn : function_at code frame ≡ Some fn) (cur : current code frame ≡ Some instr) where
  there : HasInstr fn frame.next instr
  there = here code checked frame fn instr is_fn cur

  -- the names of what is read are held
  read_held : (k v : ℕ) → IsOwn fn k → Contains (reads (erased_op instr.op)) v → class_of fn v ≡ Name k
      → Holds fn k frame.next
  read_held k v own read named =
      (own, record { variable = v; named = named; live = live_read fn frame.next v instr there read })

  none_created : ((k v : ℕ) → IsOwn fn k → class_of fn v ≡ Name k → writes (erased_op instr.op) ≡ Some v
      → Holds fn k frame.next) → instr.creates ≡ []
  none_created written = go instr.creates refl
    where
      used : CreatesUsed fn frame.next instr
      used = checked rule.Creations (line.Instr frame.function frame.next) fn instr is_fn there

      nothing : (k : ℕ) → Contains instr.creates k → ⊥
      nothing k c = by ((used k).0 c).1.used
        where
          by : UsesVariable (erased_op instr.op) ((used k).0 c).1.variable → ⊥
          by (inl read) = ((used k).0 c).2 (read_held k ((used k).0 c).1.variable ((used k).0 c).0 read
              ((used k).0 c).1.named)
          by (inr w) = ((used k).0 c).2 (written k ((used k).0 c).1.variable ((used k).0 c).0 ((used k).0 c).1.named w)

      go : (cs : List ℕ) → instr.creates ≡ cs → instr.creates ≡ []
      go [] e = e
      go (k ∷ cs) e = absurd (nothing k (subst (λ l. Contains l k) (sym e) (contains_here k cs)))

  fits_op : (op : CodeOp) → instr.op ≡ op → IsWellTypedOp (erased code) (erased_fn fn) (erased_op op)
  fits_op op is = subst (λ o. IsWellTypedOp (erased code) (erased_fn fn) (erased_op o)) is
      (checked rule.Types (line.Instr frame.function frame.next) fn instr is_fn there)

  pub send_creates : (to : Option ℕ) (channel sent : ℕ) (removes : List ℕ)
      → instr.op ≡ Do to Send (channel ∷ sent ∷ []) removes → instr.creates ≡ []
  send_creates to channel sent removes is = none_created (λ k v own named w.
      absurd (no_target to v fits.0 fits.2 (sym (ap (λ op. writes (erased_op op)) is) ∙ w)))
    where
      fits : IsWellTypedOp (erased code) (erased_fn fn) (erased_op (Do to Send (channel ∷ sent ∷ []) removes))
      fits = fits_op (Do to Send (channel ∷ sent ∷ []) removes) is

      no_target : (to : Option ℕ) (v : ℕ) (operands : List «Type»)
          → DoFits (erased code) (erased_fn fn) to Send operands → to ≡ Some v → ⊥
      no_target None v operands x e = none_some e
      no_target (Some d) v operands (ty, typed, x) e = x

  -- what is received has the class of the channel
  received_class : (to : Option ℕ) (channel : ℕ) (removes : List ℕ) → instr.op ≡ Do to Recv (channel ∷ []) removes
      → (k v : ℕ) → class_of fn v ≡ Name k → to ≡ Some v → class_of fn channel ≡ Name k
  received_class to channel removes is k v named w =
      sym (joins_agree code checked frame.function frame.next fn instr is_fn there to Recv (channel ∷ []) removes is
      (member.Variable v) (member.Variable channel) (ap (λ t. action_joins Recv t (channel ∷ [])) w) (λ n. name_class n)
      (λ n. classed n)) ∙ named
    where
      name_class : class_of fn v ≡ NoClass → ⊥
      name_class n = clash (sym named ∙ n)
        where
          clash : Name k ≡ NoClass → ⊥
          clash e = cc

      fits : IsWellTypedOp (erased code) (erased_fn fn) (erased_op (Do to Recv (channel ∷ []) removes))
      fits = fits_op (Do to Recv (channel ∷ []) removes) is

      fits_v : DoFits (erased code) (erased_fn fn) (Some v) Recv fits.0
      fits_v = subst (λ t. DoFits (erased code) (erased_fn fn) t Recv fits.0) w fits.2

      head : (x y : Option «Type») (xs ys : List (Option «Type»)) → x ∷ xs ≡ y ∷ ys → x ≡ y
      head x y xs ys e = cc

      typed : VariableHasType (erased_fn fn) channel (chan_of fits_v.0)
      typed = head (slice_get (erased_fn fn).variables channel) (Some (chan_of fits_v.0)) [] []
          (fits.1 ∙ ap (map Some) fits_v.2)

      slot : (s : Slot) × (slice_get fn.variables channel ≡ Some s) × (s.ty ≡ chan_of fits_v.0)
      slot = slot_of fn.variables channel (chan_of fits_v.0) typed

      classed : class_of fn channel ≡ NoClass → ⊥
      classed n = (checked rule.Classes (line.Slot frame.function channel) fn slot.0 is_fn slot.1).1
          (ap is_pointer_like slot.2) (sym (ap slot_class slot.1) ∙ n)

  pub receive_creates : (to : Option ℕ) (channel : ℕ) (removes : List ℕ)
      → instr.op ≡ Do to Recv (channel ∷ []) removes → instr.creates ≡ []
  receive_creates to channel removes is = none_created (λ k v own named w.
      read_held k channel own
      (subst (λ op. Contains (reads (erased_op op)) channel) (sym is) (contains_here channel []))
      (received_class to channel removes is k v named (sym (ap (λ op. writes (erased_op op)) is) ∙ w)))

-- so nothing is owed before such an instruction
none_before : (code : Code) (frame : TacFrame) (callers : List TacFrame) (instr : CodeInstr) (to : Option ℕ) (action : Action)
    (from removes : List ℕ) → current code frame ≡ Some instr → instr.op ≡ Do to action from removes
    → instr.creates ≡ [] → next_duties code (frame ∷ callers) ≡ []
none_before code frame callers instr to action from removes cur is none =
    ap duties_before cur
    ∙ ap (λ l. map Create l ++ duties_of_op instr.op) none
    ∙ ap duties_of_op is

-- before a send, and before a receive
pub sender_owes_none : (code : Code) → IsChecked code → (frames : List TacFrame) (d v : Value) (next : List TacFrame)
    → SendsAt code frames d v next → next_duties code frames ≡ []
sender_owes_none code checked frames d v next x =
    let f = known_fn code x.frame x.instr x.cur in
    ap (next_duties code) x.at
    ∙ none_before code x.frame x.callers x.instr x.to Send (x.channel ∷ x.sent ∷ []) x.removes x.cur x.is
    (send_creates code checked x.frame f.0 x.instr f.1 x.cur x.to x.channel x.sent x.removes x.is)

pub receiver_owes_none : (code : Code) → IsChecked code → (frames : List TacFrame) (c : Value) (go_on : Value → List TacFrame)
    → ReceivesAt code frames c go_on → next_duties code frames ≡ []
receiver_owes_none code checked frames c go_on x =
    let f = known_fn code x.frame x.instr x.cur in
    ap (next_duties code) x.at
    ∙ none_before code x.frame x.callers x.instr x.to Recv (x.channel ∷ []) x.removes x.cur x.is
    (receive_creates code checked x.frame f.0 x.instr f.1 x.cur x.to x.channel x.removes x.is)

-- ---- the steps of the region machine

-- two have met on the region machine: the sender has offered, and acknowledged that its offer was taken
pub record MeetsBy (code : Code) (sizes : Sizes) (s : RegionState) (r u : ℕ) (next : TacState) (h k : spec.Holder)
    (x : MetSo code s.plain r u next) : Type 0 where
  pub state : RegionState
  pub leads : Leads (roomy_step code sizes) s (MakeOffer u ∷ Instruct (Meet r u) ∷ Acknowledge u ∷ []) state
  pub good : AllGood code state
  pub orderly : Orderly code state
  pub plain : state.plain ≡ plain_after s next
  pub mark : state.mark ≡ mark_with_end s.mark next.ended
  pub owners : state.owners ≡ s.owners
  pub regions : state.regions ≡ s.regions
  pub global_pages : state.global_pages ≡ s.global_pages
  pub as_many : length state.holders ≡ length s.holders
  pub receiver : slice_get state.holders r ≡ Some (gone_on (receive_goes x.receives x.v) h)
  pub sender : slice_get state.holders u ≡ Some (record (gone_on (send_goes x.sends) k) { offer = NoOffer })
  pub others : (j : ℕ) → nat_eq r j ≡ false → nat_eq u j ≡ false → slice_get state.holders j ≡ slice_get s.holders j

-- an owner is live in another state with the same regions
live_same : (a b : RegionState) → b.regions ≡ a.regions → (x : Option Region) → owner_live a x ≡ true
    → owner_live b x ≡ true
live_same a b q None e = e
live_same a b q (Some r) e = ap (λ rs. is_live rs r) q ∙ e

-- a goroutine is ready that owes nothing, has nothing to acknowledge, and touches what is live
ready_at : (code : Code) (s : RegionState) (h : spec.Holder) (frame : TacFrame) (callers : List TacFrame) (instr : CodeInstr)
    → current code frame ≡ Some instr → h.duties ≡ [] → may_go h.offer ≡ true
    → may_touch s (touched frame instr.op) ≡ true → is_ready code s h (frame ∷ callers) ≡ true
ready_at code s h frame callers instr cur none free live =
    ap (λ ds. has_none ds && may_go h.offer && touches s frame (current code frame)) none
    ∙ ap (λ b. b && touches s frame (current code frame)) free
    ∙ ap (touches s frame) cur
    ∙ live

module _ (code : Code) (sizes : Sizes) (s : RegionState) (r u : ℕ) (next : TacState) (checked : IsChecked code)
    (ascends : Ascends code) (good : AllGood code s) (orderly : Orderly code s) (x : MetSo code s.plain r u next)
    (step : tac_step (erased code) s.plain (Meet r u) ≡ Some next)
    (h k : spec.Holder) (there_h : slice_get s.holders r ≡ Some h) (there_k : slice_get s.holders u ≡ Some k)
    (none_h : h.duties ≡ []) (none_k : k.duties ≡ []) (free_h : h.offer ≡ NoOffer) (free_k : k.offer ≡ NoOffer)
    (no_offers : (o : ℕ) → list_any (λ (q : spec.Holder). offers_on o q.offer) s.holders ≡ false) where
  -- the channel
  at_channel : (o : ℕ) × (x.c ≡ value.Object o) × (x.d ≡ value.Object o)
  at_channel = one_object code checked s.plain.memory x.c x.d x.meets

  channel : ℕ
  channel = at_channel.0

  -- the sender sends on it
  sends_on : value_at x.sends.frame x.sends.channel ≡ value.Object channel
  unfolding channel
  sends_on = sym x.sends.channel_is ∙ at_channel.2

  -- it is open, and without a buffer
  meeting : is_meeting_at (slice_get s.plain.memory.heap channel) ≡ true
  unfolding channel
  meeting =
      sym (ap (λ b. if b then is_meeting_at (slice_get s.plain.memory.heap channel) else false) (nat_eq_refl channel))
      ∙ sym (ap (λ y. meets_at s.plain.memory y (value.Object channel)) at_channel.1)
      ∙ sym (ap (meets_at s.plain.memory x.c) at_channel.2)
      ∙ x.meets

  at_sender : slice_get s.plain.goroutines u ≡ Some (x.sends.frame ∷ x.sends.callers)
  at_sender = x.at_u ∙ ap Some x.sends.at

  at_receiver : slice_get s.plain.goroutines r ≡ Some (x.receives.frame ∷ x.receives.callers)
  at_receiver = x.at_r ∙ ap Some x.receives.at

  live_sender : may_touch s (touched x.sends.frame x.sends.instr.op) ≡ true
  live_sender = next_live code s u checked good x.sends.frame x.sends.callers x.sends.instr at_sender x.sends.cur

  -- ---- the offer

  offering : spec.Holder
  offering = record k { offer = Standing channel }

  t1 : RegionState
  t1 = attended s u offering

  makes : region_step code sizes.page_words s (MakeOffer u) ≡ Some t1
  unfolding t1 offering
  makes =
      ap (option_and_then (λ q. make_offer code s u q (frames_of s.plain u))) there_k
      ∙ ap (make_offer code s u k) (ap frames_in at_sender)
      ∙ ap (λ b. if b then offer_at code s u k x.sends.frame else None)
      (ready_at code s k x.sends.frame x.sends.callers x.sends.instr x.sends.cur none_k (ap may_go free_k) live_sender)
      ∙ ap (option_and_then (offer_for s u k x.sends.frame)) x.sends.cur
      ∙ ap (λ op. option_and_then (offered s u k) (offered_channel s x.sends.frame op)) x.sends.is
      ∙ ap (λ v. option_and_then (offered s u k) (open_channel s (v ∷ value_at x.sends.frame x.sends.sent ∷ [])))
      sends_on
      ∙ ap (λ b. option_and_then (offered s u k) (if b then Some channel else None)) meeting
      ∙ ap (λ b. if b then None else Some (attended s u (record k { offer = Standing channel }))) (no_offers channel)

  good1 : AllGood code t1
  good1 = steps_keep_good code sizes.page_words s t1 (MakeOffer u) checked ascends good makes

  orderly1 : Orderly code t1
  orderly1 = orderly_step code sizes.page_words s t1 (MakeOffer u) checked ascends good orderly makes

  h1 : slice_get t1.holders r ≡ Some h
  unfolding t1
  h1 = get_set_other s.holders u r offering (nat_ne_sym r u x.apart) ∙ there_h

  k1 : slice_get t1.holders u ≡ Some offering
  unfolding t1
  k1 = get_set_same s.holders u k offering there_k

  -- ---- the meeting

  receiver_after : spec.Holder
  receiver_after = side_after code h (frames_of s.plain r) (frames_of next r)

  sender_after : spec.Holder
  sender_after = side_after code offering (frames_of s.plain u) (frames_of next u)

  taken : spec.Holder
  taken = record sender_after { offer = Taken channel }

  t2 : RegionState
  t2 = record t1 {
    plain = plain_after t1 next;
    holders = slice_set (slice_set t1.holders r receiver_after) u taken;
    steps = t1.steps + 1;
    mark = mark_with_end t1.mark next.ended;
  }

  ready_r : is_ready code t1 h (frames_of s.plain r) ≡ true
  unfolding t1
  ready_r =
      ap (is_ready code t1 h) (ap frames_in at_receiver)
      ∙ ready_at code t1 h x.receives.frame x.receives.callers x.receives.instr x.receives.cur none_h (ap may_go free_h)
      (next_live code t1 r checked good1 x.receives.frame x.receives.callers x.receives.instr at_receiver
      x.receives.cur)

  ready_u : is_ready code t1 offering (frames_of s.plain u) ≡ true
  unfolding t1 offering
  ready_u =
      ap (is_ready code t1 offering) (ap frames_in at_sender)
      ∙ ready_at code t1 offering x.sends.frame x.sends.callers x.sends.instr x.sends.cur none_k refl
      (next_live code t1 u checked good1 x.sends.frame x.sends.callers x.sends.instr at_sender x.sends.cur)

  both_ready : (is_ready code t1 h (frames_of s.plain r) && is_ready code t1 offering (frames_of s.plain u)
      && standing_at offering.offer) ≡ true
  unfolding offering
  both_ready =
      ap (λ b. b && is_ready code t1 offering (frames_of s.plain u) && standing_at offering.offer) ready_r
      ∙ ap (λ b. b && standing_at offering.offer) ready_u

  meets_then : region_step code sizes.page_words t1 (Instruct (Meet r u)) ≡ Some t2
  unfolding t1 t2 offering taken receiver_after sender_after
  meets_then =
      ap (option_and_then (instruct code sizes.page_words t1 (Meet r u))) step
      ∙ ap (λ q. both_instructed code t1 r u q (slice_get t1.holders u) next) h1
      ∙ ap (λ q. both_instructed code t1 r u (Some h) q next) k1
      ∙ ap (λ b. if b then Some t2 else None) both_ready

  good2 : AllGood code t2
  good2 = steps_keep_good code sizes.page_words t1 t2 (Instruct (Meet r u)) checked ascends good1 meets_then

  orderly2 : Orderly code t2
  orderly2 = orderly_step code sizes.page_words t1 t2 (Instruct (Meet r u)) checked ascends good1 orderly1 meets_then

  k2 : slice_get t2.holders u ≡ Some taken
  unfolding t2
  k2 = get_set_same (slice_set t1.holders r receiver_after) u offering taken
      (get_set_other t1.holders r u receiver_after x.apart ∙ k1)

  -- ---- the acknowledgement

  given_back : spec.Holder
  given_back = record sender_after { offer = NoOffer }

  t3 : RegionState
  t3 = attended t2 u given_back

  acknowledges : region_step code sizes.page_words t2 (Acknowledge u) ≡ Some t3
  unfolding t1 t2 t3 taken given_back
  acknowledges =
      ap (option_and_then (λ (q : spec.Holder). acknowledge t2 u q q.offer)) k2
      ∙ ap (λ b. if b then Some (attended t2 u given_back) else None) live
    where
      is_touched : touched x.sends.frame x.sends.instr.op ≡ Some channel
      is_touched =
          ap (touched x.sends.frame) x.sends.is
          ∙ ap (λ v. touched_by Send (v ∷ value_at x.sends.frame x.sends.sent ∷ [])) sends_on

      live : may_touch t2 (Some channel) ≡ true
      live = live_same s t2 refl (slice_get s.owners channel) (sym (ap (may_touch s) is_touched) ∙ live_sender)

  -- ---- what it came to

  receiver_is : receiver_after ≡ gone_on (receive_goes x.receives x.v) h
  unfolding receiver_after
  receiver_is =
      ap (λ f. side_after code h f (frames_of next r)) (ap frames_in x.at_r)
      ∙ ap (side_after code h x.receiver) (ap (λ p. frames_of p r) x.is
      ∙ ap frames_in (get_set_other (slice_set s.plain.goroutines r (x.go_on x.v)) u r x.on (nat_ne_sym r u x.apart)
      ∙ get_set_same s.plain.goroutines r x.receiver (x.go_on x.v) x.at_r))
      ∙ side_is code h x.receiver (x.go_on x.v) (receive_goes x.receives x.v)

  sender_is : sender_after ≡ gone_on (send_goes x.sends) offering
  unfolding sender_after
  sender_is =
      ap (λ f. side_after code offering f (frames_of next u)) (ap frames_in x.at_u)
      ∙ ap (side_after code offering x.sender) (ap (λ p. frames_of p u) x.is
      ∙ ap frames_in (get_set_same (slice_set s.plain.goroutines r (x.go_on x.v)) u x.sender x.on
      (get_set_other s.plain.goroutines r u (x.go_on x.v) x.apart ∙ x.at_u)))
      ∙ side_is code offering x.sender x.on (send_goes x.sends)

  pub meets_by : MeetsBy code sizes s r u next h k x
  unfolding t1 t2 t3 offering given_back
  meets_by = record {
    state = t3;
    leads =
        ap (option_and_then (λ t. run (roomy_step code sizes) t (Instruct (Meet r u) ∷ Acknowledge u ∷ []))) makes
        ∙ ap (option_and_then (λ t. run (roomy_step code sizes) t (Acknowledge u ∷ []))) meets_then
        ∙ ap (option_and_then (λ t. run (roomy_step code sizes) t [])) acknowledges;
    good = steps_keep_good code sizes.page_words t2 t3 (Acknowledge u) checked ascends good2 acknowledges;
    orderly = orderly_step code sizes.page_words t2 t3 (Acknowledge u) checked ascends good2 orderly2 acknowledges;
    plain = refl;
    mark = refl;
    owners = refl;
    regions = refl;
    global_pages = refl;
    as_many =
        length_set t2.holders u given_back
        ∙ length_set (slice_set t1.holders r receiver_after) u taken
        ∙ length_set t1.holders r receiver_after
        ∙ length_set s.holders u offering;
    receiver =
        get_set_other t2.holders u r given_back (nat_ne_sym r u x.apart)
        ∙ get_set_other (slice_set t1.holders r receiver_after) u r taken (nat_ne_sym r u x.apart)
        ∙ get_set_same t1.holders r h receiver_after h1
        ∙ ap Some receiver_is;
    sender =
        get_set_same t2.holders u taken given_back k2
        ∙ ap (λ (q : spec.Holder). Some (record q { offer = NoOffer })) sender_is;
    others = λ j nr nu.
        get_set_other t2.holders u j given_back nu
        ∙ get_set_other (slice_set t1.holders r receiver_after) u j taken nu
        ∙ get_set_other t1.holders r j receiver_after nr
        ∙ get_set_other s.holders u j offering nu;
  }

-- ---- no meeting

-- a goroutine without a next instruction is at no channel
no_next : (w : World) (g : ℕ) (frame : TacFrame) (callers : List TacFrame) (instr : CodeInstr)
    → slice_get w.state.goroutines g ≡ Some (frame ∷ callers) → current w.code.now frame ≡ Some instr → GoroutineHasNoNext w g
    → ⊥
no_next w g frame callers instr at cur none = none_some (sym (none frame (ap first_frame_of at)) ∙ cur)

-- so there is no meeting if one of the two has none
pub no_meeting : (w : World) (s : RegionState) (r u : ℕ) → Between w s → GoroutineHasNoNext w r ⊎ GoroutineHasNoNext w u
    → tac_step (erased w.code.now) (plain_at s w.state.printed) (Meet r u) ≡ None
no_meeting w s r u between none = go (tac_step (erased w.code.now) (plain_at s w.state.printed) (Meet r u)) refl
  where
    at_w : (g : ℕ) (frames : List TacFrame) → slice_get s.plain.goroutines g ≡ Some frames
        → slice_get w.state.goroutines g ≡ Some frames
    at_w g frames e = ap (λ gs. slice_get gs g) between.shown.goroutines ∙ e

    never : (next : TacState) → MetSo w.code.now (plain_at s w.state.printed) r u next
        → GoroutineHasNoNext w r ⊎ GoroutineHasNoNext w u → ⊥
    never next x (inl n) = no_next w r x.receives.frame x.receives.callers x.receives.instr
        (at_w r (x.receives.frame ∷ x.receives.callers) (x.at_r ∙ ap Some x.receives.at)) x.receives.cur n
    never next x (inr n) = no_next w u x.sends.frame x.sends.callers x.sends.instr
        (at_w u (x.sends.frame ∷ x.sends.callers) (x.at_u ∙ ap Some x.sends.at)) x.sends.cur n

    go : (o : Option TacState) → tac_step (erased w.code.now) (plain_at s w.state.printed) (Meet r u) ≡ o
        → tac_step (erased w.code.now) (plain_at s w.state.printed) (Meet r u) ≡ None
    go None e = e
    go (Some next) e = absurd (never next
        (yields_is {P = MetSo w.code.now (plain_at s w.state.printed) r u}
        (tac_step (erased w.code.now) (plain_at s w.state.printed) (Meet r u)) next
        (met_so w.code.now (plain_at s w.state.printed) r u) e) none)

-- if there is no step over what the code keeps of the memory, there is none over the whole
pub not_enabled : (w : World) (s : RegionState) (r u : ℕ) → Between w s
    → tac_step (erased w.code.now) w.state (Meet r u) ≡ None
    → tac_step (erased w.code.now) (plain_at s w.state.printed) (Meet r u) ≡ None
not_enabled w s r u between e = shown_none w.code.now s between.prepared.checked between.good w.state
    (state_shows w s between.shown) (Meet r u) e

-- ---- what the world shows

none_left : (n : ℕ) → ◌≡◌ {A = List Duty} (drop n []) []
none_left zero = refl
none_left (suc n) = refl

-- no goroutine offers on this channel, if none makes an offer at all
no_offer_stands : (o : ℕ) (hs : List spec.Holder)
    → ((g : ℕ) (h : spec.Holder) → slice_get hs g ≡ Some h → h.offer ≡ NoOffer)
    → list_any (λ (q : spec.Holder). offers_on o q.offer) hs ≡ false
no_offer_stands o [] none = refl
no_offer_stands o (h ∷ hs) none =
    ap (λ b. b || list_any (λ (q : spec.Holder). offers_on o q.offer) hs) (ap (offers_on o) (none 0 h refl))
    ∙ no_offer_stands o hs (λ g k e. none (suc g) k e)

-- it owes what it owed, if it has the same frames
owes_still : (code : Code) (s t : RegionState) (j : ℕ) (c : Holder) (y : spec.Holder)
    → frames_of t.plain j ≡ frames_of s.plain j → OwesNext code s j c y → OwesNext code t j c y
owes_still code s t j c y frames was = record {
  left = was.left ∙ ap (λ fs. drop c.done (next_duties code fs)) (sym frames);
  within = subst (λ fs. c.done ≤ length (next_duties code fs)) (sym frames) was.within;
  together = λ l. was.together (subst (λ fs. length (next_creates code fs) < c.done) frames l);
}

-- what is removed after an action
removes_are : (frame : TacFrame) (op : CodeOp) (to : Option ℕ) (action : Action) (from removes : List ℕ)
    → op ≡ Do to action from removes → removes_of op ≡ removes_behind frame op
removes_are frame op to action from removes is = ap removes_of is ∙ sym (ap (removes_behind frame) is)

-- the next instruction of a goroutine, for frames that are known in another form
next_instr : (w : World) (g : ℕ) (next : Next) (at : IsNextInWorld w g next) (frame : TacFrame) (callers : List TacFrame)
    (instr : CodeInstr) → slice_get w.state.goroutines g ≡ Some (frame ∷ callers)
    → current w.code.now frame ≡ Some instr → at.is.instr ≡ instr
next_instr w g next at frame callers instr e cur =
    the_same at.is.instr instr (sym its ∙ ap (current w.code.now) same ∙ cur)
  where
    its : current w.code.now at.frame ≡ Some at.is.instr
    its = ap (λ o. current_in o at.frame.next) at.is.function
        ∙ ap (slice_get next.function.body) (sym at.is.at) ∙ at.is.is_instr

    first : (f h : TacFrame) (fs hs : List TacFrame) → Some (f ∷ fs) ≡ Some (h ∷ hs) → f ≡ h
    first f h fs hs e = cc

    same : at.frame ≡ frame
    same = first at.frame frame at.callers callers (sym at.frames ∙ e)

-- where a goroutine continues from, for frames that are known in another form
goes_from : {code : Code} {frames next : List TacFrame} (on : OnFrom code frames next) (frame : TacFrame)
    (callers : List TacFrame) (instr : CodeInstr) → frames ≡ frame ∷ callers → current code frame ≡ Some instr
    → removes_behind frame instr.op ≡ removes_behind on.frame on.instr.op
goes_from {code} on frame callers instr at cur = λ i. removes_behind (same i) (its i).op
  where
    first : (f h : TacFrame) (fs hs : List TacFrame) → f ∷ fs ≡ h ∷ hs → f ≡ h
    first f h fs hs e = cc

    same : frame ≡ on.frame
    same = first frame on.frame callers on.callers (sym at ∙ on.at)

    its : instr ≡ on.instr
    its = the_same instr on.instr (sym cur ∙ ap (current code) same ∙ on.cur)

-- one of the two, before the meeting
record Side (w : World) (s : RegionState) (g : ℕ) : Type 0 where
  h : spec.Holder
  there : slice_get s.holders g ≡ Some h
  none : h.duties ≡ []
  free : h.offer ≡ NoOffer

module _ (w : World) (s : RegionState) (between : Between w s) where
  -- what the code keeps of a goroutine
  kept_of : (g : ℕ) (h : spec.Holder) → slice_get s.holders g ≡ Some h
      → (c : Holder) × (slice_get w.holders.items g ≡ Some c)
  kept_of g h e =
      let a = (between.shown.holders between.running).as_many in
      let b = slice_get_within s.holders g h e in
      get_some w.holders.items g (omega (arith, a, b))

  -- between instructions none makes an offer
  no_offer_of : (g : ℕ) (h : spec.Holder) → slice_get s.holders g ≡ Some h → h.offer ≡ NoOffer
  no_offer_of g h e =
      let c = kept_of g h e in ((between.shown.holders between.running).each g c.0 h c.1 e).no_offer

  -- one before whose next instruction nothing is owed
  side_of : (g : ℕ) (frames : List TacFrame) → slice_get s.plain.goroutines g ≡ Some frames
      → next_duties w.code.now frames ≡ [] → Side w s g
  side_of g frames at owes = record {
    h = h.0;
    there = h.1;
    none =
        let c = kept_of g h.0 h.1 in
        (between.owes g c.0 h.0 c.1 h.1).left
        ∙ ap (λ o. drop c.0.done (next_duties w.code.now (frames_in o))) at
        ∙ ap (drop c.0.done) owes
        ∙ none_left c.0.done;
    free = no_offer_of g h.0 h.1;
  }
    where
      h : (h : spec.Holder) × (slice_get s.holders g ≡ Some h)
      h = get_some s.holders g
          (let a = slice_get_within s.plain.goroutines g frames at in
          let b = between.good.good.fine.as_many in omega (arith, a, b))

-- ---- what the code's step was

-- there was a step
pub did_step : (did : Stepped) (p q : TacState) (next : Option TacState)
    → (did ≡ stepped.Advanced) ⊎ ((e : End) × (did ≡ stepped.Ended e)) → MachineSteps (Ok did) p q next → next ≡ Some q
did_step did p q next (inl e) x = (subst (λ d. MachineSteps (Ok d) p q next) e x).0
did_step did p q next (inr (end, e)) x = (subst (λ d. MachineSteps (Ok d) p q next) e x).0

-- there was none
pub did_nothing : (did : Stepped) (p q : TacState) (next : Option TacState) → did ≡ stepped.NotEnabled
    → MachineSteps (Ok did) p q next → (next ≡ None) × (q ≡ p)
did_nothing did p q next e x = subst (λ d. MachineSteps (Ok d) p q next) e x

-- ---- a meeting of the world

-- The three-address machine has met over what the world keeps of the memory.
module _ (w v : World) (s : RegionState) (r u : ℕ) (between : Between w s)
    (stepped : tac_step (erased w.code.now) w.state (Meet r u) ≡ Some v.state)
    (same : v ≡ record w { state = v.state }) where
  shows : StateShows w.state s
  shows = state_shows w s between.shown

  shown : StepShows w.code.now s w.state (Meet r u) v.state
  shown = shown_step w.code.now s between.prepared.checked between.good w.state shows between.running (Meet r u) v.state
      stepped

  both : MetSo w.code.now s.plain r u shown.next
  both = yields_is {P = MetSo w.code.now s.plain r u} (tac_step (erased w.code.now) s.plain (Meet r u)) shown.next
      (met_so w.code.now s.plain r u) shown.step

  -- along which edges they continue
  abbrev goes_r : OnFrom w.code.now both.receiver (both.go_on both.v)
  goes_r = receive_goes both.receives both.v

  abbrev goes_u : OnFrom w.code.now both.sender both.on
  goes_u = send_goes both.sends

  receiver : Side w s r
  receiver = side_of w s between r both.receiver both.at_r
      (receiver_owes_none w.code.now between.prepared.checked both.receiver both.c both.go_on both.receives)

  sender : Side w s u
  sender = side_of w s between u both.sender both.at_u
      (sender_owes_none w.code.now between.prepared.checked both.sender both.d both.v both.on both.sends)

  done : MeetsBy w.code.now w.sizes s r u shown.next receiver.h sender.h both
  done = meets_by w.code.now w.sizes s r u shown.next between.prepared.checked between.prepared.ascends
      between.good between.orderly both shown.step receiver.h sender.h receiver.there sender.there receiver.none
      sender.none receiver.free sender.free (λ o. no_offer_stands o s.holders (no_offer_of w s between))

  abbrev t : RegionState
  t = done.state

  abbrev now : World
  now = record w { state = v.state }

  -- ---- the state after it

  plain : t.plain ≡ plain_after s shown.next
  plain = done.plain

  not_ended : shown.next.ended ≡ None
  not_ended = ap (λ (p : TacState). p.ended) both.is ∙ both.running

  still : t.mark ≡ None
  still = done.mark ∙ ap (mark_with_end s.mark) not_ended ∙ ap (λ m. mark_with_end m None) between.running

  state_now : StateShows v.state t
  state_now = shown_after w.code.now s between.prepared.checked between.good w.state shows between.running (Meet r u)
      v.state shown t done.plain done.mark [] tt done.regions (done.owners ∙ sym (append-nil s.owners))

  receiver_frames : frames_of t.plain r ≡ goes_r.frame' ∷ goes_r.callers
  receiver_frames =
      ap (λ p. frames_of p r) plain
      ∙ ap (λ p. frames_of p r) both.is
      ∙ ap frames_in (get_set_other (slice_set s.plain.goroutines r (both.go_on both.v)) u r both.on
      (nat_ne_sym r u both.apart) ∙ get_set_same s.plain.goroutines r both.receiver (both.go_on both.v) both.at_r)
      ∙ goes_r.next_is

  sender_frames : frames_of t.plain u ≡ goes_u.frame' ∷ goes_u.callers
  sender_frames =
      ap (λ p. frames_of p u) plain
      ∙ ap (λ p. frames_of p u) both.is
      ∙ ap frames_in (get_set_same (slice_set s.plain.goroutines r (both.go_on both.v)) u both.sender both.on
      (get_set_other s.plain.goroutines r u (both.go_on both.v) both.apart ∙ both.at_u))
      ∙ goes_u.next_is

  other_frames : (j : ℕ) → nat_eq r j ≡ false → nat_eq u j ≡ false → frames_of t.plain j ≡ frames_of s.plain j
  other_frames j nr nu =
      ap (λ p. frames_of p j) plain
      ∙ ap (λ p. frames_of p j) both.is
      ∙ ap frames_in (get_set_other (slice_set s.plain.goroutines r (both.go_on both.v)) u j both.on nu
      ∙ get_set_other s.plain.goroutines r j (both.go_on both.v) nr)

  -- ---- what goroutines have of the regions

  -- all but what it owes
  record Had (j : ℕ) (y : spec.Holder) : Type 0 where
    z : spec.Holder
    there : slice_get s.holders j ≡ Some z
    duties : List Duty
    is : y ≡ record z { duties = duties; offer = NoOffer }

  had : (j : ℕ) (y : spec.Holder) → slice_get t.holders j ≡ Some y → Had j y
  had j y e = split (nat_eq u j) (λ q. of_sender (eq_of u j q)) (λ nu.
      split (nat_eq r j) (λ q. of_receiver (eq_of r j q)) (λ nr. of_other nr nu))
    where
      of_sender : u ≡ j → Had j y
      of_sender q = record {
        z = sender.h;
        there = ap (slice_get s.holders) (sym q) ∙ sender.there;
        duties = (gone_on goes_u sender.h).duties;
        is = the_same y (record (gone_on goes_u sender.h) { offer = NoOffer })
            (sym e ∙ ap (slice_get done.state.holders) (sym q) ∙ done.sender);
      }

      of_receiver : r ≡ j → Had j y
      of_receiver q = record {
        z = receiver.h;
        there = ap (slice_get s.holders) (sym q) ∙ receiver.there;
        duties = (gone_on goes_r receiver.h).duties;
        is = the_same y (gone_on goes_r receiver.h)
            (sym e ∙ ap (slice_get done.state.holders) (sym q) ∙ done.receiver)
            ∙ (λ i. record receiver.h {
              duties = (gone_on goes_r receiver.h).duties;
              offer = receiver.free i;
            });
      }

      of_other : nat_eq r j ≡ false → nat_eq u j ≡ false → Had j y
      of_other nr nu =
          let q : slice_get s.holders j ≡ Some y = sym (done.others j nr nu) ∙ e in
          record {
            z = y;
            there = q;
            duties = y.duties;
            is = λ i. record y { duties = y.duties; offer = no_offer_of w s between j y q i };
          }

  holders_now : HoldersShow now t
  holders_now = record { as_many = as_many; each = each; unmade = unmade }
    where
      old : HoldersShow w s
      old = between.shown.holders between.running

      as_many : length w.holders.items ≡ length done.state.holders
      as_many = old.as_many ∙ sym done.as_many

      each : (j : ℕ) (c : Holder) (y : spec.Holder) → slice_get w.holders.items j ≡ Some c
          → slice_get done.state.holders j ≡ Some y → HolderShows c y
      each j c y e f = go (had j y f)
        where
          go : Had j y → HolderShows c y
          go k = subst (HolderShows c) (sym k.is)
              (let shows = old.each j c k.z e k.there in record {
                names = shows.names;
                protections = shows.protections;
                base = shows.base;
                fills = shows.fills;
                global_fill = shows.global_fill;
                reserved = shows.reserved;
                no_offer = refl;
              })

      unmade : (j : ℕ) (c : Holder) (y : spec.Holder) → slice_get w.holders.items j ≡ Some c
          → slice_get done.state.holders j ≡ Some y → (q : ℕ) → length done.state.regions ≤ q
          → fill_in c (Numbered q) ≡ fill_of y.fills (Numbered q)
      unmade j c y e f q l = go (had j y f)
        where
          go : Had j y → fill_in c (Numbered q) ≡ fill_of y.fills (Numbered q)
          go k =
              let same : length done.state.regions ≡ length s.regions = ap length done.regions in
              old.unmade j c k.z e k.there q (omega (arith, same, l))
              ∙ sym (ap (λ (z : spec.Holder). fill_of z.fills (Numbered q)) k.is)

  shown_now : Shown now t
  shown_now = record {
    goroutines = state_now.goroutines;
    memory = state_now.memory;
    before = state_now.before;
    printed = state_now.printed;
    ended = state_now.ended;
    goes_on = state_now.goes_on;
    table = subst (λ (z : List RegionInfo × ℕ × List Region). RegionTableShows w.table z.0 z.1 z.2)
        (λ i. (sym done.regions i, sym done.global_pages i, sym done.owners i)) between.shown.table;
    holders = λ m. holders_now;
  }

  prepared_now : Prepared now
  prepared_now = record {
    checked = between.prepared.checked;
    ascends = between.prepared.ascends;
    marks = between.prepared.marks;
    formals = between.prepared.formals;
  }

  -- ---- what is owed after it

  module _ (receives sends : Next) (at_r : IsNextInWorld w r receives) (at_u : IsNextInWorld w u sends) (received sent : List ℕ)
      (received_is : received ≡ removes_in (slice_get receives.function.body receives.at))
      (sent_is : sent ≡ removes_in (slice_get sends.function.body sends.at)) where
    in_w : (g : ℕ) (frames : List TacFrame) → slice_get s.plain.goroutines g ≡ Some frames
        → slice_get w.state.goroutines g ≡ Some frames
    in_w g frames e = ap (λ gs. slice_get gs g) between.shown.goroutines ∙ e

    removes_received : received ≡ removes_behind goes_r.frame
        goes_r.instr.op
    removes_received =
        received_is
        ∙ ap removes_in at_r.is.is_instr
        ∙ ap (λ (i : CodeInstr). removes_of i.op) (next_instr w r receives at_r both.receives.frame
        both.receives.callers both.receives.instr
        (in_w r (both.receives.frame ∷ both.receives.callers) (both.at_r ∙ ap Some both.receives.at)) both.receives.cur)
        ∙ removes_are both.receives.frame both.receives.instr.op both.receives.to Recv (both.receives.channel ∷ [])
        both.receives.removes both.receives.is
        ∙ goes_from goes_r both.receives.frame both.receives.callers both.receives.instr
        both.receives.at both.receives.cur

    removes_sent : sent ≡ removes_behind goes_u.frame goes_u.instr.op
    removes_sent =
        sent_is
        ∙ ap removes_in at_u.is.is_instr
        ∙ ap (λ (i : CodeInstr). removes_of i.op) (next_instr w u sends at_u both.sends.frame both.sends.callers
        both.sends.instr (in_w u (both.sends.frame ∷ both.sends.callers) (both.at_u ∙ ap Some both.sends.at))
        both.sends.cur)
        ∙ removes_are both.sends.frame both.sends.instr.op both.sends.to Send
        (both.sends.channel ∷ both.sends.sent ∷ []) both.sends.removes both.sends.is
        ∙ goes_from goes_u both.sends.frame both.sends.callers both.sends.instr both.sends.at both.sends.cur

    both_work : BothWork now t u sent r received
    both_work = record {
      apart = λ e. true≢false (sym (nat_eq_refl r) ∙ ap (nat_eq r) e ∙ both.apart);
      works = record {
        prepared = prepared_now;
        good = done.good;
        orderly = done.orderly;
        shown = shown_now;
        running = still;
        holder = record (gone_on goes_u sender.h) { offer = NoOffer };
        is_holder = done.sender;
        owed = λ i. map Remove (sym removes_sent i) ++ next_duties w.code.now (sym sender_frames i);
      };
      other = gone_on goes_r receiver.h;
      is_other = done.receiver;
      other_owes = λ i. map Remove (sym removes_received i) ++ next_duties w.code.now (sym receiver_frames i);
      rest = λ j c y nu nr e f.
          let apart_u = differs u j nu in
          let apart_r = differs r j nr in
          owes_still w.code.now s done.state j c y (other_frames j apart_r apart_u)
          (between.owes j c y e (sym (done.others j apart_r apart_u) ∙ f));
    }

    -- what is owed then is done
    pub meets : (z : World) → ((t : RegionState) → BothWork v t u sent r received → WorldSettled v z t) → WorldMeets w z s r u
    meets z settles = go (settles t (subst (λ y. BothWork y t u sent r received) (sym same) both_work))
      where
        code : v.code.now ≡ w.code.now
        code = ap (λ (y : World). y.code.now) same

        sizes : v.sizes ≡ w.sizes
        sizes = ap (λ (y : World). y.sizes) same

        go : WorldSettled v z t → WorldMeets w z s r u
        go a = record {
          events = (MakeOffer u ∷ Instruct (Meet r u) ∷ Acknowledge u ∷ []) ++ a.events;
          state = a.state;
          leads = leads_append (roomy_step w.code.now w.sizes)
              (MakeOffer u ∷ Instruct (Meet r u) ∷ Acknowledge u ∷ []) a.events s t a.state done.leads
              (subst (λ (y : Code × Sizes). run (roomy_step y.0 y.1) t a.events ≡ Some a.state)
              (λ i. (code i, sizes i)) a.leads);
          steps =
              shown.step_at
              ∙ ap Some (plain_at_after w.code.now s between.prepared.checked between.good w.state shows between.running
              (Meet r u) v.state shown t done.plain done.mark
              ∙ sym (plain_at_same t a.state v.state.printed z.state.printed a.plain still a.between.running
              a.same.print));
          between = a.between;
          code = a.same.code ∙ code;
          sizes = a.same.sizes ∙ sizes;
          prints = record {
            bytes = shown.bytes;
            whole =
                ap (λ (p : TacState). p.printed) (a.plain ∙ done.plain)
                ∙ ap (λ m. printed_if m s.plain.printed shown.next.printed) between.running
                ∙ shown.prints;
            kept = a.same.print ∙ shown.prints_kept;
          };
        }
