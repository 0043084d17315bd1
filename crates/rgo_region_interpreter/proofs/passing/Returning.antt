-- A return with its regions: the newest names of the goroutine go, in the code and in the machine. Then it owes what follows its
-- caller's call, or the end of its base if it has no caller. The code reads the call before the return and the machine after it; the
-- caller's frame is the same.
use Rattle.std.proofs.Common.{◌≡◌, ℕ, ◌-◌, ◌≤◌, true, List, [], ◌∷◌, ◌++◌, map, length, Option, Some, None, MatchOption}
use Rattle.std.proofs.Common.{refl, sym, ap, ◌∙◌, subst, arith, drop, get_or, option_map, reverse, slice_get, slice_set}
use Rattle.std.proofs.lemmas.List.{append-nil}
use Rattle.std.proofs.lemmas.Option.{same_Some}
use Rattle.rgo_memory.specs.declared.values.Value.{Value}
use Rattle.rgo_memory.specs.Memory.{Memory}
use Rattle.rgo_machine.specs.declared.limits.Limits.{Limits}
use Rattle.rgo_interpreter.specs.declared.turns.Turned.{Turned}
use Rattle.rgo_interpreter.proofs.Newest.{below as last_but_one}
use Rattle.rgo_tac.specs.Code as tac
use Rattle.rgo_tac.specs.Code.{Tac}
use Rattle.rgo_tac.specs.Frames.{TacFrame, value_at}
use Rattle.rgo_tac.specs.Ops.{operation_of}
use Rattle.rgo_tac.specs.Tac.{TacState}
use Rattle.rgo_code.specs.Code.{Branch, Call, Code, CodeInstr, CodeOp, Do, Go, Jump, Print, Return}
use Rattle.rgo_code.specs.Erasure.{erased, erased_op}
use Rattle.rgo_code.specs.Lists.{protects_in, protects_of, removes_in, removes_of}
use Rattle.rgo_code.specs.NameRules.{protected_names}
use Rattle.rgo_region_machine.specs.declared.regions.Region.{Region}
use Rattle.rgo_region_machine.specs.declared.regions.Region.TheVariants.{Numbered}
use Rattle.rgo_region_machine.specs.Instructions.{child_holder, holder_after, last_frames}
use Rattle.rgo_region_machine.specs.Objects.{fill_of}
use Rattle.rgo_region_machine.specs.Owed.{caller_duties, current, current_in, duties_behind, duties_behind_call}
use Rattle.rgo_region_machine.specs.Owed.{next_duties}
use Rattle.rgo_region_machine.specs.States as spec
use Rattle.rgo_region_machine.specs.States.{EndBase, RegionEnvironment, RegionState, Remove, Unprotect, below, frames_in}
use Rattle.rgo_region_machine.specs.States.{frames_of}
use Rattle.rgo_sound.proofs.steps.Acting.{Acted, act, returned}
use Rattle.rgo_sound.proofs.plain.Steps.{Always}
use Rattle.rgo_sound.proofs.Places.{get_set_same}
use Rattle.rgo_sound.proofs.names.Edges.{standing_settled}
use Rattle.rgo_sound.proofs.pointers.Steps.{Top}
use Rattle.rgo_sound.specs.Invariant.{AllWait, FramesFit, GoodHolder, IsCall, Waits, bound_times, times}
use Rattle.rgo_region_interpreter.specs.declared.holders.Holder.{Holder}
use Rattle.rgo_region_interpreter.specs.declared.worlds.Next.{Next}
use Rattle.rgo_region_interpreter.specs.declared.worlds.World.{World}
use Rattle.rgo_region_interpreter.specs.Calls.{LeavesCall}
use Rattle.rgo_region_interpreter.specs.Holders.{HolderReturns, HolderShows, fill_in}
use Rattle.rgo_region_interpreter.specs.Objects.{MakesNone, making_by}
use Rattle.rgo_region_interpreter.specs.Works.{IsCallBelow, IsNextInFrame, IsNextInWorld, NoCallBelow, OthersOwe, Ready, WorldSettled, TakesStep}
use Rattle.rgo_region_interpreter.specs.Works.{WorldTakesTurn, Works, goes_by, current_instr}
use Rattle.rgo_region_interpreter.proofs.acts.Acts.{ActsSo}
use Rattle.rgo_region_interpreter.proofs.owing.Attending.{shown_holder, there_is}
use Rattle.rgo_region_interpreter.proofs.holding.Holding.{return_shown}
use Rattle.rgo_region_interpreter.proofs.acts.Instructed.{acts_by}
use Rattle.rgo_region_interpreter.proofs.holding.OneHolder.{none_some}
use Rattle.rgo_region_interpreter.proofs.acts.Quiet.{return_alone}
use Rattle.rgo_region_interpreter.proofs.acts.Rooms.{before}
use Rattle.rgo_region_interpreter.proofs.stepping.Targets.{IsBefore, top}
use Rattle.rgo_region_interpreter.proofs.acts.Turning.{after_it, did, holders_after, one, others_alone, plain_is, shown, turn_settles}
use Rattle.rgo_region_interpreter.proofs.acts.Turning.{works_alone}

-- ---- what the code says

-- an instruction whose erasure is a return is one
returns_op : (op : CodeOp) (value : Option ℕ) → erased_op op ≡ tac.Return value → op ≡ Return value
returns_op (Do to action from removes) value e = cc
returns_op (Call to n from passes protects removes) value e = cc
returns_op (Go n from passes removes) value e = cc
returns_op (Print pieces from removes) value e = cc
returns_op (Jump j removes) value e = cc
returns_op (Branch v j removes k others) value e = cc
returns_op (Return v) value e = ap Return (the_value v value e)
  where
    the_value : (a b : Option ℕ) → tac.Return a ≡ tac.Return b → a ≡ b
    the_value a b e = cc

-- it makes no object
pub return_makes_none : (w : World) (g : ℕ) (next : Next) (value : Option ℕ) → IsNextInWorld w g next
    → operation_of next.op ≡ tac.Return value → MakesNone w g next
return_makes_none w g next value at is = record { at = at; is = ap (making_by w.code.now.structs at.frame) is }

-- what follows a call
behind_call : (op : CodeOp) → IsCall op
    → duties_behind op ≡ map Unprotect (protects_of op) ++ map Remove (removes_of op)
behind_call (Do to action from removes) calls = absurd calls
behind_call (Call to n from passes protects removes) calls = refl
behind_call (Go n from passes removes) calls = absurd calls
behind_call (Print pieces from removes) calls = absurd calls
behind_call (Jump j removes) calls = absurd calls
behind_call (Branch v j removes k others) calls = absurd calls
behind_call (Return value) calls = absurd calls

-- the place of a caller
stands_there : (code : Code) (caller : TacFrame) (e : RegionEnvironment) (w : Waits code caller e)
    → current code caller ≡ Some w.instr
stands_there code caller e w = ap (λ o. current_in o caller.next) w.is_fn ∙ w.is_instr

-- the first of the callers
first_waits : (code : Code) (caller : TacFrame) (callers : List TacFrame) (es : List RegionEnvironment)
    → AllWait code (caller ∷ callers) es → (e : RegionEnvironment) × Waits code caller e
first_waits code caller callers [] all = absurd all
first_waits code caller callers (e ∷ es) all = (e, all.0)

-- the last but one of the frames that the code keeps is the caller of the newest one
pub call_shows : (w : World) (items : List TacFrame) (n : ℕ) (caller : TacFrame) (o : Option Next) → n ≡ length items → 2 ≤ n
    → caller ≡ get_or items (n - 2) caller → MatchOption o (current_instr w caller ≡ None) (IsNextInFrame w.code.now caller)
    → (frame : TacFrame) (callers : List TacFrame) → reverse items ≡ frame ∷ callers
    → MatchOption o (NoCallBelow w callers) (IsCallBelow w callers)
call_shows w items n caller o len two is found frame callers e = go o found
  where
    there : callers ≡ caller ∷ drop 2 (reverse items)
    there = sym (ap (drop 1) e) ∙ last_but_one items caller (n - 2) (omega (arith, len, two)) is

    first : (c : TacFrame) (others : List TacFrame) → callers ≡ c ∷ others → caller ≡ c
    first c others q = let z : caller ∷ drop 2 (reverse items) ≡ c ∷ others = sym there ∙ q in cc

    go : (o : Option Next) → MatchOption o (current_instr w caller ≡ None) (IsNextInFrame w.code.now caller)
        → MatchOption o (NoCallBelow w callers) (IsCallBelow w callers)
    go None none = λ c others q. subst (λ f. current_instr w f ≡ None) (first c others q) none
    go (Some next) here = (caller, drop 2 (reverse items), there, here)

-- ---- what the goroutine does

-- without callers it has no frame left
none_left : (code : Tac) (m : Memory) (value : Option Value) (callers : List TacFrame) → callers ≡ []
    → Always (λ (a : Acted). a.frames ≡ []) (returned code m value callers)
none_left code m value [] e = refl
none_left code m value (caller ∷ callers) e = cc

module _ (w v : World) (s : RegionState) (limits : Limits) (g : ℕ) (next : Next) (turned : Turned) (ready : Ready w s g)
    (makes : MakesNone w g next) (value : Option ℕ) (is : operation_of next.op ≡ tac.Return value)
    (takes : WorldTakesTurn w v limits g turned) (goes : goes_by turned.stop turned.steps ≡ true) where
  abbrev frame : TacFrame
  frame = makes.at.frame

  abbrev callers : List TacFrame
  callers = makes.at.callers

  abbrev i : IsBefore w.code.now s g ready.works.holder makes.at.frame makes.at.callers makes.at.is.instr
  i = before w s g next ready makes.at

  op_is : makes.at.is.instr.op ≡ Return value
  op_is = returns_op makes.at.is.instr.op value (makes.at.is.op ∙ is)

  -- the machine after it
  abbrev t : RegionState
  t = after_it w v s limits g next turned ready makes takes goes

  -- what the goroutine did
  abbrev it : ActsSo w v s limits g turned ready (before w s g next ready makes.at) takes
      (one w v s limits g next turned ready makes takes goes)
  it = did w v s limits g next turned ready makes takes goes

  acts : returned (erased w.code.now) s.plain.memory (option_map (value_at frame) value) callers ≡ Some it.act
  acts =
      ap (λ op. act (erased w.code.now) s.plain.memory op makes.at.is.instr.place frame callers)
      (sym (makes.at.is.op ∙ is))
      ∙ sym (acts_by i s.plain.memory) ∙ it.acts

  started : it.act.started ≡ []
  started = subst (Always (λ (a : Acted). a.started ≡ [])) acts
      (return_alone (erased w.code.now) s.plain.memory (option_map (value_at frame) value) callers)

  -- what it has of the regions then
  abbrev k : spec.Holder
  k = record ready.works.holder {
    environments = below ready.works.holder.environments;
    duties = caller_duties w.code.now ready.works.holder callers
        ++ next_duties w.code.now (frames_of (after_it w v s limits g next turned ready makes takes goes).plain g);
  }

  k_is : t.holders ≡ slice_set s.holders g k
  k_is =
      holders_after w v s limits g next turned ready makes takes goes
      ∙ ap (λ op. slice_set s.holders g (holder_after w.code.now ready.works.holder frame callers op
      (frames_of (shown w v s limits g next turned ready makes takes goes).next g))
      ++ child_holder w.code.now ready.works.holder op
      (last_frames (shown w v s limits g next turned ready makes takes goes).next.goroutines)) op_is
      ∙ append-nil _
      ∙ ap (λ (q : TacState). slice_set s.holders g (record ready.works.holder {
        environments = below ready.works.holder.environments;
        duties = caller_duties w.code.now ready.works.holder callers ++ next_duties w.code.now (frames_of q g);
      })) (sym (plain_is w v s limits g next turned ready makes takes goes))

  -- ---- its callers

  abbrev the_top : Top w.code.now ready.works.holder frame callers
  the_top = top i

  wait : AllWait w.code.now callers the_top.fs
  wait = fit.1
    where
      good : GoodHolder w.code.now (frame ∷ callers) ready.works.holder
      good = subst (λ fs. GoodHolder w.code.now fs ready.works.holder) (ap frames_in i.at)
          (i.good.good.fine.each g ready.works.holder i.there)

      fit : FramesFit w.code.now ready.works.holder.base (frame ∷ callers) (the_top.f ∷ the_top.fs)
          ready.works.holder.duties
      fit = subst (λ es. FramesFit w.code.now ready.works.holder.base (frame ∷ callers) es ready.works.holder.duties)
          the_top.environments good.fit

  -- the returning function protects nothing
  nothing_protected : (r : Region) → times r the_top.f.protections ≡ 0
  nothing_protected r =
      (standing_settled w.code.now frame the_top.f ready.works.holder.duties makes.at.is.instr the_top.stands i.cur
      ready.works.owed).protections_fit r
      ∙ ap (λ op. bound_times r the_top.f.names (protected_names op)) op_is

  -- ---- the newest names have gone

  module _ (p : World) (back : LeavesCall v p g) where
    kept : (c : Holder) × (slice_get w.holders.items g ≡ Some c)
    kept = there_is w s g [] ready.works

    in_w : v.holders.items ≡ w.holders.items
    in_w = ap (λ (z : World). z.holders.items) takes.same

    gone : (d : Holder) × (p.holders.items ≡ slice_set v.holders.items g d) × HolderReturns kept.0 d
    gone = back.back kept.0 (ap (λ l. slice_get l g) in_w ∙ kept.1)

    d_is : p.holders.items ≡ slice_set w.holders.items g gone.0
    d_is = gone.1 ∙ ap (λ l. slice_set l g gone.0) in_w

    shows : HolderShows gone.0 k
    shows = return_shown kept.0 gone.0 ready.works.holder (shown_holder w s g [] ready.works kept.0 kept.1) k.duties
        the_top.f the_top.fs the_top.environments nothing_protected gone.2

    unmade : (r : ℕ) → length s.regions ≤ r → fill_in gone.0 (Numbered r) ≡ fill_of k.fills (Numbered r)
    unmade r l =
        gone.2.1.fills (Numbered r)
        ∙ (ready.works.shown.holders ready.works.running).unmade g kept.0 ready.works.holder kept.1
        ready.works.is_holder r l

    works : Works p t g k.duties
    works = works_alone w v s limits g next turned ready makes takes goes p back.same started k k_is kept.0 gone.0
        kept.1 d_is shows unmade

    others : OthersOwe p t g
    others = others_alone w v s limits g next turned ready makes takes goes p back.same started k k_is kept.0 gone.0
        kept.1 d_is shows unmade

    code : p.code.now ≡ w.code.now
    code = ap (λ (z : World). z.code.now) (back.same ∙ λ j. record (takes.same j) { holders = p.holders })

    -- what follows the caller's call is done
    pub to_caller : (call : Next) (protects removes : List ℕ) (u : World) → IsCallBelow w callers call
        → protects ≡ protects_in (slice_get call.function.body call.at)
        → removes ≡ removes_in (slice_get call.function.body call.at)
        → ((z : RegionState) → Works p z g ((map Unprotect protects ++ map Remove removes)
        ++ next_duties p.code.now (frames_of z.plain g)) → OthersOwe p z g → WorldSettled p u z)
        → TakesStep w u limits s g 1 turned
    to_caller call protects removes u at_call ps rs settles =
        turn_settles w v s limits g next turned ready makes takes goes p back.same u
        (settles t (subst (Works p t g) owed works) others)
      where
        caller : TacFrame
        caller = at_call.0

        called : IsNextInFrame w.code.now at_call.0 call
        called = at_call.3

        waits : (e : RegionEnvironment) × Waits w.code.now at_call.0 e
        waits = first_waits w.code.now at_call.0 at_call.1 the_top.fs
            (subst (λ l. AllWait w.code.now l the_top.fs) at_call.2 wait)

        at_instr : current w.code.now at_call.0 ≡ Some called.instr
        at_instr =
            ap (λ o. current_in o at_call.0.next) called.function
            ∙ ap (slice_get call.function.body) (sym called.at)
            ∙ called.is_instr

        calls : IsCall called.instr.op
        calls = subst (λ (x : CodeInstr). IsCall x.op)
            (same_Some waits.1.instr called.instr
            (sym (stands_there w.code.now at_call.0 waits.0 waits.1) ∙ at_instr)) waits.1.calls

        behind : caller_duties w.code.now ready.works.holder callers ≡ map Unprotect protects ++ map Remove removes
        behind =
            ap (caller_duties w.code.now ready.works.holder) at_call.2
            ∙ ap duties_behind_call at_instr
            ∙ behind_call called.instr.op calls
            ∙ λ j. map Unprotect (sym (ps ∙ ap protects_in called.is_instr) j)
            ++ map Remove (sym (rs ∙ ap removes_in called.is_instr) j)

        owed : k.duties ≡ (map Unprotect protects ++ map Remove removes) ++ next_duties p.code.now (frames_of t.plain g)
        owed = λ j. behind j ++ next_duties (sym code j) (frames_of t.plain g)

    -- the goroutine has returned for the last time, and its base ends
    pub to_none : (u : World) → NoCallBelow w callers
        → ((z : RegionState) (h : spec.Holder) → slice_get z.holders g ≡ Some h → frames_of z.plain g ≡ []
        → Works p z g (map EndBase h.base) → OthersOwe p z g → WorldSettled p u z) → TakesStep w u limits s g 1 turned
    to_none u no_call settles =
        turn_settles w v s limits g next turned ready makes takes goes p back.same u
        (settles t k k_there no_frames (subst (Works p t g) owed works) others)
      where
        last : callers ≡ []
        last = go callers refl
          where
            go : (l : List TacFrame) → callers ≡ l → callers ≡ []
            go [] e = e
            go (caller ∷ others) e =
                let waits = first_waits w.code.now caller others the_top.fs
                (subst (λ l. AllWait w.code.now l the_top.fs) e wait) in
                absurd (none_some (sym (no_call caller others e)
                ∙ stands_there w.code.now caller waits.0 waits.1))

        k_there : slice_get t.holders g ≡ Some k
        k_there = ap (λ l. slice_get l g) k_is ∙ get_set_same s.holders g ready.works.holder k ready.works.is_holder

        no_frames : frames_of t.plain g ≡ []
        no_frames =
            ap (λ (q : TacState). frames_of q g) (plain_is w v s limits g next turned ready makes takes goes)
            ∙ ap (λ (q : TacState). frames_of q g) (sym it.is)
            ∙ ap (λ l. frames_in (slice_get (slice_set s.plain.goroutines g it.act.frames ++ l) g)) started
            ∙ ap (λ l. frames_in (slice_get l g)) (append-nil (slice_set s.plain.goroutines g it.act.frames))
            ∙ ap frames_in (get_set_same s.plain.goroutines g (frame ∷ callers) it.act.frames i.at)
            ∙ subst (Always (λ (a : Acted). a.frames ≡ [])) acts
            (none_left (erased w.code.now) s.plain.memory (option_map (value_at frame) value) callers last)

        owed : k.duties ≡ map EndBase k.base
        owed =
            ap (λ l. caller_duties w.code.now ready.works.holder l ++ next_duties w.code.now (frames_of t.plain g)) last
            ∙ ap (λ l. map EndBase ready.works.holder.base ++ next_duties w.code.now l) no_frames
            ∙ append-nil (map EndBase ready.works.holder.base)
