-- An instruction of one goroutine with its regions: the state to which the region machine's step leads, and what the world shows of it.
-- All kinds of instructions go through this file; they differ in the holder afterwards, which is an argument here.
use Rattle.std.proofs.Common.{◌≡◌, ℕ, ◌≤◌, false, List, [], ◌∷◌, ◌++◌, map}
use Rattle.std.proofs.Common.{length, Option, Some, None, refl, sym, ap, ◌∙◌, subst, nat_eq, arith}
use Rattle.std.proofs.Common.{slice_get, slice_set, option_map}
use Rattle.std.proofs.lemmas.List.{append-nil}
use Rattle.rgo_memory.specs.Effects.{Does, Effect, Traps}
use Rattle.rgo_memory.specs.Memory.{Memory}
use Rattle.rgo_machine.specs.declared.limits.Limits.{Limits}
use Rattle.rgo_machine.specs.declared.picks.End.{End}
use Rattle.rgo_machine.specs.declared.picks.Pick.TheVariants.{One}
use Rattle.rgo_interpreter.specs.declared.turns.Turned.{Turned}
use Rattle.rgo_tac.specs.Code.{Tac}
use Rattle.rgo_tac.specs.Frames.{TacFrame, operand_values}
use Rattle.rgo_tac.specs.Steps.{destination_type}
use Rattle.rgo_tac.specs.Tac.{TacState}
use Rattle.rgo_code.specs.Code.{Branch, Call, Code, CodeInstr, CodeOp, Do, Go, Jump, Print, Return}
use Rattle.rgo_code.specs.Erasure.{erased, erased_op}
use Rattle.rgo_region_machine.specs.declared.regions.Region.{Region}
use Rattle.rgo_region_machine.specs.declared.regions.Region.TheVariants.{Numbered}
use Rattle.rgo_region_machine.specs.Instructions.{child_holder, holder_after, instructed_with, last_frames, mark_with_end}
use Rattle.rgo_region_machine.specs.Instructions.{unless_trapped}
use Rattle.rgo_region_machine.specs.Machine.{Instruct, region_step}
use Rattle.rgo_region_machine.specs.Objects.{allotted, fill_of, making_region, new_object}
use Rattle.rgo_region_machine.specs.Owed.{function_at, next_duties, removes_behind}
use Rattle.rgo_region_machine.specs.States as spec
use Rattle.rgo_region_machine.specs.States.{Duty, RegionState, Remove, frames_in, frames_of, top_names}
use Rattle.rgo_sound.proofs.steps.Acting.{Acted, act, after, alone, effected, performed, trap_place}
use Rattle.rgo_sound.proofs.plain.Steps.{Always}
use Rattle.rgo_sound.proofs.steps.OneStep.{IsSimple, after_simple}
use Rattle.rgo_sound.proofs.Places.{get_set_other}
use Rattle.rgo_region_interpreter.specs.declared.holders.Holder.{Holder}
use Rattle.rgo_region_interpreter.specs.declared.worlds.Next.{Next}
use Rattle.rgo_region_interpreter.specs.declared.worlds.World.{World}
use Rattle.rgo_region_interpreter.specs.Holders.{HolderShows, fill_in}
use Rattle.rgo_region_interpreter.specs.Tables.{RegionTableShows}
use Rattle.rgo_region_interpreter.specs.Works.{ActsBy, ActsNext, IsNextInWorld, OthersOwe, Ready, WorldTakesTurn, Works}
use Rattle.rgo_region_machine.specs.States.{end_in}
use Rattle.rgo_region_interpreter.specs.Worlds.{HoldersShow, OwesNext, Prepared, Shown}
use Rattle.rgo_region_interpreter.proofs.acts.Instructed.{acted_by, acts_by, instructs, steps_alone}
use Rattle.rgo_region_interpreter.proofs.lifting.Good.{StateShows, StepShows}
use Rattle.rgo_region_interpreter.proofs.lifting.Memory.{NoneGone}
use Rattle.rgo_region_interpreter.proofs.holding.OneHolder.{Changes, k_there, one_shows, others_owe, the_same}
use Rattle.rgo_region_interpreter.proofs.owing.Preparing.{others_between}
use Rattle.rgo_region_interpreter.proofs.stepping.Taking.{good_after, orderly_after, shows_step, state_after}
use Rattle.rgo_region_interpreter.proofs.stepping.Targets.{IsBefore}

-- ---- such an instruction

simple_of : (op : CodeOp) → ActsBy (erased_op op) → IsSimple op
simple_of (Do to action from removes) k = tt
simple_of (Call to n from passes protects removes) k = k
simple_of (Go n from passes removes) k = k
simple_of (Print pieces from removes) k = tt
simple_of (Jump j removes) k = tt
simple_of (Branch v j removes k' others) k = tt
simple_of (Return value) k = k

pub simple_next : (w : World) (g : ℕ) (next : Next) (at : IsNextInWorld w g next) → ActsNext next → IsSimple at.is.instr.op
simple_next w g next at kind = simple_of at.is.instr.op (subst ActsBy (sym at.is.op) kind)

no_child : (code : Code) (h : spec.Holder) (op : CodeOp) (child : List TacFrame) → IsSimple op
    → child_holder code h op child ≡ []
no_child code h (Do to action from removes) child simple = refl
no_child code h (Call to n from passes protects removes) child simple = absurd simple
no_child code h (Go n from passes removes) child simple = absurd simple
no_child code h (Print pieces from removes) child simple = refl
no_child code h (Jump j removes) child simple = refl
no_child code h (Branch v j removes k others) child simple = refl
no_child code h (Return value) child simple = absurd simple

-- it starts no goroutine
starts_none : (code : Tac) (m : Memory) (op : CodeOp) (place : ℕ) (frame : TacFrame) (callers : List TacFrame) → IsSimple op
    → Always (λ (a : Acted). a.started ≡ []) (act code m (erased_op op) place frame callers)
starts_none code m (Do to action from removes) place frame callers simple =
    go (performed code.structs action (destination_type code frame to) (operand_values frame from) m)
  where
    go : (e : Option Effect) → Always (λ (a : Acted). a.started ≡ [])
        (effected m frame callers to (trap_place action place) e)
    go None = tt
    go (Some (Does m' v)) = refl
    go (Some (Traps kind)) = refl
starts_none code m (Call to n from passes protects removes) place frame callers simple = absurd simple
starts_none code m (Go n from passes removes) place frame callers simple = absurd simple
starts_none code m (Print pieces from removes) place frame callers simple = refl
starts_none code m (Jump j removes) place frame callers simple = refl
starts_none code m (Branch v j removes k others) place frame callers simple = refl
starts_none code m (Return value) place frame callers simple = absurd simple

module _ (w v : World) (s : RegionState) (limits : Limits) (g : ℕ) {frame : TacFrame} {callers : List TacFrame}
    {instr : CodeInstr} (turned : Turned) (ready : Ready w s g)
    (i : IsBefore w.code.now s g ready.works.holder frame callers instr) (takes : WorldTakesTurn w v limits g turned) where
  abbrev h : spec.Holder
  h = ready.works.holder

  -- what the goroutine did
  pub record ActsSo (one : turned.steps ≡ 1) : Type 0 where
    pub act : Acted
    pub acts : alone (erased w.code.now) s.plain.memory (frame ∷ callers) ≡ Some act
    pub is : after s.plain g act ≡ (shows_step w v s limits g turned ready.between takes one).next

  pub acts_so : (one : turned.steps ≡ 1) → ActsSo one
  acts_so one = go (alone (erased w.code.now) s.plain.memory (frame ∷ callers)) refl
    where
      steps : option_map (after s.plain g) (alone (erased w.code.now) s.plain.memory (frame ∷ callers))
          ≡ Some (shows_step w v s limits g turned ready.between takes one).next
      steps =
          ap (option_map (after s.plain g)) (sym (acted_by i))
          ∙ sym (steps_alone w.code.now s.plain g ready.works.shown.goes_on)
          ∙ (shows_step w v s limits g turned ready.between takes one).step

      go : (o : Option Acted) → alone (erased w.code.now) s.plain.memory (frame ∷ callers) ≡ o → ActsSo one
      go None q =
          let z : None ≡ Some (shows_step w v s limits g turned ready.between takes one).next =
          sym (ap (option_map (after s.plain g)) q) ∙ steps in cc
      go (Some a) q = record {
        act = a;
        acts = q;
        is = the_same (after s.plain g a) (shows_step w v s limits g turned ready.between takes one).next
            (sym (ap (option_map (after s.plain g)) q) ∙ steps);
      }

  -- the region machine's step, by the own pages and the owner of the object that is made
  module _ (one : turned.steps ≡ 1) (x : ActsSo one) (fills : List (Region × ℕ)) (reserved : ℕ) (more : List Region)
      (fitting : allotted w.sizes.page_words ready.works.holder
      (making_region (function_at w.code.now frame) (top_names ready.works.holder.environments) instr.op)
      (new_object s.plain (after s.plain g x.act)) ≡ Some (record ready.works.holder { fills = fills; reserved = reserved }, more))
      (none_gone : NoneGone s.regions more) where
    abbrev y : StepShows w.code.now s w.state (One g) v.state
    y = shows_step w v s limits g turned ready.between takes one

    abbrev pub next_state : RegionState
    next_state = instructed_with w.code.now s g frame callers instr
        (shows_step w v s limits g turned ready.between takes one).next
        (record ready.works.holder { fills = fills; reserved = reserved }, more)

    pub next_step : region_step w.code.now w.sizes.page_words s (Instruct (One g)) ≡ Some next_state
    next_step =
        instructs i w.sizes.page_words x.act (record ready.works.holder { fills = fills; reserved = reserved }, more) x.acts fitting
        ∙ ap (λ n. Some (instructed_with w.code.now s g frame callers instr n
        (record ready.works.holder { fills = fills; reserved = reserved }, more))) x.is

    shows_state : StateShows v.state next_state
    shows_state = state_after w v s limits g turned ready.between takes one next_state next_step refl refl more
        none_gone refl refl

    -- a world with that state
    module _ (u : World)
        (u_is : u ≡ record w { state = v.state; table = u.table; holders = u.holders })
        (table : RegionTableShows u.table s.regions s.global_pages (s.owners ++ more)) where
      abbrev now : World
      now = record w { state = v.state; table = u.table; holders = u.holders }

      prepared_now : Prepared now
      prepared_now = record {
        checked = ready.works.prepared.checked;
        ascends = ready.works.prepared.ascends;
        marks = ready.works.prepared.marks;
        formals = ready.works.prepared.formals;
      }

      shown_now : (next_state.mark ≡ None → HoldersShow now next_state) → Shown now next_state
      shown_now holders = record {
        goroutines = shows_state.goroutines;
        memory = shows_state.memory;
        before = shows_state.before;
        printed = shows_state.printed;
        ended = shows_state.ended;
        goes_on = shows_state.goes_on;
        table = table;
        holders = holders;
      }

      pub prepared_so : Prepared u
      prepared_so = subst Prepared (sym u_is) prepared_now

      -- if the run has ended, the world no longer has to show the holders
      ended_mark : (e : End) → v.state.ended ≡ Some e → end_in next_state.mark ≡ None → ⊥
      ended_mark e q m = some_none (sym (sym shows_state.ended ∙ q) ∙ m)
        where
          some_none : {X : Type 0} {x : X} → Some x ≡ None → ⊥
          some_none e = cc

      pub ends_so : (e : End) → v.state.ended ≡ Some e → (end_in next_state.mark ≡ None → ⊥) × Shown u next_state
      ends_so e q = (
        ended_mark e q,
        subst (λ z. Shown z next_state) (sym u_is) (shown_now (λ m. absurd (ended_mark e q (ap end_in m)))),
      )

      -- if it continues
      module _ (running : v.state.ended ≡ None) where
        not_ended : y.next.ended ≡ None
        not_ended = sym y.ended ∙ running

        pub still_running : next_state.mark ≡ None
        still_running = ap (mark_with_end s.mark) not_ended ∙ ap (λ n. mark_with_end n None) ready.works.running

        -- what the goroutine has of the regions afterwards
        abbrev pub holder_next : spec.Holder
        holder_next = holder_after w.code.now (record h { fills = fills; reserved = reserved }) frame callers instr.op
            (frames_of y.next g)

        abbrev pub child_next : List spec.Holder
        child_next = child_holder w.code.now (record h { fills = fills; reserved = reserved }) instr.op (last_frames y.next.goroutines)

        pub holders_are : next_state.holders ≡ slice_set s.holders g holder_next ++ child_next
        holders_are = ap (λ e. slice_set s.holders g (unless_trapped e (record h { fills = fills; reserved = reserved }) holder_next)
            ++ child_next) not_ended

        -- the others have the frames that they had
        pub other_frames : x.act.started ≡ [] → (j : ℕ) → nat_eq g j ≡ false
            → frames_of next_state.plain j ≡ frames_of s.plain j
        other_frames started j n =
            ap (λ (p : TacState). frames_in (slice_get p.goroutines j)) (sym x.is)
            ∙ ap (λ l. frames_in (slice_get (slice_set s.plain.goroutines g x.act.frames ++ l) j)) started
            ∙ ap (λ l. frames_in (slice_get l j)) (append-nil (slice_set s.plain.goroutines g x.act.frames))
            ∙ ap frames_in (get_set_other s.plain.goroutines g j x.act.frames n)

        -- whatever the world keeps of the goroutines' regions
        module _ (shows : HoldersShow u next_state) (k : spec.Holder)
            (there : slice_get next_state.holders g ≡ Some k) where
          works_now : HoldersShow now next_state → Works now next_state g k.duties
          works_now shows = record {
            prepared = prepared_now;
            good = good_after w v s limits g turned ready.between takes one next_state next_step refl refl more
                none_gone refl refl;
            orderly = orderly_after w v s limits g turned ready.between takes one next_state next_step refl refl more
                none_gone refl refl;
            shown = shown_now (λ m. shows);
            running = still_running;
            holder = k;
            is_holder = there;
            owed = refl;
          }

          pub works_by : Works u next_state g k.duties
          works_by = subst (λ z. Works z next_state g k.duties) (sym u_is)
              (works_now (subst (λ z. HoldersShow z next_state) u_is shows))

        -- if it starts no other, and has d in place of c
        module _ (started : x.act.started ≡ []) (k : spec.Holder)
            (k_is : next_state.holders ≡ slice_set s.holders g k) (c d : Holder)
            (there : slice_get w.holders.items g ≡ Some c) (d_is : u.holders.items ≡ slice_set w.holders.items g d)
            (shows : HolderShows d k)
            (unmade : (r : ℕ) → length s.regions ≤ r → fill_in d (Numbered r) ≡ fill_of k.fills (Numbered r)) where
          changes : Changes w u s next_state g c d h k
          changes = record { c_there = there; h_there = ready.works.is_holder; v_is = d_is; t_is = k_is }

          pub works_one : Works u next_state g k.duties
          works_one = works_by
              (one_shows changes (ready.works.shown.holders ready.works.running)
              (let z : length s.regions ≤ length s.regions = omega arith in z) shows unmade) k (k_there changes)

          code_kept : u.code.now ≡ w.code.now
          code_kept = ap (λ (z : World). z.code.now) u_is

          pub others_one : OthersOwe u next_state g
          others_one = subst (λ z. (j : ℕ) (c : Holder) (h : spec.Holder) → (j ≡ g → ⊥)
              → slice_get u.holders.items j ≡ Some c → slice_get next_state.holders j ≡ Some h
              → OwesNext z next_state j c h) (sym code_kept)
              (others_owe changes w.code.now (other_frames started) (others_between w s g ready.between))

        -- for an instruction that neither calls, starts nor returns
        module _ (simple : IsSimple instr.op) (c d : Holder) (there : slice_get w.holders.items g ≡ Some c)
            (d_is : u.holders.items ≡ slice_set w.holders.items g d)
            (shows : (ds : List Duty) → HolderShows d (record ready.works.holder { fills = fills; reserved = reserved; duties = ds }))
            (unmade : (r : ℕ) → length s.regions ≤ r → fill_in d (Numbered r) ≡ fill_of fills (Numbered r)) where
          abbrev duties : List Duty
          duties = map Remove (removes_behind frame instr.op) ++ next_duties w.code.now (frames_of y.next g)

          abbrev k : spec.Holder
          k = record ready.works.holder { fills = fills; reserved = reserved; duties = duties }

          k_is : next_state.holders ≡ slice_set s.holders g k
          k_is =
              holders_are
              ∙ ap (λ x. slice_set s.holders g holder_next ++ x)
              (no_child w.code.now (record h { fills = fills; reserved = reserved }) instr.op (last_frames y.next.goroutines) simple)
              ∙ append-nil _
              ∙ ap (slice_set s.holders g)
              (after_simple w.code.now (record h { fills = fills; reserved = reserved }) frame callers instr.op
              (frames_of y.next g) simple)

          started : x.act.started ≡ []
          started = subst (Always (λ (a : Acted). a.started ≡ [])) (sym (acts_by i s.plain.memory) ∙ x.acts)
              (starts_none (erased w.code.now) s.plain.memory instr.op instr.place frame callers simple)

          pub works_so : Works u next_state g
              (map Remove (removes_behind frame instr.op) ++ next_duties w.code.now (frames_of next_state.plain g))
          works_so = works_one started k k_is c d there d_is (shows duties) unmade

          pub others_so : OthersOwe u next_state g
          others_so = others_one started k k_is c d there d_is (shows duties) unmade
