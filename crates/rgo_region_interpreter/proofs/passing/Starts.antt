-- The start of a goroutine: the world has one more, which has what was passed to it, and so has the region machine. Both goroutines owe
-- something afterwards, so the world is between instructions only when both are done (`settle_both`).
use Rattle.std.proofs.Common.{◌≡◌, ◌⊎◌, inl, inr, ℕ, zero, suc, ◌+◌, ◌≤◌, ◌<◌, true, false, List, [], ◌∷◌, ◌++◌, map}
use Rattle.std.proofs.Common.{Option, Some, refl, sym, ap, ◌∙◌, subst, arith, slice_get, slice_set}
use Rattle.std.proofs.Common.{length, length-append}
use Rattle.std.proofs.lemmas.Option.{slice_get_within}
use Rattle.rgo_machine.specs.declared.limits.Limits.{Limits}
use Rattle.rgo_machine.specs.declared.picks.Pick.TheVariants.{One}
use Rattle.rgo_interpreter.specs.declared.turns.TurnEnd.TheVariants as stop
use Rattle.rgo_interpreter.specs.declared.turns.Turned.{Turned}
use Rattle.rgo_tac.specs.declared.regions.Class.{Class}
use Rattle.rgo_tac.specs.Code as tac
use Rattle.rgo_tac.specs.Frames.{TacFrame, operand_values}
use Rattle.rgo_tac.specs.Tac.{TacState}
use Rattle.rgo_code.specs.Code.{Branch, Call, CodeFn, CodeInstr, CodeOp, Do, Go, Jump, Print, Return}
use Rattle.rgo_code.specs.Erasure.{erased, erased_op}
use Rattle.rgo_code.specs.Lists.{passes_in, passes_of, removes_in, removes_of}
use Rattle.rgo_region_machine.specs.declared.regions.Region.TheVariants.{Numbered}
use Rattle.rgo_region_machine.specs.Instructions.{child_holder, holder_after, last_frames, plain_after}
use Rattle.rgo_region_machine.specs.Machine.{Instruct}
use Rattle.rgo_region_machine.specs.Objects.{fill_of}
use Rattle.rgo_region_machine.specs.Owed.{entry_removes, formals_of, code_function, next_duties, passed, passed_regions}
use Rattle.rgo_region_machine.specs.Owed.{function_result_class, twice}
use Rattle.rgo_region_machine.specs.States as spec
use Rattle.rgo_region_machine.specs.States.{NoOffer, RegionState, Remove, environment_of, frames_in, frames_of}
use Rattle.rgo_region_machine.specs.States.{top_names}
use Rattle.rgo_sound.proofs.steps.Acting.{act, set_same}
use Rattle.rgo_sound.proofs.plain.Steps.{Always}
use Rattle.rgo_sound.proofs.offers.Offers.{steps_keep_good}
use Rattle.rgo_sound.proofs.Places.{get_append_last, get_append_left, get_set_other, get_set_same, get_snoc, length_set}
use Rattle.rgo_sound.specs.Good.{AllGood}
use Rattle.rgo_region_interpreter.specs.declared.holders.Holder.{Holder}
use Rattle.rgo_region_interpreter.specs.declared.worlds.Next.{Next}
use Rattle.rgo_region_interpreter.specs.declared.worlds.World.{World}
use Rattle.rgo_region_interpreter.specs.Calls.{BeginsOther, NamesStandFor, HolderStarted}
use Rattle.rgo_region_interpreter.specs.Holders.{HolderShows, fill_in}
use Rattle.rgo_region_interpreter.specs.Objects.{MakesNone, making_by}
use Rattle.rgo_region_interpreter.specs.Works.{BothWork, IsNextInWorld, Ready, SameRun, WorldSettled, StartsNext, TakesStep, WorldTakesTurn}
use Rattle.rgo_region_interpreter.specs.Works.{Works, goes_by}
use Rattle.rgo_region_interpreter.specs.Worlds.{HoldersShow, OwesNext}
use Rattle.rgo_region_interpreter.proofs.acts.Acts.{ActsSo}
use Rattle.rgo_region_interpreter.proofs.acts.Turns.{only_stays}
use Rattle.rgo_region_interpreter.proofs.owing.Attending.{shown_holder, there_is}
use Rattle.rgo_region_interpreter.proofs.holding.Holding.{alike_shown, begin_shown}
use Rattle.rgo_region_interpreter.proofs.acts.Instructed.{acts_by}
use Rattle.rgo_region_interpreter.proofs.lifting.Good.{StepShows}
use Rattle.rgo_region_interpreter.proofs.holding.OneHolder.{Changes, differs, one_shows}
use Rattle.rgo_region_interpreter.proofs.acts.Quiet.{IsQuiet, quiet_channels, quiet_print, start_quiet}
use Rattle.rgo_region_interpreter.proofs.acts.Rooms.{before}
use Rattle.rgo_region_interpreter.proofs.owing.SettlingBoth.{owes_on}
use Rattle.rgo_region_interpreter.proofs.holding.Showing.{region_shown}
use Rattle.rgo_region_interpreter.proofs.acts.Turning.{after_it, did, holders_after, one, plain_is, regions_after, shown, steps_to}
use Rattle.rgo_region_interpreter.proofs.acts.Turning.{turn_fails, turn_settles, works_after}

-- ---- one goroutine more

-- both lists have one more
module _ (w p : World) (s t : RegionState) (d : Holder) (ch : spec.Holder)
    (p_is : p.holders.items ≡ w.holders.items ++ d ∷ []) (t_is : t.holders ≡ s.holders ++ ch ∷ [])
    (many : length w.holders.items ≡ length s.holders) where
  -- it is one that was there, or the new one
  pub one_of : (k : ℕ) (c : Holder) (h : spec.Holder) → slice_get p.holders.items k ≡ Some c
      → slice_get t.holders k ≡ Some h
      → ((slice_get w.holders.items k ≡ Some c) × (slice_get s.holders k ≡ Some h))
      ⊎ ((k ≡ length w.holders.items) × (c ≡ d) × (h ≡ ch))
  one_of k c h e f = go
      (get_snoc w.holders.items d k c (sym (ap (λ l. slice_get l k) p_is) ∙ e))
      (get_snoc s.holders ch k h (sym (ap (λ l. slice_get l k) t_is) ∙ f))
    where
      go : (slice_get w.holders.items k ≡ Some c) ⊎ ((k ≡ length w.holders.items) × (c ≡ d))
          → (slice_get s.holders k ≡ Some h) ⊎ ((k ≡ length s.holders) × (h ≡ ch))
          → ((slice_get w.holders.items k ≡ Some c) × (slice_get s.holders k ≡ Some h))
          ⊎ ((k ≡ length w.holders.items) × (c ≡ d) × (h ≡ ch))
      go (inl a) (inl b) = inl (a, b)
      go (inr a) (inr b) = inr (a.0, a.1, b.1)
      go (inl a) (inr b) =
          let l = slice_get_within w.holders.items k c a in let e = b.0 in absurd (omega (arith, l, e, many))
      go (inr a) (inl b) =
          let l = slice_get_within s.holders k h b in let e = a.0 in absurd (omega (arith, l, e, many))

  pub more_show : t.regions ≡ s.regions → HoldersShow w s → HolderShows d ch
      → ((r : ℕ) → fill_in d (Numbered r) ≡ fill_of ch.fills (Numbered r)) → HoldersShow p t
  more_show regions old shows fills = record {
    as_many = ap length p_is ∙ length-append w.holders.items (d ∷ []) ∙ ap (λ n. n + 1) many
        ∙ sym (length-append s.holders (ch ∷ [])) ∙ sym (ap length t_is);
    each = λ k c h e f. each k c h e f (one_of k c h e f);
    unmade = λ k c h e f r l. unmade k c h r (subst (λ (n : ℕ). n ≤ r) (ap length regions) l) (one_of k c h e f);
  }
    where
      each : (k : ℕ) (c : Holder) (h : spec.Holder) → slice_get p.holders.items k ≡ Some c
          → slice_get t.holders k ≡ Some h
          → ((slice_get w.holders.items k ≡ Some c) × (slice_get s.holders k ≡ Some h))
          ⊎ ((k ≡ length w.holders.items) × (c ≡ d) × (h ≡ ch)) → HolderShows c h
      each k c h e f (inl a) = old.each k c h a.0 a.1
      each k c h e f (inr a) = subst (λ (x : Holder). HolderShows x h) (sym a.1) (subst (HolderShows d) (sym a.2) shows)

      unmade : (k : ℕ) (c : Holder) (h : spec.Holder) (r : ℕ) → length s.regions ≤ r
          → ((slice_get w.holders.items k ≡ Some c) × (slice_get s.holders k ≡ Some h))
          ⊎ ((k ≡ length w.holders.items) × (c ≡ d) × (h ≡ ch)) → fill_in c (Numbered r) ≡ fill_of h.fills (Numbered r)
      unmade k c h r l (inl a) = old.unmade k c h a.0 a.1 r l
      unmade k c h r l (inr a) =
          ap (λ (x : Holder). fill_in x (Numbered r)) a.1 ∙ fills r
          ∙ sym (ap (λ (x : spec.Holder). fill_of x.fills (Numbered r)) a.2)

-- ---- such an instruction

pub is_start : (op : CodeOp) (n : ℕ) (from : List ℕ) → erased_op op ≡ tac.Go n from
    → op ≡ Go n from (passes_of op) (removes_of op)
is_start (Do to action from removes) n f e = cc
is_start (Call to n from passes protects removes) m f e = cc
is_start (Go n from passes removes) m f e = cc
is_start (Print pieces from removes) n f e = cc
is_start (Jump target removes) n f e = cc
is_start (Branch test target removes other otherwise) n f e = cc
is_start (Return value) n f e = cc

-- it makes no object
abbrev pub start_makes_none : (w : World) (g : ℕ) (next : Next) (callee : ℕ) → IsNextInWorld w g next
    → StartsNext next callee → MakesNone w g next
start_makes_none w g next callee at starts =
    record { at = at; is = ap (making_by w.code.now.structs at.frame) starts.1 }

-- the last goroutine is the one that was added
last_at : (fs : List (List TacFrame)) (n : ℕ) → length fs ≡ n + 1 → last_frames fs ≡ frames_in (slice_get fs n)
last_at [] n e = absurd (omega (arith, e))
last_at (f ∷ []) n e = sym (ap (λ m. frames_in (slice_get (f ∷ []) m)) (let z : n ≡ 0 = omega (arith, e) in z))
last_at (f ∷ g ∷ fs) zero e = absurd (omega (arith, e))
last_at (f ∷ g ∷ fs) (suc n) e = last_at (g ∷ fs) n (omega (arith, e))

-- ---- its turn

module _ (w v : World) (s : RegionState) (limits : Limits) (g : ℕ) (next : Next) (callee : ℕ) (turned : Turned)
    (ready : Ready w s g) (at : IsNextInWorld w g next) (starts : StartsNext next callee)
    (takes : WorldTakesTurn w v limits g turned) where
  abbrev makes : MakesNone w g next
  makes = start_makes_none w g next callee at starts

  pub start_stays : goes_by turned.stop turned.steps ≡ false → TakesStep w v limits s g 1 turned
  start_stays = only_stays w v s limits g next turned ready makes takes

  module _ (goes : goes_by turned.stop turned.steps ≡ true) where
    abbrev t : RegionState
    t = after_it w v s limits g next turned ready makes takes goes

    abbrev x : ActsSo w v s limits g turned ready (before w s g next ready at) takes
        (one w v s limits g next turned ready makes takes goes)
    x = did w v s limits g next turned ready makes takes goes

    abbrev y : StepShows w.code.now s w.state (One g) v.state
    y = shown w v s limits g next turned ready makes takes goes

    abbrev h : spec.Holder
    h = ready.works.holder

    abbrev instr : CodeInstr
    instr = at.is.instr

    erased_is : erased_op instr.op ≡ tac.Go callee starts.0
    erased_is = at.is.op ∙ starts.1

    op_is : instr.op ≡ Go callee starts.0 (passes_of instr.op) (removes_of instr.op)
    op_is = is_start instr.op callee starts.0 erased_is

    quiet : IsQuiet s.plain.memory x.act
    quiet = subst (Always (IsQuiet s.plain.memory))
        (ap (λ op. act (erased w.code.now) s.plain.memory op instr.place at.frame at.callers) (sym erased_is)
        ∙ sym (acts_by (before w s g next ready at) s.plain.memory) ∙ x.acts)
        (start_quiet s.plain.memory at.frame at.callers callee (operand_values at.frame starts.0)
        (slice_get (erased w.code.now).functions callee))

    -- memory ran out before the new goroutine had what it was passed
    pub start_fails : (p : World) → SameRun v p
        → TakesStep w p limits s g 1 (record { steps = turned.steps; stop = stop.NoMemory })
    start_fails p same = turn_fails w v s limits g next turned ready makes takes goes p same
        (quiet_channels w.code.now s w.state v.state g y x.act x.is quiet)
        (quiet_print w.code.now s w.state v.state g y x.act x.is quiet)

    -- ---- what the machine's goroutines have then

    abbrev parent : spec.Holder
    parent = record h {
      pending = [];
      duties = map Remove (removes_of instr.op) ++ next_duties w.code.now (frames_of y.next g);
    }

    abbrev child : spec.Holder
    child = record {
      stakes = h.pending;
      pending = [];
      environments = environment_of (function_result_class (code_function w.code.now callee))
          (passed (formals_of (code_function w.code.now callee))
          (passed_regions (top_names h.environments) (passes_of instr.op))) ∷ [];
      base = twice (passed_regions (top_names h.environments) (passes_of instr.op));
      fills = [];
      reserved = 0;
      duties = map Remove (entry_removes (code_function w.code.now callee))
          ++ next_duties w.code.now (last_frames y.next.goroutines);
      offer = NoOffer;
    }

    holders_now : t.holders ≡ slice_set s.holders g parent ++ child ∷ []
    holders_now =
        holders_after w v s limits g next turned ready makes takes goes
        ∙ ap (λ op. slice_set s.holders g (holder_after w.code.now h at.frame at.callers op (frames_of y.next g))
        ++ child_holder w.code.now h op (last_frames y.next.goroutines)) op_is

    good_now : AllGood w.code.now t
    good_now = steps_keep_good w.code.now w.sizes.page_words s t (Instruct (One g)) ready.works.prepared.checked
        ready.works.prepared.ascends ready.works.good (steps_to w v s limits g next turned ready makes takes goes)

    -- the state without the new goroutine
    abbrev without : RegionState
    without = record t { holders = slice_set s.holders g parent }

    as_many : length w.holders.items ≡ length s.holders
    as_many = (ready.works.shown.holders ready.works.running).as_many

    many : length w.holders.items ≡ length (slice_set s.holders g parent)
    many = as_many ∙ sym (length_set s.holders g parent)

    kept : (c : Holder) × (slice_get w.holders.items g ≡ Some c)
    kept = there_is w s g [] ready.works

    parent_there : slice_get (slice_set s.holders g parent) g ≡ Some parent
    parent_there = get_set_same s.holders g h parent ready.works.is_holder

    within_g : g < length w.holders.items
    within_g = slice_get_within w.holders.items g kept.0 kept.1

    parent_now : slice_get t.holders g ≡ Some parent
    parent_now = ap (λ l. slice_get l g) holders_now
        ∙ get_append_left (slice_set s.holders g parent) (child ∷ []) g
        (let a = within_g in let b = many in omega (arith, a, b))
        ∙ parent_there

    child_now : slice_get t.holders (length w.holders.items) ≡ Some child
    child_now = ap (λ l. slice_get l (length w.holders.items)) holders_now
        ∙ get_append_last (slice_set s.holders g parent) child (length w.holders.items) many

    plain_now : t.plain ≡ plain_after s y.next
    plain_now = plain_is w v s limits g next turned ready makes takes goes

    frames_now : (k : ℕ) → frames_of t.plain k ≡ frames_of y.next k
    frames_now k = ap (λ (p : TacState). frames_of p k) plain_now

    -- the others have the frames that they had
    frames_kept : (k : ℕ) → (k ≡ g → ⊥) → k < length w.holders.items → frames_of t.plain k ≡ frames_of s.plain k
    frames_kept k n l =
        frames_now k
        ∙ ap (λ (p : TacState). frames_of p k) (sym x.is)
        ∙ ap frames_in (get_append_left (slice_set s.plain.goroutines g x.act.frames) x.act.started k
        (let a = ready.works.good.good.fine.as_many in let b = as_many in
        let d = length_set s.plain.goroutines g x.act.frames in omega (arith, a, b, d, l)))
        ∙ ap frames_in (get_set_other s.plain.goroutines g k x.act.frames (differs g k n))

    -- those of the new one are the last
    last_now : last_frames y.next.goroutines ≡ frames_of t.plain (length w.holders.items)
    last_now = last_at y.next.goroutines (length w.holders.items)
        (ap (λ (p : TacState). length p.goroutines) (sym plain_now)
        ∙ sym good_now.good.fine.as_many ∙ ap length holders_now
        ∙ length-append (slice_set s.holders g parent) (child ∷ []) ∙ ap (λ n. n + 1) (sym many))
        ∙ sym (frames_now (length w.holders.items))

    -- ---- once the world has the new goroutine

    module _ (p : World)
        (begins : BeginsOther v p g (code_function v.code.now callee) (slice_get next.function.body next.at)) where
      code_is : v.code.now ≡ w.code.now
      code_is = ap (λ (z : World). z.code.now) takes.same

      code_now : p.code.now ≡ w.code.now
      code_now = ap (λ (z : World). z.code.now) begins.same ∙ code_is

      in_v : v.holders.items ≡ w.holders.items
      in_v = ap (λ (z : World). z.holders.items) takes.same

      new : (d : Holder) × (p.holders.items ≡ v.holders.items ++ d ∷ [])
          × HolderStarted kept.0 d (code_function v.code.now callee) (passes_in (slice_get next.function.body next.at))
      new = begins.started kept.0 (ap (λ l. slice_get l g) in_v ∙ kept.1)

      p_holders : p.holders.items ≡ w.holders.items ++ new.0 ∷ []
      p_holders = new.1 ∙ ap (λ l. l ++ new.0 ∷ []) in_v

      started : HolderStarted kept.0 new.0 (code_function w.code.now callee) (passes_of instr.op)
      started = subst (λ (z : Option CodeFn × List Class). HolderStarted kept.0 new.0 z.0 z.1)
          (λ i. (code_function (code_is i) callee, passes_in (at.is.is_instr i))) new.2

      old : HolderShows kept.0 h
      old = shown_holder w s g [] ready.works kept.0 kept.1

      stand : NamesStandFor started.names (passed (formals_of (code_function w.code.now callee))
          (passed_regions (top_names h.environments) (passes_of instr.op)))
          × (map Numbered started.base ≡ twice (passed_regions (top_names h.environments) (passes_of instr.op)))
      stand = started.stand (top_names h.environments) (λ k. region_shown kept.0 h k old)

      child_shows : HolderShows new.0 child
      child_shows = begin_shown new.0 child started.names started.base
          (environment_of (function_result_class (code_function w.code.now callee))
          (passed (formals_of (code_function w.code.now callee))
          (passed_regions (top_names h.environments) (passes_of instr.op)))) started.begins refl stand.0 refl stand.1
          (good_now.good.fine.each (length w.holders.items) child child_now).base_once refl refl refl

      parent_shows : HolderShows kept.0 parent
      parent_shows = alike_shown kept.0 h parent old refl refl refl refl refl refl

      changes : Changes w w s without g kept.0 kept.0 h parent
      changes = record {
        c_there = kept.1;
        h_there = ready.works.is_holder;
        v_is = sym (set_same w.holders.items g kept.0 kept.1);
        t_is = refl;
      }

      regions_now : t.regions ≡ s.regions
      regions_now = regions_after w v s limits g next turned ready makes takes goes

      shows_without : HoldersShow w without
      shows_without = one_shows changes (ready.works.shown.holders ready.works.running)
          (let e : length s.regions ≡ length t.regions = ap length (sym regions_now) in omega (arith, e)) parent_shows
          (λ r l. (ready.works.shown.holders ready.works.running).unmade g kept.0 h kept.1 ready.works.is_holder r
          (let e : length s.regions ≡ length t.regions = ap length (sym regions_now) in omega (arith, e, l)))

      holders_show : HoldersShow p t
      holders_show = more_show w p without t new.0 child p_holders holders_now many refl shows_without child_shows
          (λ r. started.begins.fills (Numbered r))

      works_now : Works p t g parent.duties
      works_now = works_after w v s limits g next turned ready makes takes goes p begins.same holders_show parent
          parent_now

      -- both owe what comes next
      pub start_works : (removes : List ℕ) (j : ℕ) (others : List ℕ)
          → removes ≡ removes_in (slice_get next.function.body next.at) → j ≡ length v.holders.items
          → others ≡ entry_removes (code_function p.code.now callee) → BothWork p t g removes j others
      start_works removes j others removed number entered = record {
        apart = λ e. let l = within_g in absurd (omega (arith, l, e, j_is));
        works = subst (Works p t g) (λ i. map Remove (sym removes_are i)
            ++ next_duties (sym code_now i) (sym (frames_now g) i)) works_now;
        other = child;
        is_other = ap (slice_get t.holders) j_is ∙ child_now;
        other_owes = λ i. map Remove (sym others_are i)
            ++ next_duties (sym code_now i) ((last_now ∙ ap (frames_of t.plain) (sym j_is)) i);
        rest = rest;
      }
        where
          j_is : j ≡ length w.holders.items
          j_is = number ∙ ap length in_v

          removes_are : removes ≡ removes_of instr.op
          removes_are = removed ∙ ap removes_in at.is.is_instr

          others_are : others ≡ entry_removes (code_function w.code.now callee)
          others_are = entered ∙ ap (λ c. entry_removes (code_function c callee)) code_now

          rest : (k : ℕ) (c : Holder) (z : spec.Holder) → (k ≡ g → ⊥) → (k ≡ j → ⊥)
              → slice_get p.holders.items k ≡ Some c → slice_get t.holders k ≡ Some z → OwesNext p.code.now t k c z
          rest k c z n m e f = go (one_of w p without t new.0 child p_holders holders_now many k c z e f)
            where
              go : ((slice_get w.holders.items k ≡ Some c) × (slice_get (slice_set s.holders g parent) k ≡ Some z))
                  ⊎ ((k ≡ length w.holders.items) × (c ≡ new.0) × (z ≡ child)) → OwesNext p.code.now t k c z
              go (inl a) = owes_on w.code.now p.code.now s t k c z code_now
                  (frames_kept k n (slice_get_within w.holders.items k c a.0))
                  (ready.between.owes k c z a.0 (sym (get_set_other s.holders g k parent (differs g k n)) ∙ a.1))
              go (inr a) = absurd (m (a.0 ∙ sym j_is))

      -- and then what is owed is done
      pub start_settles : (u : World) (removes : List ℕ) (j : ℕ) (others : List ℕ)
          → removes ≡ removes_in (slice_get next.function.body next.at) → j ≡ length v.holders.items
          → others ≡ entry_removes (code_function p.code.now callee)
          → ((z : RegionState) → BothWork p z g removes j others → WorldSettled p u z) → TakesStep w u limits s g 1 turned
      start_settles u removes j others removed number entered settles =
          turn_settles w v s limits g next turned ready makes takes goes p begins.same u
          (settles t (start_works removes j others removed number entered))
