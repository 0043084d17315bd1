-- Turns of at most one step of a world: those in which nothing was done, those after which what is owed is done, those that end the
-- run, and those after which memory ran out. Each kind of instruction ends in one of these four.
use Rattle.std.proofs.Common.{◌≡◌, ◌⊎◌, ℕ, List, [], ◌∷◌, ◌++◌, Some, None}
use Rattle.std.proofs.Common.{refl, sym, ap, ◌∙◌, subst, arith, drop, replicate, slice_get, option_and_then}
use Rattle.std.proofs.lemmas.List.{append-nil}
use Rattle.rgo_memory.specs.Channels.{SameChannels}
use Rattle.rgo_machine.specs.declared.limits.Limits.{Limits}
use Rattle.rgo_machine.specs.declared.picks.Pick.TheVariants.{One}
use Rattle.rgo_machine.specs.declared.limits.Shortage.{Shortage}
use Rattle.rgo_interpreter.specs.declared.turns.TurnEnd.TheVariants as stop
use Rattle.rgo_interpreter.specs.declared.turns.Turned.{Turned}
use Rattle.rgo_machine.specs.Limits.{LeadsWithin}
use Rattle.rgo_machine.specs.Runs.{run}
use Rattle.rgo_interpreter.specs.Turns.{Turns}
use Rattle.rgo_tac.specs.Tac.{TacState, tac}
use Rattle.rgo_code.specs.Code.{Code}
use Rattle.rgo_code.specs.Erasure.{erased}
use Rattle.rgo_region_machine.specs.declared.regions.Region.{Region}
use Rattle.rgo_region_machine.specs.Instructions.{mark_with_end, plain_after, printed_if}
use Rattle.rgo_region_machine.specs.Machine.{Event, Instruct, region_step}
use Rattle.rgo_region_machine.specs.Owed.{next_duties}
use Rattle.rgo_region_machine.specs.Room.{roomy_step, LacksIn}
use Rattle.rgo_region_machine.specs.States.{Duty, RegionState, frames_of, end_in, plain_at}
use Rattle.rgo_sound.proofs.offers.Offers.{steps_keep_good}
use Rattle.rgo_sound.specs.Good.{AllGood}
use Rattle.rgo_region_interpreter.specs.declared.holders.Holder.{Holder}
use Rattle.rgo_machine.specs.declared.limits.Sizes.{Sizes}
use Rattle.rgo_region_interpreter.specs.declared.worlds.Halt.TheVariants as halt
use Rattle.rgo_region_interpreter.specs.declared.worlds.World.{World}
use Rattle.rgo_region_interpreter.specs.Orderly.{Orderly}
use Rattle.rgo_region_interpreter.specs.Works.{Attended, Between, KeepsOthers, OthersOwe, SamePrint, SameRun, WorldSettled, StopsShort}
use Rattle.rgo_region_interpreter.specs.Works.{TakesStep, WorldTakesTurn, done_in, done_of, halted}
use Rattle.rgo_region_interpreter.specs.Worlds.{OwesNext, Prepared, Shown}
use Rattle.rgo_region_interpreter.proofs.owing.Attending.{leads_append, same_then}
use Rattle.rgo_region_interpreter.proofs.lifting.Good.{StateShows, StepShows, plain_at_after, shown_after, state_shows}
use Rattle.rgo_region_interpreter.proofs.lifting.Memory.{NoneGone}
use Rattle.rgo_region_interpreter.proofs.holding.Orderly.{orderly_step}
use Rattle.rgo_region_interpreter.proofs.owing.Preparing.{between_with, others_still}
use Rattle.rgo_region_interpreter.proofs.stepping.PlainTurns.{done_turn, idle_is, idle_turn, one_step, step_shows}

-- the same state of the three-address machine
pub plain_at_same : (s t : RegionState) (old new : List ℕ) → t.plain ≡ s.plain → s.mark ≡ None → t.mark ≡ None
    → new ≡ old → plain_at t new ≡ plain_at s old
plain_at_same s t old new plain running still print = λ i. record {
  memory = (plain i).memory;
  goroutines = (plain i).goroutines;
  printed = print i;
  ended = (ap end_in still ∙ sym (ap end_in running)) i;
}

-- nothing was done for lack of memory
pub takes_nothing : (w v : World) (s : RegionState) (limits : Limits) (g : ℕ) → s.mark ≡ None → SameRun w v
    → TakesStep w v limits s g 1 (halted halt.NoMemory)
takes_nothing w v s limits g running same = record {
  events = [];
  state = s;
  leads = refl;
  turns = record {
    leads = ap (λ print. Some (plain_at s print)) (sym same.print);
    within = omega arith;
    over = ap end_in running;
    channels = λ o channel e. e;
    print = same.print;
  };
  code = same.code;
  sizes = same.sizes;
  shown = λ n. absurd (n refl);
  between = λ n m. absurd (n refl);
  lacks = λ why e. cc;
  prints = record {
    bytes = [];
    whole = sym (append-nil s.plain.printed);
    kept = same.print ∙ sym (append-nil w.state.printed);
  };
}

-- some steps with regions were done, and then there was no room
pub takes_short : (w v : World) (limits : Limits) (g : ℕ) (why : Shortage) (s : RegionState) → s.mark ≡ None
    → StopsShort w v s g why → TakesStep w v limits s g 1 (halted (halt.NoRoom why))
takes_short w v limits g why s running x = record {
  events = x.events;
  state = x.state;
  leads = x.leads;
  turns = record {
    leads = ap Some (sym at_same);
    within = omega arith;
    over = ap end_in x.between.running;
    channels = subst (λ (p : TacState). SameChannels s.plain.memory p.memory) (sym x.plain) (λ o channel e. e);
    print = x.same.print;
  };
  code = x.same.code;
  sizes = x.same.sizes;
  shown = λ n. (x.between.prepared, x.between.shown);
  between = λ n m. x.between;
  lacks = λ other e. subst (λ y. LacksIn w.code.now w.sizes y x.state) (the_shortage why other e) x.lacks;
  prints = record {
    bytes = [];
    whole = ap (λ (p : TacState). p.printed) x.plain ∙ sym (append-nil s.plain.printed);
    kept = x.same.print ∙ sym (append-nil w.state.printed);
  };
}
  where
    at_same : plain_at x.state v.state.printed ≡ plain_at s w.state.printed
    at_same = plain_at_same s x.state w.state.printed v.state.printed x.plain running x.between.running x.same.print

    the_shortage : (a b : Shortage) → stop.NoRoom a ≡ stop.NoRoom b → a ≡ b
    the_shortage a b e = cc

-- the steps lead on over the same code, with as much room
pub leads_on : (w v : World) (s t : RegionState) (events : List Event) → SameRun w v
    → run (roomy_step v.code.now v.sizes) s events ≡ Some t → run (roomy_step w.code.now w.sizes) s events ≡ Some t
leads_on w v s t events same leads =
    subst (λ (z : Code × Sizes). run (roomy_step z.0 z.1) s events ≡ Some t) (λ i. (same.code i, same.sizes i)) leads

-- what is owed after an instruction is done, and then all that comes before the next one is owed
pub settled : (w u v : World) (s : RegionState) (g : ℕ) → SameRun w u
    → KeepsOthers w u g → OthersOwe w s g → (a : Attended u v s g (next_duties w.code.now (frames_of s.plain g)))
    → done_of v g ≡ 0 → WorldSettled w v s
settled w u v s g same kept others a none = record {
  events = a.events;
  only_regions = a.only_regions;
  state = a.state;
  leads = leads_on w u s a.state a.events same a.leads;
  between = between_with v a.state g (next_duties w.code.now (frames_of s.plain g)) a.works
      (others_still w v s a.state g (λ j n. a.kept j n ∙ kept j n) a.others code a.plain others) (λ x e. owes x e);
  plain = a.plain;
  same = same_then w u v same a.same;
}
  where
    code : v.code.now ≡ w.code.now
    code = a.same.code ∙ same.code

    duties_at : (n : ℕ) → n ≡ 0 → (ds : List Duty) → ds ≡ drop n ds
    duties_at n z ds = sym (ap (λ k. drop k ds) z)

    owes : (x : Holder) → slice_get v.holders.items g ≡ Some x → OwesNext v.code.now a.state g x a.works.holder
    owes x e = record {
      left =
          a.works.owed
          ∙ (λ i. next_duties (sym code i) (frames_of (sym a.plain i) g))
          ∙ duties_at x.done none_done (next_duties v.code.now (frames_of a.state.plain g));
      within = omega (arith, none_done);
      together = λ l. absurd (omega (arith, none_done, l));
    }
      where
        none_done : x.done ≡ 0
        none_done = sym (ap done_in e) ∙ none

-- a turn after some steps with regions
pub takes_after : (w v u : World) (s : RegionState) (g : ℕ) (ds : List Duty) (limits : Limits) (turned : Turned)
    (a : Attended w v s g ds) → s.mark ≡ None → TakesStep v u limits a.state g 1 turned
    → TakesStep w u limits s g 1 turned
takes_after w v u s g ds limits turned a running x = record {
  events = a.events ++ x.events;
  state = x.state;
  leads = leads_append (roomy_step w.code.now w.sizes) a.events x.events s a.state x.state a.leads
      (leads_on w v a.state x.state x.events a.same x.leads);
  turns = subst (λ (p : TacState). Turns (tac (erased w.code.now)) limits p (plain_at x.state u.state.printed) g 1 turned)
      (plain_at_same s a.state w.state.printed v.state.printed a.plain running a.works.running a.same.print)
      (subst (λ c. Turns (tac (erased c)) limits (plain_at a.state v.state.printed) (plain_at x.state u.state.printed) g 1
      turned) a.same.code x.turns);
  code = x.code ∙ a.same.code;
  sizes = x.sizes ∙ a.same.sizes;
  shown = x.shown;
  between = x.between;
  lacks = λ why e. lacks_on why (x.lacks why e);
  prints = record {
    bytes = x.prints.bytes;
    whole = x.prints.whole ∙ ap (λ (p : TacState). p.printed ++ x.prints.bytes) a.plain;
    kept = x.prints.kept ∙ ap (λ bytes. bytes ++ x.prints.bytes) a.same.print;
  };
}
  where
    lacks_on : (why : Shortage) → LacksIn v.code.now v.sizes why x.state → LacksIn w.code.now w.sizes why x.state
    lacks_on why l = subst (λ (z : Code × Sizes). LacksIn z.0 z.1 why x.state) (λ i. (a.same.code i, a.same.sizes i)) l

module _ (w v : World) (s : RegionState) (limits : Limits) (g : ℕ) (turned : Turned) (between : Between w s)
    (takes : WorldTakesTurn w v limits g turned) where
  shows : StateShows w.state s
  shows = state_shows w s between.shown

  pub same_run : (v.state.printed ≡ w.state.printed) → SameRun w v
  same_run print = record {
    code = ap (λ (x : World). x.code.now) takes.same;
    sizes = ap (λ (x : World). x.sizes) takes.same;
    print = print;
  }

  pub none_or_one : (turned.steps ≡ 0) ⊎ (turned.steps ≡ 1)
  none_or_one = one_step w.code.now takes.turns

  -- ---- nothing was done

  unmoved : turned.steps ≡ 0 → v ≡ w
  unmoved e = takes.same ∙ (λ i. record w { state = state i })
    where
      state : v.state ≡ w.state
      state = sym (idle_is w.code.now takes.turns e)

  pub takes_none : turned.steps ≡ 0 → TakesStep w v limits s g 1 turned
  takes_none e = subst (λ u. TakesStep w u limits s g 1 turned) (sym (unmoved e)) (record {
    events = [];
    state = s;
    leads = refl;
    turns = idle_turn w.code.now limits s g turned w.state v.state between.prepared.checked between.good shows
        between.running takes.turns e;
    code = refl;
    sizes = refl;
    shown = λ n. (between.prepared, between.shown);
    between = λ n m. between;
    lacks = λ why q. absurd (takes.no_region why q);
    prints = record { bytes = []; whole = sym (append-nil s.plain.printed); kept = sym (append-nil w.state.printed) };
  })

  -- ---- a step was taken

  pub shows_step : turned.steps ≡ 1 → StepShows w.code.now s w.state (One g) v.state
  shows_step e = step_shows w.code.now limits s g turned w.state v.state between.prepared.checked between.good shows
      between.running takes.turns e

  -- the region machine comes to t by it, with the owners of new objects added
  module _ (one : turned.steps ≡ 1) (t : RegionState)
      (step : region_step w.code.now w.sizes.page_words s (Instruct (One g)) ≡ Some t)
      (plain : t.plain ≡ plain_after s (shows_step one).next)
      (mark : t.mark ≡ mark_with_end s.mark (shows_step one).next.ended) (more : List Region)
      (none_gone : NoneGone s.regions more) (regions : t.regions ≡ s.regions) (owners : t.owners ≡ s.owners ++ more)
    where
      pub good_after : AllGood w.code.now t
      good_after = steps_keep_good w.code.now w.sizes.page_words s t (Instruct (One g)) between.prepared.checked
          between.prepared.ascends between.good step

      pub orderly_after : Orderly w.code.now t
      orderly_after = orderly_step w.code.now w.sizes.page_words s t (Instruct (One g)) between.prepared.checked
          between.prepared.ascends between.good between.orderly step

      pub state_after : StateShows v.state t
      state_after = shown_after w.code.now s between.prepared.checked between.good w.state shows between.running (One g)
          v.state (shows_step one) t plain mark more none_gone regions owners

      turns_after : Turns (tac (erased w.code.now)) limits (plain_at s w.state.printed) (plain_at t v.state.printed) g 1
          turned
      unfolding shows_step
      turns_after = done_turn w.code.now limits s g turned w.state v.state between.prepared.checked between.good shows
          between.running takes.turns one t good_after state_after
          (plain_at_after w.code.now s between.prepared.checked between.good w.state shows between.running (One g)
          v.state (shows_step one) t plain mark)

      leads_after : run (roomy_step w.code.now w.sizes) s (Instruct (One g) ∷ []) ≡ Some t
      leads_after = ap (option_and_then (λ (t : RegionState). run (roomy_step w.code.now w.sizes) t [])) step

      -- what was printed
      print_after : (u : World) (x : RegionState) → u.state.printed ≡ v.state.printed → x.plain ≡ t.plain
          → SamePrint w u s x
      print_after u x print same = record {
        bytes = (shows_step one).bytes;
        whole = ap (λ (p : TacState). p.printed) (same ∙ plain)
            ∙ ap (λ m. printed_if m s.plain.printed (shows_step one).next.printed) between.running
            ∙ (shows_step one).prints;
        kept = print ∙ (shows_step one).prints_kept;
      }

      code_same : v.code.now ≡ w.code.now
      code_same = ap (λ (x : World). x.code.now) takes.same

      sizes_same : v.sizes ≡ w.sizes
      sizes_same = ap (λ (x : World). x.sizes) takes.same

      -- what is owed after it is done
      pub takes_settled : (u : World) → WorldSettled v u t → t.mark ≡ None → TakesStep w u limits s g 1 turned
      takes_settled u x still = record {
        events = (Instruct (One g) ∷ []) ++ x.events;
        state = x.state;
        leads = leads_append (roomy_step w.code.now w.sizes) (Instruct (One g) ∷ []) x.events s t x.state
            leads_after
            (subst (λ (z : Code × Sizes). run (roomy_step z.0 z.1) t x.events ≡ Some x.state)
            (λ i. (code_same i, sizes_same i)) x.leads);
        turns = subst (λ (p : TacState). Turns (tac (erased w.code.now)) limits (plain_at s w.state.printed) p g 1 turned)
            (sym (plain_at_same t x.state v.state.printed u.state.printed x.plain still x.between.running x.same.print))
            turns_after;
        code = x.same.code ∙ code_same;
        sizes = x.same.sizes ∙ sizes_same;
        shown = λ n. (x.between.prepared, x.between.shown);
        between = λ n m. x.between;
        lacks = λ why q. absurd (takes.no_region why q);
        prints = print_after u x.state x.same.print x.plain;
      }

      -- the run has ended
      pub takes_end : Prepared v → Shown v t → (end_in t.mark ≡ None → ⊥) → TakesStep w v limits s g 1 turned
      takes_end prepared shown ended = record {
        events = Instruct (One g) ∷ [];
        state = t;
        leads = leads_after;
        turns = turns_after;
        code = code_same;
        sizes = sizes_same;
        shown = λ n. (prepared, shown);
        between = λ n m. absurd (ended m);
        lacks = λ why q. absurd (takes.no_region why q);
        prints = print_after v t refl refl;
      }

      -- memory ran out after it
      pub takes_fail : (u : World) → SameRun v u → v.state.ended ≡ None → SameChannels s.plain.memory t.plain.memory
          → v.state.printed ≡ w.state.printed
          → TakesStep w u limits s g 1 (record { steps = turned.steps; stop = stop.NoMemory })
      takes_fail u same running channels print = record {
        events = Instruct (One g) ∷ [];
        state = t;
        leads = leads_after;
        turns = record {
          leads = subst (λ (p : TacState). LeadsWithin (tac (erased w.code.now)) limits (plain_at s w.state.printed)
              (replicate turned.steps (One g)) p) (sym at_u) turns_after.leads;
          within = turns_after.within;
          over = sym state_after.ended ∙ running;
          channels = channels;
          print = same.print ∙ print;
        };
        code = same.code ∙ code_same;
        sizes = same.sizes ∙ sizes_same;
        shown = λ n. absurd (n refl);
        between = λ n m. absurd (n refl);
        lacks = λ why q. absurd (no_room q);
        prints = print_after u t same.print refl;
      }
        where
          at_u : plain_at t u.state.printed ≡ plain_at t v.state.printed
          at_u = ap (plain_at t) same.print

          no_room : {why : Shortage} → stop.NoMemory ≡ stop.NoRoom why → ⊥
          no_room q = cc
