-- A turn of an instruction that makes no object, after which the world changes what it keeps of the regions: what the region machine
-- comes to, and how the turn is one of the world. Between the step and the change the world shows no state; that is why the two are
-- proved as one.
use Rattle.std.proofs.Common.{◌≡◌, ℕ, ◌≤◌, true, [], ◌++◌, length, Some, None, refl, sym, ap, ◌∙◌, subst}
use Rattle.std.proofs.Common.{slice_get, slice_set}
use Rattle.rgo_memory.specs.Channels.{SameChannels}
use Rattle.rgo_machine.specs.declared.limits.Limits.{Limits}
use Rattle.rgo_machine.specs.declared.picks.Pick.TheVariants.{One}
use Rattle.rgo_interpreter.specs.declared.turns.TurnEnd.TheVariants as stop
use Rattle.rgo_interpreter.specs.declared.turns.Turned.{Turned}
use Rattle.rgo_code.specs.Erasure.{erased_op}
use Rattle.rgo_region_machine.specs.declared.regions.Region.TheVariants.{Numbered}
use Rattle.rgo_region_machine.specs.Instructions.{child_holder, holder_after, last_frames, plain_after}
use Rattle.rgo_region_machine.specs.Machine.{Instruct, region_step}
use Rattle.rgo_region_machine.specs.Objects.{fill_of}
use Rattle.rgo_region_machine.specs.States as spec
use Rattle.rgo_region_machine.specs.States.{RegionState, frames_of}
use Rattle.rgo_region_interpreter.specs.declared.holders.Holder.{Holder}
use Rattle.rgo_region_interpreter.specs.declared.worlds.Next.{Next}
use Rattle.rgo_region_interpreter.specs.declared.worlds.World.{World}
use Rattle.rgo_region_interpreter.specs.Holders.{HolderShows, fill_in}
use Rattle.rgo_region_interpreter.specs.Objects.{MakesNone, making_by}
use Rattle.rgo_region_interpreter.specs.Tables.{RegionTableShows}
use Rattle.rgo_region_interpreter.specs.Works.{OthersOwe, Ready, SameRun, WorldSettled, TakesStep, WorldTakesTurn, Works, goes_by}
use Rattle.rgo_region_interpreter.specs.Worlds.{HoldersShow}
use Rattle.rgo_region_interpreter.proofs.acts.Acts.{ActsSo, acts_so, holders_are, next_state, next_step, others_one, still_running}
use Rattle.rgo_region_interpreter.proofs.acts.Acts.{works_by, works_one}
use Rattle.rgo_region_interpreter.proofs.acts.Turns.{fitting, goes_on, goes_one, making_none, settled_after, table_now, v_is}
use Rattle.rgo_region_interpreter.proofs.lifting.Good.{StepShows}
use Rattle.rgo_region_interpreter.proofs.acts.Rooms.{before}
use Rattle.rgo_region_interpreter.proofs.stepping.Taking.{shows_step, takes_fail, takes_settled}
use Rattle.rgo_region_interpreter.proofs.stepping.Targets.{IsBefore}

module _ (w v : World) (s : RegionState) (limits : Limits) (g : ℕ) (next : Next) (turned : Turned) (ready : Ready w s g)
    (makes : MakesNone w g next) (takes : WorldTakesTurn w v limits g turned)
    (goes : goes_by turned.stop turned.steps ≡ true) where
  abbrev i : IsBefore w.code.now s g ready.works.holder makes.at.frame makes.at.callers makes.at.is.instr
  i = before w s g next ready makes.at

  abbrev none : making_by w.code.now.structs makes.at.frame (erased_op makes.at.is.instr.op) ≡ None
  none = making_none w g next makes

  pub one : turned.steps ≡ 1
  one = goes_one w v s limits g turned ready takes goes

  pub running : v.state.ended ≡ None
  running = goes_on w v s limits g turned ready takes goes

  -- what the goroutine did
  pub did : ActsSo w v s limits g turned ready i takes one
  did = acts_so w v s limits g turned ready i takes one

  -- the three-address machine after it
  abbrev pub shown : StepShows w.code.now s w.state (One g) v.state
  shown = shows_step w v s limits g turned ready.between takes one

  -- the region machine after it
  pub after_it : RegionState
  after_it = next_state w v s limits g turned ready i takes one did ready.works.holder.fills ready.works.holder.reserved []
      (fitting w v s limits g turned ready i none takes one did) tt

  pub steps_to : region_step w.code.now w.sizes.page_words s (Instruct (One g)) ≡ Some after_it
  unfolding after_it
  steps_to = next_step w v s limits g turned ready i takes one did ready.works.holder.fills ready.works.holder.reserved []
      (fitting w v s limits g turned ready i none takes one did) tt

  pub mark_after : after_it.mark ≡ None
  unfolding after_it
  mark_after = still_running w v s limits g turned ready i takes one did ready.works.holder.fills ready.works.holder.reserved []
      (fitting w v s limits g turned ready i none takes one did) tt v takes_is
      (table_now w v s limits g turned ready i none takes) running
    where
      takes_is : v ≡ record w { state = v.state; table = v.table; holders = v.holders }
      takes_is = v_is w v s limits g turned ready takes

  pub regions_after : after_it.regions ≡ s.regions
  unfolding after_it
  regions_after = refl

  -- the three-address machine in it
  pub plain_is : after_it.plain ≡ plain_after s shown.next
  unfolding after_it
  plain_is = refl

  -- what goroutines have of the regions then
  pub holders_after : after_it.holders
      ≡ slice_set s.holders g (holder_after w.code.now ready.works.holder makes.at.frame makes.at.callers
      makes.at.is.instr.op (frames_of shown.next g))
      ++ child_holder w.code.now ready.works.holder makes.at.is.instr.op (last_frames shown.next.goroutines)
  unfolding after_it
  holders_after = holders_are w v s limits g turned ready i takes one did ready.works.holder.fills ready.works.holder.reserved []
      (fitting w v s limits g turned ready i none takes one did) tt v (v_is w v s limits g turned ready takes)
      (table_now w v s limits g turned ready i none takes) running

  -- memory ran out before all was changed
  pub turn_fails : (u : World) → SameRun v u → SameChannels s.plain.memory shown.next.memory
      → v.state.printed ≡ w.state.printed
      → TakesStep w u limits s g 1 (record { steps = turned.steps; stop = stop.NoMemory })
  unfolding after_it
  turn_fails u same channels print = takes_fail w v s limits g turned ready.between takes one after_it steps_to refl refl
      [] tt refl refl u same running channels print

  -- world p has other holders
  module _ (p : World) (p_is : p ≡ record v { holders = p.holders }) where
    over_w : p ≡ record w { state = v.state; table = p.table; holders = p.holders }
    over_w = p_is ∙ (λ j. record (takes.same j) { holders = p.holders })
        ∙ (λ j. record w { state = v.state; table = table_kept j; holders = p.holders })
      where
        table_kept : w.table ≡ p.table
        table_kept = sym (ap (λ (z : World). z.table) p_is ∙ ap (λ (z : World). z.table) takes.same)

    table_at : RegionTableShows p.table s.regions s.global_pages (s.owners ++ [])
    table_at = subst (λ t. RegionTableShows t s.regions s.global_pages (s.owners ++ []))
        (sym (ap (λ (z : World). z.table) p_is)) (table_now w v s limits g turned ready i none takes)

    -- it shows that state
    pub works_after : HoldersShow p after_it → (k : spec.Holder) → slice_get after_it.holders g ≡ Some k
        → Works p after_it g k.duties
    unfolding after_it
    works_after = works_by w v s limits g turned ready i takes one did ready.works.holder.fills ready.works.holder.reserved []
        (fitting w v s limits g turned ready i none takes one did) tt p over_w table_at running

    -- if only goroutine g has something else
    module _ (started : did.act.started ≡ []) (k : spec.Holder)
        (k_is : after_it.holders ≡ slice_set s.holders g k) (c d : Holder)
        (there : slice_get w.holders.items g ≡ Some c) (d_is : p.holders.items ≡ slice_set w.holders.items g d)
        (shows : HolderShows d k)
        (unmade : (r : ℕ) → length s.regions ≤ r → fill_in d (Numbered r) ≡ fill_of k.fills (Numbered r)) where
      pub works_alone : Works p after_it g k.duties
      unfolding after_it
      works_alone = works_one w v s limits g turned ready i takes one did ready.works.holder.fills ready.works.holder.reserved []
          (fitting w v s limits g turned ready i none takes one did) tt p over_w table_at running started k k_is c d
          there d_is shows unmade

      pub others_alone : OthersOwe p after_it g
      unfolding after_it
      others_alone = others_one w v s limits g turned ready i takes one did ready.works.holder.fills ready.works.holder.reserved []
          (fitting w v s limits g turned ready i none takes one did) tt p over_w table_at running started k k_is c d
          there d_is shows unmade

    -- and what is owed then is done
    pub turn_settles : (u : World) → WorldSettled p u after_it → TakesStep w u limits s g 1 turned
    unfolding after_it
    turn_settles u settled = takes_settled w v s limits g turned ready.between takes one after_it steps_to refl refl [] tt
        refl refl u (settled_after v p u after_it same settled) mark_after
      where
        same : SameRun v p
        same = record {
          code = ap (λ (z : World). z.code.now) p_is;
          sizes = ap (λ (z : World). z.sizes) p_is;
          print = ap (λ (z : World). z.state.printed) p_is;
        }
