-- A body after a run of the loop. The loop changes words and frames alone; the holding is settled by the number of frames that were kept,
-- and the rest of the record is as it was.
use Rattle.std.proofs.Common.{◌≡◌, ◌+◌, ◌≤◌, ℕ, List, [], ◌∷◌, Option, Some, None, refl, sym, ap, ◌∙◌, subst, false, length, arith}
use Rattle.std.specs.List.{AllByRecursion}
use Rattle.rgo_compact.specs.Environs.{Environs, IsBare}
use Rattle.rgo_compact.specs.Functions.{CompactFn}
use Rattle.rgo_core.specs.Core.{IsPossible as CanBe, Setup}
use Rattle.rgo_core.specs.Records.{Record}
use Rattle.rgo_core.specs.Channels.Records.{at_rest}
use Rattle.rgo_core.specs.Frames.shown.WordFrames.{bare_all}
use Rattle.rgo_core.specs.Memory.Records.{Fill, Reserved}
use Rattle.rgo_core.specs.Rule.Views.{Me, number_of}
use Rattle.rgo_core_steps.specs.Seats.{HasOne, Settles, settled}
use Rattle.rgo_holding.specs.Changes.{KnowsNone, EnvironmentsSettle as HoldingSettles}
use Rattle.rgo_holding.specs.Holds.{IsHoldingOf}
use Rattle.rgo_stack.proofs.Loop.Making.{as_many}
use Rattle.rgo_stack.specs.Loop.Comes.{SeatComes, HasMade, IsBetweenInstrs}
use Rattle.rgo_sound.specs.Machine.Limits.{deepest}
use Rattle.rgo_sound.specs.RegionMachine.Counts.{Counts}
use Rattle.rgo_sound.specs.RegionMachine.Owed.{next_duties}
use Rattle.rgo_sound.specs.RegionMachine.States.{RegionEnvironment, Holder, NoOffer}
use Rattle.rgo_stack.proofs.Frames.{as_deep}
use Rattle.rgo_stack.specs.Stacks.{Belongs, BelongsAt, Stack, frames_at, frames_of_stack}
use Rattle.rgo_body.specs.Bodies.{frames_of_body}
use Rattle.rgo_body.specs.Programs.{CompactProgram}
use Rattle.rgo_body.specs.Shows.{BodyShows, SideShows}
use Rattle.rgo_body.specs.declared.bodies.Body.{Body}
use Rattle.rgo_body.specs.declared.bodies.Side.{Side}
use Rattle.rgo_body.specs.declared.bodies.Side.TheVariants as side
use Rattle.rgo_body.proofs.Showing.{owes_next}

-- a goroutine has no more frames than it may, which the loop asks before it begins
pub few_frames : (fs : List CompactFn) (s : Stack) → Belongs fs s → length (frames_of_stack s) ≤ deepest
few_frames fs s belongs = by_at s.at refl
  where
    by_at : (at : Option _) → s.at ≡ at → length (frames_of_stack s) ≤ deepest
    by_at None e = subst (λ n. n ≤ deepest) (sym (ap (λ at. length (frames_at s.words s.callers at)) e)) (omega arith)
    by_at (Some p) e =
        let many = as_deep s s p e refl in
        let placed = subst (BelongsAt fs s.words s.callers) e belongs.frames in
        let deep = placed.0.depth in
        let room = belongs.room in
        omega (arith, many, deep, room)

bare_known : (es : List RegionEnvironment) → AllByRecursion IsBare es → AllByRecursion KnowsNone es
bare_known [] k = tt
bare_known (e ∷ es) k = (record { names = k.0.names; protections = k.0.protections }, bare_known es k.1)

module _ (T : Setup) (p : CompactProgram) (b : Body) (m : Me Record) (q : ℕ) (s : BodyShows T p b (settled T q m))
    (empty : b.queue.duties ≡ []) (not_yet : b.is_expanded ≡ false) (rests : b.side ≡ side.AtRest) where
  known : ((settled T q m).side ≡ at_rest) × ((settled T q m).frame.holder.offer ≡ NoOffer)
  known = subst (λ (x : Side). SideShows x (settled T q m).side (settled T q m).frame.holder.offer) rests s.side

  -- the goroutine whose record the body shows is between two instructions
  pub is_between : HasOne T m → Settles T q m → CanBe T (number_of m) (settled T q m) → IsBetweenInstrs T m q (frames_of_body b)
  is_between alone settles possible = record {
    alone = alone;
    settles = settles;
    possible = possible;
    are = s.frames;
    owes = s.owes ∙ owes_next p.code b empty not_yet ∙ ap (λ code. next_duties code (bare_all (frames_of_body b))) (sym s.code);
    rests = known.0;
    free = known.1;
    few = few_frames p.compact b.stack s.belongs;
  }

  module _ (d : Body) (w : Me Record) (r n kept depth : ℕ) (comes : SeatComes T m q w r (frames_of_body d) n kept)
      (belongs : Belongs p.compact d.stack) (deep : depth ≡ length (frames_of_body d))
      (is : d ≡ record b { stack = d.stack; holding = d.holding; counts = record b.counts { steps = b.counts.steps + n } })
      (settles : (es : List RegionEnvironment) → HoldingSettles kept depth (settled T q m).frame.holder.environments es
      → IsHoldingOf T.sizes.regions d.holding (record (settled T q m).frame.holder { environments = es }) (settled T q m).memory.fills) where
    made : HasMade (settled T q m) (settled T r w) n kept
    made = comes.made

    abbrev environs : Environs kept (settled T q m).frame.holder.environments (settled T r w).frame.holder.environments
    environs = comes.made.environs

    shown_holds : IsHoldingOf T.sizes.regions d.holding (settled T r w).frame.holder (settled T r w).memory.fills
    shown_holds =
        subst (λ (x : Holder × List Fill). IsHoldingOf T.sizes.regions d.holding x.0 x.1) (λ i. (sym made.holder i, sym made.fills i))
        (settles (settled T r w).frame.holder.environments (record {
          above = environs.above;
          fresh = environs.fresh;
          stayed = environs.stayed;
          before_is = environs.before_is;
          after_is = environs.after_is;
          kept_are = environs.many;
          depth_is = as_many T w r (frames_of_body d) comes.between ∙ sym deep;
          unguarded = comes.made.unguarded;
          bare = bare_known environs.fresh environs.bare;
        }))

    pub run_shows : BodyShows T p d (settled T r w)
    run_shows = record {
      code = s.code;
      belongs = belongs;
      frames = comes.between.are;
      holds = shown_holds;
      reserved = ap (λ (r : Reserved). r.pages) made.reserved ∙ s.reserved ∙ sym (ap (λ (x : Body). x.reserved.pages) is);
      owes = comes.between.owes ∙ ap (λ code. next_duties code (bare_all (frames_of_body d))) s.code
          ∙ sym (owes_next p.code d (ap (λ (x : Body). x.queue.duties) is ∙ empty) (ap (λ (x : Body). x.is_expanded) is ∙ not_yet));
      side = subst (λ (x : Side). SideShows x (settled T r w).side (settled T r w).frame.holder.offer)
          (sym (ap (λ (x : Body). x.side) is ∙ rests)) (comes.between.rests, comes.between.free);
      calm = record {
        make = made.make ∙ s.calm.make;
        claim = made.claim ∙ s.calm.claim;
        give = made.give ∙ s.calm.give;
        none = made.owed ∙ s.calm.none;
      };
      share = made.share ∙ ap (λ (k : Counts). record k { steps = k.steps + n }) s.share ∙ sym (ap (λ (x : Body). x.counts) is);
      prints = ap length made.prints ∙ s.prints ∙ sym (ap (λ (x : Body). x.prints) is);
      refused = made.refused ∙ s.refused ∙ sym (ap (λ (x : Body). x.refused) is);
    }
