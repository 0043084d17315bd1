-- Simple instructions, and what is owed before the next one: acts without an access, whose local steps wait for the next access.
use Rattle.std.proofs.Common.{◌≡◌, ◌+◌, ◌-◌, ◌<◌, ◌≤◌, ℕ, true, [], Some, None, refl, ap, ◌∙◌, arith}
use Rattle.rgo_acts.specs.Body.Bodies.{frames_of_body}
use Rattle.rgo_acts.specs.Body.Nexts.{FrameHasNoNext}
use Rattle.rgo_acts.specs.Body.declared.bodies.Body.{Body}
use Rattle.rgo_acts.specs.Body.declared.bodies.Side.TheVariants.{AtRest}
use Rattle.rgo_acts.specs.Actors as act
use Rattle.rgo_acts.specs.Locals.{BodyIsFree}
use Rattle.rgo_acts.specs.Runs.{Run}
use Rattle.rgo_acts.specs.declared.actors.Actor.{Actor}
use Rattle.rgo_goroutine.specs.Acting.{GoroutineActs, MayMakeInstructions}
use Rattle.rgo_goroutine.specs.Instructions.{IsNear, IsReadyToExpand}
use Rattle.rgo_goroutine.specs.declared.goroutine.Goroutine.{Goroutine}
use Rattle.rgo_goroutine.specs.declared.turning.TableTurnEnd.TheVariants as stop
use Rattle.rgo_goroutine.specs.declared.turning.Turning.{Turning}
use Rattle.rgo_goroutine.proofs.Concluding.{counted}
use Rattle.rgo_goroutine.proofs.Joining.{acts_then, near_acts}
use Rattle.rgo_goroutine.proofs.Lifting.{goes_on, stops}
use Rattle.rgo_goroutine.proofs.Resting.{acts_moved, goes_moved, is_over, put_on, put_same, put_stops}

-- ---- the turn first remembers that something may move

module _ (r : Run) (old : Goroutine) (t v : Turning) (e : v ≡ record t { moved = true }) (goes : MayMakeInstructions r old t.left)
    (noted : t.changed.count < 6) where
  pub told_goes : MayMakeInstructions r old v.left
  told_goes = goes_moved r old t v e goes

  pub told_moved : v.moved ≡ true
  told_moved = ap (λ (x : Turning). x.moved) e

  pub told_within : v.changed.count ≤ 6
  told_within = let c = ap (λ (x : Turning). x.changed.count) e in omega (arith, c, noted)

  -- nothing has happened after that
  pub told : GoroutineActs r old old t v None
  told = acts_moved r old old t v v None e (put_on r old old.actor v told_goes (put_same r old.actor old.actor refl goes.stands) told_within)

  -- its actor has made n instructions, or none
  pub told_on : (b : Actor) → act.ActorActed r old.actor b 0 [] [] → GoroutineActs r old (record old { actor = b }) t v None
  told_on b acted =
      acts_moved r old (record old { actor = b }) t v v None e
      (goes_on r old b v v told_goes 0 acted (omega arith) (omega arith) told_within told_moved)

  pub told_stops : (b : Actor) → act.ActorActed r old.actor b 0 [] [] → GoroutineActs r old (record old { actor = b }) t v (Some stop.NoMemory)
  told_stops b acted =
      acts_moved r old (record old { actor = b }) t v v (Some stop.NoMemory) e
      (stops r old b v v told_goes 0 acted (omega arith) (omega arith) told_within told_moved stop.NoMemory acted.went.first)

  -- its first function has returned
  pub told_over : FrameHasNoNext r.program.code (frames_of_body old.actor.body) → old.actor.body.queue.duties ≡ []
      → GoroutineActs r old old t v (Some stop.Ended)
  told_over nothing empty =
      acts_moved r old old t v v (Some stop.Ended) e
      (put_stops r old old.actor v told_goes (put_same r old.actor old.actor refl goes.stands) stop.Ended
      (refl, is_over r old.actor goes.stands nothing empty) told_within)

  -- it has come near, and its actor has made n instructions
  pub executed : (mid : Goroutine) (b : Actor) (u : Turning) (n : ℕ) → IsNear r old mid v.left → act.ActorActed r mid.actor b n [] []
      → n ≤ v.left → u ≡ record v { left = v.left - n; moved = true } → GoroutineActs r old (record mid { actor = b }) t u None
  executed mid b u n near acted some f =
      let counts = counted v u n some f in
      acts_moved r old (record mid { actor = b }) t v u None e
      (acts_then r old mid (record mid { actor = b }) v v u None (near_acts r old mid v near told_within)
      (goes_on r mid b v u near.goes n acted counts.left
      (let c = counts.changed in omega (arith, c))
      (let c = counts.changed in let w = told_within in omega (arith, c, w))
      counts.moved))

pub free_of : (b d : Body) → d ≡ b → IsReadyToExpand b → b.side ≡ AtRest → BodyIsFree d
free_of b d same ready rests = record {
  empty = ap (λ (x : Body). x.queue.duties) same ∙ ready.empty;
  not_yet = ap (λ (x : Body). x.is_expanded) same ∙ ready.not_yet;
  rests = ap (λ (x : Body). x.side) same ∙ rests;
}

-- many instructions can be counted, and local steps
pub few_more : (r : Run) (go : Goroutine) (left : ℕ) → MayMakeInstructions r go left → go.actor.body.counts.steps + left < 18446744073709551616
few_more r go left goes =
    let s = ap (λ (n : _). n.steps) goes.stands.shows.share in
    let room = goes.room in
    omega (arith, s, room)

pub few_behind : (r : Run) (old new : Goroutine) (left : ℕ) → IsNear r old new left → new.actor.behind + left < 18446744073709551616
few_behind r old new left near =
    let near_by = near.near in
    let room = near.goes.room in
    omega (arith, near_by, room)
