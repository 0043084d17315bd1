-- Before an instruction the goroutine comes near, and what it does can be counted; then it makes the instruction. One lemma joins the two
-- for all kinds of instructions.
use Rattle.std.proofs.Common.{◌≡◌, ◌-◌, ◌<◌, true, [], Option, Some, None, Ok, Err, Result, MatchResult, refl, ap, sym, subst, ◌∙◌, arith}
use Rattle.std.specs.Result.{IsErr, IsOk}
use Rattle.rgo_acts.specs.Body.Bodies.{HasRoomBehind, BodyIsReady}
use Rattle.rgo_acts.specs.Body.declared.bodies.Body.{Body}
use Rattle.rgo_acts.specs.Body.declared.bodies.Side.TheVariants.{AtRest}
use Rattle.rgo_acts.specs.Body.declared.nexts.Next.{Next}
use Rattle.rgo_acts.specs.Actors as act
use Rattle.rgo_acts.specs.Runs.{Run}
use Rattle.rgo_acts.specs.declared.actors.Actor.{Actor}
use Rattle.rgo_goroutine.specs.Acting.{GoroutineActs, StopsBy}
use Rattle.rgo_goroutine.specs.Instructions.{CanAct, CanCountMore, MakesInstruction, GoroutineIsAt, IsNear}
use Rattle.rgo_goroutine.specs.declared.goroutine.Goroutine.{Goroutine}
use Rattle.rgo_goroutine.specs.declared.turning.TableTurnEnd.{TableTurnEnd}
use Rattle.rgo_goroutine.specs.declared.turning.TableTurnEnd.TheVariants as stop
use Rattle.rgo_goroutine.specs.declared.turning.Turning.{Turning}
use Rattle.rgo_goroutine.proofs.Concluding.{Counts, counted, made, no_answer, only_told, refused, unmoved}
use Rattle.rgo_goroutine.proofs.Joining.{acts_then, instructs_then, near_acts}
use Rattle.rgo_goroutine.proofs.Lifting.{goes_on, stops}

-- it has come near, and what it does cannot be counted
pub near_halts : (r : Run) (old mid : Goroutine) (t : Turning) → IsNear r old mid t.left → t.changed.count < 6
    → MakesInstruction r old mid t t (Some stop.NoMemory)
near_halts r old mid t near noted =
    let acts = near_acts r old mid t near (omega (arith, noted)) in
    record {
      acts = record { acted = acts.acted; goes = acts.goes; noted = acts.noted; concludes = near.first };
      progress = λ e. absurd (no_answer stop.NoMemory e);
    }

-- it has come near, and then makes the instruction
pub near_then : (r : Run) (old mid new : Goroutine) (t u : Turning) (answer : Option TableTurnEnd) → IsNear r old mid t.left
    → t.changed.count < 6 → MakesInstruction r mid new t u answer → MakesInstruction r old new t u answer
near_then r old mid new t u answer near noted y =
    instructs_then r old mid new t t u answer (near_acts r old mid t near (omega (arith, noted))) (omega arith) y

pub can_act : (r : Run) (old mid : Goroutine) (next : Next) (t : Turning) → GoroutineIsAt r old next t.left → IsNear r old mid t.left
    → old.actor.body.side ≡ AtRest → CanCountMore r mid → t.changed.count < 6 → CanAct r mid next t
can_act r old mid next t at near rests counts noted = record {
  at = record {
    goes = near.goes;
    some = at.some;
    ready = subst (λ (b : Body). BodyIsReady r.program b next) (sym near.body) at.ready;
    none = λ word is. at.none word (sym (ap (λ (b : Body). b.side) near.body) ∙ is);
    room = subst (λ (b : Body). HasRoomBehind b next) (sym near.body) at.room;
  };
  rests = ap (λ (b : Body). b.side) near.body ∙ rests;
  counts = counts;
  near = near.near;
  noted = noted;
}

-- an instruction that memory may refuse
pub unless : {E : Type 0} (r : Run) (old : Goroutine) (b : Actor) (next : Next) (t u : Turning) (answer : Option TableTurnEnd)
    (done : Result (Unit {0}) E) → CanAct r old next t
    → MatchResult done (λ _. act.ActorActed r old.actor b 1 [] []) (λ _. act.ActorActed r old.actor b 0 [] [])
    → (IsOk done → (answer ≡ None) × (u ≡ record t { left = t.left - 1; moved = true }))
    → (IsErr done → (answer ≡ Some stop.NoMemory) × (u ≡ record t { moved = true })) → MakesInstruction r old (record old { actor = b }) t u answer
unless r old b next t u answer (Ok x) can did ok err =
    let e = ok refl in
    subst (λ (a : Option TableTurnEnd). MakesInstruction r old (record old { actor = b }) t u a) (sym e.0)
    (made r old b t u can.at.goes can.noted 1 0 did (counted t u 1 can.at.some e.1) (omega arith) (omega arith))
unless r old b next t u answer (Err x) can did ok err =
    let e = err refl in
    subst (λ (a : Option TableTurnEnd). MakesInstruction r old (record old { actor = b }) t u a) (sym e.0)
    (refused r old b t u can.at.goes can.noted did (only_told t u e.1))

-- it has come near, and then its actor has acted
module _ (r : Run) (old mid : Goroutine) (b : Actor) (t u : Turning) (near : IsNear r old mid t.left) (noted : t.changed.count < 6) where
  pub near_goes_on : act.ActorActed r mid.actor b 0 [] [] → Counts t u 0 0 → GoroutineActs r old (record mid { actor = b }) t u None
  near_goes_on acted counts =
      acts_then r old mid (record mid { actor = b }) t t u None (near_acts r old mid t near (omega (arith, noted)))
      (goes_on r mid b t u near.goes 0 acted counts.left
      (let c = counts.changed in omega (arith, c))
      (let c = counts.changed in omega (arith, c, noted))
      counts.moved)

  pub near_stops : (why : TableTurnEnd) (acted : act.ActorActed r mid.actor b 0 [] []) → Counts t u 0 0
      → StopsBy r mid (record mid { actor = b }) acted.es why → GoroutineActs r old (record mid { actor = b }) t u (Some why)
  near_stops why acted counts by =
      acts_then r old mid (record mid { actor = b }) t t u (Some why) (near_acts r old mid t near (omega (arith, noted)))
      (stops r mid b t u near.goes 0 acted counts.left
      (let c = counts.changed in omega (arith, c))
      (let c = counts.changed in omega (arith, c, noted))
      counts.moved why by)

-- the same, where nothing has moved by then
pub near_rests : (r : Run) (old mid : Goroutine) (b : Actor) (t : Turning) → IsNear r old mid t.left → t.changed.count < 6 → (why : TableTurnEnd)
    (acted : act.ActorActed r mid.actor b 0 [] []) → act.IsUnmoved r.setup mid.actor b acted.es
    → StopsBy r mid (record mid { actor = b }) acted.es why → GoroutineActs r old (record mid { actor = b }) t t (Some why)
near_rests r old mid b t near noted why acted rests by =
    acts_then r old mid (record mid { actor = b }) t t t (Some why) (near_acts r old mid t near (omega (arith, noted)))
    (unmoved r mid b t t near.goes noted why acted rests by refl).acts
