-- A goroutine whose offer is at a channel asks whether it was taken. The offer keeps it at its send, so the send is its next instruction.
use Rattle.std.proofs.Common.{◌≡◌, ◌<◌, ℕ, true, false, Option, Some, None, Result, Ok, Err, OnOk, is_err, refl, ap, sym, subst, ◌∙◌, arith}
use Rattle.std.proofs.lemmas.Option.{none-some}
use Rattle.rgo_sound.specs.Code.Code.{Code}
use Rattle.rgo_core.specs.Frames.shown.WordFrames.{bare}
use Rattle.rgo_sound.specs.RegionMachine.Owed.{current}
use Rattle.rgo_acts.specs.Body.Bodies.{HasRoomBehind, frames_of_body}
use Rattle.rgo_acts.specs.Body.Nexts.{FrameHasNoNext, IsNextOf}
use Rattle.rgo_acts.specs.Body.Steps.{StillShows}
use Rattle.rgo_acts.specs.Body.declared.bodies.Body.{Body}
use Rattle.rgo_acts.specs.Body.declared.bodies.Side.TheVariants.{Offering}
use Rattle.rgo_acts.specs.Body.declared.nexts.Next.{Next}
use Rattle.rgo_acts.specs.Actors.{IsActorOf}
use Rattle.rgo_acts.specs.Runs.{Run}
use Rattle.rgo_acts.specs.Talks.{ActorCanAcknowledge, Talks}
use Rattle.rgo_acts.specs.declared.actors.Actor.{Actor}
use Rattle.rgo_acts.specs.declared.channels.Talked.{Talked}
use Rattle.rgo_acts.proofs.before.AtChannels.{at_send, offers_owe_nothing}
use Rattle.rgo_goroutine.specs.Acting.{GoroutineActs, MayMakeInstructions}
use Rattle.rgo_goroutine.specs.Instructions.{HasTalked, MakesInstruction}
use Rattle.rgo_goroutine.specs.declared.goroutine.Goroutine.{Goroutine}
use Rattle.rgo_goroutine.specs.declared.turning.TableTurnEnd.{TableTurnEnd}
use Rattle.rgo_goroutine.specs.declared.turning.TableTurnEnd.TheVariants as stop
use Rattle.rgo_goroutine.specs.declared.turning.Turning.{Turning}
use Rattle.rgo_goroutine.proofs.Joining.{instructs_then}
use Rattle.rgo_goroutine.proofs.Resting.{StaysPut, put_by, put_halts, put_on}

pub was_ok : {A E : Type 0} (done : Result A E) (P : Type 0) → is_err done ≡ false → OnOk done P → P
was_ok (Ok x) P is p = p
was_ok (Err e) P is p = cc

-- it is at its send
pub has_next : (r : Run) (a : Actor) → IsActorOf r a → (at : ℕ) → a.body.side ≡ Offering at → FrameHasNoNext r.program.code (frames_of_body a.body) → ⊥
has_next r a stands at offers nothing =
    let x = (at_send r a stands at offers).send in
    none-some x.instr
    (sym (nothing x.w x.ws (sym stands.shows.frames ∙ x.frames))
    ∙ (ap (λ (code : Code). current code (bare x.w)) (sym stands.shows.code) ∙ x.cur))

-- there is room for what follows it, and its body knows that it owes nothing before it
module _ (r : Run) (old : Goroutine) (d : Body) (t : Turning) (goes : MayMakeInstructions r old t.left) (noted : t.changed.count < 6)
    (stays : StillShows r.program old.actor.body d)
    (same : d ≡ record old.actor.body { queue = d.queue; is_expanded = d.is_expanded }) where
  abbrev pub mid : Goroutine
  mid = record old { actor = record old.actor { body = d } }

  put : StaysPut r old.actor mid.actor
  put = put_by r old.actor d goes.stands stays

  pub room_acts : GoroutineActs r old mid t t None
  room_acts = put_on r old mid.actor t goes put (omega (arith, noted))

  pub no_room : MakesInstruction r old mid t t (Some stop.NoMemory)
  no_room = put_halts r old mid.actor t goes put noted

  pub room_then : (new : Goroutine) (u : Turning) (answer : Option TableTurnEnd) → MakesInstruction r mid new t u answer → MakesInstruction r old new t u answer
  room_then new u answer y = instructs_then r old mid new t t u answer room_acts (omega arith) y

  pub can_ask : (next : Next) (at : ℕ) → old.actor.body.side ≡ Offering at → IsNextOf r.program.code (frames_of_body old.actor.body) next
      → d.is_expanded ≡ true → HasRoomBehind d next → ActorCanAcknowledge r mid.actor next at
  can_ask next at offers is_next expanded room =
      let offers_still = ap (λ (x : Body). x.side) same ∙ offers in
      record {
        stands = put.stands;
        ready = record {
          queue = offers_owe_nothing r mid.actor put.stands at offers_still;
          expanded = expanded;
          is_next = subst (λ (x : Body). IsNextOf r.program.code (frames_of_body x) next) (sym same) is_next;
        };
        offers = offers_still;
        room = room;
      }

  pub asked : 0 < t.left → (b : Actor) (answer : Talked) → Talks r mid.actor b 0 answer → HasTalked r mid (record mid { actor = b }) t 0 answer
  asked some b answer talks = record {
    goes = room_acts.goes;
    some = some;
    noted = noted;
    few = omega arith;
    rest = refl;
    talks = talks;
  }
