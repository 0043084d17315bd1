-- A goroutine comes to its next instruction: its body alone changes, and nothing has moved by that. A pass relies on this: whoever comes
-- to its instruction and then finds a page in use has not moved.
use Rattle.std.proofs.Common.{◌≡◌, ◌<◌, ◌∙◌, ℕ, Bool, true, false, [], Option, Some, None, Ok, Err, Result, ap, arith, refl, sym}
use Rattle.std.specs.Result.{OnOk, is_ok}
use Rattle.rgo_acts.specs.Body.Bodies.{HasRoomBehind, frames_of_body}
use Rattle.rgo_acts.specs.Body.Nexts.{FrameHasNoNext, IsNextOf}
use Rattle.rgo_acts.specs.Body.Programs.{CompactProgram}
use Rattle.rgo_acts.specs.Body.Steps.{IsRoomier}
use Rattle.rgo_acts.specs.Body.declared.bodies.Body.{Body}
use Rattle.rgo_acts.specs.Body.declared.bodies.Side.{Side}
use Rattle.rgo_acts.specs.Body.declared.bodies.Side.TheVariants.{AtRest, Offering}
use Rattle.rgo_acts.specs.Body.declared.nexts.Next.{Next}
use Rattle.rgo_acts.specs.Actors as act
use Rattle.rgo_acts.specs.Resting.{IsAtTalk}
use Rattle.rgo_acts.specs.Runs.{Run}
use Rattle.rgo_acts.specs.declared.actors.Actor.{Actor}
use Rattle.rgo_acts.proofs.computing.LocalActs.{roomier_ready, roomier_shows}
use Rattle.rgo_goroutine.specs.Acting.{GoroutineActs, MayMakeInstructions, StopsBy}
use Rattle.rgo_goroutine.specs.Instructions.{MakesInstruction, GoroutineIsAt}
use Rattle.rgo_goroutine.specs.declared.goroutine.Goroutine.{Goroutine}
use Rattle.rgo_goroutine.specs.declared.turning.TableTurnEnd.{TableTurnEnd}
use Rattle.rgo_goroutine.specs.declared.turning.TableTurnEnd.TheVariants as stop
use Rattle.rgo_goroutine.specs.declared.turning.Turning.{Turning}
use Rattle.rgo_goroutine.proofs.Concluding.{no_answer}
use Rattle.rgo_goroutine.proofs.Joining.{acts_then, instructs_then}
use Rattle.rgo_goroutine.proofs.Resting.{is_over, put_by, put_on}

-- the turn is over then
pub over_then : (r : Run) (old new : Goroutine) (t : Turning) (acts : GoroutineActs r old new t t None) (why : TableTurnEnd)
    → StopsBy r old new acts.acted.es why → MakesInstruction r old new t t (Some why)
over_then r old new t acts why by = record {
  acts = record { acted = acts.acted; goes = acts.goes; noted = acts.noted; concludes = by };
  progress = λ e. absurd (no_answer why e);
}

-- ---- what it knows of a channel

-- its body is as before, but for what it knows of a channel; it has still no offer
pub record IsKept (a b : Actor) : Type 0 where
  pub seat : b.seat ≡ a.seat
  pub behind : b.behind ≡ a.behind
  pub empty : b.body.queue.duties ≡ []
  pub expanded : b.body.is_expanded ≡ true
  pub none : (at : ℕ) → b.body.side ≡ Offering at → ⊥

no_offer : (s : Side) (at : ℕ) → s ≡ AtRest → s ≡ Offering at → ⊥
no_offer s at e f = let h : AtRest ≡ Offering at = sym e ∙ f in cc h

module _ (p : CompactProgram) (a b : Actor) (empty : a.body.queue.duties ≡ []) (expanded : a.body.is_expanded ≡ true)
    (none : (at : ℕ) → a.body.side ≡ Offering at → ⊥) where
  pub kept : (again : Bool) → (again ≡ true → IsAtTalk p b.body × (b ≡ a))
      → (again ≡ false → b ≡ record a { body = record a.body { side = AtRest } }) → IsKept a b
  kept true same rests =
      let e = (same refl).1 in
      record {
        seat = ap (λ (x : Actor). x.seat) e;
        behind = ap (λ (x : Actor). x.behind) e;
        empty = ap (λ (x : Actor). x.body.queue.duties) e ∙ empty;
        expanded = ap (λ (x : Actor). x.body.is_expanded) e ∙ expanded;
        none = λ at is. none at (sym (ap (λ (x : Actor). x.body.side) e) ∙ is);
      }
  kept false same rests =
      let e = rests refl in
      record {
        seat = ap (λ (x : Actor). x.seat) e;
        behind = ap (λ (x : Actor). x.behind) e;
        empty = ap (λ (x : Actor). x.body.queue.duties) e ∙ empty;
        expanded = ap (λ (x : Actor). x.body.is_expanded) e ∙ expanded;
        none = λ at. no_offer b.body.side at (ap (λ (x : Actor). x.body.side) e);
      }

-- ---- what holds after success

pub after_ok : {A E : Type 0} (r : Result A E) (P : Type 0) → OnOk r P → is_ok r ≡ true → P
after_ok (Ok x) P said ok = said
after_ok (Err x) P said ok = let e : false ≡ true = ok in absurd (cc e)

-- ---- before the instruction: it has forgotten a channel if it is at none, and makes room for what it owes after it

module _ (r : Run) (old : Goroutine) (b : Actor) (t : Turning) (goes : MayMakeInstructions r old t.left)
    (some : (0 < t.left) × (t.changed.count < 6)) (k : IsKept old.actor b) (acted : act.ActorActed r old.actor b 0 [] []) where
  kept_acts : GoroutineActs r old (record old { actor = b }) t t None
  kept_acts =
      put_on r old b t goes (record { seat = k.seat; behind = k.behind; stands = acted.stands })
      (let less = some.1 in omega (arith, less))

  pub has_ended : FrameHasNoNext r.program.code (frames_of_body b.body) → MakesInstruction r old (record old { actor = b }) t t (Some stop.Ended)
  has_ended nothing =
      over_then r old (record old { actor = b }) t kept_acts stop.Ended
      (kept_acts.concludes, is_over r b acted.stands nothing k.empty)

  module _ (m : Body) (roomier : IsRoomier b.body m) where
    abbrev with_room : Goroutine
    with_room = record old { actor = record b { body = m } }

    roomy_acts : GoroutineActs r old with_room t t None
    roomy_acts =
        acts_then r old (record old { actor = b }) with_room t t t None kept_acts
        (put_on r (record old { actor = b }) (record b { body = m }) t kept_acts.goes
        (put_by r b m acted.stands (roomier_shows r.program b.body m roomier)) kept_acts.noted)

    pub lacks_memory : MakesInstruction r old with_room t t (Some stop.NoMemory)
    lacks_memory = over_then r old with_room t roomy_acts stop.NoMemory roomy_acts.concludes

    pub is_at : (next : Next) → IsNextOf r.program.code (frames_of_body b.body) next → HasRoomBehind m next → GoroutineIsAt r with_room next t.left
    is_at next n room = record {
      goes = roomy_acts.goes;
      some = some.0;
      ready = roomier_ready r.program b.body m roomier next (record { queue = k.empty; expanded = k.expanded; is_next = n });
      none = λ at is. k.none at (sym (ap (λ (x : Body). x.side) roomier) ∙ is);
      room = room;
    }

    pub and_then : (new : Goroutine) (u : Turning) (answer : Option TableTurnEnd) → MakesInstruction r with_room new t u answer
        → MakesInstruction r old new t u answer
    and_then new u answer y = instructs_then r old with_room new t t u answer roomy_acts (omega arith) y
