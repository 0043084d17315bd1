-- Starts of goroutines, and the return of `main`, as acts of a turn. A child joins the end of the goroutine's list, and the front of the
-- record's.
use Rattle.std.proofs.Common.{◌≡◌, ◌<◌, ◌∙◌, ℕ, List, [], Option, Some, None, ap, arith, length, map, refl, subst, sym}
use Rattle.std.proofs.lemmas.List.{append-nil}
use Rattle.rgo_sound.specs.Code.Code as code
use Rattle.rgo_sound.specs.Code.Code.{CodeInstr, CodeOp}
use Rattle.rgo_sound.specs.Code.Lists.{removes_in, removes_of}
use Rattle.rgo_sound.specs.Tac.Code as tac
use Rattle.rgo_sound.specs.Tac.Ops.{operation_of}
use Rattle.rgo_acts.specs.Body.Nexts.{removes_at}
use Rattle.rgo_acts.specs.Body.Steps.{IsRoomier}
use Rattle.rgo_acts.specs.Body.declared.bodies.Body.{Body}
use Rattle.rgo_acts.specs.Body.declared.nexts.Next.{Next}
use Rattle.rgo_acts.specs.Actors as act
use Rattle.rgo_acts.specs.Ready.{ActorIsBefore}
use Rattle.rgo_acts.specs.Runs.{Run}
use Rattle.rgo_acts.specs.declared.actors.Actor.{Actor}
use Rattle.rgo_acts.proofs.before.Instructions.{return_of}
use Rattle.rgo_acts.proofs.computing.LocalActs.{none_done, roomier_ready, roomier_shows}
use Rattle.rgo_goroutine.specs.Acting.{GoroutineActs, EndsIn, MayMakeInstructions}
use Rattle.rgo_goroutine.specs.Goroutines.{AreChildren, drawn_by, ungathered_prints}
use Rattle.rgo_goroutine.specs.Instructions.{MakesInstruction}
use Rattle.rgo_goroutine.specs.declared.goroutine.Goroutine.{Goroutine}
use Rattle.rgo_goroutine.specs.declared.turning.TableTurnEnd.{TableTurnEnd}
use Rattle.rgo_goroutine.specs.declared.turning.Turning.{Turning}
use Rattle.rgo_goroutine.proofs.Concluding.{Counts, ended, uncounted}
use Rattle.rgo_goroutine.proofs.Joining.{instructs_then}
use Rattle.rgo_goroutine.proofs.Keeping.{IsSame}
use Rattle.rgo_goroutine.proofs.Lifting.{goes_as, moved_as, moves}

-- nothing was made, printed or started
same_acts : (r : Run) (old new : Goroutine) (t u : Turning) → MayMakeInstructions r old t.left → t.changed.count < 6 → Counts t u 0 0 → IsSame old new
    → act.ActorActed r old.actor new.actor 0 [] [] → GoroutineActs r old new t u None
same_acts r old new t u goes noted counts same acted = record {
  acted = record {
    n = 0;
    es = acted.es;
    moved = moved_as r old new 0 [] [] acted (ap (map drawn_by) same.prints ∙ sym (append-nil (ungathered_prints old)))
        (same.children ∙ sym (append-nil old.children.items));
    left = counts.left;
    noted = (let c = counts.changed in omega (arith, c));
    still = λ e. absurd (moves u.moved counts.moved e);
  };
  goes = goes_as r old new 0 [] [] acted t.left u.left goes counts.left (omega arith) same.number
      (subst (AreChildren r) (sym same.children) goes.all) same.first;
  noted = (let c = counts.changed in omega (arith, c, noted));
  concludes = acted.went.first;
}

-- the run is over after that
pub same_ends : (r : Run) (old mid new : Goroutine) (t u : Turning) (why : TableTurnEnd) → MayMakeInstructions r old t.left → t.changed.count < 6
    → Counts t u 0 0 → IsSame old mid → act.ActorActed r old.actor mid.actor 0 [] [] → EndsIn r mid new 0 why
    → MakesInstruction r old new t u (Some why)
same_ends r old mid new t u why goes noted counts same acted ends =
    let first = same_acts r old mid t u goes noted counts same acted in
    let left = counts.left in
    let changed = counts.changed in
    instructs_then r old mid new t u u (Some why) first (omega (arith, left, changed))
    (ended r mid new u u first.goes (omega (arith, changed, noted)) 0 why ends (uncounted u counts.moved))

-- ---- a return, for which room was made

none_removed : (op : CodeOp) (i : CodeInstr) (value : Option ℕ) → i.op ≡ op → op ≡ code.Return value → removes_in (Some i) ≡ []
none_removed op i value e is = ap removes_of (e ∙ is)

pub returning : (r : Run) (a : Actor) (m : Body) (next : Next) (value : Option ℕ) → ActorIsBefore r a next → IsRoomier a.body m
    → operation_of next.op ≡ tac.Return value → ActorIsBefore r (record a { body = m }) next
returning r a m next value before roomier is =
    let n = before.ready.is_next in
    let none : removes_at next ≡ [] =
    ap removes_in n.is_instr ∙ none_removed n.instr.op n.instr value refl (return_of n.instr.op value (n.op ∙ is)) in
    record {
      stands = (none_done r a (record a { body = m }) before.stands refl refl (roomier_shows r.program a.body m roomier)).stands;
      ready = roomier_ready r.program a.body m roomier next before.ready;
      rests = ap (λ (b : Body). b.side) roomier ∙ before.rests;
      room = let few = ap (λ (l : List ℕ). length l) none in omega (arith, few);
      count = let same = ap (λ (b : Body). b.counts.steps) roomier in let count = before.count in omega (arith, same, count);
    }

pub roomier : (r : Run) (a : Actor) (m : Body) → act.IsActorOf r a → IsRoomier a.body m → act.ActorActed r a (record a { body = m }) 0 [] []
roomier r a m stands same = none_done r a (record a { body = m }) stands refl refl (roomier_shows r.program a.body m same)
