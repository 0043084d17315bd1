-- A step of a turn: acts that change no channel, one after another, and what it comes to after them. Each part may end the turn, so the
-- cases are those of the first part that does.
use Rattle.std.proofs.Common.{◌≡◌, ◌∙◌, ◌<◌, ◌≤◌, Bool, Option, Some, None, ap, arith, sym}
use Rattle.rgo_acts.specs.Runs.{Run}
use Rattle.rgo_goroutine.specs.Acting.{GoroutineActs}
use Rattle.rgo_goroutine.specs.Instructions.{MakesInstruction}
use Rattle.rgo_goroutine.specs.declared.goroutine.Goroutine.{Goroutine}
use Rattle.rgo_goroutine.specs.declared.waking.Changed.{Changed}
use Rattle.rgo_goroutine.specs.declared.turning.TableTurnEnd.{TableTurnEnd}
use Rattle.rgo_goroutine.specs.declared.turning.Turning.{Turning}
use Rattle.rgo_goroutine.proofs.Concluding.{no_answer}
use Rattle.rgo_goroutine.proofs.Joining.{acts_then, instructs_then}

-- the turn continues, with as many channels changed as before
pub record Continues (r : Run) (old new : Goroutine) (t u : Turning) : Type 0 where
  pub acts : GoroutineActs r old new t u None
  pub changed : u.changed.count ≡ t.changed.count
  pub fewer : u.left ≤ t.left

-- it is the same but for whether something may have moved
pub left_as : (t u : Turning) (b : Bool) → u ≡ record t { moved = b } → u.left ≡ t.left
left_as t u b e = ap (λ (x : Turning). x.left) e

pub changed_as : (t u : Turning) (b : Bool) → u ≡ record t { moved = b } → u.changed.count ≡ t.changed.count
changed_as t u b e = ap (λ (x : Turning). x.changed.count) e

pub told_same : (t v u : Turning) (a b : Bool) → v ≡ record t { moved = a } → u ≡ record v { moved = b } → u ≡ record t { moved = u.moved }
told_same t v u a b e f =
    let is = f ∙ ap (λ (x : Turning). record x { moved = b }) e in
    is ∙ ap (λ m. record t { moved = m }) (sym (ap (λ (x : Turning). x.moved) is))

pub continues_as : (r : Run) (old new : Goroutine) (t u : Turning) (b : Bool) → u ≡ record t { moved = b } → GoroutineActs r old new t u None
    → Continues r old new t u
continues_as r old new t u b e acts = record {
  acts = acts;
  changed = changed_as t u b e;
  fewer = let l = left_as t u b e in omega (arith, l);
}

-- it has executed what is simple
pub executed : (r : Run) (old new : Goroutine) (t u : Turning) → u.changed ≡ t.changed → u.left ≤ t.left → GoroutineActs r old new t u None
    → Continues r old new t u
executed r old new t u changed fewer acts = record {
  acts = acts;
  changed = ap (λ (k : Changed). k.count) changed;
  fewer = fewer;
}

-- an act by which the turn is over
pub halts : (r : Run) (old new : Goroutine) (t u : Turning) (why : TableTurnEnd) → GoroutineActs r old new t u (Some why)
    → MakesInstruction r old new t u (Some why)
halts r old new t u why acts = record { acts = acts; progress = λ e. absurd (no_answer why e) }

module _ (r : Run) (old mid new : Goroutine) (t v u : Turning) (x : Continues r old mid t v) where
  pub continues_then : Continues r mid new v u → Continues r old new t u
  continues_then y = record {
    acts = acts_then r old mid new t v u None x.acts y.acts;
    changed = y.changed ∙ x.changed;
    fewer = let p = x.fewer in let q = y.fewer in omega (arith, p, q);
  }

  pub halts_then : (why : TableTurnEnd) → GoroutineActs r mid new v u (Some why) → MakesInstruction r old new t u (Some why)
  halts_then why y = halts r old new t u why (acts_then r old mid new t v u (Some why) x.acts y)

  pub room_then : t.changed.count < 6 → v.changed.count < 6
  room_then room = let c = x.changed in omega (arith, c, room)

  pub made_then : (answer : Option TableTurnEnd) → MakesInstruction r mid new v u answer → MakesInstruction r old new t u answer
  made_then answer y =
      instructs_then r old mid new t v u answer x.acts (let c = x.changed in let l = x.fewer in omega (arith, c, l)) y

-- all instructions of the turn were made
pub used : (r : Run) (old new : Goroutine) (t u : Turning) → Continues r old new t u → 0 < t.left → u.left ≡ 0
    → MakesInstruction r old new t u None
used r old new t u x some none = record {
  acts = x.acts;
  progress = λ e. let c = x.changed in omega (arith, c, some, none);
}
