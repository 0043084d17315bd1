-- What acts of the goroutine's actor are to the turn: the lists for the driver are untouched, so they follow from the actor's acts.
use Rattle.std.proofs.Common.{◌≡◌, ◌+◌, ◌≤◌, ℕ, Bool, true, false, if◌then◌else◌, List, [], ◌++◌, Some, None, inr, length, refl, ap, sym, subst, ◌∙◌, length-append, arith}
use Rattle.std.specs.Option.{option_map}
use Rattle.std.proofs.lemmas.List.{append-nil}
use Rattle.rgo_core.specs.runs.Opening.{first_of}
use Rattle.rgo_core.specs.Records.{Drawn, accesses}
use Rattle.rgo_core_steps.specs.Ends.{mark_of}
use Rattle.rgo_core_steps.proofs.accesses.Growing.{found_then, grew_then}
use Rattle.rgo_acts.specs.Actors as act
use Rattle.rgo_acts.specs.Actors.{now}
use Rattle.rgo_acts.specs.Endings.{ActorHasEnded}
use Rattle.rgo_acts.specs.Runs.{Run}
use Rattle.rgo_acts.specs.declared.actors.Actor.{Actor}
use Rattle.rgo_goroutine.specs.Acting.{GoroutineActed, GoroutineActs, EndsIn, MayMakeInstructions, GoroutineMoved, StopsBy, record_now}
use Rattle.rgo_goroutine.specs.Goroutines.{AreChildren, ungathered_prints, numbers}
use Rattle.rgo_goroutine.specs.declared.goroutine.Child.{Child}
use Rattle.rgo_goroutine.specs.declared.goroutine.Goroutine.{Goroutine}
use Rattle.rgo_goroutine.specs.declared.turning.TableTurnEnd.{TableTurnEnd}
use Rattle.rgo_goroutine.specs.declared.turning.TableTurnEnd.TheVariants as stop
use Rattle.rgo_goroutine.specs.declared.turning.Turning.{Turning}

pub moves : (b : Bool) → b ≡ true → b ≡ false → ⊥
moves true e f = cc
moves false e f = cc

module _ (r : Run) (old new : Goroutine) (n : ℕ) (draws : List Drawn) (starts : List Child)
    (acted : act.ActorActed r old.actor new.actor n draws (numbers starts)) where
  pub moved_as : ungathered_prints new ≡ ungathered_prints old ++ draws → new.children.items ≡ old.children.items ++ starts → GoroutineMoved r old new n acted.es
  moved_as drawn newborn = record {
    grew = acted.went.grew;
    steps = acted.went.steps;
    draws = draws;
    fresh = drawn;
    printed = acted.went.prints;
    starts = starts;
    newborn = newborn;
    started = acted.went.children;
  }

  pub goes_as : (left more : ℕ) → MayMakeInstructions r old left → left ≡ more + n → length draws ≤ n → new.number ≡ old.number
      → AreChildren r new.children.items → new.first ≡ old.first → MayMakeInstructions r new more
  goes_as left more goes less few number all first = record {
    stands = acted.stands;
    number = number ∙ (goes.number ∙ sym acted.went.grew.same);
    few = let f = goes.few in let s = acted.went.steps in
        let p = ap length acted.went.prints ∙ length-append (record_now r old).clock.prints draws in omega (arith, f, s, p, few);
    room = let room = goes.room in let s = acted.went.steps in omega (arith, room, s, less);
    all = all;
    first = acted.went.first ∙ (goes.first ∙ ap (option_map mark_of) (sym first));
  }

-- the actor has acted, and nothing else of the goroutine has changed
module _ (r : Run) (old : Goroutine) (b : Actor) (t u : Turning) (goes : MayMakeInstructions r old t.left) (n : ℕ)
    (acted : act.ActorActed r old.actor b n [] []) (left : t.left ≡ u.left + n) (noted : t.changed.count ≤ u.changed.count)
    (within : u.changed.count ≤ 6) (moved : u.moved ≡ true) where
  abbrev pub its : Goroutine
  its = record old { actor = b }

  pub plain_moved : GoroutineMoved r old its n acted.es
  plain_moved = moved_as r old its n [] [] acted (sym (append-nil (ungathered_prints old))) (sym (append-nil old.children.items))

  pub plain_goes : MayMakeInstructions r its u.left
  plain_goes = goes_as r old its n [] [] acted t.left u.left goes left (omega arith) refl goes.all refl

  abbrev pub plain_acted : GoroutineActed r old its t u
  plain_acted = record {
    n = n;
    es = acted.es;
    moved = plain_moved;
    left = left;
    noted = noted;
    still = λ e. absurd (moves u.moved moved e);
  }

  pub goes_on : GoroutineActs r old its t u None
  goes_on = record { acted = plain_acted; goes = plain_goes; noted = within; concludes = acted.went.first }

  pub stops : (why : TableTurnEnd) → StopsBy r old its acted.es why → GoroutineActs r old its t u (Some why)
  stops why by = record { acted = plain_acted; goes = plain_goes; noted = within; concludes = by }

-- ---- ends of the run

-- first an act by which nothing was made, and then the end
pub ended_after : (r : Run) (a b c : Actor) (n : ℕ) (mark : _) (ends : Bool) → act.ActorActed r a b 0 [] [] → ActorHasEnded r b c n mark ends
    → ActorHasEnded r a c n mark ends
ended_after r a b c n mark ends x y = record {
  es = x.es ++ y.es;
  grew = grew_then accesses (first_of r.setup.code) a.seat.me b.seat.me c.seat.me x.es y.es x.went.grew y.grew;
  steps = let s = x.went.steps in let e = y.steps in omega (arith, s, e);
  prints = y.prints ∙ (x.went.prints ∙ append-nil (now r.setup a).clock.prints);
  children = y.children ∙ x.went.children;
  first = y.first ∙ ap (λ (f : _). if ends then Some mark else f) x.went.first;
  late = λ e. let l = y.late e in (
    l.0,
    l.1,
    found_then accesses (first_of r.setup.code) a.seat.me b.seat.me x.es y.es _ _ l.0 x.went.grew l.2,
  );
  stands = y.stands;
}

pub ends_after : (r : Run) (old : Goroutine) (b : Actor) (new : Goroutine) (n : ℕ) (why : TableTurnEnd) → act.ActorActed r old.actor b 0 [] []
    → EndsIn r (record old { actor = b }) new n why → EndsIn r old new n why
ends_after r old b new n why acted e = record {
  mark = e.mark;
  ends = e.ends;
  ended = ended_after r old.actor b new.actor n (mark_of e.mark) e.ends acted e.ended;
  rest = e.rest;
  is = e.is;
}

module _ (r : Run) (old new : Goroutine) (t u : Turning) (goes : MayMakeInstructions r old t.left) (n : ℕ) (why : TableTurnEnd) (e : EndsIn r old new n why)
    (left : t.left ≡ u.left + n) (noted : t.changed.count ≤ u.changed.count) (within : u.changed.count ≤ 6) (moved : u.moved ≡ true) where
  end_moved : GoroutineMoved r old new n e.ended.es
  end_moved = record {
    grew = e.ended.grew;
    steps = e.ended.steps;
    draws = [];
    fresh = ap ungathered_prints e.rest ∙ sym (append-nil (ungathered_prints old));
    printed = e.ended.prints ∙ sym (append-nil (record_now r old).clock.prints);
    starts = [];
    newborn = ap (λ (go : Goroutine). go.children.items) e.rest ∙ sym (append-nil old.children.items);
    started = e.ended.children;
  }

  first_by : (b : Bool) → (record_now r new).clock.first ≡ (if b then Some (mark_of e.mark) else (record_now r old).clock.first)
      → (record_now r new).clock.first ≡ option_map mark_of (if b then Some e.mark else old.first)
  first_by true first = first
  first_by false first = first ∙ goes.first

  end_goes : MayMakeInstructions r new u.left
  end_goes = record {
    stands = e.ended.stands;
    number = ap (λ (go : Goroutine). go.number) e.rest ∙ (goes.number ∙ sym e.ended.grew.same);
    few = let f = goes.few in let s = e.ended.steps in let p = ap length e.ended.prints in omega (arith, f, s, p);
    room = let room = goes.room in let s = e.ended.steps in omega (arith, room, s, left);
    all = subst (λ (go : Goroutine). AreChildren r go.children.items) (sym e.rest) goes.all;
    first = first_by e.ends e.ended.first ∙ ap (option_map mark_of) (sym (ap (λ (go : Goroutine). go.first) e.rest));
  }

  stops_by : (b : Bool) → e.ends ≡ b → why ≡ (if b then stop.Stopped e.mark else stop.Went)
      → (record_now r new).clock.first ≡ (if b then Some (mark_of e.mark) else (record_now r old).clock.first)
      → StopsBy r old new e.ended.es why
  stops_by true is same first = subst (StopsBy r old new e.ended.es) (sym same) first
  stops_by false is same first = subst (StopsBy r old new e.ended.es) (sym same) (first, inr (e.ended.late is))

  pub ends_by : GoroutineActs r old new t u (Some why)
  ends_by = record {
    acted = record {
      n = n;
      es = e.ended.es;
      moved = end_moved;
      left = left;
      noted = noted;
      still = λ f. absurd (moves u.moved moved f);
    };
    goes = end_goes;
    noted = within;
    concludes = stops_by e.ends refl e.is e.ended.first;
  }
