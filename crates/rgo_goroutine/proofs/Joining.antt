-- Acts of a turn, one after another. What the first act found is found among the accesses of both, so the reason of the last act is the
-- reason of the whole.
use Rattle.std.proofs.Common.{◌≡◌, ◌+◌, ◌≤◌, ℕ, List, [], ◌∷◌, ◌++◌, Option, Some, None, inl, inr, refl, ap, sym, subst, ◌∙◌, append_assoc, arith}
use Rattle.std.proofs.lemmas.List.{append-nil}
use Rattle.rgo_core.specs.Rule.Views.{number_of}
use Rattle.rgo_core.specs.Rule.declared.accesses.Access.{Access}
use Rattle.rgo_core.specs.Rule.declared.accesses.Kind.{Kind}
use Rattle.rgo_core.specs.Core.{Setup}
use Rattle.rgo_core.specs.runs.Opening.{first_of}
use Rattle.rgo_core.specs.Records.{Drawn, Record, accesses}
use Rattle.rgo_core_steps.specs.Grown.{Found, SeatGrew}
use Rattle.rgo_core_steps.proofs.accesses.Growing.{found_right, grew_then, still_then}
use Rattle.rgo_sound.specs.Machine.declared.limits.Shortage.{Shortage}
use Rattle.rgo_sound.specs.Machine.declared.limits.Shortage.TheVariants as shortage
use Rattle.rgo_acts.specs.Runs.{Run}
use Rattle.rgo_acts.specs.Shortages.{AllInUse}
use Rattle.rgo_acts.specs.Waits.{Loses, WaitsAtChannel}
use Rattle.rgo_acts.proofs.talking.Waiting.{loses_right, waits_right}
use Rattle.rgo_goroutine.specs.Acting.{GoroutineActed, GoroutineActs, ActConcludes, GoroutineMoved, GoroutineRests, SameFirst, StopsBy, record_now, room_in_turn}
use Rattle.rgo_goroutine.specs.Goroutines.{ungathered_prints, numbers}
use Rattle.rgo_goroutine.specs.Instructions.{MakesInstruction, IsNear}
use Rattle.rgo_goroutine.specs.Turns.{FoundEnd, LacksFor}
use Rattle.rgo_goroutine.specs.declared.goroutine.Child.{Child}
use Rattle.rgo_goroutine.specs.declared.goroutine.Goroutine.{Goroutine}
use Rattle.rgo_goroutine.specs.declared.turning.TableTurnEnd.{TableTurnEnd}
use Rattle.rgo_goroutine.specs.declared.turning.TableTurnEnd.TheVariants as stop
use Rattle.rgo_goroutine.specs.declared.turning.Turning.{Turning}

-- ---- what was found is found among more accesses, so a reason may be stated by those of a whole turn

module _ (T : Setup) (g : ℕ) (c : Record) (xs es : List Access) where
  more : (kind : Kind) (i n : ℕ) → Found g es kind i n → Found g (xs ++ es) kind i n
  more kind i n f = found_right g xs es kind i n f

  in_use_more : (kind : Kind) (at : ℕ → ℕ) (n : ℕ) → AllInUse g es kind at n → AllInUse g (xs ++ es) kind at n
  in_use_more kind at n all = λ k less. let f = all k less in (f.0, f.1, more _ _ _ f.2)

  lacks_for_more : (why : Shortage) → LacksFor why T g c es → LacksFor why T g c (xs ++ es)
  lacks_for_more shortage.Pages l = record { slot = l.slot; calm = l.calm; needs = l.needs; in_use = in_use_more _ _ _ l.in_use }
  lacks_for_more shortage.Regions l = record { creates = l.creates; in_use = in_use_more _ _ _ l.in_use }
  lacks_for_more shortage.ObjectSize l = l

  end_more : FoundEnd g es → FoundEnd g (xs ++ es)
  end_more (n, late, f) = (n, late, more _ _ _ f)

pub numbers_append : (xs ys : List Child) → numbers (xs ++ ys) ≡ numbers ys ++ numbers xs
numbers_append [] ys = sym (append-nil (numbers ys))
numbers_append (x ∷ xs) ys = ap (λ (l : List ℕ). l ++ x.number ∷ []) (numbers_append xs ys)
    ∙ append_assoc (numbers ys) (numbers xs) (x.number ∷ [])

-- ---- two acts

module _ (r : Run) (a b c : Goroutine) where
  pub moved_then : (m n : ℕ) (xs es : List Access) → GoroutineMoved r a b m xs → GoroutineMoved r b c n es → GoroutineMoved r a c (m + n) (xs ++ es)
  moved_then m n xs es x y = record {
    grew = grew_then accesses (first_of r.setup.code) a.actor.seat.me b.actor.seat.me c.actor.seat.me xs es x.grew y.grew;
    steps = let p = x.steps in let q = y.steps in omega (arith, p, q);
    draws = x.draws ++ y.draws;
    fresh = y.fresh ∙ (ap (λ (l : List Drawn). l ++ y.draws) x.fresh ∙ append_assoc (ungathered_prints a) x.draws y.draws);
    printed = y.printed
        ∙ (ap (λ (l : List Drawn). l ++ y.draws) x.printed ∙ append_assoc (record_now r a).clock.prints x.draws y.draws);
    starts = x.starts ++ y.starts;
    newborn = y.newborn ∙ (ap (λ (l : List Child). l ++ y.starts) x.newborn ∙ append_assoc a.children.items x.starts y.starts);
    started = y.started
        ∙ (ap (λ (l : List ℕ). numbers y.starts ++ l) x.started
        ∙ (sym (append_assoc (numbers y.starts) (numbers x.starts) (record_now r a).clock.children)
        ∙ ap (λ (l : List ℕ). l ++ (record_now r a).clock.children) (sym (numbers_append x.starts y.starts))));
  }

  pub rests_then : (xs es : List Access) → SeatGrew accesses (first_of r.setup.code) a.actor.seat.me xs b.actor.seat.me → GoroutineRests r a b xs
      → GoroutineRests r b c es → GoroutineRests r a c (xs ++ es)
  rests_then xs es grew x y = record {
    words = still_then accesses (first_of r.setup.code) a.actor.seat.me b.actor.seat.me c.actor.seat.me xs es grew x.words y.words;
    frame = y.frame ∙ x.frame;
  }

  abbrev pub acted_join : (t v u : Turning) (x : GoroutineActed r a b t v) (y : GoroutineActed r b c v u) → GoroutineActed r a c t u
  acted_join t v u x y = record {
    n = x.n + y.n;
    es = x.es ++ y.es;
    moved = moved_then x.n y.n x.es y.es x.moved y.moved;
    left = let p = x.left in let q = y.left in omega (arith, p, q);
    noted = let p = x.noted in let q = y.noted in omega (arith, p, q);
    still = λ e.
        let s = y.still e in
        let f = x.still s.0 in
        (f.0, (let p = f.1 in let q = s.1 in omega (arith, p, q)), rests_then x.es y.es x.moved.grew f.2 s.2);
  }

  pub stops_more : (xs es : List Access) → SeatGrew accesses (first_of r.setup.code) a.actor.seat.me xs b.actor.seat.me → SameFirst r a b
      → (why : TableTurnEnd) → StopsBy r b c es why → StopsBy r a c (xs ++ es) why
  stops_more xs es grew same why by = its why by
    where
      its : (why : TableTurnEnd) → StopsBy r b c es why → StopsBy r a c (xs ++ es) why
      its stop.Went (first, inl much) = (first ∙ same, inl much)
      its stop.Went (first, inr end) = (
        first ∙ same,
        inr (end_more r.setup (number_of a.actor.seat.me) (record_now r c) xs es (subst (λ g. FoundEnd g es) grew.same end)),
      )
      its (stop.Blocked at operation) (first, waits) = (
        first ∙ same,
        waits_right r.setup (number_of a.actor.seat.me) (record_now r c) xs es at
            (subst (λ g. WaitsAtChannel r.setup g (record_now r c) es at) grew.same waits),
      )
      its (stop.Lost at) (first, loses) = (
        first ∙ same,
        loses_right r.setup (number_of a.actor.seat.me) (record_now r c) xs es at
            (subst (λ g. Loses r.setup g (record_now r c) es at) grew.same loses),
      )
      its stop.Ended (first, over) = (first ∙ same, over)
      its (stop.Stopped mark) first = first
      its (stop.Short why) (first, lacks) = (
        first ∙ same,
        lacks_for_more r.setup (number_of a.actor.seat.me) (record_now r c) xs es why
            (subst (λ g. LacksFor why r.setup g (record_now r c) es) grew.same lacks),
      )
      its stop.NoMemory first = first ∙ same

  pub acts_then : (t v u : Turning) (answer : Option TableTurnEnd) → GoroutineActs r a b t v None → GoroutineActs r b c v u answer → GoroutineActs r a c t u answer
  acts_then t v u answer x y = record {
    acted = acted_join t v u x.acted y.acted;
    goes = y.goes;
    noted = y.noted;
    concludes = its answer y.concludes;
  }
    where
      its : (answer : Option TableTurnEnd) → ActConcludes r b c y.acted.es answer → ActConcludes r a c (x.acted.es ++ y.acted.es) answer
      its None first = first ∙ x.concludes
      its (Some why) by = stops_more x.acted.es y.acted.es x.acted.moved.grew x.concludes why by

  pub instructs_then : (t v u : Turning) (answer : Option TableTurnEnd) → GoroutineActs r a b t v None → room_in_turn v ≤ room_in_turn t → MakesInstruction r b c v u answer
      → MakesInstruction r a c t u answer
  instructs_then t v u answer x less y = record {
    acts = acts_then t v u answer x y.acts;
    progress = λ e. let p = y.progress e in omega (arith, p, less);
  }

-- it has come near
pub near_acts : (r : Run) (a b : Goroutine) (t : Turning) → IsNear r a b t.left → t.changed.count ≤ 6 → GoroutineActs r a b t t None
near_acts r a b t near within = record {
  acted = record {
    n = 0;
    es = near.es;
    moved = near.moved;
    left = omega arith;
    noted = omega arith;
    still = λ e. (e, refl, near.rests);
  };
  goes = near.goes;
  noted = within;
  concludes = near.first;
}
