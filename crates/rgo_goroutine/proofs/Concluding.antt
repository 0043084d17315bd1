-- What follows an act of the goroutine's actor: the turn has less to do, or is over. `Counts` is all that the forms of acts differ in.
use Rattle.std.proofs.Common.{◌≡◌, ◌+◌, ◌-◌, ◌<◌, ◌≤◌, ℕ, true, [], Option, Some, None, Ok, Err, Result, MatchResult, refl, ap, sym, subst, ◌∙◌, arith}
use Rattle.std.proofs.lemmas.List.{append-nil}
use Rattle.rgo_sound.specs.Memory.declared.traps.Trap.{Trap}
use Rattle.rgo_acts.specs.Actors as act
use Rattle.rgo_acts.specs.Actors.{IsUnmoved}
use Rattle.rgo_acts.specs.Runs.{Run}
use Rattle.rgo_acts.specs.Talks.{Talks}
use Rattle.rgo_acts.specs.Traps.{IsAtTrap}
use Rattle.rgo_acts.specs.declared.actors.Actor.{Actor}
use Rattle.rgo_acts.specs.declared.channels.Talked.{Talked}
use Rattle.rgo_acts.specs.declared.channels.Talked.TheVariants as talked
use Rattle.rgo_goroutine.specs.Acting.{EndsIn, MayMakeInstructions, StopsBy}
use Rattle.rgo_goroutine.specs.Goroutines.{ungathered_prints}
use Rattle.rgo_goroutine.specs.Instructions.{HasComeTo, HasTalked, MakesInstruction}
use Rattle.rgo_goroutine.specs.declared.goroutine.Goroutine.{Goroutine}
use Rattle.rgo_goroutine.specs.declared.turning.TableTurnEnd.{TableTurnEnd}
use Rattle.rgo_goroutine.specs.declared.turning.TableTurnEnd.TheVariants as stop
use Rattle.rgo_goroutine.specs.declared.turning.Turning.{Turning}
use Rattle.rgo_goroutine.specs.declared.waking.OperationKind.{OperationKind}
use Rattle.rgo_goroutine.proofs.Lifting.{ends_after, ends_by, goes_as, goes_on, moved_as, stops}

-- the turn has n instructions less, and `noted` channels more in its list
pub record Counts (t u : Turning) (n noted : ℕ) : Type 0 where
  pub left : t.left ≡ u.left + n
  pub changed : u.changed.count ≡ t.changed.count + noted
  pub moved : u.moved ≡ true

pub counted : (t u : Turning) (n : ℕ) → n ≤ t.left → u ≡ record t { left = t.left - n; moved = true } → Counts t u n 0
counted t u n some e = record {
  left = let l = ap (λ (x : Turning). x.left) e in omega (arith, l, some);
  changed = let c = ap (λ (x : Turning). x.changed.count) e in omega (arith, c);
  moved = ap (λ (x : Turning). x.moved) e;
}

pub counted_print : (t u : Turning) → 0 < t.left → u ≡ record t { left = t.left - 1; moved = true; printed = u.printed } → Counts t u 1 0
counted_print t u some e = record {
  left = let l = ap (λ (x : Turning). x.left) e in omega (arith, l, some);
  changed = let c = ap (λ (x : Turning). x.changed.count) e in omega (arith, c);
  moved = ap (λ (x : Turning). x.moved) e;
}

pub uncounted : (t : Turning) → t.moved ≡ true → Counts t t 0 0
uncounted t moved = record { left = omega arith; changed = omega arith; moved = moved }

-- the turn remembers that something may have moved
pub only_told : (t u : Turning) → u ≡ record t { moved = true } → Counts t u 0 0
only_told t u e = record {
  left = let l = ap (λ (x : Turning). x.left) e in omega (arith, l);
  changed = let c = ap (λ (x : Turning). x.changed.count) e in omega (arith, c);
  moved = ap (λ (x : Turning). x.moved) e;
}

pub told_as : (t u : Turning) → u ≡ record t { moved = true } → u ≡ record t { moved = u.moved }
told_as t u e = e ∙ ap (λ m. record t { moved = m }) (sym (ap (λ (x : Turning). x.moved) e))

pub no_answer : (why : TableTurnEnd) → Some why ≡ None → ⊥
no_answer why e = cc

-- ---- the actor has acted

module _ (r : Run) (old : Goroutine) (b : Actor) (t u : Turning) (goes : MayMakeInstructions r old t.left) (noted : t.changed.count < 6) where
  -- an instruction is made, or a channel is changed
  pub made : (n m : ℕ) → act.ActorActed r old.actor b n [] [] → Counts t u n m → 0 < n + m → m ≤ 1
      → MakesInstruction r old (record old { actor = b }) t u None
  made n m acted counts some few = record {
    acts = goes_on r old b t u goes n acted counts.left
        (let c = counts.changed in omega (arith, c))
        (let c = counts.changed in omega (arith, c, noted, few))
        counts.moved;
    progress = λ e. let l = counts.left in let c = counts.changed in omega (arith, l, c, noted, some, few);
  }

  -- it could not
  pub halted : (why : TableTurnEnd) (acted : act.ActorActed r old.actor b 0 [] []) → Counts t u 0 0
      → StopsBy r old (record old { actor = b }) acted.es why → MakesInstruction r old (record old { actor = b }) t u (Some why)
  halted why acted counts by = record {
    acts = stops r old b t u goes 0 acted counts.left
        (let c = counts.changed in omega (arith, c))
        (let c = counts.changed in omega (arith, c, noted))
        counts.moved why by;
    progress = λ e. absurd (no_answer why e);
  }

  pub refused : act.ActorActed r old.actor b 0 [] [] → Counts t u 0 0 → MakesInstruction r old (record old { actor = b }) t u (Some stop.NoMemory)
  refused acted counts = halted stop.NoMemory acted counts acted.went.first

  -- nothing has moved by then
  pub unmoved : (why : TableTurnEnd) (acted : act.ActorActed r old.actor b 0 [] []) → IsUnmoved r.setup old.actor b acted.es
      → StopsBy r old (record old { actor = b }) acted.es why → u ≡ t → MakesInstruction r old (record old { actor = b }) t u (Some why)
  unmoved why acted rests by same = subst (λ (v : Turning). MakesInstruction r old (record old { actor = b }) t v (Some why)) (sym same) (record {
    acts = record {
      acted = record {
        n = 0;
        es = acted.es;
        moved = moved_as r old (record old { actor = b }) 0 [] [] acted (sym (append-nil (ungathered_prints old))) (sym (append-nil old.children.items));
        left = omega arith;
        noted = omega arith;
        still = λ e. (e, refl, record { words = rests.words; frame = rests.frame });
      };
      goes = goes_as r old (record old { actor = b }) 0 [] [] acted t.left t.left goes (omega arith) (omega arith) refl goes.all refl;
      noted = omega (arith, noted);
      concludes = by;
    };
    progress = λ e. absurd (no_answer why e);
  })

-- the run is over
module _ (r : Run) (old new : Goroutine) (t u : Turning) (goes : MayMakeInstructions r old t.left) (noted : t.changed.count < 6) where
  pub ended : (n : ℕ) (why : TableTurnEnd) → EndsIn r old new n why → Counts t u n 0 → MakesInstruction r old new t u (Some why)
  ended n why e counts = record {
    acts = ends_by r old new t u goes n why e counts.left
        (let c = counts.changed in omega (arith, c))
        (let c = counts.changed in omega (arith, c, noted))
        counts.moved;
    progress = λ f. absurd (no_answer why f);
  }

  -- after an act of the actor
  pub ended_then : (b : Actor) (n : ℕ) (why : TableTurnEnd) → act.ActorActed r old.actor b 0 [] [] → EndsIn r (record old { actor = b }) new n why
      → Counts t u n 0 → MakesInstruction r old new t u (Some why)
  ended_then b n why acted e counts = ended n why (ends_after r old b new n why acted e) counts

-- ---- where it has come first

pub trap_of : (r : Run) (a b : Actor) (done : Result (Unit {0}) Trap) (trap : Trap) → done ≡ Err trap
    → MatchResult done (λ _. act.ActorActed r a b 1 [] []) (λ t. IsAtTrap r a b t) → IsAtTrap r a b trap
trap_of r a b done trap is did =
    subst (λ (d : Result (Unit {0}) Trap). MatchResult d (λ _. act.ActorActed r a b 1 [] []) (λ t. IsAtTrap r a b t)) is did

module _ (r : Run) (first go : Goroutine) (t u : Turning) (done : Result (Unit {0}) Trap) (come : HasComeTo r first go t done) where
  pub come_ok : (x : Unit {0}) → done ≡ Ok x → Counts t u 1 0 → MakesInstruction r first go t u None
  come_ok x is counts =
      subst (λ (g : Goroutine). MakesInstruction r first g t u None) (sym come.come.rest)
      (made r first go.actor t u come.come.goes come.come.noted 1 0
      (subst (λ (d : Result (Unit {0}) Trap). MatchResult d (λ _. act.ActorActed r first.actor go.actor 1 [] [])
      (λ trap. IsAtTrap r first.actor go.actor trap)) is come.did)
      counts (omega arith) (omega arith))

  pub come_err : (trap : Trap) (new : Goroutine) (why : TableTurnEnd) → done ≡ Err trap → EndsIn r go new 1 why → Counts t u 1 0
      → MakesInstruction r first new t u (Some why)
  come_err trap new why is e counts =
      ended_then r first new t u come.come.goes come.come.noted go.actor 1 why
      (trap_of r first.actor go.actor done trap is come.did).0
      (subst (λ (g : Goroutine). EndsIn r g new 1 why) come.come.rest e) counts

-- ---- operations on channels

module _ (r : Run) (first go : Goroutine) (t u : Turning) (n : ℕ) (answer : Talked) (has : HasTalked r first go t n answer) where
  talks_as : (other : Talked) → answer ≡ other → Talks r first.actor go.actor n other
  talks_as other is = subst (Talks r first.actor go.actor n) is has.talks

  pub talk_done : (at m : ℕ) → answer ≡ talked.Done at → Counts t u n m → 0 < n + m → m ≤ 1 → MakesInstruction r first go t u None
  talk_done at m is counts some few =
      subst (λ (g : Goroutine). MakesInstruction r first g t u None) (sym has.rest)
      (made r first go.actor t u has.goes has.noted n m (talks_as (talked.Done at) is).acted counts some few)

  pub talk_offered : (at : ℕ) → answer ≡ talked.Offered at → Counts t u 0 1 → MakesInstruction r first go t u None
  talk_offered at is counts =
      subst (λ (g : Goroutine). MakesInstruction r first g t u None) (sym has.rest)
      (made r first go.actor t u has.goes has.noted 0 1 (talks_as (talked.Offered at) is).acted counts (omega arith) (omega arith))

  pub talk_waits : (place : Option ℕ) (operation : OperationKind) → answer ≡ talked.Waits place → u ≡ t
      → MakesInstruction r first go t u (Some (stop.Blocked place operation))
  talk_waits place operation is same =
      let w = talks_as (talked.Waits place) is in
      subst (λ (g : Goroutine). MakesInstruction r first g t u (Some (stop.Blocked place operation))) (sym has.rest)
      (unmoved r first go.actor t u has.goes has.noted (stop.Blocked place operation) w.acted w.unmoved (w.acted.went.first, w.waits) same)

  pub talk_lost : (at : ℕ) → answer ≡ talked.Lost at → u ≡ t → MakesInstruction r first go t u (Some (stop.Lost at))
  talk_lost at is same =
      let w = talks_as (talked.Lost at) is in
      subst (λ (g : Goroutine). MakesInstruction r first g t u (Some (stop.Lost at))) (sym has.rest)
      (unmoved r first go.actor t u has.goes has.noted (stop.Lost at) w.acted w.unmoved (w.acted.went.first, w.loses) same)

  pub talk_trap : (trap : Trap) → answer ≡ talked.Trap trap → IsAtTrap r first.actor go.actor trap
  talk_trap trap is = talks_as (talked.Trap trap) is

  pub talk_ends : (trap : Trap) (new : Goroutine) (why : TableTurnEnd) → answer ≡ talked.Trap trap → EndsIn r go new 1 why → Counts t u 1 0
      → MakesInstruction r first new t u (Some why)
  talk_ends trap new why is e counts =
      ended_then r first new t u has.goes has.noted go.actor 1 why (talk_trap trap is).0
      (subst (λ (g : Goroutine). EndsIn r g new 1 why) has.rest e) counts
