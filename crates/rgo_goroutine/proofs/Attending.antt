-- Duties attended to, one after another. The number of duties in the queue falls, so the loop ends.
use Rattle.std.proofs.Common.{◌≡◌, ◌<◌, ℕ, true, false, List, [], ◌∷◌, Option, Some, None, MatchOption, is_some, length, refl, ap, sym, subst, ◌∙◌, arith}
use Rattle.rgo_sound.specs.RegionMachine.States.{Duty}
use Rattle.rgo_acts.specs.Body.Queues.{duty_of}
use Rattle.rgo_acts.specs.Body.declared.bodies.Body.{Body}
use Rattle.rgo_acts.specs.Body.declared.bodies.Side.{Side}
use Rattle.rgo_acts.specs.Body.declared.bodies.Side.TheVariants.{AtRest, Offering}
use Rattle.rgo_acts.specs.Body.declared.queues.Duty.{Duty as DutyOf}
use Rattle.rgo_acts.specs.Runs.{Run}
use Rattle.rgo_goroutine.specs.Acting.{GoroutineActs, MayMakeInstructions}
use Rattle.rgo_goroutine.specs.Instructions.{HasAttendedAll, HasAttendedOne}
use Rattle.rgo_goroutine.specs.declared.goroutine.Goroutine.{Goroutine}
use Rattle.rgo_goroutine.specs.declared.turning.TableTurnEnd.{TableTurnEnd}
use Rattle.rgo_goroutine.specs.declared.turning.Turning.{Turning}
use Rattle.rgo_goroutine.proofs.Advancing.{told_same}
use Rattle.rgo_goroutine.proofs.Joining.{acts_then}
use Rattle.rgo_goroutine.proofs.TurnActs.{acts_none}

-- ---- the first duty

pub a_duty : (first : Option DutyOf) (ds : List Duty) → is_some first ≡ true
    → MatchOption first (ds ≡ []) (λ d. (others : List Duty) × (ds ≡ duty_of d ∷ others))
    → (d : Duty) × (others : List Duty) × (ds ≡ d ∷ others)
a_duty None ds is m = cc
a_duty (Some d) ds is m = (duty_of d, m.0, m.1)

pub no_duty : (first : Option DutyOf) (ds : List Duty) → is_some first ≡ false
    → MatchOption first (ds ≡ []) (λ d. (others : List Duty) × (ds ≡ duty_of d ∷ others)) → ds ≡ []
no_duty None ds is m = m
no_duty (Some d) ds is m = cc

pub fewer : (b d : Body) → HasAttendedOne b d → length d.queue.duties < length b.queue.duties
fewer b d one = let e = ap (λ (ds : List Duty). length ds) one.queue in omega (arith, e)

-- ---- some are done

pub record HasAttendedSome (r : Run) (old go : Goroutine) (t u : Turning) : Type 0 where
  pub acts : GoroutineActs r old go t u None
  pub same : u ≡ record t { moved = u.moved }
  pub rests : go.actor.body.side ≡ AtRest
  pub expanded : go.actor.body.is_expanded ≡ old.actor.body.is_expanded

pub none_yet : (r : Run) (old : Goroutine) (t : Turning) → MayMakeInstructions r old t.left → t.changed.count < 6 → old.actor.body.side ≡ AtRest
    → HasAttendedSome r old old t t
none_yet r old t goes noted rests = record {
  acts = acts_none r old t goes (omega (arith, noted));
  same = refl;
  rests = rests;
  expanded = refl;
}

-- one more
module _ (r : Run) (old go : Goroutine) (t u v : Turning) (has : HasAttendedSome r old go t u) where
  pub also : (new : Goroutine) (answer : Option TableTurnEnd) → GoroutineActs r go new u v answer → GoroutineActs r old new t v answer
  also new answer acts = acts_then r old go new t u v answer has.acts acts

  pub also_same : v ≡ record u { moved = v.moved } → v ≡ record t { moved = v.moved }
  also_same same = told_same t u v u.moved v.moved has.same same

  pub one_more : (new : Goroutine) (answer : Option TableTurnEnd) → answer ≡ None → GoroutineActs r go new u v answer → v ≡ record u { moved = v.moved }
      → HasAttendedOne go.actor.body new.actor.body → HasAttendedSome r old new t v
  one_more new answer is acts same one = record {
    acts = subst (λ (a : Option TableTurnEnd). GoroutineActs r old new t v a) is (also new answer acts);
    same = also_same same;
    rests = one.rests;
    expanded = one.expanded ∙ has.expanded;
  }

-- ---- all are done

pub at_rest_offers : (s : Side) → s ≡ AtRest → (at : ℕ) → s ≡ Offering at → ⊥
at_rest_offers s rests at offers = let e : AtRest ≡ Offering at = sym rests ∙ offers in cc e

pub all_done : (r : Run) (old go : Goroutine) (t u : Turning) → HasAttendedSome r old go t u → go.actor.body.queue.duties ≡ []
    → HasAttendedAll old.actor.body go.actor.body
all_done r old go t u has empty = record {
  empty = empty;
  expanded = has.expanded;
  none = at_rest_offers go.actor.body.side has.rests;
}
