-- A load of the clock, by which the record of a goroutine takes its local steps; and goroutines that need none.
use Rattle.std.proofs.Common.{◌≡◌, ◌<◌, ℕ, suc, [], refl, ap, sym, subst, ◌∙◌, arith}
use Rattle.std.proofs.lemmas.List.{append-nil}
use Rattle.rgo_core.specs.Memory.Words.{clock_at}
use Rattle.rgo_core.specs.Rule.declared.accesses.Kind.TheVariants as kind
use Rattle.rgo_core.specs.Core.{Setup}
use Rattle.rgo_core.specs.runs.Opening.{first_of}
use Rattle.rgo_core.specs.Records.{Record, accesses, looked}
use Rattle.rgo_core_steps.specs.Seats.{HasPossible, HasAccessed, mine, settled}
use Rattle.rgo_core_steps.proofs.accesses.Growing.{told_accesses, told_grew, told_record, told_still}
use Rattle.rgo_acts.specs.Body.Shows.{BodyShows}
use Rattle.rgo_acts.specs.Body.declared.bodies.Body.{Body}
use Rattle.rgo_acts.proofs.Body.Showing.{like_shown}
use Rattle.rgo_acts.specs.Actors as act
use Rattle.rgo_acts.specs.Actors.{IsActorOf, now}
use Rattle.rgo_acts.specs.Runs.{Run}
use Rattle.rgo_acts.specs.declared.actors.Actor.{Actor}
use Rattle.rgo_acts.proofs.Standing.{acted_none, acted_one, now_accesses, now_at_once, unmoved_at}
use Rattle.rgo_goroutine.specs.Acting.{MayMakeInstructions, HasCaughtUp}
use Rattle.rgo_goroutine.specs.Goroutines.{ungathered_prints}
use Rattle.rgo_goroutine.specs.Instructions.{IsNear}
use Rattle.rgo_goroutine.specs.declared.goroutine.Goroutine.{Goroutine}
use Rattle.rgo_goroutine.proofs.Lifting.{goes_as, moved_as}

module _ (r : Run) (old : Goroutine) (b : Actor) (own : b.seat.table_id ≡ old.actor.seat.table_id) (at_once : b.behind ≡ 0)
    (body : b.body ≡ old.actor.body) (possible : HasPossible r.setup b.seat.me)
    (look : (n : ℕ) × HasAccessed r.setup kind.Load clock_at (λ n. n)
    (λ n d. d ≡ looked (settled r.setup old.actor.behind old.actor.seat.me)) old.actor.seat.me n b.seat.me) where
  abbrev a : Actor
  a = old.actor

  abbrev c : Record
  c = now r.setup a

  abbrev its : Goroutine
  its = record old { actor = b }

  is_looked : mine r.setup b.seat.me ≡ looked c
  is_looked = told_record accesses (first_of r.setup.code) a.seat.me b.seat.me kind.Load clock_at look.0 (λ n. n) (λ n d. d ≡ looked c) look.1

  now_looked : now r.setup b ≡ looked c
  now_looked = now_at_once r.setup b at_once ∙ is_looked

  looked_acted : IsActorOf r a → act.ActorActed r a b 0 [] []
  looked_acted stands =
      acted_one r a b stands 0 [] [] kind.Load clock_at look.0 (λ n. n) (λ n d. d ≡ looked c) (looked c) own at_once look.1 possible
      (λ t. t)
      (record {
        accesses = refl;
        steps = omega arith;
        prints = sym (append-nil c.clock.prints);
        children = refl;
        first = refl;
      })
      (subst (λ (x : Body). BodyShows r.setup r.program x (looked c)) (sym body)
      (like_shown r.setup r.program a.body c (looked c) stands.shows (record {
        frame = refl;
        side = refl;
        fills = refl;
        reserved = refl;
        make = refl;
        claim = refl;
        give = refl;
        share = refl;
        owed = refl;
        prints = refl;
        refused = refl;
      })))

  pub caught_up : (left : ℕ) → MayMakeInstructions r old left → HasCaughtUp r old its left
  caught_up left goes =
      let acted = looked_acted goes.stands in
      record {
        es = told_accesses accesses (first_of r.setup.code) a.seat.me b.seat.me kind.Load clock_at look.0 (λ n. n) (λ n d. d ≡ looked c) look.1;
        moved = record {
          grew = told_grew accesses (first_of r.setup.code) a.seat.me b.seat.me kind.Load clock_at look.0 (λ n. n) (λ n d. d ≡ looked c)
              look.1 (ap accesses is_looked ∙ ap suc (now_accesses r.setup a));
          steps = acted.went.steps;
          draws = [];
          fresh = sym (append-nil (ungathered_prints old));
          printed = acted.went.prints;
          starts = [];
          newborn = sym (append-nil old.children.items);
          started = acted.went.children;
        };
        rests = record {
          words = told_still accesses (first_of r.setup.code) a.seat.me b.seat.me kind.Load clock_at look.0 (λ n. n)
              (λ n d. d ≡ looked c) look.1 refl;
          frame = ap (λ (x : Record). x.frame) now_looked;
        };
        goes = goes_as r old its 0 [] [] acted left left goes (omega arith) (omega arith) refl goes.all refl;
        settled = at_once;
        rest = refl;
        body = body;
        is = now_looked;
        first = acted.went.first;
        some = let e = ap accesses now_looked in omega (arith, e);
      }

-- for the setup of the table that is loaded, which is equal to the run's but not the same expression
pub caught_up_at : (r : Run) (T : Setup) (is : T ≡ r.setup) (old : Goroutine) (b : Actor) → b.seat.table_id ≡ old.actor.seat.table_id
    → b.behind ≡ 0 → b.body ≡ old.actor.body → HasPossible T b.seat.me
    → ((n : ℕ) × HasAccessed T kind.Load clock_at (λ n. n) (λ n d. d ≡ looked (settled T old.actor.behind old.actor.seat.me)) old.actor.seat.me n
    b.seat.me) → (left : ℕ) → MayMakeInstructions r old left → HasCaughtUp r old (record old { actor = b }) left
caught_up_at r T is old b own at_once body possible look left goes =
    caught_up r old b own at_once body (subst (λ (S : Setup). HasPossible S b.seat.me) is possible)
    (subst (λ (S : Setup). (n : ℕ) × HasAccessed S kind.Load clock_at (λ n. n)
    (λ n d. d ≡ looked (settled S old.actor.behind old.actor.seat.me)) old.actor.seat.me n b.seat.me) is look) left goes

pub near_by : (r : Run) (old new : Goroutine) (left : ℕ) → HasCaughtUp r old new left → IsNear r old new left
near_by r old new left up = record {
  es = up.es;
  moved = up.moved;
  rests = up.rests;
  goes = up.goes;
  near = let e = up.settled in omega (arith, e);
  rest = up.rest;
  body = up.body;
  first = up.first;
}

pub near_same : (r : Run) (old : Goroutine) (left : ℕ) → MayMakeInstructions r old left → old.actor.behind < 4611686018427387904 → IsNear r old old left
near_same r old left goes near =
    let acted = acted_none r old.actor old.actor goes.stands refl refl goes.stands.shows in
    let still = unmoved_at r old.actor old.actor acted refl refl in
    record {
      es = acted.es;
      moved = moved_as r old old 0 [] [] acted (sym (append-nil (ungathered_prints old))) (sym (append-nil old.children.items));
      rests = record { words = still.words; frame = still.frame };
      goes = goes;
      near = near;
      rest = refl;
      body = refl;
      first = refl;
    }
