-- What is left by an access that is the next instruction, a load or a store: `acted_does` for each kind. s is the run as its fields have
-- it: the contracts of lower crates speak of the fields, so the equation `is` is used here once and not by each caller.
use Rattle.std.proofs.Common.{◌≡◌, ℕ, [], sym, subst}
use Rattle.rgo_core.specs.Memory.Words.{clock_at}
use Rattle.rgo_core.specs.Rule.declared.accesses.Kind.TheVariants as kind
use Rattle.rgo_core.specs.ties.Bounds.{Points}
use Rattle.rgo_core_steps.specs.Accesses.{given_type}
use Rattle.rgo_core_steps.specs.After.{acting}
use Rattle.rgo_core_steps.specs.Seats.{HasPossible, HasAccessed, Stored}
use Rattle.rgo_body.specs.Steps.{Becomes}
use Rattle.rgo_body.specs.declared.nexts.Next.{Next}
use Rattle.rgo_acts.specs.Actors.{ActorActed, now}
use Rattle.rgo_acts.specs.Ready.{ActorIsBefore}
use Rattle.rgo_acts.specs.Runs.{Run}
use Rattle.rgo_acts.specs.declared.actors.Actor.{Actor}
use Rattle.rgo_acts.proofs.before.Instructions.{acted_does}

module _ (s r : Run) (is : s ≡ r) (a b : Actor) (next : Next) (before : ActorIsBefore r a next) (own : b.seat.table_id ≡ a.seat.table_id)
    (at_once : b.behind ≡ 0) (possible : HasPossible s.setup b.seat.me) where
  before_it : ActorIsBefore s a next
  before_it = subst (λ (x : Run). ActorIsBefore x a next) (sym is) before

  it_acted : ActorActed s a b 1 [] [] → ActorActed r a b 1 [] []
  it_acted acted = subst (λ (x : Run). ActorActed x a b 1 [] []) is acted

  pub loaded : (i n : ℕ)
      → HasAccessed s.setup kind.Load i (λ n. n)
      (λ n d. (d ≡ acting s.setup.code (now s.setup a) n) × Points s.setup (given_type s.setup (now s.setup a)) n) a.seat.me n b.seat.me
      → Becomes s.program a.body b.body (λ T c. acting T.code c n) → ActorActed r a b 1 [] []
  loaded i n left becomes =
      it_acted (acted_does s a next before_it b kind.Load i n (λ n. n)
      (λ n d. (d ≡ acting s.setup.code (now s.setup a) n) × Points s.setup (given_type s.setup (now s.setup a)) n) n own at_once left
      possible (λ t. t.0) becomes)

  pub stored : (i x : ℕ) → Stored s.setup kind.Store i x (acting s.setup.code (now s.setup a) 0) a.seat.me b.seat.me
      → Becomes s.program a.body b.body (λ T c. acting T.code c 0) → ActorActed r a b 1 [] []
  stored i x left becomes =
      it_acted (acted_does s a next before_it b kind.Store i left.0 (λ found. x) (λ found e. e ≡ acting s.setup.code (now s.setup a) 0) 0
      own at_once left.1 possible (λ t. t) becomes)

  -- the length of nil, for which the clock is loaded
  pub looked : ((n : ℕ) × HasAccessed s.setup kind.Load clock_at (λ n. n) (λ n d. d ≡ acting s.setup.code (now s.setup a) 0) a.seat.me n b.seat.me)
      → Becomes s.program a.body b.body (λ T c. acting T.code c 0) → ActorActed r a b 1 [] []
  looked left becomes =
      it_acted (acted_does s a next before_it b kind.Load clock_at left.0 (λ n. n) (λ n d. d ≡ acting s.setup.code (now s.setup a) 0) 0
      own at_once left.1 possible (λ t. t) becomes)
