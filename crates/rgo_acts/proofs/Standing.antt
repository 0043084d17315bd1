-- What an act leaves: the goroutine is of the run as before, given what its accesses left and that its body shows the record after them.
use Rattle.std.proofs.Common.{◌≡◌, ℕ, suc, ◌+◌, List, [], ◌++◌, ap, sym, subst, ◌∙◌, append_assoc, arith}
use Rattle.std.proofs.lemmas.List.{append-nil}
use Rattle.rgo_core.specs.Rule.Views.{number_of}
use Rattle.rgo_core.specs.Rule.declared.accesses.Access.{Access}
use Rattle.rgo_core.specs.Rule.declared.accesses.Kind.{Kind}
use Rattle.rgo_core.specs.Core.{IsPossible, Setup}
use Rattle.rgo_core.specs.runs.Opening.{first_of}
use Rattle.rgo_core.specs.Records.{ClockRec, Drawn, Record, accesses, steps_of}
use Rattle.rgo_core_steps.specs.Grown.{SeatGrew}
use Rattle.rgo_core_steps.specs.Seats.{HasOne, HasPossible, HasAccessed, Settles, mine, settled, settled_by}
use Rattle.rgo_core_steps.specs.Settled.{IsLocal}
use Rattle.rgo_core_steps.proofs.accesses.Growing.{grew_none, grew_then, still_none, told_accesses, told_grew, told_record}
use Rattle.rgo_core_steps.proofs.record_steps.SettledLaws.{settled_kept, settled_laws}
use Rattle.rgo_body.specs.Shows.{BodyIsPossible as IsPossibleBody, BodyShows}
use Rattle.rgo_body.specs.Steps.{TakesLocal}
use Rattle.rgo_acts.specs.Actors.{ActorActed, IsUnmoved, IsActorOf, now}
use Rattle.rgo_acts.specs.Runs.{Run}
use Rattle.rgo_acts.specs.declared.actors.Actor.{Actor}

-- ---- the record now

-- an actor that has made no local step since its last access
pub now_at_once : (T : Setup) (b : Actor) → b.behind ≡ 0 → now T b ≡ mine T b.seat.me
now_at_once T b none = ap (λ q. settled T q b.seat.me) none

-- local steps are no accesses
pub now_accesses : (T : Setup) (a : Actor) → accesses (now T a) ≡ accesses (mine T a.seat.me)
now_accesses T a = ap (λ (k : ClockRec). k.accesses) (settled_kept T (number_of a.seat.me) a.behind (mine T a.seat.me)).clock

-- what calls of the body ask
pub its_body : (r : Run) (a : Actor) → IsActorOf r a → IsPossibleBody r.program a.body
its_body r a s = record { T = r.setup; goroutine = number_of a.seat.me; c = now r.setup a; here = s.possible; shows = s.shows }

-- how a record follows another by one access
pub record Follows (c d : Record) (n : ℕ) (draws : List Drawn) (starts : List ℕ) : Type 0 where
  pub accesses : accesses d ≡ suc (accesses c)
  pub steps : steps_of d ≡ steps_of c + n
  pub prints : d.clock.prints ≡ c.clock.prints ++ draws
  pub children : d.clock.children ≡ starts ++ c.clock.children
  pub first : d.clock.first ≡ c.clock.first

-- the same by any number of accesses
pub record Continues (c d : Record) (n : ℕ) (draws : List Drawn) (starts : List ℕ) : Type 0 where
  pub steps : steps_of d ≡ steps_of c + n
  pub prints : d.clock.prints ≡ c.clock.prints ++ draws
  pub children : d.clock.children ≡ starts ++ c.clock.children
  pub first : d.clock.first ≡ c.clock.first

-- ---- acts

module _ (r : Run) (a b : Actor) (before : IsActorOf r a) (n : ℕ) (draws : List Drawn) (starts : List ℕ) where
  -- some accesses
  pub acted_by : (es : List Access) → b.seat.table_id ≡ a.seat.table_id → b.behind ≡ 0
      → SeatGrew accesses (first_of r.setup.code) a.seat.me es b.seat.me → HasPossible r.setup b.seat.me
      → Continues (now r.setup a) (mine r.setup b.seat.me) n draws starts
      → BodyShows r.setup r.program b.body (mine r.setup b.seat.me) → ActorActed r a b n draws starts
  acted_by es own none grew possible follows shows =
      let e = now_at_once r.setup b none in
      record {
        es = es;
        went = record {
          grew = grew;
          steps = ap steps_of e ∙ follows.steps;
          prints = ap (λ (c : Record). c.clock.prints) e ∙ follows.prints;
          children = ap (λ (c : Record). c.clock.children) e ∙ follows.children;
          first = ap (λ (c : Record). c.clock.first) e ∙ follows.first;
        };
        stands = record {
          own = own ∙ before.own;
          alone = grew.alone;
          settles = subst (λ q. Settles r.setup q b.seat.me) (sym none) tt;
          possible = subst (IsPossible r.setup (number_of b.seat.me)) (sym e) possible;
          shows = subst (BodyShows r.setup r.program b.body) (sym e) shows;
        };
      }

  -- one access, after which the record is d
  pub acted_one : (kind : Kind) (i found : ℕ) (f : ℕ → ℕ) (tells : ℕ → Record → Type 0) (d : Record)
      → b.seat.table_id ≡ a.seat.table_id → b.behind ≡ 0 → HasAccessed r.setup kind i f tells a.seat.me found b.seat.me
      → HasPossible r.setup b.seat.me → (tells found (mine r.setup b.seat.me) → mine r.setup b.seat.me ≡ d)
      → Follows (now r.setup a) d n draws starts → BodyShows r.setup r.program b.body d → ActorActed r a b n draws starts
  acted_one kind i found f tells d own none left possible is follows shows =
      let e = is (told_record accesses (first_of r.setup.code) a.seat.me b.seat.me kind i found f tells left) in
      acted_by (told_accesses accesses (first_of r.setup.code) a.seat.me b.seat.me kind i found f tells left) own none
      (told_grew accesses (first_of r.setup.code) a.seat.me b.seat.me kind i found f tells left
      (ap accesses e ∙ (follows.accesses ∙ ap suc (now_accesses r.setup a))))
      possible
      (record {
        steps = ap steps_of e ∙ follows.steps;
        prints = ap (λ (c : Record). c.clock.prints) e ∙ follows.prints;
        children = ap (λ (c : Record). c.clock.children) e ∙ follows.children;
        first = ap (λ (c : Record). c.clock.first) e ∙ follows.first;
      })
      (subst (BodyShows r.setup r.program b.body) (sym e) shows)

-- ---- acts without an access

-- nothing has happened to the record
pub acted_none : (r : Run) (a b : Actor) → IsActorOf r a → b.seat ≡ a.seat → b.behind ≡ a.behind
    → BodyShows r.setup r.program b.body (now r.setup a) → ActorActed r a b 0 [] []
acted_none r a b s seat behind shows =
    let e : now r.setup b ≡ now r.setup a =
    ap (λ x. settled r.setup b.behind x.me) seat ∙ ap (λ q. settled r.setup q a.seat.me) behind in
    record {
      es = [];
      went = record {
        grew = subst (λ x. SeatGrew accesses (first_of r.setup.code) a.seat.me [] x.me) (sym seat)
            (grew_none accesses (first_of r.setup.code) a.seat.me s.alone);
        steps = let k = ap steps_of e in omega (arith, k);
        prints = ap (λ (c : Record). c.clock.prints) e ∙ sym (append-nil (now r.setup a).clock.prints);
        children = ap (λ (c : Record). c.clock.children) e;
        first = ap (λ (c : Record). c.clock.first) e;
      };
      stands = record {
        own = ap (λ x. x.table_id) seat ∙ s.own;
        alone = subst (λ x. HasOne r.setup x.me) (sym seat) s.alone;
        settles = subst (λ x. Settles r.setup b.behind x.me) (sym seat)
            (subst (λ q. Settles r.setup q a.seat.me) (sym behind) s.settles);
        possible = subst (λ x. IsPossible r.setup (number_of x.me) (now r.setup b)) (sym seat)
            (subst (IsPossible r.setup (number_of a.seat.me)) (sym e) s.possible);
        shows = subst (BodyShows r.setup r.program b.body) (sym e) shows;
      };
    }

-- k local steps, n of them instructions
pub acted_local : (r : Run) (a b : Actor) (k n : ℕ) → IsActorOf r a → b.seat ≡ a.seat → b.behind ≡ a.behind + k
    → TakesLocal r.program k a.body b.body → b.body.counts.steps ≡ a.body.counts.steps + n → ActorActed r a b n [] []
acted_local r a b k n s seat behind takes steps =
    let T : Setup = r.setup in
    let g : ℕ = number_of a.seat.me in
    let took = takes T g (now T a) s.possible s.shows in
    let more : now T b ≡ settled_by T g k (now T a) =
    ap (λ x. settled T b.behind x.me) seat
    ∙ (ap (λ q. settled T q a.seat.me) behind ∙ settled_laws.more T g a.behind k (mine T a.seat.me)) in
    let local : IsLocal (now T a) (settled_by T g k (now T a)) = settled_kept T g k (now T a) in
    record {
      es = [];
      went = record {
        grew = subst (λ x. SeatGrew accesses (first_of T.code) a.seat.me [] x.me) (sym seat)
            (grew_none accesses (first_of T.code) a.seat.me s.alone);
        steps = ap steps_of more ∙ (ap (λ q. q.steps) took.1.share ∙ (steps ∙ ap (λ m. m + n) (sym (ap (λ q. q.steps) s.shows.share))));
        prints = ap (λ (c : Record). c.clock.prints) more
            ∙ (ap (λ (q : ClockRec). q.prints) local.clock ∙ sym (append-nil (now T a).clock.prints));
        children = ap (λ (c : Record). c.clock.children) more ∙ ap (λ (q : ClockRec). q.children) local.clock;
        first = ap (λ (c : Record). c.clock.first) more ∙ ap (λ (q : ClockRec). q.first) local.clock;
      };
      stands = record {
        own = ap (λ x. x.table_id) seat ∙ s.own;
        alone = subst (λ x. HasOne T x.me) (sym seat) s.alone;
        settles = subst (λ x. Settles T b.behind x.me) (sym seat)
            (subst (λ q. Settles T q a.seat.me) (sym behind) (settled_laws.settles T g a.behind k (mine T a.seat.me) s.settles took.0));
        possible = subst (λ x. IsPossible T (number_of x.me) (now T b)) (sym seat)
            (subst (IsPossible T g) (sym more) (settled_laws.possible T g k (now T a) s.possible took.0));
        shows = subst (BodyShows T r.program b.body) (sym more) took.1;
      };
    }

-- one act, and then another
pub acted_then : (r : Run) (a b c : Actor) (m n : ℕ) (ds es : List Drawn) (ss ts : List ℕ)
    → ActorActed r a b m ds ss → ActorActed r b c n es ts → ActorActed r a c (m + n) (ds ++ es) (ts ++ ss)
acted_then r a b c m n ds es ss ts x y = record {
  es = x.es ++ y.es;
  went = record {
    grew = grew_then accesses (first_of r.setup.code) a.seat.me b.seat.me c.seat.me x.es y.es x.went.grew y.went.grew;
    steps = let p = x.went.steps in let q = y.went.steps in omega (arith, p, q);
    prints = y.went.prints
        ∙ (ap (λ (l : List Drawn). l ++ es) x.went.prints ∙ append_assoc (now r.setup a).clock.prints ds es);
    children = y.went.children
        ∙ (ap (λ (l : List ℕ). ts ++ l) x.went.children ∙ sym (append_assoc ts ss (now r.setup a).clock.children));
    first = y.went.first ∙ x.went.first;
  };
  stands = y.stands;
}

-- nothing has moved by an act without an access or a local step
pub unmoved_at : (r : Run) (a b : Actor) (acted : ActorActed r a b 0 [] []) → b.seat ≡ a.seat → b.behind ≡ a.behind
    → IsUnmoved r.setup a b acted.es
unmoved_at r a b acted seat behind = record {
  words = still_none (number_of a.seat.me) acted.es
      (let more = acted.went.grew.more in let same = ap (λ x. accesses (mine r.setup x.me)) seat in omega (arith, more, same));
  frame = ap (λ (c : Record). c.frame)
      (ap (λ x. settled r.setup b.behind x.me) seat ∙ ap (λ q. settled r.setup q a.seat.me) behind);
}
