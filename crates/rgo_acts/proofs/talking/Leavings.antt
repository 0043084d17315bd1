-- What an operation on a channel leaves, by its accesses and by the body after them. The general part; the single results are in
-- `Talking`.
use Rattle.std.proofs.Common.{◌≡◌, ℕ, zero, suc, List, [], ◌∷◌, Option, length, refl, ap, sym, subst, ◌∙◌, arith}
use mathlib.Core.Option.{some, some-injective, some-ne-none}
use lib.ListN.{get_elem?}
use Rattle.std.proofs.lemmas.List.{append-nil}
use Rattle.rgo_core.specs.Channels.Records.{ChannelRec as SideRec}
use Rattle.rgo_core.specs.Rule.Views.{Me, number_of}
use Rattle.rgo_core.specs.Rule.declared.accesses.Access.{Access}
use Rattle.rgo_core.specs.ties.AtChannels.{IsAtChannel, Operates}
use Rattle.rgo_core.specs.moves.Commits.{IsAtSend, offers}
use Rattle.rgo_core.specs.Core.{IsPossible, Setup}
use Rattle.rgo_core.specs.runs.Opening.{first_of}
use Rattle.rgo_core.specs.Records.{Record, accesses, steps_of}
use Rattle.rgo_core_steps.specs.After.{acknowledging, committing}
use Rattle.rgo_core_steps.specs.Calls.{Did, accessing, waited}
use Rattle.rgo_core_steps.specs.Grown.{Found, SeatGrew}
use Rattle.rgo_core_steps.specs.Seats.{HasOne, HasPossible, Settles, settled}
use Rattle.rgo_core_steps.proofs.record_steps.After.{acknowledging_is, committing_is}
use Rattle.rgo_core_steps.proofs.accesses.Growing.{grew_none, made_found, made_still}
use Rattle.rgo_chan.proofs.Carrying.{at_send_as, operates_as}
use Rattle.rgo_sound.specs.Typed.declared.actions.Action.{Action}
use Rattle.rgo_body.specs.Programs.{CompactProgram}
use Rattle.rgo_body.specs.Shows.{BodyShows}
use Rattle.rgo_body.specs.Steps.{Becomes}
use Rattle.rgo_body.specs.declared.bodies.Body.{Body}
use Rattle.rgo_body.proofs.Showing.{like_shown}
use Rattle.rgo_acts.specs.Actors.{ActorActed, IsUnmoved, IsActorOf, Went, now}
use Rattle.rgo_acts.specs.Runs.{Run}
use Rattle.rgo_acts.specs.Talks.{HasDoneOperation, HasOffered}
use Rattle.rgo_acts.specs.declared.actors.Actor.{Actor}
use Rattle.rgo_acts.proofs.before.AtChannels.{accessed_same, side_offers}
use Rattle.rgo_acts.proofs.Standing.{Continues, acted_by, now_at_once}

-- ---- what accesses count

pub shows_accessing : (T : Setup) (p : CompactProgram) (b : Body) (c : Record) (k : ℕ) → BodyShows T p b c → BodyShows T p b (accessing k c)
shows_accessing T p b c k shows =
    let m = accessed_same k c.clock in
    like_shown T p b c (accessing k c) shows (record {
      frame = refl;
      side = refl;
      fills = refl;
      reserved = refl;
      make = refl;
      claim = refl;
      give = refl;
      share = m.share;
      owed = m.owed;
      prints = ap length m.prints;
      refused = m.refused;
    })

pub waited_continues : (k : ℕ) (c : Record) (side : SideRec) → Continues c (waited k c side) 0 [] []
waited_continues k c side =
    let m = accessed_same k c.clock in
    record {
      steps = ap (λ q. q.steps) m.share ∙ omega arith;
      prints = m.prints ∙ sym (append-nil c.clock.prints);
      children = m.children;
      first = m.first;
    }

pub offers_continues : (k : ℕ) (c : Record) (at : ℕ) → Continues c (offers (accessing k c) at) 0 [] []
offers_continues k c at =
    let m = accessed_same k c.clock in
    record {
      steps = ap (λ q. q.steps) m.share ∙ omega arith;
      prints = m.prints ∙ sym (append-nil c.clock.prints);
      children = m.children;
      first = m.first;
    }

pub committing_continues : {T : Setup} {c : Record} {to : Option ℕ} {action : Action} {others : List ℕ} {at : ℕ}
    (here : Operates T c to action others at) (k word : ℕ) → Continues c (committing T.code (accessing k c) word) 1 [] []
committing_continues {T} {c} here k word =
    let m = accessed_same k c.clock in
    let is = committing_is (operates_as (accessing k c) refl here) word in
    record {
      steps = ap steps_of is ∙ (ap (λ q. suc q.steps) m.share ∙ omega arith);
      prints = ap (λ (d : Record). d.clock.prints) is ∙ (m.prints ∙ sym (append-nil c.clock.prints));
      children = ap (λ (d : Record). d.clock.children) is ∙ m.children;
      first = ap (λ (d : Record). d.clock.first) is ∙ m.first;
    }

pub acknowledging_continues : {T : Setup} {c : Record} (here : IsAtSend T c) (k : ℕ)
    → Continues c (acknowledging T.code (accessing k c)) 0 [] []
acknowledging_continues {T} {c} here k =
    let m = accessed_same k c.clock in
    let is = acknowledging_is (at_send_as (accessing k c) refl here) in
    record {
      steps = ap steps_of is ∙ (ap (λ q. q.steps) m.share ∙ omega arith);
      prints = ap (λ (d : Record). d.clock.prints) is ∙ (m.prints ∙ sym (append-nil c.clock.prints));
      children = ap (λ (d : Record). d.clock.children) is ∙ m.children;
      first = ap (λ (d : Record). d.clock.first) is ∙ m.first;
    }

-- ---- lists of accesses that change no word

abbrev pub AllStill : List Access → Type 0
AllStill l = (i : ℕ) (x : Access) → get_elem? l i ≡ some x → x.left ≡ x.found

pub still_nil : AllStill []
still_nil i x e = absurd (some-ne-none x (sym e))

pub still_cons : (a : Access) (l : List Access) → a.left ≡ a.found → AllStill l → AllStill (a ∷ l)
still_cons a l same rest zero x e = subst (λ (y : Access). y.left ≡ y.found) (some-injective a x e) same
still_cons a l same rest (suc i) x e = rest i x e

-- ---- what they leave

module _ (r : Run) (a b : Actor) (before : IsActorOf r a) (own : b.seat.table_id ≡ a.seat.table_id) (at_once : b.behind ≡ 0)
    (possible : HasPossible r.setup b.seat.me) {s t : ℕ} {list : ℕ → List Access} where
  -- these accesses, after which the record is d
  pub did_by : {d : Record} (n : ℕ) → Did r.setup a.seat.me s list d b.seat.me t → Continues (now r.setup a) d n [] []
      → BodyShows r.setup r.program b.body d → ActorActed r a b n [] []
  did_by {d} n p continues shows =
      acted_by r a b before n [] [] p.made.es own at_once p.made.grew possible
      (subst (λ (e : Record). Continues (now r.setup a) e n [] []) (sym p.made.after) continues)
      (subst (BodyShows r.setup r.program b.body) (sym p.made.after) shows)

  abbrev pub did : {d : Record} (n : ℕ) → Did r.setup a.seat.me s list d b.seat.me t → Continues (now r.setup a) d n [] []
      → BodyShows r.setup r.program b.body d → ActorActed r a b n [] []
  did {d} n p continues shows = record {
    es = p.made.es;
    went = record {
      grew = p.made.grew;
      steps = (did_by n p continues shows).went.steps;
      prints = (did_by n p continues shows).went.prints;
      children = (did_by n p continues shows).went.children;
      first = (did_by n p continues shows).went.first;
    };
    stands = (did_by n p continues shows).stands;
  }

  pub done : {to : Option ℕ} {action : Action} {others : List ℕ} {at : ℕ} (here : Operates r.setup (now r.setup a) to action others at)
      (there : IsAtChannel r.setup (now r.setup a) at) (k word v : ℕ) → v ≡ word
      → Did r.setup a.seat.me s list (committing r.setup.code (accessing k (now r.setup a)) word) b.seat.me t
      → Becomes r.program a.body b.body (λ T d. committing T.code d v) → HasDoneOperation r a b 1 at
  done here there k word v same p becomes = record {
    acted = did 1 p (committing_continues here k word)
        (subst (λ x. BodyShows r.setup r.program b.body (committing r.setup.code (accessing k (now r.setup a)) x)) same
        (becomes r.setup (accessing k (now r.setup a)) (shows_accessing r.setup r.program a.body (now r.setup a) k before.shows)));
    there = there;
  }

  pub offered : (k at : ℕ) → Did r.setup a.seat.me s list (offers (accessing k (now r.setup a)) at) b.seat.me t
      → Becomes r.program a.body b.body (λ T d. offers d at) → HasOffered r a b at
  offered k at p becomes =
      let shows = becomes r.setup (accessing k (now r.setup a)) (shows_accessing r.setup r.program a.body (now r.setup a) k before.shows) in
      record {
        acted = did 0 p (offers_continues k (now r.setup a) at) shows;
        offers = side_offers b.body.side at _ shows.side;
      }

  -- a try that has come to nothing
  module _ (k : ℕ) (side : SideRec) (p : Did r.setup a.seat.me s list (waited k (now r.setup a) side) b.seat.me t)
      (shows : BodyShows r.setup r.program b.body (waited k (now r.setup a) side)) where
    abbrev pub tried : ActorActed r a b 0 [] []
    tried = did 0 p (waited_continues k (now r.setup a) side) shows

    pub now_is : now r.setup b ≡ waited k (now r.setup a) side
    now_is = now_at_once r.setup b at_once ∙ p.made.after

    pub same_frame : (now r.setup b).frame ≡ (now r.setup a).frame
    same_frame = ap (λ (d : Record). d.frame) now_is

    pub now_side : (now r.setup b).side ≡ side
    now_side = ap (λ (d : Record). d.side) now_is

    pub unmoved : AllStill (list (number_of a.seat.me)) → IsUnmoved r.setup a b tried.es
    unmoved still = record {
      words = made_still accesses (first_of r.setup.code) a.seat.me b.seat.me list (waited k (now r.setup a) side) p.made still;
      frame = same_frame;
    }

    pub found : (j : ℕ) (x : Access) → get_elem? (list (number_of a.seat.me)) j ≡ some x
        → Found (number_of a.seat.me) tried.es x.kind x.word x.found
    found j x e = made_found accesses (first_of r.setup.code) a.seat.me b.seat.me list (waited k (now r.setup a) side) p.made j x e

-- ---- nothing was tried

module _ (r : Run) (a b : Actor) (before : IsActorOf r a) (own : b.seat.table_id ≡ a.seat.table_id) (me : b.seat.me ≡ a.seat.me)
    (behind : b.behind ≡ a.behind) (body : b.body ≡ a.body) where
  pub nothing_is : now r.setup b ≡ now r.setup a
  nothing_is = ap (λ (x : Me Record). settled r.setup b.behind x) me ∙ ap (λ q. settled r.setup q a.seat.me) behind

  pub nothing_went : Went r.setup a b 0 [] [] []
  nothing_went = record {
    grew = subst (SeatGrew accesses (first_of r.setup.code) a.seat.me []) (sym me)
        (grew_none accesses (first_of r.setup.code) a.seat.me before.alone);
    steps = let k = ap steps_of nothing_is in omega (arith, k);
    prints = ap (λ (d : Record). d.clock.prints) nothing_is ∙ sym (append-nil (now r.setup a).clock.prints);
    children = ap (λ (d : Record). d.clock.children) nothing_is;
    first = ap (λ (d : Record). d.clock.first) nothing_is;
  }

  pub nothing_stands : IsActorOf r b
  nothing_stands = record {
    own = own ∙ before.own;
    alone = subst (HasOne r.setup) (sym me) before.alone;
    settles = subst (Settles r.setup b.behind) (sym me) (subst (λ q. Settles r.setup q a.seat.me) (sym behind) before.settles);
    possible = subst (λ (x : Me Record). IsPossible r.setup (number_of x) (now r.setup b)) (sym me)
        (subst (IsPossible r.setup (number_of a.seat.me)) (sym nothing_is) before.possible);
    shows = subst (λ (x : Body). BodyShows r.setup r.program x (now r.setup b)) (sym body)
        (subst (BodyShows r.setup r.program a.body) (sym nothing_is) before.shows);
  }

  abbrev pub nothing : ActorActed r a b 0 [] []
  nothing = record { es = []; went = nothing_went; stands = nothing_stands }

  pub nothing_moved : IsUnmoved r.setup a b []
  nothing_moved = record {
    words = λ i x e its. absurd (some-ne-none x (sym e));
    frame = ap (λ (d : Record). d.frame) nothing_is;
  }
