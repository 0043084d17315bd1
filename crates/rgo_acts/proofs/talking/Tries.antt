-- What is said of an operation on a channel, by what rgo_chan says of its try: each result of the one is a result of the other. Tries that
-- came to nothing made accesses that changed no word, which is what `IsWaiting` needs.
use Rattle.std.proofs.Common.{◌+◌, ◌≡◌, ◌≢◌, ◌⊎◌, ◌%◌, ℕ, List, [], ◌∷◌, ◌++◌, Some, None, refl, ap, sym, subst, ◌∙◌, ⊎_elim, inr}
use Rattle.rgo_core.specs.Channels.Records as sides
use Rattle.rgo_core.specs.Channels.Records.{ChannelRec as SideRec, with_look, with_own_look, with_size}
use Rattle.rgo_core.specs.Rule.Views.{number_of}
use Rattle.rgo_core.specs.Rule.declared.accesses.Access.{Access}
use Rattle.rgo_core.specs.ties.AtChannels.{IsAtChannel}
use Rattle.rgo_core.specs.moves.Commits.{IsAtSend}
use Rattle.rgo_core.specs.Core.{Setup}
use Rattle.rgo_core.specs.Records.{Record}
use Rattle.rgo_core_steps.specs.After.{acknowledging}
use Rattle.rgo_core_steps.specs.Calls.{Did, accessing, waited}
use Rattle.rgo_core_steps.specs.Ends.{Closes as TrapsAtClose, ClosesNil, Offers as TrapsAtOffer, Sends as TrapsAtSend}
use Rattle.rgo_core_steps.specs.Seats.{HasPossible, mine}
use Rattle.rgo_sound.specs.Memory.declared.traps.Trap.TheVariants.{CloseNil, SendClosed}
use Rattle.rgo_chan.specs.Answers.{Acknowledges, Closes, Receives, Sends, loads_capacity, loads_control, looked, looks, misses, numbers}
use Rattle.rgo_chan.specs.Before.{ClosesAt, IsBeforeClose, IsBeforeReceive, IsBeforeSend, ReceivesAt, SendsAt}
use Rattle.rgo_chan.specs.declared.answers.Tried.{Tried}
use Rattle.rgo_chan.specs.declared.answers.Tried.TheVariants.{Busy, Done, NotReady, Offered, Trap as Trapped}
use Rattle.rgo_chan.proofs.Carrying.{at_send_as, closes_as, closes_there, receives_as, receives_there, sends_as, sends_there, there_as}
use Rattle.rgo_chan.proofs.Looking.{look_hold, look_post, look_saw, own_hold, own_post, own_saw}
use Rattle.rgo_body.specs.Programs.{CompactProgram}
use Rattle.rgo_body.specs.Shows.{BodyShows}
use Rattle.rgo_body.specs.Steps.{Becomes, TriesOperation}
use Rattle.rgo_body.specs.declared.bodies.Body.{Body}
use Rattle.rgo_body.specs.declared.bodies.Side.TheVariants.{Offering}
use Rattle.rgo_body.specs.declared.nexts.Next.{Next}
use Rattle.rgo_acts.specs.Actors.{IsActorOf, now}
use Rattle.rgo_acts.specs.Runs.{Run}
use Rattle.rgo_acts.specs.Talks.{CanTry, TryConcludes, HasLost, IsWaiting, OfAcknowledgement, OfClose, OfReceive, Says, Talks}
use Rattle.rgo_acts.specs.Traps.{IsAtTrap}
use Rattle.rgo_acts.specs.Waits as waits
use Rattle.rgo_acts.specs.declared.actors.Actor.{Actor}
use Rattle.rgo_acts.specs.declared.channels.Talked.{Talked}
use Rattle.rgo_acts.specs.declared.channels.Talked.TheVariants as talked
use Rattle.rgo_acts.proofs.before.AtChannels.{at_send, mine_is, posted, shows_offering, unposted}
use Rattle.rgo_acts.proofs.talking.Leavings.{AllStill, acknowledging_continues, did, done, found, nothing, nothing_is, nothing_moved, now_side, offered, shows_accessing, same_frame, still_cons, still_nil, tried, unmoved}

pub looks_still : (at size n g : ℕ) → AllStill (looks at size n g)
looks_still at size n g =
    still_cons (loads_capacity at size g) (loads_control at n g ∷ []) refl (still_cons (loads_control at n g) [] refl still_nil)

pub misses_still : (at size n k g : ℕ) → AllStill (looks at size n g ++ misses at k g ∷ [])
misses_still at size n k g =
    still_cons (loads_capacity at size g) (loads_control at n g ∷ misses at k g ∷ []) refl
    (still_cons (loads_control at n g) (misses at k g ∷ []) refl (still_cons (misses at k g) [] refl still_nil))

pub one_still : (at n g : ℕ) → AllStill (loads_control at n g ∷ [])
one_still at n g = still_cons (loads_control at n g) [] refl still_nil

pub two_still : (at n k g : ℕ) → AllStill (loads_control at n g ∷ misses at k g ∷ [])
two_still at n k g = still_cons (loads_control at n g) (misses at k g ∷ []) refl (still_cons (misses at k g) [] refl still_nil)

module _ (r : Run) (a b : Actor) (next : Next) (can : CanTry r a next) (own : b.seat.table_id ≡ a.seat.table_id) (at_once : b.behind ≡ 0)
    (possible : HasPossible r.setup b.seat.me) (s t at : ℕ) where
  abbrev T : Setup
  T = r.setup

  abbrev c : Record
  c = now r.setup a

  abbrev g : ℕ
  g = number_of a.seat.me

  -- the body shows the record after a try that has come to nothing
  shows_looked : TriesOperation r.program a.body b.body → (k size n : ℕ) → BodyShows T r.program b.body (waited k c (looked at c.side size n))
  shows_looked tries k size n =
      let u = unposted r a next can in
      tries T c k (looked at c.side size n) can.stands.shows
      (look_hold (with_size c.side at size) at n ∙ u.free) (look_post (with_size c.side at size) at n ∙ u.nowhere)

  shows_seen : TriesOperation r.program a.body b.body → (k n : ℕ) → BodyShows T r.program b.body (waited k c (with_look c.side at n))
  shows_seen tries k n =
      let u = unposted r a next can in
      tries T c k (with_look c.side at n) can.stands.shows (look_hold c.side at n ∙ u.free) (look_post c.side at n ∙ u.nowhere)

  -- it is still at the channel
  still_there : IsAtChannel T c at → (k : ℕ) (side : SideRec) (list : ℕ → List Access) (p : Did T a.seat.me s list (waited k c side) b.seat.me t)
      (shows : BodyShows T r.program b.body (waited k c side)) → side.post ≡ c.side.post → IsAtChannel T (now T b) at
  still_there there k side list p shows post =
      there_as (now T b) (same_frame r a b can.stands own at_once possible k side p shows)
      (ap (λ (x : SideRec). x.post) (now_side r a b can.stands own at_once possible k side p shows) ∙ post) there

  -- ---- another goroutine was at the channel

  module _ (there : IsAtChannel T c at) (tries : TriesOperation r.program a.body b.body) where
    lost_locked : (size k : ℕ) → k % 2 ≡ 1 → Did T a.seat.me s (looks at size k) (waited 2 c (looked at c.side size k)) b.seat.me t
        → HasLost r a b at
    lost_locked size k odd p =
        let shows = shows_looked tries 2 size k in
        record {
          acted = tried r a b can.stands own at_once possible 2 (looked at c.side size k) p shows;
          unmoved = unmoved r a b can.stands own at_once possible 2 (looked at c.side size k) p shows (looks_still at size k g);
          loses = waits.IsLocked k (still_there there 2 (looked at c.side size k) (looks at size k) p shows (look_post (with_size c.side at size) at k))
              (found r a b can.stands own at_once possible 2 (looked at c.side size k) p shows 1 (loads_control at k g) refl) odd;
        }

    lost_changed : (size n k : ℕ) → k ≢ n
        → Did T a.seat.me s (λ g. looks at size n g ++ misses at k g ∷ []) (waited 3 c (looked at c.side size n)) b.seat.me t
        → HasLost r a b at
    lost_changed size n k other p =
        let shows = shows_looked tries 3 size n in
        record {
          acted = tried r a b can.stands own at_once possible 3 (looked at c.side size n) p shows;
          unmoved = unmoved r a b can.stands own at_once possible 3 (looked at c.side size n) p shows (misses_still at size n k g);
          loses = waits.HasChanged n k (still_there there 3 (looked at c.side size n) (λ g. looks at size n g ++ misses at k g ∷ []) p shows (look_post (with_size c.side at size) at n))
              (found r a b can.stands own at_once possible 3 (looked at c.side size n) p shows 1 (loads_control at n g) refl)
              (found r a b can.stands own at_once possible 3 (looked at c.side size n) p shows 2 (misses at k g) refl) other;
        }

    close_locked : (k : ℕ) → k % 2 ≡ 1 → Did T a.seat.me s (λ g. loads_control at k g ∷ []) (waited 1 c (with_look c.side at k)) b.seat.me t
        → HasLost r a b at
    close_locked k odd p =
        let shows = shows_seen tries 1 k in
        record {
          acted = tried r a b can.stands own at_once possible 1 (with_look c.side at k) p shows;
          unmoved = unmoved r a b can.stands own at_once possible 1 (with_look c.side at k) p shows (one_still at k g);
          loses = waits.IsLocked k (still_there there 1 (with_look c.side at k) (λ g. loads_control at k g ∷ []) p shows (look_post c.side at k))
              (found r a b can.stands own at_once possible 1 (with_look c.side at k) p shows 0 (loads_control at k g) refl) odd;
        }

    close_changed : (n k : ℕ) → k ≢ n
        → Did T a.seat.me s (λ g. loads_control at n g ∷ misses at k g ∷ []) (waited 2 c (with_look c.side at n)) b.seat.me t
        → HasLost r a b at
    close_changed n k other p =
        let shows = shows_seen tries 2 n in
        record {
          acted = tried r a b can.stands own at_once possible 2 (with_look c.side at n) p shows;
          unmoved = unmoved r a b can.stands own at_once possible 2 (with_look c.side at n) p shows (two_still at n k g);
          loses = waits.HasChanged n k (still_there there 2 (with_look c.side at n) (λ g. loads_control at n g ∷ misses at k g ∷ []) p shows (look_post c.side at n))
              (found r a b can.stands own at_once possible 2 (with_look c.side at n) p shows 0 (loads_control at n g) refl)
              (found r a b can.stands own at_once possible 2 (with_look c.side at n) p shows 1 (misses at k g) refl) other;
        }

  -- ---- sends

  pub sends_talk : (value : ℕ) → SendsAt T c at value → (answer : Tried) (t' : Talked)
      → Sends T at c value answer a.seat.me s b.seat.me t → TryConcludes r.program a.body b.body at answer → Says at answer t' → Talks r a b 1 t'
  sends_talk value here (Done v) t' p body says =
      subst (Talks r a b 1) (sym says) (done r a b can.stands own at_once possible here.here (sends_there here) (4 + numbers r.setup p.1) 0 v p.0 p.8 body)
  sends_talk value here Offered t' p body says =
      subst (Talks r a b 1) (sym says) (offered r a b can.stands own at_once possible (4 + numbers r.setup 0) at p.6 body)
  sends_talk value here NotReady t' p body says =
      let shows = shows_looked body 2 p.0 p.1 in
      let side = looked at c.side p.0 p.1 in
      subst (Talks r a b 1) (sym says) (record {
        acted = tried r a b can.stands own at_once possible 2 side p.4 shows;
        unmoved = unmoved r a b can.stands own at_once possible 2 side p.4 shows (looks_still at p.0 p.1 g);
        waits = waits.Sends at value p.0 p.1 refl (sends_as (now T b) (same_frame r a b can.stands own at_once possible 2 side p.4 shows) here)
            (found r a b can.stands own at_once possible 2 side p.4 shows 0 (loads_capacity at p.0 g) refl)
            (found r a b can.stands own at_once possible 2 side p.4 shows 1 (loads_control at p.1 g) refl) p.3;
      })
  sends_talk value here (Busy k) t' p body says =
      subst (Talks r a b 1) (sym says)
      (⊎_elim (λ q. lost_locked (sends_there here) body q.0 k q.1 q.2) (λ q. lost_changed (sends_there here) body q.0 q.1 k q.4 q.5) p)
  sends_talk value here (Trapped e) t' p body says =
      let shows = shows_looked body 2 p.1 p.2 in
      let side = looked at c.side p.1 p.2 in
      let there = sends_as (now T b) (same_frame r a b can.stands own at_once possible 2 side p.5 shows) here in
      subst (Talks r a b 1) (sym says.2) (
        tried r a b can.stands own at_once possible 2 side p.5 shows,
        TrapsAtSend there.to there.sent at there.here
            (ap (λ (x : SideRec). x.saw) (now_side r a b can.stands own at_once possible 2 side p.5 shows)
            ∙ look_saw (with_size c.side at p.1) at p.2 p.4)
            (says.1.send p.0),
      )

  -- ---- receives

  pub receives_talk : ReceivesAt T c at → (answer : Tried) (t' : Talked)
      → Receives T at c answer a.seat.me s b.seat.me t → TryConcludes r.program a.body b.body at answer → Says at answer t'
      → Talks r a b 1 t' × OfReceive t'
  receives_talk here (Done v) t' p body says =
      let result = ⊎_elim
      (λ q. done r a b can.stands own at_once possible here.1 (receives_there here) (4 + numbers r.setup q.0) v v refl q.7 body)
      (λ q. ⊎_elim (λ z. done r a b can.stands own at_once possible here.1 (receives_there here) 3 0 v z.0 z.6 body)
      (λ z. done r a b can.stands own at_once possible here.1 (receives_there here) (4 + numbers r.setup 0) v v refl z.6 body) q) p in
      subst (λ x. Talks r a b 1 x × OfReceive x) (sym says) (result, tt)
  receives_talk here Offered t' p body says = absurd p
  receives_talk here NotReady t' p body says =
      let shows = shows_looked body 2 p.0 p.1 in
      let side = looked at c.side p.0 p.1 in
      subst (λ x. Talks r a b 1 x × OfReceive x) (sym says) (
        record {
          acted = tried r a b can.stands own at_once possible 2 side p.4 shows;
          unmoved = unmoved r a b can.stands own at_once possible 2 side p.4 shows (looks_still at p.0 p.1 g);
          waits = waits.Receives at p.0 p.1 refl (receives_as (now T b) (same_frame r a b can.stands own at_once possible 2 side p.4 shows) here)
              (found r a b can.stands own at_once possible 2 side p.4 shows 0 (loads_capacity at p.0 g) refl)
              (found r a b can.stands own at_once possible 2 side p.4 shows 1 (loads_control at p.1 g) refl) p.3;
        },
        tt,
      )
  receives_talk here (Busy k) t' p body says =
      let result = ⊎_elim (λ q. lost_locked (receives_there here) body q.0 k q.1 q.2)
      (λ q. lost_changed (receives_there here) body q.0 q.1 k q.4 q.5) p in
      subst (λ x. Talks r a b 1 x × OfReceive x) (sym says) (result, tt)
  receives_talk here (Trapped e) t' p body says = absurd p

  -- ---- closes

  pub closes_talk : ClosesAt T c at → (answer : Tried) (t' : Talked)
      → Closes T at c answer a.seat.me s b.seat.me t → TryConcludes r.program a.body b.body at answer → Says at answer t'
      → Talks r a b 1 t' × OfClose t'
  closes_talk here (Done v) t' p body says =
      subst (λ x. Talks r a b 1 x × OfClose x) (sym says)
      (done r a b can.stands own at_once possible here.1 (closes_there here) 2 0 v p.0 p.5 body, tt)
  closes_talk here Offered t' p body says = absurd p
  closes_talk here NotReady t' p body says = absurd p
  closes_talk here (Busy k) t' p body says =
      let result = ⊎_elim (λ q. close_locked (closes_there here) body k q.0 q.1)
      (λ q. close_changed (closes_there here) body q.0 k q.3 q.4) p in
      subst (λ x. Talks r a b 1 x × OfClose x) (sym says) (result, tt)
  closes_talk here (Trapped e) t' p body says =
      let shows = shows_seen body 1 p.1 in
      let side = with_look c.side at p.1 in
      let there = closes_as (now T b) (same_frame r a b can.stands own at_once possible 1 side p.4 shows) here in
      subst (λ x. Talks r a b 1 x × OfClose x) (sym says.2) (
        (
          tried r a b can.stands own at_once possible 1 side p.4 shows,
          TrapsAtClose there.0 at there.1
              (ap (λ (x : SideRec). x.saw) (now_side r a b can.stands own at_once possible 1 side p.4 shows) ∙ look_saw c.side at p.1 p.3)
              (says.1.close p.0),
        ),
        tt,
      )

-- ---- on nil

module _ (r : Run) (a b : Actor) (before : IsActorOf r a) (own : b.seat.table_id ≡ a.seat.table_id) (me : b.seat.me ≡ a.seat.me)
    (behind : b.behind ≡ a.behind) (body : b.body ≡ a.body) where
  pub send_on_nil : (value : ℕ) → IsBeforeSend r.setup (now r.setup a) 0 value → IsWaiting r a b None
  send_on_nil value is = record {
    acted = nothing r a b before own me behind body;
    unmoved = nothing_moved r a b before own me behind body;
    waits = waits.SendsOnNil value refl
        (subst (λ (d : Record). IsBeforeSend r.setup d 0 value) (sym (nothing_is r a b before own me behind body)) is);
  }

  pub receive_on_nil : IsBeforeReceive r.setup (now r.setup a) 0 → IsWaiting r a b None
  receive_on_nil is = record {
    acted = nothing r a b before own me behind body;
    unmoved = nothing_moved r a b before own me behind body;
    waits = waits.ReceivesOnNil refl
        (subst (λ (d : Record). IsBeforeReceive r.setup d 0) (sym (nothing_is r a b before own me behind body)) is);
  }

  pub close_on_nil : IsBeforeClose r.setup (now r.setup a) 0 → IsAtTrap r a b CloseNil
  close_on_nil is =
      let q = subst (λ (d : Record). IsBeforeClose r.setup d 0) (sym (nothing_is r a b before own me behind body)) is in
      (nothing r a b before own me behind body, ClosesNil q.to q.from q.removes q.here q.on refl)

-- ---- acknowledgements

-- what is said of an offer, and the body then
abbrev pub SaysOfOffer : CompactProgram → (before after : Body) → (at : ℕ) → Tried → Talked → Type 0
SaysOfOffer p b d at (Done v) x = (x ≡ talked.Done at) × Becomes p b d (λ T c. acknowledging T.code c)
SaysOfOffer p b d at Offered x = ⊥
SaysOfOffer p b d at NotReady x = (x ≡ talked.Waits (Some at)) × (d ≡ b)
SaysOfOffer p b d at (Busy k) x = (x ≡ talked.Lost at) × (d ≡ b)
SaysOfOffer p b d at (Trapped e) x = (x ≡ talked.Trap SendClosed) × (d ≡ b)

module _ (r : Run) (a b : Actor) (before : IsActorOf r a) (own : b.seat.table_id ≡ a.seat.table_id) (at_once : b.behind ≡ 0)
    (possible : HasPossible r.setup b.seat.me) (s t at : ℕ) (offers : a.body.side ≡ Offering at) where
  abbrev own_record : Record
  own_record = now r.setup a

  -- the body that has not changed shows the record still
  shows_still : b.body ≡ a.body → (k n : ℕ) → BodyShows r.setup r.program b.body (waited k (now r.setup a) (with_own_look (now r.setup a).side at n))
  shows_still same k n =
      let q = posted r a before at offers in
      shows_offering r.setup r.program b.body (now r.setup a) k (with_own_look (now r.setup a).side at n) at (ap (λ (x : Body). x.side) same ∙ offers)
      (subst (λ (x : Body). BodyShows r.setup r.program x (now r.setup a)) (sym same) before.shows)
      (own_hold (now r.setup a).side at n ∙ q.free) (own_post (now r.setup a).side at n ∙ q.post)

  pub acknowledges_talk : IsAtSend r.setup (now r.setup a) → (answer : Tried) (x : Talked)
      → Acknowledges r.setup at (now r.setup a) answer a.seat.me s b.seat.me t → SaysOfOffer r.program a.body b.body at answer x → Talks r a b 0 x × OfAcknowledgement x
  acknowledges_talk here (Done v) x p says =
      subst (λ y. Talks r a b 0 y × OfAcknowledgement y) (sym says.0) (
        record {
          acted = did r a b before own at_once possible 0 p.5 (acknowledging_continues here 2)
              (says.1 r.setup (accessing 2 (now r.setup a)) (shows_accessing r.setup r.program a.body (now r.setup a) 2 before.shows));
          there = inr (posted r a before at offers).post;
        },
        tt,
      )
  acknowledges_talk here Offered x p says = absurd p
  acknowledges_talk here NotReady x p says =
      let side = with_own_look (now r.setup a).side at p.0 in
      let shows = shows_still says.1 1 p.0 in
      subst (λ y. Talks r a b 0 y × OfAcknowledgement y) (sym says.0) (
        record {
          acted = tried r a b before own at_once possible 1 side p.4 shows;
          unmoved = unmoved r a b before own at_once possible 1 side p.4 shows (one_still at p.0 (number_of a.seat.me));
          waits = waits.Offers at p.0 refl
              (ap (λ (k : SideRec). k.post) (now_side r a b before own at_once possible 1 side p.4 shows)
              ∙ (own_post (now r.setup a).side at p.0 ∙ (posted r a before at offers).post))
              (found r a b before own at_once possible 1 side p.4 shows 0 (loads_control at p.0 (number_of a.seat.me)) refl) p.2 p.3;
        },
        tt,
      )
  acknowledges_talk here (Busy k) x p says =
      subst (λ y. Talks r a b 0 y × OfAcknowledgement y) (sym says.0)
      (⊎_elim (λ q. locked k q.0 q.1 says.1) (λ q. changed q.0 k q.3 q.4 says.1) p, tt)
    where
      post_is : (m n : ℕ) (list : ℕ → List Access)
          (q : Did r.setup a.seat.me s list (waited m (now r.setup a) (with_own_look (now r.setup a).side at n)) b.seat.me t) (same : b.body ≡ a.body)
          → (now r.setup b).side.post ≡ sides.Offering at
      post_is m n list q same =
          ap (λ (k : SideRec). k.post)
          (now_side r a b before own at_once possible m (with_own_look (now r.setup a).side at n) q (shows_still same m n))
          ∙ (own_post (now r.setup a).side at n ∙ (posted r a before at offers).post)

      locked : (k : ℕ) → k % 2 ≡ 1
          → Did r.setup a.seat.me s (λ g. loads_control at k g ∷ []) (waited 1 (now r.setup a) (with_own_look (now r.setup a).side at k)) b.seat.me t
          → b.body ≡ a.body → HasLost r a b at
      locked k odd q same =
          let side = with_own_look (now r.setup a).side at k in
          let shows = shows_still same 1 k in
          record {
            acted = tried r a b before own at_once possible 1 side q shows;
            unmoved = unmoved r a b before own at_once possible 1 side q shows (one_still at k (number_of a.seat.me));
            loses = waits.IsLocked k (inr (post_is 1 k (λ g. loads_control at k g ∷ []) q same))
                (found r a b before own at_once possible 1 side q shows 0 (loads_control at k (number_of a.seat.me)) refl) odd;
          }

      changed : (n k : ℕ) → k ≢ n
          → Did r.setup a.seat.me s (λ g. loads_control at n g ∷ misses at k g ∷ [])
          (waited 2 (now r.setup a) (with_own_look (now r.setup a).side at n)) b.seat.me t
          → b.body ≡ a.body → HasLost r a b at
      changed n k other q same =
          let side = with_own_look (now r.setup a).side at n in
          let shows = shows_still same 2 n in
          record {
            acted = tried r a b before own at_once possible 2 side q shows;
            unmoved = unmoved r a b before own at_once possible 2 side q shows (two_still at n k (number_of a.seat.me));
            loses = waits.HasChanged n k (inr (post_is 2 n (λ g. loads_control at n g ∷ misses at k g ∷ []) q same))
                (found r a b before own at_once possible 2 side q shows 0 (loads_control at n (number_of a.seat.me)) refl)
                (found r a b before own at_once possible 2 side q shows 1 (misses at k (number_of a.seat.me)) refl) other;
          }
  acknowledges_talk here (Trapped e) x p says =
      let side = with_own_look (now r.setup a).side at p.1 in
      let shows = shows_still says.1 1 p.1 in
      subst (λ y. Talks r a b 0 y × OfAcknowledgement y) (sym says.0) (
        (
          tried r a b before own at_once possible 1 side p.5 shows,
          TrapsAtOffer at (at_send_as (now r.setup b) (same_frame r a b before own at_once possible 1 side p.5 shows) here)
              (ap (λ (k : SideRec). k.saw) (now_side r a b before own at_once possible 1 side p.5 shows)
              ∙ own_saw (now r.setup a).side at p.1 p.3 p.4)
              refl,
        ),
        tt,
      )

-- the same for s, the run as its fields have it, of which the contracts of lower crates speak
module _ (s r : Run) (is : s ≡ r) (a b : Actor) (before : IsActorOf r a) (own : b.seat.table_id ≡ a.seat.table_id) (at_once : b.behind ≡ 0)
    (possible : HasPossible s.setup b.seat.me) (m t at : ℕ) (offers : a.body.side ≡ Offering at) where
  pub acknowledges_there : (answer : Tried) (x : Talked)
      → Acknowledges s.setup at (mine s.setup a.seat.me) answer a.seat.me m b.seat.me t → SaysOfOffer s.program a.body b.body at answer x
      → Talks r a b 0 x × OfAcknowledgement x
  acknowledges_there answer x p says =
      acknowledges_talk r a b before own at_once (subst (λ (y : Run). HasPossible y.setup b.seat.me) is possible) m t at offers
      (at_send r a before at offers).send answer x
      (subst (λ (c : Record). Acknowledges r.setup at c answer a.seat.me m b.seat.me t) (sym (mine_is r a before at offers))
      (subst (λ (y : Run). Acknowledges y.setup at (mine y.setup a.seat.me) answer a.seat.me m b.seat.me t) is p))
      (subst (λ (y : Run). SaysOfOffer y.program a.body b.body at answer x) is says)

  -- no offer is put up by it
  pub not_ready_there : (answer : Tried) → (answer ≡ NotReady) ⊎ (answer ≡ Offered)
      → Acknowledges s.setup at (mine s.setup a.seat.me) answer a.seat.me m b.seat.me t
      → Acknowledges s.setup at (mine s.setup a.seat.me) NotReady a.seat.me m b.seat.me t
  not_ready_there answer which p = ⊎_elim
      (λ (e : answer ≡ NotReady). subst (λ y. Acknowledges s.setup at (mine s.setup a.seat.me) y a.seat.me m b.seat.me t) e p)
      (λ (e : answer ≡ Offered). absurd (subst (λ y. Acknowledges s.setup at (mine s.setup a.seat.me) y a.seat.me m b.seat.me t) e p)) which
