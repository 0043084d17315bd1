-- A goroutine that is before no operation on a channel knows nothing of channels. The invariant of the table says where a goroutine is that
-- knows of one; the body then shows that it is there, too.
use Rattle.std.proofs.Common.{◌≡◌, ◌⊎◌, ◌∙◌, ◌++◌, ℕ, List, [], ◌∷◌, Option, Some, slice_get, refl, ap, sym, subst, inl, inr}
use Rattle.std.proofs.lemmas.Option.{none-some, same_Some}
use Rattle.rgo_sound.specs.Code.Code as code
use Rattle.rgo_sound.specs.Code.Code.{CodeInstr}
use Rattle.rgo_sound.specs.Code.Erasure.{erased_op}
use Rattle.rgo_core.specs.Channels.Records.{Free, KnowsOf, Nothing, Nowhere, Offering, Reach, Reached, ChannelRec as SideRec, Saw, Shut, Size, Sized, Stranded, Unknown, Unreached, at_rest}
use Rattle.rgo_core.specs.Channels.Standing.{IsAt as IsAtChannel, IsOfChannel, OperatesOn}
use Rattle.rgo_core.specs.Frames.Fits.{RecordFits, IsPast, IsShown}
use Rattle.rgo_core.specs.Frames.shown.Variables.{FramesShow}
use Rattle.rgo_core.specs.Frames.regions.Slots.{nameless, slot_duties}
use Rattle.rgo_core.specs.Frames.shown.WordFrames.{WordFrame, bare}
use Rattle.rgo_core.proofs.Frames.regions.Bookkeeping.{current_alike}
use Rattle.rgo_core_facts.proofs.ControlFrames.{all_in_code}
use Rattle.rgo_sound.specs.RegionMachine.Owed.{current}
use Rattle.rgo_sound.specs.RegionMachine.States.{Duty, Holder, NoOffer, Standing}
use Rattle.rgo_sound.specs.Tac.Frames.{TacFrame}
use Rattle.rgo_sound.specs.Tac.Ops.{operation_of}
use Rattle.rgo_sound.specs.Typed.declared.actions.Action.{Action}
use Rattle.rgo_core.proofs.image.Parts.{I}
use Rattle.rgo_core.proofs.image.Standing.{frame_at, side_at}
use Rattle.rgo_core.specs.Core.{Situation, Setup, layout}
use Rattle.rgo_core.specs.Channels.Positions.{place_at}
use Rattle.rgo_core.specs.Next.{IsAtOp}
use Rattle.rgo_core.specs.Records.{Record}
use Rattle.rgo_core.specs.Rule.Views.{number_of}
use Rattle.rgo_body.specs.Bodies.{frames_of_body}
use Rattle.rgo_body.specs.Nexts.{FrameHasNoNext, IsNextOf}
use Rattle.rgo_body.specs.Programs.{CompactProgram}
use Rattle.rgo_body.specs.Shows.{BodyShows}
use Rattle.rgo_body.specs.declared.bodies.Body.{Body}
use Rattle.rgo_body.specs.declared.bodies.Side.TheVariants as side
use Rattle.rgo_body.specs.declared.nexts.Next.{Next}
use Rattle.rgo_acts.specs.Actors.{ActorActed, IsActorOf, now}
use Rattle.rgo_acts.specs.Resting.{IsAtTalk, IsTalk, RestsElsewhere}
use Rattle.rgo_acts.specs.Runs.{Run}
use Rattle.rgo_acts.specs.declared.actors.Actor.{Actor}
use Rattle.rgo_acts.proofs.before.AtChannels.{free_of, head_is}
use Rattle.rgo_acts.proofs.before.Instructions.{current_is}
use Rattle.rgo_acts.proofs.Standing.{acted_none}

-- ---- a goroutine that knows of a channel is before an operation on it

-- it is before one, by its record
abbrev AtSome : Setup → Record → Type 0
AtSome T c = (to : Option ℕ) × (act : Action) × (from removes : List ℕ) × IsOfChannel act × IsAtOp T.code c (code.Do to act from removes)

module _ {T : Setup} {g : ℕ} {c : Record} (x : Situation T g c) (no_offer : c.frame.holder.offer ≡ NoOffer) where
  abbrev F : RecordFits T.code (I x).places.slot (I x).addresses x.s g c.frame
  F = (I x).frames.each g c.frame (frame_at x)

  shown : IsShown T.code (I x).places.slot (I x).addresses F.frames F.h c.frame
      ⊎ IsPast T.code (I x).places.slot (I x).addresses F.frames F.h c.frame
      → IsShown T.code (I x).places.slot (I x).addresses F.frames F.h c.frame
  shown (inl y) = y
  shown (inr y) =
      absurd (let e : NoOffer ≡ Standing 0 = sym no_offer ∙ (ap (λ (k : Holder). k.offer) y.shown.holder ∙ ap nameless y.stood) in cc e)

  -- the frames of the record show those of the state
  at_frames : (frame : TacFrame) (callers : List TacFrame) (instr : CodeInstr) (to : Option ℕ) (act : Action) (from removes : List ℕ)
      → current T.code frame ≡ Some instr → instr.op ≡ code.Do to act from removes → c.frame.holder.duties ≡ []
      → (ws : List WordFrame) → c.frame.frames ≡ ws → FramesShow T.code (I x).addresses (frame ∷ callers) ws
      → IsAtOp T.code c (code.Do to act from removes)
  at_frames frame callers instr to act from removes cur is none [] e h = absurd h
  at_frames frame callers instr to act from removes cur is none (w ∷ ws) e h =
      let i = all_in_code T g c x 0 w (ap (λ (l : List WordFrame). slice_get l 0) e) in record {
        w = w;
        ws = ws;
        frames = e;
        fn = i.fn;
        in_fn = i.in_fn;
        instr = instr;
        cur = current_alike T.code frame w h.0.alike ∙ cur;
        is = is;
        none = none;
        free = no_offer;
      }

  at_some : (o : ℕ) → OperatesOn T.code x.s g o → AtSome T c
  at_some o m =
      let n = m.3 in
      let y = shown F.fits in
      let frames = same_Some F.frames (n.before.frame ∷ n.before.callers) (sym F.at ∙ n.before.at) in
      let holder = same_Some F.h n.holder (sym F.there ∙ n.there) in
      let none = ap (λ (k : Holder). k.duties) y.holder
      ∙ ap (slot_duties (I x).places.slot) (ap (λ (k : Holder). k.duties) holder ∙ n.none) in (
        n.before.to,
        m.0,
        n.before.from,
        n.before.removes,
        m.1,
        at_frames n.before.frame n.before.callers n.before.instr n.before.to m.0 n.before.from n.before.removes n.before.cur n.before.is none
            c.frame.frames refl
            (subst (λ (fs : List TacFrame). FramesShow T.code (I x).addresses fs c.frame.frames) frames y.shown),
      )

  knows_some : c.side.post ≡ Nowhere → (a : ℕ) → KnowsOf c.side a → AtSome T c
  knows_some nowhere a q = by ((I x).channels.knows g a c.side (side_at x) q)
    where
      by : IsAtChannel T.code (place_at (layout T) (I x).places) x.s g c.side.post a → AtSome T c
      by (inl m) = at_some m.1 m.3
      by (inr post) = absurd (let e : Nowhere ≡ Offering a = sym nowhere ∙ post in cc e)

-- ---- else it knows nothing

rest_is : (k : SideRec) → k.hold ≡ Free → k.size ≡ Unknown → k.reach ≡ Unreached → k.post ≡ Nowhere → k.saw ≡ Nothing → k ≡ at_rest
rest_is k a b r c d =
    ap (λ h. record { hold = h; size = k.size; reach = k.reach; post = k.post; saw = k.saw }) a
    ∙ (ap (λ s. record { hold = Free; size = s; reach = k.reach; post = k.post; saw = k.saw }) b
    ∙ (ap (λ q. record { hold = Free; size = Unknown; reach = q; post = k.post; saw = k.saw }) r
    ∙ (ap (λ p. record { hold = Free; size = Unknown; reach = Unreached; post = p; saw = k.saw }) c
    ∙ ap (λ s. record { hold = Free; size = Unknown; reach = Unreached; post = Nowhere; saw = s }) d)))

no_reach : (k : SideRec) → ((a : ℕ) → KnowsOf k a → ⊥) → (q : Reach) → k.reach ≡ q → k.reach ≡ Unreached
no_reach k none Unreached e = e
no_reach k none (Reached a i w) e = absurd (none a (inr (inr (inr (inr (inr (i, w, e)))))))

no_size : (k : SideRec) → ((a : ℕ) → KnowsOf k a → ⊥) → (s : Size) → k.size ≡ s → k.size ≡ Unknown
no_size k none Unknown e = e
no_size k none (Sized a n) e = absurd (none a (inr (inl (n, e))))

no_saw : (k : SideRec) → ((a : ℕ) → KnowsOf k a → ⊥) → (s : Saw) → k.saw ≡ s → k.saw ≡ Nothing
no_saw k none Nothing e = e
no_saw k none (Shut a) e = absurd (none a (inr (inr (inl e))))
no_saw k none (Stranded a) e = absurd (none a (inr (inr (inr (inl e)))))

pub rests_elsewhere : RestsElsewhere
rests_elsewhere T g c x free nowhere no_offer elsewhere =
    rest_is c.side free (no_size c.side none c.side.size refl) (no_reach c.side none c.side.reach refl) nowhere (no_saw c.side none c.side.saw refl)
  where
    none : (a : ℕ) → KnowsOf c.side a → ⊥
    none a q = let t = knows_some x no_offer nowhere a q in elsewhere t.0 t.1 t.2 t.3 t.4 t.5

-- ---- the same of a body

pub talks_as : (p : CompactProgram) (b : Body) (next : Next) → IsNextOf p.code (frames_of_body b) next → (t : IsAtTalk p b) → IsTalk (operation_of next.op)
talks_as p b next n t =
    let frames : t.w ∷ t.ws ≡ n.w ∷ n.ws = sym t.frames ∙ n.are in
    let cur = sym t.cur ∙ (ap (λ w. current p.code (bare w)) (head_is t.w n.w t.ws n.ws frames) ∙ current_is p.code (frames_of_body b) next n) in
    subst IsTalk (ap (λ (i : CodeInstr). erased_op i.op) (same_Some t.instr n.instr cur) ∙ n.op) t.talks

pub at_talk : (p : CompactProgram) (b : Body) (next : Next) → b.queue.duties ≡ [] → IsNextOf p.code (frames_of_body b) next → IsTalk (operation_of next.op)
    → IsAtTalk p b
at_talk p b next empty n talks = record {
  queue = empty;
  w = n.w;
  ws = n.ws;
  frames = n.are;
  instr = n.instr;
  cur = current_is p.code (frames_of_body b) next n;
  talks = subst IsTalk (sym n.op) talks;
}

pub no_next : (p : CompactProgram) (b : Body) → FrameHasNoNext p.code (frames_of_body b) → IsAtTalk p b → ⊥
no_next p b nothing t = absurd (none-some t.instr (sym (nothing t.w t.ws t.frames) ∙ t.cur))

module _ (r : Run) (a : Actor) (s : IsActorOf r a) (none : (at : ℕ) → a.body.side ≡ side.Offering at → ⊥)
    (elsewhere : IsAtTalk r.program a.body → ⊥) where
  first_empty : (xs ys : List Duty) → xs ++ ys ≡ [] → xs ≡ []
  first_empty [] ys e = refl
  first_empty (x ∷ xs) ys e = cc e

  -- if its record were before an operation, so were its body
  body_talks : (to : Option ℕ) (act : Action) (from removes : List ℕ) → IsOfChannel act
      → IsAtOp r.setup.code (now r.setup a) (code.Do to act from removes) → ⊥
  body_talks to act from removes of_channel at = elsewhere (record {
    queue = first_empty a.body.queue.duties _ (sym s.shows.owes ∙ at.none);
    w = at.w;
    ws = at.ws;
    frames = sym s.shows.frames ∙ at.frames;
    instr = at.instr;
    cur = ap (λ code. current code (bare at.w)) (sym s.shows.code) ∙ at.cur;
    talks = (to, act, from, of_channel, ap erased_op at.is);
  })

  pub body_rests : (now r.setup a).side ≡ at_rest
  body_rests =
      let f = free_of a.body.side (now r.setup a).side (now r.setup a).frame.holder.offer none s.shows.side in
      rests_elsewhere r.setup (number_of a.seat.me) (now r.setup a) s.possible f.free f.nowhere f.no_offer body_talks

-- it rests from now on
pub rested : (s r : Run) (is : s ≡ r) (a b : Actor) → IsActorOf r a → ((at : ℕ) → a.body.side ≡ side.Offering at → ⊥)
    → (IsAtTalk s.program a.body → ⊥) → b.seat ≡ a.seat → b.behind ≡ a.behind
    → ((T : Setup) (c : Record) → BodyShows T s.program a.body c → c.side ≡ at_rest → BodyShows T s.program b.body c) → ActorActed r a b 0 [] []
rested s r is a b stands none elsewhere seat behind rests =
    acted_none r a b stands seat behind
    (subst (λ (x : Run). BodyShows r.setup x.program b.body (now r.setup a)) is
    (rests r.setup (now r.setup a) (subst (λ (x : Run). BodyShows r.setup x.program a.body (now r.setup a)) (sym is) stands.shows)
    (body_rests r a stands none (λ t. elsewhere (subst (λ (x : Run). IsAtTalk x.program a.body) (sym is) t)))))
