-- A goroutine that is before an operation on a channel, or whose offer is at one, by its record. The body has the instruction and the side;
-- the record has the rest, and both are at the same place since the body shows the record.
use Rattle.std.proofs.Common.{◌≡◌, ◌≢◌, ◌⊎◌, ◌+◌, ◌-◌, ◌<◌, ◌≤◌, ◌++◌, ℕ, zero, suc, List, [], ◌∷◌, Option, Some, length, slice_get, refl, ap, sym, subst, ◌∙◌, inl, inr, arith, Contains}
use Rattle.std.proofs.lemmas.Option.{same_Some}
use Rattle.rgo_sound.specs.Code.Code as code
use Rattle.rgo_sound.specs.Code.Code.{CodeInstr, CodeOp}
use Rattle.rgo_sound.specs.Code.Erasure.{erased_op}
use Rattle.rgo_sound.specs.Code.Exists.{UsesVariable}
use Rattle.rgo_core.specs.Channels.Records as sides
use Rattle.rgo_core.specs.Channels.Records.{Free, Nowhere, ChannelRec as SideRec}
use Rattle.rgo_core.specs.Channels.Standing.{IsOfChannel}
use Rattle.rgo_core_facts.proofs.ControlCode.{variables_exist}
use Rattle.rgo_core_facts.proofs.ControlFrames.{all_in_code, offers_known}
use Rattle.rgo_core_facts.proofs.Lying.{channel_lies, pages_in_table}
use Rattle.rgo_core_facts.proofs.Offers.{offer_lies}
use Rattle.rgo_core_facts.specs.MemoryWords.{OffersAt}
use Rattle.rgo_core.specs.Frames.shown.WordFrames.{WordFrame, bare, frame_word}
use Rattle.rgo_core.specs.Memory.Words.{all_words, base as base_of}
use Rattle.rgo_core.specs.Rule.Views.{number_of}
use Rattle.rgo_core_steps.specs.Seats.{SettlesBy, mine}
use Rattle.rgo_sound.specs.RegionMachine.Owed.{current, code_function}
use Rattle.rgo_sound.specs.RegionMachine.States.{Duty, NoOffer, Offer, Standing}
use Rattle.rgo_sound.specs.Tac.Code as tac
use Rattle.rgo_sound.specs.Tac.Code.{Op}
use Rattle.rgo_sound.specs.Tac.Flow.{reads}
use Rattle.rgo_sound.specs.Tac.Ops.{operation_of}
use Rattle.rgo_sound.specs.Typed.declared.actions.Action.{Action}
use Rattle.rgo_sound.specs.Typed.declared.actions.Action.TheVariants.{Close, Recv, Send}
use Rattle.rgo_core.specs.moves.Commits.{IsAtSend}
use Rattle.rgo_core.specs.Core.{Situation, Setup, layout}
use Rattle.rgo_core.specs.Next.{IsAtOp}
use Rattle.rgo_core.specs.Records.{ClockRec, Record}
use Rattle.rgo_core_steps.specs.Calls.{accessed_by, waited}
use Rattle.rgo_core_steps.specs.Layouts.{HasLayout}
use Rattle.rgo_core_steps.proofs.record_steps.SettledLaws.{settled_kept}
use Rattle.atomic_table.specs.Seated.{TableId}
use Rattle.rgo_core.specs.Memory.declared.layout.TableSizes.{TableSizes}
use Rattle.rgo_chan.specs.Before.{IsBeforeClose, IsBeforeReceive, IsBeforeSend, LiesIn}
use Rattle.rgo_body.specs.Bodies.{frames_of_body}
use Rattle.rgo_body.specs.Nexts.{IsDo, IsNextOf}
use Rattle.rgo_body.specs.Programs.{CompactProgram}
use Rattle.rgo_body.specs.Shows.{BodyShows, SideShows}
use Rattle.rgo_body.specs.declared.bodies.Body.{Body}
use Rattle.rgo_body.specs.declared.bodies.Side.{Side}
use Rattle.rgo_body.specs.declared.bodies.Side.TheVariants.{AtRest, Offering, Tried}
use Rattle.rgo_body.specs.declared.nexts.Next.{Next}
use Rattle.rgo_acts.specs.Actors.{IsActorOf, now}
use Rattle.rgo_acts.specs.Runs.{Run}
use Rattle.rgo_acts.specs.Talks.{CanTry}
use Rattle.rgo_acts.specs.declared.actors.Actor.{Actor}
use Rattle.rgo_acts.proofs.before.Instructions.{current_is, do_of, owes_none}
use Rattle.rgo_acts.proofs.before.Locating.{some_words}
use Rattle.rgo_acts.proofs.Standing.{now_at_once}

-- ---- what it knows of channels

-- it has locked none, and has no offer
pub record IsFreeOf (k : SideRec) (o : Offer) : Type 0 where
  pub free : k.hold ≡ Free
  pub nowhere : k.post ≡ Nowhere
  pub no_offer : o ≡ NoOffer

pub free_of : (s : Side) (k : SideRec) (o : Offer) → ((at : ℕ) → s ≡ Offering at → ⊥) → SideShows s k o → IsFreeOf k o
free_of AtRest k o none shown = record {
  free = ap (λ (x : SideRec). x.hold) shown.0;
  nowhere = ap (λ (x : SideRec). x.post) shown.0;
  no_offer = shown.1;
}
free_of Tried k o none shown = record { free = shown.0; nowhere = shown.1; no_offer = shown.2 }
free_of (Offering at) k o none shown = absurd (none at refl)

-- its offer is there
pub record IsOfferAt (at : ℕ) (k : SideRec) (o : Offer) : Type 0 where
  pub free : k.hold ≡ Free
  pub post : k.post ≡ sides.Offering at
  pub offer : o ≡ Standing 0

pub offer_at : (s : Side) (at : ℕ) (k : SideRec) (o : Offer) → s ≡ Offering at → SideShows s k o → IsOfferAt at k o
offer_at s at k o e shown =
    let t = subst (λ (x : Side). SideShows x k o) e shown in
    record { free = t.0; post = t.1; offer = t.2 }

-- and the body says so
pub side_offers : (s : Side) (at : ℕ) (o : Offer) → SideShows s (sides.offering_record at) o → s ≡ Offering at
side_offers AtRest at o shown = absurd (let e = ap (λ (x : SideRec). x.post) shown.0 in cc e)
side_offers Tried at o shown = absurd (let e = shown.1 in cc e)
side_offers (Offering k) at o shown = let e = shown.1 in ap Offering (cc e)

-- ---- a variable of the next instruction

pub variable_there : (T : Setup) (g : ℕ) (c : Record) → Situation T g c → {op : CodeOp} (here : IsAtOp T.code c op) (v : ℕ) → UsesVariable (erased_op op) v
    → v < length here.w.variables
variable_there T g c x {op} here v uses =
    let i = all_in_code T g c x 0 here.w (ap (λ (l : List WordFrame). slice_get l 0) here.frames) in
    let instr = same_Some i.instr here.instr (sym i.cur ∙ here.cur) in
    let exists = variables_exist T.code here.w.function here.w.next i.fn i.instr x.core.sound.checked i.in_fn i.at v
    (subst (λ (o : CodeOp). UsesVariable (erased_op o) v) (sym (ap (λ (y : CodeInstr). y.op) instr ∙ here.is)) uses) in
    subst (λ m. v < m) (sym i.words) exists

-- ---- the word of a control

pub place_fits : (T : Setup) (z : TableSizes) (table : TableId) → HasLayout T z table → (base pointer : ℕ) → pointer ≢ 0 → LiesIn T base pointer
    → base + (pointer - 1) < 18446744073709551616
place_fits T z table h base pointer some lies =
    let l = lies some in
    let e = ap all_words h.sizes in
    let f = h.fits in
    omega (arith, l, e, f)

-- ---- before an operation

module _ (r : Run) (a : Actor) (next : Next) (can : CanTry r a next) where
  abbrev pub c : Record
  c = now r.setup a

  pub unposted : IsFreeOf c.side c.frame.holder.offer
  unposted = free_of a.body.side c.side c.frame.holder.offer can.none can.stands.shows.side

  abbrev pub here_as : (op : CodeOp) → can.ready.is_next.instr.op ≡ op → IsAtOp r.setup.code c op
  here_as op e = record {
    w = can.ready.is_next.w;
    ws = can.ready.is_next.ws;
    frames = can.stands.shows.frames ∙ can.ready.is_next.are;
    fn = next.function;
    in_fn = ap (λ code. code_function code can.ready.is_next.w.function) can.stands.shows.code ∙ can.ready.is_next.in_fn;
    instr = can.ready.is_next.instr;
    cur = ap (λ code. current code (bare can.ready.is_next.w)) can.stands.shows.code
        ∙ current_is r.program.code (frames_of_body a.body) next can.ready.is_next;
    is = e;
    none = can.stands.shows.owes ∙ owes_none r.program.code a.body can.ready.queue can.ready.expanded;
    free = unposted.no_offer;
  }

  pub has_variable : (v : ℕ) → UsesVariable (operation_of next.op) v
      → (w : WordFrame) × (ws : List WordFrame) × (frames_of_body a.body ≡ w ∷ ws) × (v < length w.variables)
  has_variable v uses = (
    can.ready.is_next.w,
    can.ready.is_next.ws,
    can.ready.is_next.are,
    variable_there r.setup (number_of a.seat.me) c can.stands.possible (here_as can.ready.is_next.instr.op refl) v
        (subst (λ (op : Op). UsesVariable op v) (sym can.ready.is_next.op) uses),
  )

  pub has_operand : (to : Option ℕ) (act : Action) (from : List ℕ) (v : ℕ) → operation_of next.op ≡ tac.Do to act from → Contains from v
      → (w : WordFrame) × (ws : List WordFrame) × (frames_of_body a.body ≡ w ∷ ws) × (v < length w.variables)
  has_operand to act from v is inside = has_variable v (inl (subst (λ (op : Op). Contains (reads op) v) (sym is) inside))

  module _ (to : Option ℕ) (act : Action) (channel : ℕ) (others : List ℕ) (is : operation_of next.op ≡ tac.Do to act (channel ∷ others)) where
    pub code_is : (removes : List ℕ) × (can.ready.is_next.instr.op ≡ code.Do to act (channel ∷ others) removes)
    code_is = do_of can.ready.is_next.instr.op to act (channel ∷ others) (can.ready.is_next.op ∙ is)

    abbrev pub here_do : IsAtOp r.setup.code c (code.Do to act (channel ∷ others) code_is.0)
    here_do = here_as (code.Do to act (channel ∷ others) code_is.0) code_is.1

    -- the channel's words are words of the table
    pub lies : IsOfChannel act → (base pointer : ℕ) → base ≡ base_of (layout r.setup) → frame_word can.ready.is_next.w channel ≡ pointer
        → LiesIn r.setup base pointer
    lies of_channel base pointer first on some =
        let l = channel_lies r.setup (number_of a.seat.me) c can.stands.possible to act channel (pointer - 1) others code_is.0 here_do
        of_channel (on ∙ some_address some) in
        let t = pages_in_table r.setup (pointer - 1) 3 l in
        omega (arith, t, first)
      where
        some_address : pointer ≢ 0 → pointer ≡ suc (pointer - 1)
        some_address some = omega arith

    -- a page has words
    pub has_words : IsOfChannel act → (pointer : ℕ) → frame_word can.ready.is_next.w channel ≡ pointer → pointer ≢ 0
        → 0 < r.setup.sizes.page_words
    has_words of_channel pointer on some =
        let address : pointer ≡ suc (pointer - 1) = omega (arith, some) in
        let l = channel_lies r.setup (number_of a.seat.me) c can.stands.possible to act channel (pointer - 1) others code_is.0 here_do
        of_channel (on ∙ address) in
        some_words r.setup.sizes.pages r.setup.sizes.page_words (pointer - 1 + 2) (omega (arith, l))

  pub before_send : (to : Option ℕ) (channel value pointer word : ℕ) → operation_of next.op ≡ tac.Do to Send (channel ∷ value ∷ [])
      → frame_word can.ready.is_next.w channel ≡ pointer → frame_word can.ready.is_next.w value ≡ word → IsBeforeSend r.setup c pointer word
  before_send to channel value pointer word is on same = record {
    to = to;
    from = channel;
    sent = value;
    removes = (code_is to Send channel (value ∷ []) is).0;
    here = here_do to Send channel (value ∷ []) is;
    on = on;
    word = same;
  }

  pub before_receive : (to : Option ℕ) (channel pointer : ℕ) → operation_of next.op ≡ tac.Do to Recv (channel ∷ [])
      → frame_word can.ready.is_next.w channel ≡ pointer → IsBeforeReceive r.setup c pointer
  before_receive to channel pointer is on = record {
    to = to;
    from = channel;
    removes = (code_is to Recv channel [] is).0;
    here = here_do to Recv channel [] is;
    on = on;
  }

  pub before_close : (to : Option ℕ) (channel pointer : ℕ) → operation_of next.op ≡ tac.Do to Close (channel ∷ [])
      → frame_word can.ready.is_next.w channel ≡ pointer → IsBeforeClose r.setup c pointer
  before_close to channel pointer is on = record {
    to = to;
    from = channel;
    removes = (code_is to Close channel [] is).0;
    here = here_do to Close channel [] is;
    on = on;
  }

-- ---- with an offer

pub head_is : (v w : WordFrame) (vs ws : List WordFrame) → v ∷ vs ≡ w ∷ ws → v ≡ w
head_is v w vs ws e = cc

module _ (r : Run) (a : Actor) (s : IsActorOf r a) (at : ℕ) (offers : a.body.side ≡ Offering at) where
  abbrev g : ℕ
  g = number_of a.seat.me

  pub posted : IsOfferAt at (now r.setup a).side (now r.setup a).frame.holder.offer
  posted = offer_at a.body.side at (now r.setup a).side (now r.setup a).frame.holder.offer offers s.shows.side

  -- it makes no local steps
  pub offers_at_once : a.behind ≡ 0
  offers_at_once = by a.behind refl
    where
      by : (q : ℕ) → a.behind ≡ q → a.behind ≡ 0
      by zero e = e
      by (suc q) e =
          let quiet = subst (λ n. SettlesBy r.setup g n (mine r.setup a.seat.me)) e s.settles in
          let kept : (now r.setup a).side ≡ (mine r.setup a.seat.me).side = (settled_kept r.setup g a.behind (mine r.setup a.seat.me)).side in
          let nowhere = ap (λ (k : SideRec). k.post) (kept ∙ quiet.0.rests) in
          absurd (let same = sym posted.post ∙ nowhere in cc same)

  abbrev pub at_send : OffersAt r.setup (now r.setup a) at
  at_send = offer_lies r.setup g (now r.setup a) s.possible at posted.post

  pub offer_inside : at + 3 ≤ all_words (layout r.setup)
  offer_inside =
      let t = pages_in_table r.setup at_send.address 3 at_send.lies in
      let is = at_send.is in
      omega (arith, t, is)

  -- the same of the record that its seat has
  pub mine_is : now r.setup a ≡ mine r.setup a.seat.me
  mine_is = now_at_once r.setup a offers_at_once

  pub mine_free : (mine r.setup a.seat.me).side.hold ≡ Free
  mine_free = subst (λ (c : Record). c.side.hold ≡ Free) mine_is posted.free

  pub mine_posted : (mine r.setup a.seat.me).side.post ≡ sides.Offering at
  mine_posted = subst (λ (c : Record). c.side.post ≡ sides.Offering at) mine_is posted.post

  pub mine_at_send : IsAtSend r.setup (mine r.setup a.seat.me)
  mine_at_send = subst (IsAtSend r.setup) mine_is at_send.send

  -- its next instruction is the send
  pub offers_at_do : (next : Next) → IsNextOf r.program.code (frames_of_body a.body) next → IsDo (operation_of next.op)
  offers_at_do next n =
      let x = at_send.send in
      let both : x.w ∷ x.ws ≡ n.w ∷ n.ws = sym x.frames ∙ (s.shows.frames ∙ n.are) in
      let cur : current r.program.code (bare x.w) ≡ Some n.instr =
      ap (λ w. current r.program.code (bare w)) (head_is x.w n.w x.ws n.ws both) ∙ current_is r.program.code (frames_of_body a.body) next n in
      let instr = same_Some x.instr n.instr (sym x.cur ∙ (ap (λ code. current code (bare x.w)) s.shows.code ∙ cur)) in
      (x.to, Send, x.from, sym n.op ∙ ap erased_op (ap (λ (y : CodeInstr). y.op) (sym instr) ∙ x.is))

  -- it owes nothing
  pub offers_owe_nothing : a.body.queue.duties ≡ []
  offers_owe_nothing = first_empty a.body.queue.duties _ (sym s.shows.owes ∙ none (offers_known r.setup g (now r.setup a) s.possible))
    where
      first_empty : (xs ys : List Duty) → xs ++ ys ≡ [] → xs ≡ []
      first_empty [] ys e = refl
      first_empty (x ∷ xs) ys e = cc e

      none : ((now r.setup a).frame.holder.offer ≡ NoOffer)
          ⊎ (((now r.setup a).frame.holder.offer ≡ Standing 0) × ((now r.setup a).frame.holder.duties ≡ []) × IsAtSend r.setup (now r.setup a))
          → (now r.setup a).frame.holder.duties ≡ []
      none (inl free) = absurd (let e = sym free ∙ posted.offer in cc e)
      none (inr t) = t.1

-- ---- accesses count nothing else

pub record SameCounts (q r : ClockRec) : Type 0 where
  pub prints : r.prints ≡ q.prints
  pub first : r.first ≡ q.first
  pub children : r.children ≡ q.children
  pub refused : r.refused ≡ q.refused
  pub share : r.share ≡ q.share
  pub owed : r.owed ≡ q.owed

pub accessed_same : (k : ℕ) (q : ClockRec) → SameCounts q (accessed_by k q)
accessed_same zero q = record { prints = refl; first = refl; children = refl; refused = refl; share = refl; owed = refl }
accessed_same (suc k) q =
    let m = accessed_same k q in
    record { prints = m.prints; first = m.first; children = m.children; refused = m.refused; share = m.share; owed = m.owed }

-- the body still shows the record after accesses that have found out something about its channel
pub shows_offering : (T : Setup) (p : CompactProgram) (b : Body) (c : Record) (k : ℕ) (side : SideRec) (at : ℕ) → b.side ≡ Offering at
    → BodyShows T p b c → side.hold ≡ Free → side.post ≡ sides.Offering at → BodyShows T p b (waited k c side)
shows_offering T p b c k side at offers shows free post =
    let q = offer_at b.side at c.side c.frame.holder.offer offers shows.side in
    let m = accessed_same k c.clock in
    record {
      code = shows.code;
      belongs = shows.belongs;
      frames = shows.frames;
      holds = shows.holds;
      reserved = shows.reserved;
      owes = shows.owes;
      side = subst (λ (x : Side). SideShows x side c.frame.holder.offer) (sym offers) (free, post, q.offer);
      calm = record { make = shows.calm.make; claim = shows.calm.claim; give = shows.calm.give; none = m.owed ∙ shows.calm.none };
      share = m.share ∙ shows.share;
      prints = ap length m.prints ∙ shows.prints;
      refused = m.refused ∙ shows.refused;
    }
