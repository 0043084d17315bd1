-- A goroutine whose offer is at a channel: its record is before the send, and the words of the channel are in pages. The channel is live in
-- both cases: the sender is still at its send, or has not acknowledged.
use Rattle.std.proofs.Common.{◌≡◌, ◌⊎◌, inl, inr, ℕ, List, [], ◌∷◌, Option, Some, true≢false, refl, ap, sym, subst, ◌∙◌, arith, map}
use Rattle.std.proofs.lemmas.Option.{same_Some}
use Rattle.rgo_sound.specs.Code.Code.{CodeInstr, Do}
use Rattle.rgo_sound.specs.RegionMachine.Duties.{may_go}
use Rattle.rgo_sound.specs.RegionMachine.Owed.{current}
use Rattle.rgo_sound.specs.RegionMachine.States.{Holder}
use Rattle.rgo_sound.specs.Tac.Frames.{TacFrame}
use Rattle.rgo_sound.specs.Typed.declared.actions.Action.TheVariants.{Send}
use Rattle.rgo_core.specs.Channels.Channels.{Accepted, Calm, Chan, Offered, OfferOf, On, Phase, channel, holder_offer}
use Rattle.rgo_core.specs.Channels.Positions.{place_at}
use Rattle.rgo_core.specs.Channels.Records.{Offering}
use Rattle.rgo_core.specs.Frames.Fits.{RecordFits, IsPast, IsShown}
use Rattle.rgo_core.specs.Frames.shown.Variables.{FramesShow}
use Rattle.rgo_core.specs.Frames.shown.WordFrames.{WordFrame}
use Rattle.rgo_core.proofs.Frames.regions.Bookkeeping.{current_alike}
use Rattle.rgo_core.specs.Memory.Encoding.{address}
use Rattle.rgo_core.specs.moves.Commits.{IsAtSend}
use Rattle.rgo_core.specs.Core.{Situation, Setup, layout}
use Rattle.rgo_core.specs.Records.{Record, memory_of}
use Rattle.rgo_core.proofs.channel_steps.AtChannels.{standing_or_taken}
use Rattle.rgo_core.proofs.image.Bounds.{lies_in}
use Rattle.rgo_core.proofs.channel_steps.Leaving.{channel_stands}
use Rattle.rgo_core.proofs.image.Parts.{I}
use Rattle.rgo_core.proofs.image.Standing.{frame_at, side_at}
use Rattle.rgo_core_facts.specs.MemoryWords.{OfferLies}
use Rattle.rgo_core_facts.proofs.DataPages.{row_least}

module _ {T : Setup} {g : ℕ} {c : Record} (x : Situation T g c) where
  abbrev F : RecordFits T.code (I x).places.slot (I x).addresses x.s g c.frame
  F = (I x).frames.each g c.frame (frame_at x)

  -- a record that shows a frame before a send is before it
  before_send : (frame : TacFrame) (callers : List TacFrame) (instr : CodeInstr) (to : Option ℕ) (from removes : List ℕ)
      → current T.code frame ≡ Some instr → instr.op ≡ Do to Send from removes → (shown : List WordFrame) → c.frame.frames ≡ shown
      → FramesShow T.code (I x).addresses (frame ∷ callers) shown → IsAtSend T c
  before_send frame callers instr to from removes cur is [] e h = absurd h
  before_send frame callers instr to from removes cur is (w ∷ ws) e h = record {
    w = w;
    ws = ws;
    frames = e;
    instr = instr;
    cur = current_alike T.code frame w h.0.alike ∙ cur;
    to = to;
    from = from;
    removes = removes;
    is = is;
  }

  module _ (at : ℕ) (post : c.side.post ≡ Offering at) where
    abbrev there : (o : ℕ) × (k : Chan) × On x.s o k × (place_at (layout T) (I x).places o ≡ at) × OfferOf ((I x).at.phase o) g
    there = (I x).channels.posts g at c.side (side_at x) post

    offer_is : F.h.offer ≡ holder_offer there.0 ((I x).at.phase there.0)
    offer_is =
        let r = (I x).channels.offers there.0 g there.1 there.2 there.4 in
        ap (λ (h : Holder). h.offer) (same_Some F.h r.1 (sym F.there ∙ r.3)) ∙ r.5

    abbrev Shown : Type 0
    Shown = IsShown T.code (I x).places.slot (I x).addresses F.frames F.h c.frame

    abbrev Past : Type 0
    Past = IsPast T.code (I x).places.slot (I x).addresses F.frames F.h c.frame

    -- an offer that was not taken
    standing : (I x).at.phase there.0 ≡ Offered g → Shown → IsAtSend T c
    standing phase shown =
        let n = ((I x).channels.waits there.0 g there.1 there.2 phase).1 in
        before_send n.before.frame n.before.callers n.before.instr n.before.to n.before.from n.before.removes n.before.cur n.before.is
        c.frame.frames refl
        (subst (λ (fs : List TacFrame). FramesShow T.code (I x).addresses fs c.frame.frames)
        (same_Some F.frames (n.before.frame ∷ n.before.callers) (sym F.at ∙ n.before.at)) shown.shown)

    by : (p : Phase) → (I x).at.phase there.0 ≡ p → OfferOf p g → Shown ⊎ Past → IsAtSend T c
    by Calm e own f = absurd own
    by (Offered j) e own (inl shown) = standing (e ∙ ap Offered own) shown
    by (Offered j) e own (inr past) =
        absurd (standing_or_taken there.0 past.offer
        (sym (offer_is ∙ ap (holder_offer there.0) e) ∙ ap (λ (h : Holder). h.offer) past.holder_is))
    by (Accepted j) e own (inl shown) = absurd (true≢false (sym shown.calm ∙ ap may_go (offer_is ∙ ap (holder_offer there.0) e)))
    by (Accepted j) e own (inr past) =
        before_send past.frame past.callers past.instr past.to (past.channel ∷ past.sent ∷ []) past.removes past.at past.is c.frame.frames refl
        past.shown.shown

    send : IsAtSend T c
    send = by ((I x).at.phase there.0) refl there.4 F.fits

pub offer_lies : OfferLies
offer_lies T g c x at post =
    let q = there x at post in
    let r = channel_stands x.s q.0 q.1 q.2 in
    let l = lies_in T x.words (map memory_of x.recs) x.s (I x).places (I x).memory q.0 (channel q.1) r.0 r.1 in
    record {
      send = send x at post;
      address = address (layout T) (I x).places.start q.0;
      is = sym q.3;
      lies = let m = row_least T.sizes.page_words (channel q.1) (omega arith) in omega (arith, l, m);
    }
