-- The store that commits an offer, a meeting or an acknowledgement. The meeting is the hard one: the receiver's access moves two goroutines
-- in the state. The word that it has loaded is the sender's, since the image of channels has the sender at its send, with its
-- value in the cell.
use Rattle.std.proofs.Common.{◌≡◌, ◌⊎◌, ℕ, ◌+◌, ◌-◌, ◌≤◌, List, [], ◌∷◌, Option, Some, None, length, map, slice_get, slice_set, refl, ap, sym, subst, ◌∙◌, inl, inr, arith, Contains}
use Rattle.std.proofs.lemmas.Option.{same_Some}
use Rattle.rgo_sound.specs.Typed.declared.actions.Action.TheVariants.{Recv, Send}
use Rattle.rgo_sound.specs.Memory.declared.values.Value.{Value}
use Rattle.rgo_sound.specs.Memory.declared.values.Value.TheVariants as value
use Rattle.rgo_sound.specs.Machine.Limits.{deepest}
use Rattle.rgo_sound.specs.Machine.declared.picks.Pick.TheVariants.{Meet}
use Rattle.rgo_sound.specs.Tac.Flow.{reads}
use Rattle.rgo_sound.specs.Tac.Frames.{TacFrame, value_at, operand_values}
use Rattle.rgo_sound.specs.Tac.Steps.{destination_type}
use Rattle.rgo_sound.specs.Typed.declared.types.Type.{«Type»}
use Rattle.rgo_sound.specs.WellFormed.TypeRules.{chan_of}
use Rattle.rgo_sound.specs.Code.Code.{CodeInstr, CodeOp}
use Rattle.rgo_sound.specs.Code.Erasure.{erased, erased_fn, erased_op}
use Rattle.rgo_sound.specs.Code.Types.{DoFits}
use Rattle.rgo_sound.specs.RegionMachine.Duties.{attended}
use Rattle.rgo_sound.specs.RegionMachine.Machine.{Acknowledge, Instruct, MakeOffer}
use Rattle.rgo_sound.specs.RegionMachine.Owed.{current}
use Rattle.rgo_sound.specs.RegionMachine.States.{Holder, NoOffer, RegionState, Standing, frames_in}
use Rattle.rgo_sound.proofs.Places.{contains_here, contains_there, length_set, head_is}
use Rattle.rgo_sound.proofs.Progress.{frames_some}
use Rattle.rgo_sound.proofs.types.Actions.{same_chan}
use Rattle.rgo_sound.specs.Offers.{OfferFits, StandsAtSend}
use Rattle.rgo_sound.specs.Tally.{no_share}
use Rattle.rgo_sound.specs.Types.{HasKind, HaveKinds}
use Rattle.rgo_core_channels.specs.After.{after_meeting}
use Rattle.rgo_core_channels.specs.Controls.{closed_of, count_of}
use Rattle.rgo_core_channels.specs.Moments.{Gains}
use Rattle.rgo_core_channels.specs.Records.{Locked, Offering, Read, ChannelRec as SideRec, Sized, Wrote, at_rest, offering_record}
use Rattle.rgo_core_channels.specs.Standing.{Next}
use Rattle.rgo_core_channels.proofs.Meetings.{acknowledge_is, meet_is, offer_is}
use Rattle.rgo_core_frames.specs.steps.Actions.{after_action}
use Rattle.rgo_core_frames.specs.Fits.{RecordsFit, RecordFits, IsPast, IsShown}
use Rattle.rgo_core_frames.specs.goroutines.Meetings.{acknowledged, offering as frame_offering}
use Rattle.rgo_core_frames.specs.shown.Variables.{FramesShow}
use Rattle.rgo_core_frames.specs.shown.WordFrames.{WordFrame, frame_word as word_of}
use Rattle.rgo_core_frames.specs.shown.Words.{Shows}
use Rattle.rgo_core_frames.proofs.goroutines.Offering.{acknowledge_law, meet_law, offer_law}
use Rattle.rgo_core_frames.proofs.shown.Showing.{reads_show}
use Rattle.rgo_core_frames.proofs.Standing.{reads_stand}
use Rattle.rgo_core_memory.specs.Accesses.{Before}
use Rattle.rgo_core_memory.specs.Encoding.{address}
use Rattle.rgo_core_memory.specs.Image.{StateImage}
use Rattle.rgo_core_memory.proofs.image.Quiets.{quiet_keeps}
use Rattle.rgo_core_memory.proofs.image.Steadies.{map_back}
use Rattle.rgo_core_memory.proofs.image.Stepped.{map_get}
use Rattle.rgo_core.specs.ties.AtChannels.{Operates, commits}
use Rattle.rgo_core.specs.ties.Bounds.{Points, target_type}
use Rattle.rgo_core.specs.moves.Commits.{AcknowledgeMove, IsAtSend, MeetMove, OfferMove, Receives, acknowledges, offers}
use Rattle.rgo_core.specs.Core.{Situation, Setup, layout}
use Rattle.rgo_core.specs.Records.{Record, counted, frame_of, memory_of, side_of, steps_of}
use Rattle.rgo_core.specs.Steps.{MakesQuietStep}
use Rattle.rgo_core.proofs.channel_steps.AtChannels.{Reaches, here, calm, next, object, place_is, points_to, reached, reaches, same_operands, standing_or_taken}
use Rattle.rgo_core.proofs.channel_steps.Moves.{above, control_at, high, written}
use Rattle.rgo_core.proofs.channel_steps.Commits.{as_shallow, sent_is, value_sent}
use Rattle.rgo_core.proofs.goroutines.Counting.{instructed_counts, plus_none}
use Rattle.rgo_core.proofs.image.Bounds.{LeadsToLive, leads_in, typed_at}
use Rattle.rgo_core.proofs.image.Encodings.{OperandsFit, operands_fit, word_is}
use Rattle.rgo_core.proofs.new_objects.MakesObject.{type_alike}
use Rattle.rgo_core.proofs.image.Parts.{adds_of, image_with, memory_stays, shallow}
use Rattle.rgo_core.proofs.image.Standing.{frames_here, side_at}
use Rattle.rgo_core.specs.ties.Moments.{moment}
use Rattle.rgo_core.proofs.accesses.Links.{CountsOne, IsElsewhere, all_kept, as_much, at_send, links_beside, makes_none, one_later, sends_none}
use Rattle.rgo_core.proofs.steps.Lift.{moves_by}

module _ {T : Setup} {g : ℕ} {c : Record} (x : Situation T g c) where
  -- the control of its channel is stored, at its position in memory
  control_written : {control : ℕ} → Reaches x control → (w : ℕ)
      → StateImage (layout T) (slice_set x.words control w) (map memory_of x.recs) x.s x.core.image.places
  control_written r w =
      subst (λ (i : ℕ). StateImage (layout T) (slice_set x.words i w) (map memory_of x.recs) x.s x.core.image.places)
      (control_at x r.object r.chan r.on ∙ r.place_is)
      (written x r.object r.chan r.on 0 w (omega arith) refl)

-- ---- an offer

module _ {T : Setup} {g : ℕ} {c : Record} (x : Situation T g c) {to : Option ℕ} {sent at : ℕ} (a : Operates T c to Send (sent ∷ []) at)
    (n : ℕ) (hold : c.side.hold ≡ Wrote at n 0 (word_of a.here.w sent)) (sizing : c.side.size ≡ Sized at 0)
    (shut : closed_of n ≡ 0) (idle : count_of n ≡ 0) where
  abbrev h : Holder
  h = record (next x a).holder { offer = Standing (object x a) }

  abbrev t : RegionState
  t = attended x.s g (record (next x a).holder { offer = Standing (object x a) })

  offer_does : MakesQuietStep x (slice_set x.words at (n + 4)) (offers c at)
  offer_does =
      let p = sym (place_is x a) in
      let L = offer_is (moment x) g c.side (side_at x) (object x a) n (word_of a.here.w sent) (value_sent x a) (next x a)
      (hold ∙ ap (λ j. Wrote j n 0 (word_of a.here.w sent)) p) (sent_is x a) (calm x a.here)
      (sizing ∙ ap (λ j. Sized j 0) p) shut idle in
      let G = subst (λ (j : ℕ). Gains (moment x) g j (n + 4) (offering_record j) (MakeOffer g) t) (place_is x a) L.2 in
      let F = offer_law (here x a) to a.channel sent a.removes (object x a) a.here.is (points_to x a).is L.0 L.1 in
      record {
        goes = record {
          event = MakeOffer g;
          next = t;
          steps = G.steps;
          room = refl;
          gain = no_share;
          adds = adds_of x.s t 0 0 refl refl (omega arith) (omega arith) refl;
          counted = sym (plus_none (counted c.clock));
          shallow = shallow x;
          image = image_with x (slice_set x.words at (n + 4)) (offers c at) t x.core.image.places G.at
              x.core.image.addresses x.core.image.addressed
              (subst (λ (u : RegionState). RecordsFit T.code x.core.image.places.slot x.core.image.addresses u
              (slice_set (map frame_of x.recs) g (frame_offering c.frame)))
              (same_Some F.state t (sym F.steps ∙ G.steps)) F.fit)
              (memory_stays x (slice_set x.words at (n + 4)) t x.core.image.places
              (quiet_keeps T.code (layout T) (slice_set x.words at (n + 4)) (map memory_of x.recs) x.s t (MakeOffer g)
              x.core.image.places (control_written x (reached x a) (n + 4)) G.steps tt))
              G.channels;
          links = links_beside x at (n + 4) (map memory_of x.recs) (control_written x (reached x a) (n + 4)) (above x (reached x a)) (offers c at)
              (all_kept refl refl refl refl)
              (IsElsewhere (as_much (steps_of c)) (at_send T.code c a.here.w a.here.ws a.here.frames a.here.instr a.here.cur to (a.channel ∷ sent ∷ [])
              a.removes a.here.is)
              (sends_none T.code c a.here.w a.here.ws a.here.frames a.here.instr a.here.cur to (a.channel ∷ sent ∷ []) a.removes a.here.is (layout T)
              x.words (x.core.links g c x.is_c)));
        };
        mark = refl;
        printed = refl;
        same = record { prints = refl; first = refl; children = refl; refused = refl };
      }

pub offer_move : OfferMove
offer_move T g c to sent at n a hold sizing shut idle =
    moves_by T g c at (λ w. n + 4) (λ w. offers c at) (λ w d. d ≡ offers c at) (λ w. refl) (λ x. high x (reached x a))
    (λ x small. inl (offer_does x a n hold sizing shut idle)) (λ x. refl)

-- ---- a meeting

second : (u u' v v' : Value) → ◌≡◌ {A = List Value} (u ∷ v ∷ []) (u' ∷ v' ∷ []) → v ≡ v'
second u u' v v' e = cc

module _ {T : Setup} {g : ℕ} {c : Record} (x : Situation T g c) (s o : ℕ) (v : Value)
    (sends : Next T.code x.s s Send (value.Object o ∷ v ∷ [])) (stands : sends.holder.offer ≡ Standing o)
    (y : SideRec) (its : slice_get (map side_of x.recs) s ≡ Some y) where
  module _ (q : StandsAtSend T.code x.s.plain s o) where
    frame_is : sends.before.frame ≡ q.frame
    frame_is = head_is sends.before.frame q.frame sends.before.callers q.callers (sym (ap frames_in sends.before.at) ∙ q.at)

    from_is : sends.before.from ≡ q.channel ∷ q.sent ∷ []
    from_is =
        let i : sends.before.instr ≡ q.instr
        = same_Some sends.before.instr q.instr (sym sends.before.cur ∙ (ap (current T.code) frame_is ∙ q.cur)) in
        same_operands sends.before.to q.to sends.before.from (q.channel ∷ q.sent ∷ []) sends.before.removes q.removes
        (sym sends.before.is ∙ (ap (λ (j : CodeInstr). j.op) i ∙ q.is))

    sent_is_v : v ≡ value_at q.frame q.sent
    sent_is_v = second (value.Object o) (value_at q.frame q.channel) v (value_at q.frame q.sent)
        (sym sends.before.operands
        ∙ (ap (λ (w : TacFrame). operand_values w sends.before.from) frame_is ∙ ap (operand_values q.frame) from_is))

    -- the sender's record is before its send, whose word is the value's
    sender_shows : Shows x.core.image.addresses (value_at q.frame q.sent) ((moment x).encode v)
    sender_shows = by F.fits
      where
        r : (d : Record) × (slice_get x.recs s ≡ Some d) × (side_of d ≡ y)
        r = map_back side_of x.recs s y its

        F : RecordFits T.code x.core.image.places.slot x.core.image.addresses x.s s r.0.frame
        F = x.core.image.frames.each s r.0.frame (map_get frame_of x.recs s r.0 r.1)

        frames_are : F.frames ≡ q.frame ∷ q.callers
        frames_are = sym (ap frames_in F.at) ∙ q.at

        standing : F.h.offer ≡ Standing o
        standing = ap (λ (h : Holder). h.offer) (same_Some F.h sends.holder (sym F.there ∙ sends.there)) ∙ stands

        in_words : (ws : List WordFrame) → FramesShow T.code x.core.image.addresses (q.frame ∷ q.callers) ws
            → Shows x.core.image.addresses (value_at q.frame q.sent) ((moment x).encode v)
        in_words [] h = absurd h
        in_words (w ∷ ws) h =
            let sh = reads_show x.core.image.addresses T.code q.frame w q.instr q.cur h.0 q.sent
            (subst (λ (o : CodeOp). Contains (reads (erased_op o)) q.sent) (sym q.is)
            (contains_there q.channel (q.sent ∷ []) q.sent (contains_here q.sent []))) in
            subst (Shows x.core.image.addresses (value_at q.frame q.sent))
            (sym (word_is x.core.image.addresses (address (layout T) x.core.image.places.start) x.core.image.addressed
            (value_at q.frame q.sent) (word_of w q.sent) sh) ∙ ap (moment x).encode (sym sent_is_v)) sh

        by : IsShown T.code x.core.image.places.slot x.core.image.addresses F.frames F.h r.0.frame
            ⊎ IsPast T.code x.core.image.places.slot x.core.image.addresses F.frames F.h r.0.frame
            → Shows x.core.image.addresses (value_at q.frame q.sent) ((moment x).encode v)
        by (inl shown) =
            in_words r.0.frame.frames (subst (λ fs. FramesShow T.code x.core.image.addresses fs r.0.frame.frames) frames_are
            shown.shown)
        by (inr past) = absurd (standing_or_taken o past.offer (sym standing ∙ ap (λ (h : Holder). h.offer) past.holder_is))

    -- what is sent is in a live region
    sent_live : LeadsToLive x.s v
    sent_live p e =
        reads_stand T.code x.s s sends.holder q.frame q.callers q.instr x.core.sound.checked x.core.sound.good.good sends.there
        (frames_some (slice_get x.s.plain.goroutines s) q.frame q.callers q.at) q.cur q.sent p
        (subst (λ (o : CodeOp). Contains (reads (erased_op o)) q.sent) (sym q.is)
        (contains_there q.channel (q.sent ∷ []) q.sent (contains_here q.sent [])))
        (sym sent_is_v ∙ e)

  -- the sender is before its send
  before_send : StandsAtSend T.code x.s.plain s o
  before_send =
      (subst (OfferFits T.code x.s s sends.holder) stands (x.core.sound.good.offers.fits s sends.holder sends.there)).2

  abbrev kinds : List «Type»
  kinds = x.core.sound.good.good.typed.kinds

  -- the value that is sent has the type of the channel's elements
  sent_kind : (t : «Type») × (slice_get kinds o ≡ Some (chan_of t)) × HasKind kinds t v
  sent_kind = by sends.before.to F.fits
    where
      F : OperandsFit T.code x.s x.core.sound.good Send (value.Object o ∷ v ∷ []) sends.before.to sends.before.frame
      F = operands_fit T.code x.s x.core.sound.good x.core.sound.checked s Send (value.Object o ∷ v ∷ []) sends.before

      by : (q : Option ℕ) → DoFits (erased T.code) (erased_fn F.fn) q Send F.types
          → (t : «Type») × (slice_get kinds o ≡ Some (chan_of t)) × HasKind kinds t v
      by None fits =
          let h : HaveKinds kinds (chan_of fits.0 ∷ fits.0 ∷ []) (value.Object o ∷ v ∷ []) =
          subst (λ (l : List «Type»). HaveKinds kinds l (value.Object o ∷ v ∷ [])) fits.1 F.have in
          (fits.0, h.0.0, h.1.0)
      by (Some d) fits = absurd fits.2

  -- and so it points into the pages, by the type of its receiver's variable
  module _ {receiver : ℕ} (b : Before T.code x.s receiver Recv (value.Object o ∷ [])) (word : ℕ) (coded : (moment x).encode v ≡ word)
    where
      received_points : Points T (destination_type (erased T.code) b.frame b.to) word
      received_points = by b.to F.fits
        where
          F : OperandsFit T.code x.s x.core.sound.good Recv (value.Object o ∷ []) b.to b.frame
          F = operands_fit T.code x.s x.core.sound.good x.core.sound.checked receiver Recv (value.Object o ∷ []) b

          shows : Shows x.core.image.addresses v word
          shows = subst (Shows x.core.image.addresses v) coded
              (subst (λ (u : Value). Shows x.core.image.addresses u ((moment x).encode v)) (sym (sent_is_v before_send)) (sender_shows before_send))

          by : (q : Option ℕ) → DoFits (erased T.code) (erased_fn F.fn) q Recv F.types → Points T (destination_type (erased T.code) b.frame q) word
          by None fits = absurd fits
          by (Some d) fits =
              let h : HaveKinds kinds (chan_of fits.0 ∷ []) (value.Object o ∷ []) =
              subst (λ (l : List «Type»). HaveKinds kinds l (value.Object o ∷ [])) fits.2 F.have in
              let k = sent_kind in
              let same : k.0 ≡ fits.0 =
              same_chan k.0 fits.0 (same_Some (chan_of k.0) (chan_of fits.0) (sym k.1 ∙ h.0.0)) in
              subst (λ (ty : «Type»). Points T ty word) (same ∙ sym (typed_at T.code b.frame F.fn d fits.0 F.fn_is fits.1))
              (leads_in T x.words (map memory_of x.recs) x.s x.core.image.places x.core.image.memory x.core.image.addresses x.core.image.addressed
              kinds x.core.sound.good.good.typed.memory k.0 v word k.2 (sent_live before_send) shows)

module _ {T : Setup} {g : ℕ} {c : Record} (x : Situation T g c) {to : Option ℕ} {at : ℕ} (a : Operates T c to Recv [] at)
    (n word : ℕ) (hold : c.side.hold ≡ Read at n 0 word) (sizing : c.side.size ≡ Sized at 0)
    (shut : closed_of n ≡ 0) (one : count_of n ≡ 1) where
  meet_does : MakesQuietStep x (slice_set x.words at (n + 4)) (commits a word)
  meet_does =
      let p = sym (place_is x a) in
      let L = meet_is (moment x) g c.side (side_at x) (object x a) n word (next x a)
      (hold ∙ ap (λ j. Read j n 0 word) p) (calm x a.here) (sizing ∙ ap (λ j. Sized j 0) p) shut one in
      let t : RegionState = after_meeting (object x a) (next x a) L.2 L.1 in
      let G = subst (λ (j : ℕ). Gains (moment x) g j (n + 4) at_rest (Instruct (Meet g L.0)) t) (place_is x a) L.10 in
      let F = meet_law (here x a) L.0 to a.channel a.removes (object x a) word L.2.holder a.here.free a.here.is
      (points_to x a).is L.9 L.2.there L.4
      (λ q. subst (Shows x.core.image.addresses (value_at q.frame q.sent)) L.5
      (sender_shows x L.0 (object x a) L.1 L.2 L.4 L.6 L.7 q)) in
      record {
        goes = record {
          event = Instruct (Meet g L.0);
          next = t;
          steps = G.steps;
          room = refl;
          gain = record no_share { steps = 1; objects = 0 };
          adds = adds_of x.s t 1 0 refl refl refl (omega arith)
              (length_set (slice_set x.s.plain.goroutines g _) L.0 _ ∙ length_set x.s.plain.goroutines g _);
          counted = instructed_counts c.clock;
          shallow = as_shallow x a word;
          image = image_with x (slice_set x.words at (n + 4)) (commits a word) t x.core.image.places G.at
              x.core.image.addresses x.core.image.addressed
              (subst (λ (u : RegionState). RecordsFit T.code x.core.image.places.slot x.core.image.addresses u
              (slice_set (map frame_of x.recs) g (commits a word).frame))
              (same_Some F.state t (sym F.steps ∙ G.steps)) F.fit)
              (memory_stays x (slice_set x.words at (n + 4)) t x.core.image.places
              (quiet_keeps T.code (layout T) (slice_set x.words at (n + 4)) (map memory_of x.recs) x.s t
              (Instruct (Meet g L.0)) x.core.image.places (control_written x (reached x a) (n + 4)) G.steps tt))
              G.channels;
          links = links_beside x at (n + 4) (map memory_of x.recs) (control_written x (reached x a) (n + 4)) (above x (reached x a)) (commits a word)
              (all_kept refl refl refl refl) (CountsOne (one_later (steps_of c)) (makes_none x a.here refl));
        };
        mark = refl;
        printed = refl;
        same = record { prints = refl; first = refl; children = refl; refused = refl };
      }

  meet_points : Points T (target_type T a.here.w to) word
  meet_points =
      let p = sym (place_is x a) in
      let L = meet_is (moment x) g c.side (side_at x) (object x a) n word (next x a)
      (hold ∙ ap (λ j. Read j n 0 word) p) (calm x a.here) (sizing ∙ ap (λ j. Sized j 0) p) shut one in
      subst (λ (ty : «Type»). Points T ty word)
      (sym (type_alike (erased T.code) (here x a).before.frame a.here.w (here x a).before.newest.alike to))
      (received_points x L.0 (object x a) L.1 L.2 L.4 L.6 L.7 (next x a).before word L.5)

pub meet_move : MeetMove
meet_move T g c to at n word a hold sizing shut one =
    moves_by T g c at (λ w. n + 4) (λ w. commits a word) (λ w. Receives a word) (λ w. refl)
    (λ x. high x (reached x a)) (λ x small. inl (meet_does x a n word hold sizing shut one))
    (λ x. (refl, meet_points x a n word hold sizing shut one))

-- ---- an acknowledgement

module _ {T : Setup} {g : ℕ} {c : Record} (x : Situation T g c) (at n : ℕ) (a : IsAtSend T c) (post : c.side.post ≡ Offering at)
    (hold : c.side.hold ≡ Locked at n) (gone : count_of n ≡ 2) where
  acknowledge_does : MakesQuietStep x (slice_set x.words at (n - 8)) (acknowledges T c a)
  acknowledge_does =
      let L = acknowledge_is (moment x) g c.side (side_at x) at n post hold gone in
      let t : RegionState = attended x.s g (record L.1 { offer = NoOffer }) in
      let G = L.5 in
      let F = acknowledge_law (frames_here x) a.w a.ws a.instr a.to a.from a.removes L.0 L.1 L.3 L.4 a.frames a.cur a.is in
      record {
        goes = record {
          event = Acknowledge g;
          next = t;
          steps = G.steps;
          room = refl;
          gain = no_share;
          adds = adds_of x.s t 0 0 refl refl (omega arith) (omega arith) refl;
          counted = sym (plus_none (counted c.clock));
          shallow = subst (λ l. l ≤ deepest) (ap (λ l. length l) a.frames) (shallow x);
          image = image_with x (slice_set x.words at (n - 8)) (acknowledges T c a) t x.core.image.places G.at
              x.core.image.addresses x.core.image.addressed
              (subst (λ (u : RegionState). RecordsFit T.code x.core.image.places.slot x.core.image.addresses u
              (slice_set (map frame_of x.recs) g (acknowledged (after_action T.code c.frame a.w a.ws a.instr a.to 0))))
              (same_Some F.state t (sym F.steps ∙ G.steps)) F.fit)
              (memory_stays x (slice_set x.words at (n - 8)) t x.core.image.places
              (quiet_keeps T.code (layout T) (slice_set x.words at (n - 8)) (map memory_of x.recs) x.s t (Acknowledge g)
              x.core.image.places (control_written x (reaches x (inr post)) (n - 8)) G.steps tt))
              G.channels;
          links = links_beside x at (n - 8) (map memory_of x.recs) (control_written x (reaches x (inr post)) (n - 8)) (above x (reaches x (inr post)))
              (acknowledges T c a) (all_kept refl refl refl refl)
              (IsElsewhere (as_much (steps_of c)) (at_send T.code c a.w a.ws a.frames a.instr a.cur a.to a.from a.removes a.is)
              (sends_none T.code c a.w a.ws a.frames a.instr a.cur a.to a.from a.removes a.is (layout T) x.words (x.core.links g c x.is_c)));
        };
        mark = refl;
        printed = refl;
        same = record { prints = refl; first = refl; children = refl; refused = refl };
      }

pub acknowledge_move : AcknowledgeMove
acknowledge_move T g c at n a post hold gone =
    moves_by T g c at (λ w. n - 8) (λ w. acknowledges T c a) (λ w d. d ≡ acknowledges T c a) (λ w. refl)
    (λ x. high x (reaches x (inr post))) (λ x small. inl (acknowledge_does x at n a post hold gone)) (λ x. refl)
