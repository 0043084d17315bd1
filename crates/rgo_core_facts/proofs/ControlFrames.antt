-- Where the frames of a goroutine are in the code. The frames of the state are there by region safety, and those of the record are at the
-- same places, also of a sender whose offer was taken (`ControlView`).
use Rattle.std.proofs.Common.{◌≡◌, ◌⊎◌, inl, inr, ⊎_elim, true, true≢false, ◌∙◌, ℕ, zero, suc, List, [], ◌∷◌, Option, Some, None, is_some, option_map, option_and_then, slice_get, refl, sym, ap, subst}
use Rattle.std.proofs.lemmas.Option.{same_Some}
use Rattle.rgo_sound.specs.Code.Checked.{IsChecked}
use Rattle.rgo_sound.specs.Code.Code.{Branch, Call, Code, CodeFn, CodeInstr, CodeOp, Do, Go, Jump, Print, Return}
use Rattle.rgo_core.proofs.Frames.regions.Bookkeeping.{current_alike}
use Rattle.rgo_core.specs.Frames.steps.Local.{local_by, local_frames, local_instr, local_op, word_returned}
use Rattle.rgo_core.specs.Frames.Records.{after_op}
use Rattle.rgo_core.specs.Frames.shown.Variables.{CallersShow, FramesShow, IsAlike}
use Rattle.rgo_core.specs.Frames.regions.Slots.{nameless, slot_duties}
use Rattle.rgo_core.specs.Frames.shown.WordFrames.{WordFrame, bare, frame_word}
use Rattle.rgo_sound.specs.RegionMachine.Duties.{may_go}
use Rattle.rgo_sound.specs.RegionMachine.Owed.{current, current_in, code_function}
use Rattle.rgo_sound.specs.RegionMachine.States.{Holder, NoOffer, Offer, Standing, Taken, frames_in}
use Rattle.rgo_sound.specs.Offers.{OfferFits, StandsAtSend}
use Rattle.rgo_sound.specs.Types.{CalledFrom, IsCallOf}
use Rattle.rgo_sound.specs.Tac.Frames.{TacFrame}
use Rattle.rgo_sound.specs.Typed.declared.actions.Action.TheVariants.{Send}
use Rattle.rgo_core.specs.moves.Commits.{IsAtSend}
use Rattle.rgo_core.specs.Core.{Situation, Setup}
use Rattle.rgo_core.specs.Records.{Record}
use Rattle.rgo_core.proofs.image.Parts.{I}
use Rattle.rgo_core_facts.specs.ControlCode.{HasCallee}
use Rattle.rgo_core_facts.specs.ControlFrames.{CallersWait, FramesInCode, IsCalledBy, IsInCode, LastReturn, NextKnown, OffersKnown}
use Rattle.rgo_core_facts.proofs.ControlCode.{callees_exist}
use Rattle.rgo_core_facts.proofs.ControlView.{ArePlaced, HasNewestInstr, IsPlaced, Past, Shown, fitted, seen}

no_element : {X : Type 0} (y : X) → ◌≡◌ {A = Option X} None (Some y) → ⊥
no_element y e = cc

module _ (code : Code) (addresses : List ℕ) where
  in_code : (frame : TacFrame) (w : WordFrame) → IsAlike frame w → IsPlaced code frame → (instr : CodeInstr)
      → current code frame ≡ Some instr → IsInCode code w
  in_code frame w alike p instr cur =
      let f : code_function code w.function ≡ Some p.0 = ap (code_function code) alike.function ∙ p.1 in
      let now : current code (bare w) ≡ Some instr = current_alike code frame w alike ∙ cur in
      record {
        fn = p.0;
        in_fn = f;
        instr = instr;
        at = sym (ap (λ o. current_in o w.next) f) ∙ now;
        cur = now;
        words = alike.as_many ∙ p.2;
      }

  callers_in_code : (frame : TacFrame) (callers : List TacFrame) (ws : List WordFrame) → CalledFrom code frame callers → ArePlaced code callers
      → CallersShow code addresses callers ws → (i : ℕ) (w : WordFrame) → slice_get ws i ≡ Some w → IsInCode code w
  callers_in_code frame [] [] from p sh i w e = absurd (no_element w e)
  callers_in_code frame [] (u ∷ ws) from p sh i w e = absurd sh
  callers_in_code frame (caller ∷ callers) [] from p sh i w e = absurd sh
  callers_in_code frame (caller ∷ callers) (u ∷ ws) from p sh zero w e =
      subst (IsInCode code) (same_Some u w e) (in_code caller u sh.0.alike p.0 from.2 from.3)
  callers_in_code frame (caller ∷ callers) (u ∷ ws) from p sh (suc i) w e = callers_in_code caller callers ws p.1 p.2 sh.1 i w e

  frames_in_code : (frames : List TacFrame) (ws : List WordFrame) → ArePlaced code frames → HasNewestInstr code frames
      → FramesShow code addresses frames ws → (i : ℕ) (w : WordFrame) → slice_get ws i ≡ Some w → IsInCode code w
  frames_in_code [] [] p n sh i w e = absurd (no_element w e)
  frames_in_code [] (u ∷ ws) p n sh i w e = absurd sh
  frames_in_code (frame ∷ callers) [] p n sh i w e = absurd sh
  frames_in_code (frame ∷ callers) (u ∷ ws) p n sh zero w e =
      subst (IsInCode code) (same_Some u w e) (in_code frame u sh.0.alike p.0 n.0 n.1)
  frames_in_code (frame ∷ callers) (u ∷ ws) p n sh (suc i) w e = callers_in_code frame callers ws p.1 p.2 sh.1 i w e

  -- ---- a caller

  waits_at : IsChecked code → (w caller : WordFrame) (fn cfn : CodeFn) (call : CodeInstr) → code_function code w.function ≡ Some fn
      → code_function code caller.function ≡ Some cfn → slice_get cfn.body caller.next ≡ Some call → current code (bare caller) ≡ Some call
      → (op : CodeOp) → call.op ≡ op → IsCallOf code op fn → IsCalledBy code w caller
  waits_at checked w caller fn cfn call known cknown there cur (Call to n from passes protects removes) is calls =
      let c = subst (HasCallee code) is (callees_exist code caller.function caller.next cfn call checked cknown there) in
      let same : c.callee ≡ fn = same_Some c.callee fn (sym c.found ∙ calls) in
      record {
        fn = fn;
        in_fn = known;
        call = call;
        cur = cur;
        to = to;
        n = n;
        from = from;
        passes = passes;
        protects = protects;
        removes = removes;
        is = is;
        calls = calls;
        result = c.result ∙ ap (λ (f : CodeFn). is_some f.result) same;
      }
  waits_at checked w caller fn cfn call known cknown there cur (Do to action from removes) is calls = absurd calls
  waits_at checked w caller fn cfn call known cknown there cur (Go n from passes removes) is calls = absurd calls
  waits_at checked w caller fn cfn call known cknown there cur (Print pieces from removes) is calls = absurd calls
  waits_at checked w caller fn cfn call known cknown there cur (Jump target removes) is calls = absurd calls
  waits_at checked w caller fn cfn call known cknown there cur (Branch test target removes other otherwise) is calls = absurd calls
  waits_at checked w caller fn cfn call known cknown there cur (Return value) is calls = absurd calls

  caller_waits : IsChecked code → (frames : List TacFrame) (w caller : WordFrame) (ws : List WordFrame) → ArePlaced code frames
      → FramesShow code addresses frames (w ∷ caller ∷ ws) → IsCalledBy code w caller
  unfolding in_code
  caller_waits checked [] w caller ws p sh = absurd sh
  caller_waits checked (frame ∷ []) w caller ws p sh = absurd sh.1
  caller_waits checked (frame ∷ from ∷ callers) w caller ws p sh =
      let called = p.1 in
      let i = in_code from caller sh.1.0.alike p.2.0 called.2 called.3 in
      waits_at checked w caller called.0 i.fn called.2 (ap (code_function code) sh.0.alike.function ∙ called.1) i.in_fn i.at i.cur
      called.2.op refl called.4

pub all_in_code : FramesInCode
all_in_code T g c x i w e = let v = seen x in frames_in_code T.code (I x).addresses v.frames c.frame.frames v.placed v.newest v.shown i w e

pub callers_wait : CallersWait
callers_wait T g c x w caller ws is = let v = seen x in
    caller_waits T.code (I x).addresses x.core.sound.checked v.frames w caller ws v.placed
    (subst (FramesShow T.code (I x).addresses v.frames) is v.shown)

pub next_known : NextKnown
next_known T g c x w ws is none free =
    let i = all_in_code T g c x 0 w (ap (λ (l : List WordFrame). slice_get l 0) is) in
    record {
      op = i.instr.op;
      here = record {
        w = w;
        ws = ws;
        frames = is;
        fn = i.fn;
        in_fn = i.in_fn;
        instr = i.instr;
        cur = i.cur;
        is = refl;
        none = none;
        free = free;
      };
      newest = refl;
      callers = refl;
      at = i.at;
      words = i.words;
    }

-- ---- offers

-- frames before a send, in words
at_send : (T : Setup) (c : Record) (addresses : List ℕ) (frame : TacFrame) (callers : List TacFrame) (ws : List WordFrame) (instr : CodeInstr)
    (to : Option ℕ) (from removes : List ℕ) → current T.code frame ≡ Some instr
    → instr.op ≡ Do to Send from removes
    → c.frame.frames ≡ ws → FramesShow T.code addresses (frame ∷ callers) ws → IsAtSend T c
at_send T c addresses frame callers [] instr to from removes cur is e sh = absurd sh
at_send T c addresses frame callers (w ∷ ws) instr to from removes cur is e sh = record {
  w = w;
  ws = ws;
  frames = e;
  instr = instr;
  cur = current_alike T.code frame w sh.0.alike ∙ cur;
  to = to;
  from = from;
  removes = removes;
  is = is;
}

module _ {T : Setup} {g : ℕ} {c : Record} (x : Situation T g c) where
  abbrev Known : Type 0
  Known = (c.frame.holder.offer ≡ NoOffer)
      ⊎ ((c.frame.holder.offer ≡ Standing 0) × (c.frame.holder.duties ≡ []) × IsAtSend T c)

  offer_shown : Shown x (fitted x).frames (fitted x).h → Known
  offer_shown y = by (fitted x).h.offer refl y.calm (x.core.sound.good.offers.fits g (fitted x).h (fitted x).there)
    where
      is : c.frame.holder.offer ≡ nameless (fitted x).h.offer
      is = ap (λ (k : Holder). k.offer) y.holder

      by : (o : Offer) → (fitted x).h.offer ≡ o → may_go (fitted x).h.offer ≡ true
          → OfferFits T.code x.s g (fitted x).h (fitted x).h.offer → Known
      by NoOffer e calm fits = inl (is ∙ ap nameless e)
      by (Taken o) e calm fits = absurd (true≢false (sym calm ∙ ap may_go e))
      by (Standing o) e calm fits =
          let f = subst (OfferFits T.code x.s g (fitted x).h) e fits in
          let s : StandsAtSend T.code x.s.plain g o = f.2 in
          let now : (fitted x).frames ≡ s.frame ∷ s.callers = sym (ap frames_in (fitted x).at) ∙ s.at in
          inr (
            is ∙ ap nameless e,
            ap (λ (k : Holder). k.duties) y.holder ∙ ap (slot_duties (I x).places.slot) f.0,
            at_send T c (I x).addresses s.frame s.callers c.frame.frames s.instr s.to (s.channel ∷ s.sent ∷ []) s.removes s.cur s.is refl
                (subst (λ (fs : List TacFrame). FramesShow T.code (I x).addresses fs c.frame.frames) now y.shown),
          )

  offer_past : Past x (fitted x).frames (fitted x).h → Known
  offer_past y = inr (
    ap (λ (k : Holder). k.offer) y.shown.holder ∙ ap nameless y.stood,
    ap (λ (k : Holder). k.duties) y.shown.holder ∙ ap (slot_duties (I x).places.slot) y.owes_nothing,
    at_send T c (I x).addresses y.frame y.callers c.frame.frames y.instr y.to (y.channel ∷ y.sent ∷ []) y.removes y.at y.is refl
        y.shown.shown,
  )

pub offers_known : OffersKnown
offers_known T g c x = ⊎_elim (offer_shown x) (offer_past x) (fitted x).fits

-- ---- the last return

pub last_return : LastReturn
last_return T c value a alone = (
  after_op T.code c.frame.holder a.w a.ws a.instr.op (word_returned T.code (option_map (frame_word a.w) value) a.ws),
  ap (local_by T.code c.frame) a.none
      ∙ ap (local_frames T.code c.frame.holder) a.frames
      ∙ ap (option_and_then (local_instr T.code c.frame.holder a.w a.ws)) a.cur
      ∙ ap (λ (op : CodeOp). option_map (after_op T.code c.frame.holder a.w a.ws a.instr.op) (local_op T.code a.w a.ws op)) a.is,
  ap (word_returned T.code (option_map (frame_word a.w) value)) alone,
)
