-- A goroutine that is over has returned in the state of the run, and knows of no channel: both an offer and its acknowledgement would keep
-- it at a send.
use Rattle.std.proofs.Common.{◌≡◌, ℕ, true, false, List, [], ◌∷◌, Some, slice_get, refl, ap, sym, subst, ◌∙◌, ⊎_elim}
use Rattle.std.proofs.lemmas.Option.{same_Some}
use Rattle.rgo_sound.specs.Code.Code.{Code}
use Rattle.rgo_core.proofs.image.Standing.{frame_at, side_at}
use Rattle.rgo_core.specs.Core.{Situation, Setup}
use Rattle.rgo_core.specs.ties.Moments.{moment}
use Rattle.rgo_core.specs.Records.{Record}
use Rattle.rgo_core.specs.Channels.Channels.{Accepted, Calm, Chan, Offered, OfferOf, On, Phase, holder_offer}
use Rattle.rgo_core.specs.Channels.Deadlock as why
use Rattle.rgo_core.specs.Channels.Deadlock.{Blocked}
use Rattle.rgo_core.specs.Channels.Records.{Nowhere, Offering, Post}
use Rattle.rgo_core.specs.Frames.Fits.{RecordFits, IsPast, IsShown}
use Rattle.rgo_core.specs.Frames.shown.Variables.{FramesShow}
use Rattle.rgo_core.specs.Frames.shown.WordFrames.{WordFrame}
use Rattle.rgo_sound.specs.RegionMachine.Duties.{may_go}
use Rattle.rgo_sound.specs.RegionMachine.States.{Holder}
use Rattle.rgo_sound.specs.Tac.Frames.{TacFrame}
use Rattle.rgo_goroutine.specs.Turns.{HasFinished}

-- an empty list of words shows no frames
shown_none : (code : Code) (addresses : List ℕ) (frames : List TacFrame) (ws : List WordFrame) → ws ≡ [] → FramesShow code addresses frames ws
    → frames ≡ []
shown_none code addresses [] ws e k = refl
shown_none code addresses (f ∷ fs) ws e k = absurd (subst (FramesShow code addresses (f ∷ fs)) e k)

module _ {T : Setup} {g : ℕ} {c : Record} (x : Situation T g c) (over : HasFinished c) where
  abbrev fitted : RecordFits T.code x.core.image.places.slot x.core.image.addresses x.s g c.frame
  fitted = x.core.image.frames.each g c.frame (frame_at x)

  not_past : IsPast T.code x.core.image.places.slot x.core.image.addresses fitted.frames fitted.h c.frame → ⊥
  not_past p = let e = shown_none T.code x.core.image.addresses (p.frame ∷ p.callers) c.frame.frames over.frames p.shown.shown in cc e

  shown : IsShown T.code x.core.image.places.slot x.core.image.addresses fitted.frames fitted.h c.frame
  shown = ⊎_elim (λ y. y) (λ y. absurd (not_past y)) fitted.fits

  pub returned : slice_get x.s.plain.goroutines g ≡ Some []
  returned = fitted.at ∙ ap Some (shown_none T.code x.core.image.addresses fitted.frames c.frame.frames over.frames shown.shown)

  -- it has no offer: one that is there is at a send, and one that was taken is to be acknowledged
  by_phase : (o : ℕ) (k : Chan) → On x.s o k → (p : Phase) → x.core.image.at.phase o ≡ p → OfferOf p g → ⊥
  by_phase o k on Calm is own = own
  by_phase o k on (Offered h) is own =
      let w = x.core.image.channels.waits o g k on (is ∙ ap Offered own) in
      let e : Some (w.1.before.frame ∷ w.1.before.callers) ≡ Some [] = sym w.1.before.at ∙ returned in
      cc e
  by_phase o k on (Accepted h) is own =
      let w = x.core.image.channels.offers o g k on (subst (λ (p : Phase). OfferOf p g) (sym is) own) in
      let same : w.1 ≡ fitted.h = same_Some w.1 fitted.h (sym w.3 ∙ fitted.there) in
      let offer : fitted.h.offer ≡ holder_offer o (Accepted h) = ap (λ (y : Holder). y.offer) (sym same) ∙ (w.5 ∙ ap (holder_offer o) is) in
      let free : true ≡ false = sym shown.calm ∙ ap may_go offer in
      cc free

  by_post : (p : Post) → c.side.post ≡ p → c.side.post ≡ Nowhere
  by_post Nowhere e = e
  by_post (Offering a) e =
      let t = x.core.image.channels.posts g a c.side (side_at x) e in
      absurd (by_phase t.0 t.1 t.2 (x.core.image.at.phase t.0) refl t.4)

  pub over_blocked : Blocked (moment x) g c.side
  over_blocked = why.Returned (by_post c.side.post refl) returned
