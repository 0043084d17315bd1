-- A meeting at a channel keeps what holds of the state: each side continues as after an instruction of its own. It is proved as two
-- such steps in a row, through a state between them (`mid`) to which no event leads.
use Rattle.std.proofs.Common.{◌≡◌, ℕ, false, List, [], ◌∷◌, length, Some, refl, sym, ap, ◌∙◌, subst, nat_eq, slice_get}
use Rattle.std.proofs.Common.{slice_set}
use Rattle.rgo_sound.proofs.Places.{get_set_other, get_set_same, length_set}
use Rattle.rgo_sound.proofs.steps.OneStep.{OnFrom, receive_goes, send_goes, gone_on, MeetDone}
use Rattle.rgo_sound.proofs.duties.Instructs.{IsRuled, fine_plain, frame_goes}
use Rattle.rgo_code.specs.Code.{Code}
use Rattle.rgo_region_machine.specs.Instructions.{taken_offer}
use Rattle.rgo_region_machine.specs.States.{Holder, RegionState, frames_in}
use Rattle.rgo_sound.specs.Invariant.{Fine, GoodHolder}
use Rattle.rgo_tac.specs.Frames.{TacFrame}
use Rattle.rgo_tac.specs.Tac.{TacState}

-- ---- both sides

side_good : (code : Code) (h : Holder) (frames next : List TacFrame) (x : OnFrom code frames next) → IsRuled code
    → h.duties ≡ [] → GoodHolder code frames h → GoodHolder code next (gone_on x h)
side_good code h frames next x rules none good =
    let g : GoodHolder code (x.frame ∷ x.callers) h = subst (λ f. GoodHolder code f h) x.at good in
    subst (λ f. GoodHolder code f (gone_on x h)) (sym x.next_is)
    (frame_goes code x.frame x.frame' x.callers x.instr h h.environments h.duties rules x.cur x.simple none g.core
    g.base_once g.fit g.shares x.function x.edge)

-- both sides have continued, from holders that owe nothing
module _ (code : Code) (s : RegionState) (r u : ℕ) (fine : Fine code s) (rules : IsRuled code) (a b a' b' : List TacFrame)
    (ne : nat_eq r u ≡ false) (qa : slice_get s.plain.goroutines r ≡ Some a)
    (qb : slice_get s.plain.goroutines u ≡ Some b) (x : OnFrom code a a') (y : OnFrom code b b') (h k : Holder)
    (e : slice_get s.holders r ≡ Some h) (e' : slice_get s.holders u ≡ Some k) (dh : h.duties ≡ []) (dk : k.duties ≡ [])
  where
    abbrev k' : Holder
    k' = record k { offer = taken_offer k.offer }

    -- between the two: the receiver has continued, and the sender has not
    abbrev mid : RegionState
    mid = record s {
      plain = record s.plain { goroutines = slice_set s.plain.goroutines r a' };
      holders =
          slice_set s.holders r (gone_on x h);
    }

    fine_mid : Fine code mid
    fine_mid =
        fine_plain code s mid r h (gone_on x h) fine e refl refl refl refl (length_set s.plain.goroutines r a')
        (λ j n. ap frames_in (get_set_other s.plain.goroutines r j a' n))
        (subst (λ f. GoodHolder code f (gone_on x h)) (sym (ap frames_in (get_set_same s.plain.goroutines r a a' qa)))
        (side_good code h a a' x rules dh (subst (λ f. GoodHolder code f h) (ap frames_in qa) (fine.each r h e))))

    sender_there : slice_get (slice_set s.plain.goroutines r a') u ≡ Some b
    sender_there = get_set_other s.plain.goroutines r u a' ne ∙ qb

    good : GoodHolder code b' (gone_on y k')
    good = let g = fine.each u k e' in side_good code k' b b' y rules dk
        (subst (λ f. GoodHolder code f k') (ap frames_in qb)
        (record { core = g.core; fit = g.fit; base_once = g.base_once; shares = g.shares }))

    met_fine : (t : RegionState) → t.regions ≡ s.regions → t.plain.goroutines
        ≡ slice_set (slice_set s.plain.goroutines r a') u b' → t.holders
        ≡ slice_set (slice_set s.holders r (gone_on x h)) u (gone_on y (record k { offer = taken_offer k.offer }))
        → Fine code t
    met_fine t rs gs hs =
        fine_plain code mid t u k (gone_on y k') fine_mid (get_set_other s.holders r u (gone_on x h) ne ∙ e') rs hs refl
        refl
        (ap length gs ∙ length_set (slice_set s.plain.goroutines r a') u b')
        (λ j n. ap (λ z. frames_in (slice_get z j)) gs ∙ ap frames_in
        (get_set_other (slice_set s.plain.goroutines r a') u j b' n))
        (subst (λ f. GoodHolder code f (gone_on y k')) (sym (ap (λ z. frames_in (slice_get z u)) gs
        ∙ ap frames_in (get_set_same (slice_set s.plain.goroutines r a') u b b' sender_there))) good)

-- a meeting keeps what holds of the state
pub fine_meet : (code : Code) (s t : RegionState) (r u : ℕ) → Fine code s → IsRuled code → MeetDone code s r u t
    → Fine code t
fine_meet code s t r u fine rules x =
    met_fine code s r u fine rules x.receiver x.sender (x.go_on x.v) x.next x.apart x.at_r x.at_u
    (receive_goes x.receives x.v) (send_goes x.sends) x.h x.k x.there_h x.there_k x.ready_h.none x.ready_k.none t
    x.regions (ap (λ (p : TacState). p.goroutines) x.plain) x.holders
