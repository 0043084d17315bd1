-- Who meets: a receiver and a sender at one open channel without a buffer. The code changes one goroutine and then the other, the
-- definition has both changes in one state: they are different goroutines, since none is at a receive and a send.
use Rattle.std.proofs.Common.{◌≡◌, ℕ, zero, suc, Bool, true, false, List, [], ◌∷◌, Option, Some, None}
use Rattle.std.proofs.Common.{slice_get, slice_set, refl, ap, sym, ◌∙◌, eq-eqb, ◌<◌, ◌≤◌, length, get_or, arith}
use Rattle.std.proofs.lemmas.Bool.{ne_eqb}
use Rattle.std.proofs.lemmas.Option.{same_Some, some_pair_parts}
use Rattle.std.specs.Prelude.{option_and_then, if◌then◌else◌, ◌==◌}
use Rattle.rgo_memory.specs.declared.values.Value.{Value}
use Rattle.rgo_memory.specs.declared.values.Value.TheVariants as value
use Rattle.rgo_memory.specs.Channels.{meets_at}
use Rattle.rgo_machine.specs.declared.picks.End.{End}
use Rattle.rgo_machine.specs.declared.picks.Pick.TheVariants.{Meet}
use Rattle.rgo_interpreter.specs.Acting.{stand_of, frame_after_operation, newest_stand, standing}
use Rattle.rgo_interpreter.specs.Alone.{receives_at, sends_at, after_operation, goroutines_after_operation}
use Rattle.rgo_machine.specs.Machines.{Stand, AtReceive, AtSend, AtClose, AtCall, AtStart, Elsewhere}
use Rattle.rgo_machine.proofs.Items.{other_item}
use Rattle.rgo_machine.specs.Machines.{Machine, State, with_frames, met, met_by, meet, picked, unless_ended, step_by}

module _ {F : Type 0} (machine : Machine F) (s : State F) (r t : ℕ) where
  abbrev receives : Stand F → Option Value
  receives stand = receives_at (Some (stand_of stand))

  abbrev sends : Stand F → Option (Value × Value)
  sends stand = sends_at (Some (stand_of stand))

  -- ---- nobody meets

  apart : (rs ts : List F) (a b : Stand F)
      → ((c d v : _) → receives a ≡ Some c → sends b ≡ Some (d, v) → meets_at s.memory c d ≡ false)
      → met s r t rs ts a b ≡ None
  apart rs ts (AtReceive c blank go_on) (AtSend d v place next) never =
      ap (λ b. if b then Some (with_frames (with_frames s r (go_on v ∷ rs)) t (next ∷ ts)) else None)
      (never c d v refl refl)
  apart rs ts (AtReceive c blank go_on) (AtReceive d other next) never = refl
  apart rs ts (AtReceive c blank go_on) (AtClose d place next) never = refl
  apart rs ts (AtReceive c blank go_on) (AtCall next callee) never = refl
  apart rs ts (AtReceive c blank go_on) (AtStart next child) never = refl
  apart rs ts (AtReceive c blank go_on) Elsewhere never = refl
  apart rs ts (AtSend c v place next) b never = refl
  apart rs ts (AtClose c place next) b never = refl
  apart rs ts (AtCall next callee) b never = refl
  apart rs ts (AtStart next child) b never = refl
  apart rs ts Elsewhere b never = refl

  apart_among : (o p : Option (List F))
      → ((c d v : _) → receives_at (option_and_then (newest_stand machine) o) ≡ Some c
      → sends_at (option_and_then (newest_stand machine) p) ≡ Some (d, v) → meets_at s.memory c d ≡ false)
      → option_and_then (λ f. option_and_then (met_by machine s r t f) p) o ≡ None
  apart_among None p never = refl
  apart_among (Some rs) None never = refl
  apart_among (Some []) (Some ts) never = refl
  apart_among (Some (f ∷ rs)) (Some []) never = refl
  apart_among (Some (f ∷ rs)) (Some (h ∷ ts)) never = apart rs ts (machine.stand f) (machine.stand h) never

  unless_same : (b : Bool) (o : Option (State F)) → o ≡ None → (if b then None else o) ≡ None
  unless_same true o e = refl
  unless_same false o e = e

  unless_over : (ended : Option End) (o : Option (State F)) → o ≡ None → unless_ended ended o ≡ None
  unless_over None o e = e
  unless_over (Some end) o e = refl

  -- where the channels are no meeting place of a receiver and a sender
  pub not_picked : ((c d v : _) → receives_at (standing machine s r) ≡ Some c
      → sends_at (standing machine s t) ≡ Some (d, v)
      → meets_at s.memory c d ≡ false) → picked machine s (Meet r t) ≡ None
  not_picked never =
      unless_same (r == t) (meet machine s r t)
      (apart_among (slice_get s.goroutines r) (slice_get s.goroutines t) never)

  pub unmet : ((c d v : _) → receives_at (standing machine s r) ≡ Some c → sends_at (standing machine s t) ≡ Some (d, v)
      → meets_at s.memory c d ≡ false) → step_by machine s (Meet r t) ≡ None
  unmet never = unless_over s.ended (picked machine s (Meet r t)) (not_picked never)

  pub not_itself : r ≡ t → picked machine s (Meet r t) ≡ None
  not_itself same = ap (λ b. if b then None else meet machine s r t) (eq-eqb r t same)

  -- where one does not receive, or the other does not send
  pub no_receiver : receives_at (standing machine s r) ≡ None → picked machine s (Meet r t) ≡ None
  no_receiver none = not_picked (λ c d v p q. cc)

  pub no_sender : sends_at (standing machine s t) ≡ None → picked machine s (Meet r t) ≡ None
  no_sender none = not_picked (λ c d v p q. cc)

  pub no_place : (c d v : _) → receives_at (standing machine s r) ≡ Some c
      → sends_at (standing machine s t) ≡ Some (d, v)
      → meets_at s.memory c d ≡ false → picked machine s (Meet r t) ≡ None
  no_place c d v p q never = not_picked (λ a b w h k.
      let left : c ≡ a = same_Some c a (sym p ∙ h) in
      let right : d ≡ b = (some_pair_parts d b v w (sym q ∙ k)).0 in
      ap (λ x. meets_at s.memory x b) (sym left) ∙ ap (meets_at s.memory c) (sym right) ∙ never)

  -- ---- two meet

  together : (f h : F) (rs ts : List F) (a b : Stand F) (c d v : _) → receives a ≡ Some c → sends b ≡ Some (d, v)
      → meets_at s.memory c d ≡ true
      → met s r t rs ts a b
      ≡ Some (with_frames (with_frames s r (frame_after_operation f v a ∷ rs)) t (frame_after_operation h value.Nil b ∷ ts))
  together f h rs ts (AtReceive a blank go_on) (AtSend b x place next) c d v p q meets =
      let left : a ≡ c = same_Some a c p in
      let right : (b ≡ d) × (x ≡ v) = some_pair_parts b d x v q in
      ap (λ m. if m then Some (with_frames (with_frames s r (go_on x ∷ rs)) t (next ∷ ts)) else None)
      (ap (λ y. meets_at s.memory y b) left ∙ ap (meets_at s.memory c) right.0 ∙ meets)
      ∙ ap (λ y. Some (with_frames (with_frames s r (go_on y ∷ rs)) t (next ∷ ts))) right.1
  together f h rs ts (AtReceive c blank go_on) (AtReceive d other next) a b w p q meets = cc
  together f h rs ts (AtReceive c blank go_on) (AtClose d place next) a b w p q meets = cc
  together f h rs ts (AtReceive c blank go_on) (AtCall next callee) a b w p q meets = cc
  together f h rs ts (AtReceive c blank go_on) (AtStart next child) a b w p q meets = cc
  together f h rs ts (AtReceive c blank go_on) Elsewhere a b w p q meets = cc
  together f h rs ts (AtSend c v place next) b x y w p q meets = cc
  together f h rs ts (AtClose c place next) b x y w p q meets = cc
  together f h rs ts (AtCall next callee) b x y w p q meets = cc
  together f h rs ts (AtStart next child) b x y w p q meets = cc
  together f h rs ts Elsewhere b x y w p q meets = cc

  -- ---- what the code leaves

  passed_at : (v : Value) (f : F) (callers : List F) (l : List (List F)) (g : ℕ) → slice_get l g ≡ Some (f ∷ callers)
      → goroutines_after_operation machine v l g ≡ slice_set l g (frame_after_operation f v (machine.stand f) ∷ callers)
  passed_at v f callers [] g e = cc
  passed_at v f callers (frames ∷ l) zero e =
      ap (λ x. after_operation machine v x ∷ l) (same_Some frames (f ∷ callers) e)
  passed_at v f callers (frames ∷ l) (suc g) e = ap (λ x. frames ∷ x) (passed_at v f callers l g e)

  module _ (c d v : Value) (differ : r ≡ t → ⊥) (meets : meets_at s.memory c d ≡ true) where
    both_pass : (f h : F) (rs ts : List F) → slice_get s.goroutines r ≡ Some (f ∷ rs)
        → slice_get s.goroutines t ≡ Some (h ∷ ts)
        → slice_set (slice_set s.goroutines r (frame_after_operation f v (machine.stand f) ∷ rs)) t
        (frame_after_operation h value.Nil (machine.stand h) ∷ ts)
        ≡ goroutines_after_operation machine value.Nil (goroutines_after_operation machine v s.goroutines r) t
    both_pass f h rs ts e q =
        let first : goroutines_after_operation machine v s.goroutines r ≡ slice_set s.goroutines r (frame_after_operation f v (machine.stand f) ∷ rs) =
        passed_at v f rs s.goroutines r e in
        sym (ap (λ l. goroutines_after_operation machine value.Nil l t) first
        ∙ passed_at value.Nil h ts (slice_set s.goroutines r (frame_after_operation f v (machine.stand f) ∷ rs)) t
        (other_item s.goroutines r t (frame_after_operation f v (machine.stand f) ∷ rs) (λ same. differ (sym same)) ∙ q))

    abbrev continued : Option (State F)
    continued = Some (record s { goroutines = goroutines_after_operation machine value.Nil (goroutines_after_operation machine v s.goroutines r) t })

    among : (o p : Option (List F)) → slice_get s.goroutines r ≡ o → slice_get s.goroutines t ≡ p
        → receives_at (option_and_then (newest_stand machine) o) ≡ Some c
        → sends_at (option_and_then (newest_stand machine) p) ≡ Some (d, v)
        → option_and_then (λ f. option_and_then (met_by machine s r t f) p) o ≡ continued
    among None p e q gets gives = cc
    among (Some []) p e q gets gives = cc
    among (Some (f ∷ rs)) None e q gets gives = cc
    among (Some (f ∷ rs)) (Some []) e q gets gives = cc
    among (Some (f ∷ rs)) (Some (h ∷ ts)) e q gets gives =
        together f h rs ts (machine.stand f) (machine.stand h) c d v gets gives meets
        ∙ ap (λ l. Some (record s { goroutines = l })) (both_pass f h rs ts e q)

    -- both continue
    pub both_go_on : receives_at (standing machine s r) ≡ Some c → sends_at (standing machine s t) ≡ Some (d, v)
        → picked machine s (Meet r t) ≡ continued
    both_go_on gets gives =
        ap (λ b. if b then None else meet machine s r t) (ne_eqb r t differ)
        ∙ among (slice_get s.goroutines r) (slice_get s.goroutines t) refl refl gets gives

-- ---- one goroutine continues among the others

module _ {F : Type 0} (machine : Machine F) (v : Value) where
  pub passed_in : (l : List (List F)) (g : ℕ) (before after : List F) → g < length l → before ≡ get_or l g before
      → after ≡ after_operation machine v before → slice_set l g after ≡ goroutines_after_operation machine v l g
  passed_in [] g before after within is same = refl
  passed_in (frames ∷ l) zero before after within is same =
      ap (λ x. x ∷ l) (same ∙ ap (after_operation machine v) is)
  passed_in (frames ∷ l) (suc g) before after within is same =
      ap (λ x. frames ∷ x) (passed_in l g before after (omega (arith, within)) is same)

  pub passed_past : (l : List (List F)) (g : ℕ) → length l ≤ g → l ≡ goroutines_after_operation machine v l g
  passed_past [] g past = refl
  passed_past (frames ∷ l) zero past = absurd (omega (arith, past))
  passed_past (frames ∷ l) (suc g) past = ap (λ x. frames ∷ x) (passed_past l g (omega (arith, past)))

-- ---- both continue, in the code's state

module _ {F : Type 0} (machine : Machine F) (s u : State F) (view : u ≡ s) (r t : ℕ) (c d v : Value)
    (differ : r ≡ t → ⊥) (meets : meets_at u.memory c d ≡ true) (gets : receives_at (standing machine s r) ≡ Some c)
    (gives : sends_at (standing machine s t) ≡ Some (d, v)) where
  pub met_so : (first second : List (List F)) → first ≡ goroutines_after_operation machine v u.goroutines r
      → second ≡ goroutines_after_operation machine value.Nil first t
      → picked machine s (Meet r t) ≡ Some (record u { goroutines = second })
  met_so first second one two =
      both_go_on machine s r t c d v differ (ap (λ x. meets_at x.memory c d) (sym view) ∙ meets) gets gives
      ∙ ap (λ (x : State F). Some
      (record x { goroutines = goroutines_after_operation machine value.Nil (goroutines_after_operation machine v x.goroutines r) t })) (sym view)
      ∙ ap (λ l. Some (record u { goroutines = l })) (sym (two ∙ ap (λ l. goroutines_after_operation machine value.Nil l t) one))
