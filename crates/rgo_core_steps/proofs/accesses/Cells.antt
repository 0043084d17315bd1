-- Loads and stores that are the next instruction, whichever word they access: a case for each, with the law of rgo_core for it.
use Rattle.std.specs.Option.{option_map_or}
use Rattle.std.proofs.Common.{◌≡◌, ℕ, ◌+◌, List, Option, Some, refl, ap, sym, subst, ◌∙◌}
use Rattle.rgo_sound.specs.Code.Code.{CodeOp, Do}
use Rattle.rgo_sound.specs.Typed.declared.actions.Action.{Action}
use Rattle.rgo_sound.specs.WellFormed.TypeRules.{int}
use Rattle.rgo_core.specs.Channels.Records.{at_rest}
use Rattle.rgo_core.specs.Memory.Words.{base, clock_at, variable_at}
use Rattle.rgo_core.specs.Frames.steps.Actions.{after_action}
use Rattle.rgo_core.specs.Frames.shown.WordFrames.{frame_word}
use Rattle.rgo_core.proofs.Rule.Still.{still_move}
use Rattle.rgo_core.specs.ties.Bounds.{Gives, Points, target_type}
use Rattle.rgo_core.specs.Core.{Core, Setup, layout}
use Rattle.rgo_core.specs.Next.{IsAtOp}
use Rattle.rgo_core.specs.Records.{Record, accesses, instructed}
use Rattle.rgo_core.specs.Steps.{Moves}
use Rattle.rgo_core.proofs.clock.ClockLifts.{look_law}
use Rattle.rgo_core.proofs.accesses.Accesses.{get_move, len_move, len_nil_still, load_move, set_move, store_move}
use Rattle.rgo_core.proofs.accesses.Elements.{at_move, put_move}
use Rattle.rgo_core_steps.specs.Accesses.{Element, Field, Length, LengthOfNil, Loads, Stores, ToElement, ToField, ToVariable, Variable, given_type}
use Rattle.rgo_core_steps.specs.After.{Position, acting, given}
use Rattle.rgo_core_steps.proofs.record_steps.After.{acting_is, position_is}
use Rattle.rgo_core_steps.proofs.accesses.Telling.{tells_more}

pub given_type_is : (T : Setup) {c : Record} {to : Option ℕ} {act : Action} {from removes : List ℕ}
    (a : IsAtOp T.code c (Do to act from removes)) → given_type T c ≡ target_type T a.w to
given_type_is T {c} a =
    ap (λ (o : Option Position). option_map_or (λ (p : Position). target_type T p.w (given p.instr.op)) o int) (position_is a)
    ∙ ap (λ (op : CodeOp). target_type T a.w (given op)) a.is

-- the record after an instruction that a law names, by the record alone
gives_is : (T : Setup) {c : Record} {to : Option ℕ} {act : Action} {from removes : List ℕ}
    (a : IsAtOp T.code c (Do to act from removes)) (n : ℕ) (d : Record) → Gives T c a to n d
    → (d ≡ acting T.code c n) × Points T (given_type T c) n
gives_is T a n d k = (k.0 ∙ sym (acting_is a n), subst (λ ty. Points T ty n) (sym (given_type_is T a)) k.1)

module _ (T : Setup) (g : ℕ) (c : Record) (rests : c.side ≡ at_rest) where
  abbrev GivesWord : ℕ → Type 0
  GivesWord word = Moves T g c word (λ n. n) (λ n d. (d ≡ acting T.code c n) × Points T (given_type T c) n)

  pub load_moves : (word : ℕ) → Loads T c word → Moves T g c word (λ n. n) (λ n d. (d ≡ acting T.code c n) × Points T (given_type T c) n)
  load_moves word (Field d k p address removes a points there) =
      tells_more T g c word (λ n. n) (λ n e k. gives_is T a n e k) (load_move T g c d k p address word removes a rests points there)
  load_moves word (Element d p q address removes a points inside there) =
      tells_more T g c word (λ n. n) (λ n e k. gives_is T a n e k) (at_move T g c d p q address word removes a rests points inside there)
  load_moves word (Length d p address removes a points is) =
      subst GivesWord (sym is) (tells_more T g c (base (layout T) + address) (λ n. n) (λ n e k. gives_is T a n e k.0)
      (len_move T g c d p address removes a rests points))
  load_moves word (Variable d k removes a is) =
      subst GivesWord (sym is) (tells_more T g c (variable_at (layout T) k) (λ n. n) (λ n e k. gives_is T a n e k)
      (get_move T g c d k removes a rests))

  abbrev TakesWord : (word value : ℕ) → Type 0
  TakesWord word value = Moves T g c word (λ n. value) (λ n d. d ≡ acting T.code c 0)

  takes : (word at value v : ℕ) → word ≡ at → value ≡ v → TakesWord at v → TakesWord word value
  takes word at value v there same m = subst (λ w. TakesWord w value) (sym there) (subst (TakesWord at) (sym same) m)

  pub store_moves : (word value : ℕ) → Stores T c word value → Moves T g c word (λ n. value) (λ n d. d ≡ acting T.code c 0)
  store_moves word value (ToField k p q address removes a points there same) =
      takes word word value (frame_word a.w q) refl same
      (tells_more T g c word (λ n. frame_word a.w q) (λ n e same. same ∙ sym (acting_is a 0))
      (store_move T g c k p q address word removes a rests points there))
  store_moves word value (ToElement p q r address removes a points inside there same) =
      takes word word value (frame_word a.w r) refl same
      (tells_more T g c word (λ n. frame_word a.w r) (λ n e same. same ∙ sym (acting_is a 0))
      (put_move T g c p q r address word removes a rests points inside there))
  store_moves word value (ToVariable k q removes a is same) =
      takes word (variable_at (layout T) k) value (frame_word a.w q) is same
      (tells_more T g c (variable_at (layout T) k) (λ n. frame_word a.w q) (λ n e same. same ∙ sym (acting_is a 0))
      (set_move T g c k q removes a rests))

-- the length of nil, with a load of the clock
pub nil_length_moves : (T : Setup) (g : ℕ) (c : Record) → c.side ≡ at_rest → LengthOfNil T c
    → Moves T g c clock_at (λ n. n) (λ n d. d ≡ acting T.code c 0)
nil_length_moves T g c rests l =
    let e : Record = record c {
      clock = instructed c.clock;
      frame = after_action T.code c.frame l.here.w l.here.ws l.here.instr (Some l.d) 0;
    } in
    still_move accesses (Core T) g c e clock_at (λ n. n) (λ n d. d ≡ acting T.code c 0)
    (len_nil_still T g c l.d l.p l.removes l.here rests l.nil) refl
    (tells_more T g e clock_at (λ n. n) (λ n d same. same ∙ sym (acting_is l.here 0)) (look_law T g e))
