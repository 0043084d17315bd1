-- Examples of accesses to memory, pages and counts, by computation.
use Rattle.std.proofs.Common.{◌≡◌, ℕ, List, [], ◌∷◌, Some, refl, ap, ◌∙◌, arith}
use Rattle.std.proofs.lemmas.Option.{none-some, same_Some}
use Rattle.rgo_core.specs.Frames.shown.WordFrames.{WordFrame, bare, frame_word}
use Rattle.rgo_sound.specs.Code.Code.{Code, CodeInstr, CodeOp, Do}
use Rattle.rgo_sound.specs.Machine.declared.limits.Limits.{Limits}
use Rattle.rgo_sound.specs.Machine.declared.limits.Sizes.{Sizes}
use Rattle.rgo_sound.specs.RegionMachine.Examples.{int_slot, main_of, plain_instr}
use Rattle.rgo_sound.specs.RegionMachine.Owed.{current}
use Rattle.rgo_sound.specs.Typed.declared.actions.Action.TheVariants as action
use Rattle.rgo_sound.specs.RegionMachine.States.{Create, Duty}
use Rattle.rgo_core.specs.examples.Channels.{with_words}
use Rattle.rgo_core.specs.Core.{Setup}
use Rattle.rgo_core.specs.Next.{IsAtOp}
use Rattle.rgo_core_steps.specs.Accesses.{Element, Field, Length, LengthOfNil, Loads, Stores, ToElement, ToField, ToVariable, Variable}
use Rattle.rgo_core_steps.specs.Examples.{idle}
use Rattle.rgo_core_steps.specs.MemoryExamples.{CountExamples, MakingExamples, SearchExamples, doing_setup, frame_with, the_length}

no_frame : (w : WordFrame) (ws : List WordFrame) → ◌≡◌ {A = List WordFrame} [] (w ∷ ws) → ⊥
no_frame w ws e = cc

nowhere : (code : Code) (op : CodeOp) → IsAtOp code idle op → ⊥
nowhere code op a = no_frame a.w a.ws a.frames

loads_none : (T : Setup) (word : ℕ) → Loads T idle word → ⊥
loads_none T word (Field d k p address removes a points is) = nowhere T.code _ a
loads_none T word (Element d p q address removes a points within is) = nowhere T.code _ a
loads_none T word (Length d p address removes a points is) = nowhere T.code _ a
loads_none T word (Variable d k removes a is) = nowhere T.code _ a

stores_none : (T : Setup) (word value : ℕ) → Stores T idle word value → ⊥
stores_none T word value (ToField k p q address removes a points is same) = nowhere T.code _ a
stores_none T word value (ToElement p q r address removes a points within is same) = nowhere T.code _ a
stores_none T word value (ToVariable k q removes a is same) = nowhere T.code _ a

-- ---- the length of nil

abbrev the_instr : CodeInstr
the_instr = plain_instr the_length

first_is : (v w : WordFrame) (vs ws : List WordFrame) → v ∷ vs ≡ w ∷ ws → v ≡ w
first_is v w vs ws e = cc

operand_is : (to d n p : ℕ) (removes others : List ℕ)
    → Do (Some to) action.Len (n ∷ []) removes ≡ Do (Some d) action.Len (p ∷ []) others → n ≡ p
operand_is to d n p removes others e = cc

slice_length : (sizes : Sizes) (limits : Limits) → LengthOfNil (doing_setup the_length sizes limits) (with_words (6 ∷ 3 ∷ [])) → ⊥
slice_length sizes limits l =
    let w = first_is (frame_with (6 ∷ 3 ∷ [])) l.here.w [] l.here.ws l.here.frames in
    let i = same_Some the_instr l.here.instr
    (ap (λ (f : WordFrame). current (doing_setup the_length sizes limits).code (bare f)) w ∙ l.here.cur) in
    let p = operand_is 1 l.d 0 l.p [] l.removes (ap (λ (j : CodeInstr). j.op) i ∙ l.here.is) in
    let e : 6 ≡ 0 = (λ j. frame_word (w j) (p j)) ∙ l.nil in
    omega (arith, e)

pub making_examples : MakingExamples
making_examples = record {
  struct = refl;
  no_struct = refl;
  channel = refl;
  large = refl;
  negative = refl;
  copied = refl;
  page = refl;
  no_page = refl;
  covered = refl;
  uncovered = refl;
  nothing = λ T. refl;
  nowhere = λ T. refl;
  makes_none = λ T object slot m. nowhere T.code _ m.here;
  loads_none = loads_none;
  stores_none = stores_none;
  calm = record { side = refl; claim = refl; make = refl };
  nil_length = λ sizes limits. record {
    d = 1;
    p = 0;
    removes = [];
    here = record {
      w = frame_with (0 ∷ 3 ∷ []);
      ws = [];
      frames = refl;
      fn = main_of (int_slot ∷ int_slot ∷ []) (the_instr ∷ []);
      in_fn = refl;
      instr = the_instr;
      cur = refl;
      is = refl;
      none = refl;
      free = refl;
    };
    nil = refl;
  };
  slice_length = slice_length;
}

no_duty : (d : Duty) (ds : List Duty) → ◌≡◌ {A = List Duty} [] (d ∷ ds) → ⊥
no_duty d ds e = cc

pub count_examples : CountExamples
count_examples = record {
  creating = (5, Create 6 ∷ [], refl);
  not_creating = λ t. no_duty (Create t.0) t.1 t.2;
  takes = refl;
  misses = refl;
  not_sharing = λ slot t. none-some (slot, t.0) t.1;
  not_leaving = λ slot t. none-some (slot, t.holder) t.is;
  page_missed = λ T. refl;
}

pub search_examples : SearchExamples
search_examples = record {
  order = refl;
  from_zero = refl;
  at_the_end = refl;
  places = refl;
  taken = (λ e. omega (arith, e), (λ e. omega (arith, e), tt));
  not_taken = λ t. t.0 refl;
  exchanges = refl;
  remembers = refl;
}
