-- Records that are before an access to an element, and some that are not.
use Rattle.std.proofs.Common.{◌≡◌, ℕ, List, [], ◌∷◌, Some, None, refl, ap, ◌∙◌, arith}
use Rattle.std.proofs.lemmas.Option.{same_Some}
use Rattle.rgo_sound.specs.Code.Code.{Code, CodeInstr, Do}
use Rattle.rgo_core_frames.specs.goroutines.Opening.{no_record}
use Rattle.rgo_core_frames.specs.shown.WordFrames.{WordFrame, bare, frame_word}
use Rattle.rgo_core_memory.specs.Records.{Located, Measured}
use Rattle.rgo_sound.specs.RegionMachine.Examples.{int_slot, main_of, plain_instr}
use Rattle.rgo_sound.specs.RegionMachine.Owed.{current}
use Rattle.rgo_sound.specs.Typed.declared.actions.Action.TheVariants.{At, Put}
use Rattle.rgo_core.specs.examples.Links.{LinkExamples, four_measured, knowing, loading_code, loads}
use Rattle.rgo_core.specs.ties.Links.{BeforeLoad, BeforeStore, IsAtElement}
use Rattle.rgo_core.specs.Next.{IsAtOp}
use Rattle.rgo_core.specs.Records.{begins_with}
use Rattle.rgo_sound.proofs.Places.{head_is, no_cons}

abbrev frame : WordFrame
frame = record { function = 0; next = 0; variables = 6 ∷ 3 ∷ 0 ∷ [] }

abbrev instr : CodeInstr
instr = plain_instr (Do (Some 2) At (0 ∷ 1 ∷ []) [])

abbrev loads_it : IsAtOp loading_code loads (Do (Some 2) At (0 ∷ 1 ∷ []) [])
loads_it = record {
  w = frame;
  ws = [];
  frames = refl;
  fn = main_of (int_slot ∷ int_slot ∷ int_slot ∷ []) (instr ∷ []);
  in_fn = refl;
  instr = instr;
  cur = refl;
  is = refl;
  none = refl;
  free = refl;
}

abbrev knows_it : IsAtOp loading_code knowing (Do (Some 2) At (0 ∷ 1 ∷ []) [])
knows_it = record {
  w = frame;
  ws = [];
  frames = refl;
  fn = main_of (int_slot ∷ int_slot ∷ int_slot ∷ []) (instr ∷ []);
  in_fn = refl;
  instr = instr;
  cur = refl;
  is = refl;
  none = refl;
  free = refl;
}

slice_is : (d e n m : ℕ) (ns ms removes others : List ℕ) → Do (Some d) At (n ∷ ns) removes ≡ Do (Some e) At (m ∷ ms) others → n ≡ m
slice_is d e n m ns ms removes others e' = cc

no_put : (d : ℕ) (from others removes removes' : List ℕ) → Do (Some d) At from removes ≡ Do None Put others removes' → ⊥
no_put d from others removes removes' e = cc e

measured_is : (m : Measured) → Some four_measured ≡ Some m → four_measured ≡ m
measured_is m e = same_Some four_measured m e

no_location : (l : Located) → None ≡ Some l → ⊥
no_location l e = cc e

no_measure : (m : Measured) → None ≡ Some m → ⊥
no_measure m e = cc e

pub examples : LinkExamples
examples = record {
  before = BeforeLoad 2 0 1 [] loads_it refl;
  other = other;
  nowhere = nowhere;
  read = refl;
  inside = record { measured = four_measured; read = refl; now = refl; its = refl; within = omega arith };
  outside = λ i.
      let e : 4 ≡ i.measured.elements = ap (λ (m : Measured). m.elements) (measured_is i.measured i.read) in
      let w = i.within in omega (arith, e, w);
  unread = λ i. no_measure i.measured i.read;
  beyond = record { measured = four_measured; read = refl; now = refl; its = refl; beyond = omega arith };
  not_beyond = λ i.
      let e : 4 ≡ i.measured.elements = ap (λ (m : Measured). m.elements) (measured_is i.measured i.read) in
      let w = i.beyond in omega (arith, e, w);
  late = λ i.
      let e : 0 ≡ i.measured.steps = ap (λ (m : Measured). m.steps) (measured_is i.measured i.read) in
      let w : i.measured.steps ≡ 1 = i.now in omega (arith, e, w);
  knows = record { past = omega arith; before = λ now. BeforeLoad 2 0 1 [] knows_it refl; still = λ now. refl };
  changed = λ k. let e : ◌≡◌ {A = ℕ} 5 4 = k.still refl in omega (arith, e);
  gone = record {
    past = omega arith;
    before = λ now. absurd (let e : ◌≡◌ {A = ℕ} 0 1 = now in omega (arith, e));
    still = λ now. absurd (let e : ◌≡◌ {A = ℕ} 0 1 = now in omega (arith, e));
  };
  left = refl;
  left_after = refl;
  left_none = refl;
  left_other = refl;
  owes = record {
    owed = refl;
    knows = λ m read. absurd (no_measure m read);
    finds = λ l read. absurd (no_location l read);
    reserved = λ some. absurd (omega (arith, some));
  };
  owes_fewer = λ k. let e : ◌≡◌ {A = ℕ} 1 2 = k.owed in omega (arith, e);
}
  where
    other : IsAtElement loading_code loads 6 → ⊥
    other (BeforeLoad d p q removes a points) =
        let w = head_is frame a.w [] a.ws a.frames in
        let i = same_Some instr a.instr (ap (λ (f : WordFrame). current loading_code (bare f)) w ∙ a.cur) in
        let slice = slice_is 2 d 0 p (1 ∷ []) (q ∷ []) [] removes (ap (λ (j : CodeInstr). j.op) i ∙ a.is) in
        let e : ◌≡◌ {A = ℕ} 6 7 = (λ j. frame_word (w j) (slice j)) ∙ points in omega (arith, e)
    other (BeforeStore p q r removes a points) =
        let w = head_is frame a.w [] a.ws a.frames in
        let i = same_Some instr a.instr (ap (λ (f : WordFrame). current loading_code (bare f)) w ∙ a.cur) in
        no_put 2 (0 ∷ 1 ∷ []) (p ∷ q ∷ r ∷ []) [] removes (ap (λ (j : CodeInstr). j.op) i ∙ a.is)

    nowhere : (code : Code) (at : ℕ) → IsAtElement code (begins_with no_record) at → ⊥
    nowhere code at (BeforeLoad d p q removes a points) = no_cons a.w a.ws a.frames
    nowhere code at (BeforeStore p q r removes a points) = no_cons a.w a.ws a.frames
