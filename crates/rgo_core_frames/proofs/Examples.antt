-- The examples, by computation.
use Rattle.std.proofs.Common.{◌≡◌, ◌∙◌, ℕ, ℤ, zero, suc, List, [], ◌∷◌, Option, Some, None, refl, sym, ap, subst, arith, slice_get, get_or, length, true, true≢false, FitsSigned, if◌then◌else◌}
use Rattle.std.proofs.lemmas.Option.{same_Some}
use Rattle.std.specs.Int.{w64}
use Rattle.rgo_sound.specs.Typed.declared.actions.Action.TheVariants as action
use Rattle.rgo_sound.specs.Code.Code.{CodeFn, CodeInstr, Do}
use Rattle.rgo_sound.proofs.Tests.{ne_of}
use Rattle.rgo_sound.specs.RegionMachine.declared.regions.Region.{Region}
use Rattle.rgo_sound.specs.RegionMachine.declared.regions.Region.TheVariants.{Numbered}
use Rattle.rgo_sound.specs.RegionMachine.Examples.{int_slot, main_of, plain_instr}
use Rattle.rgo_sound.specs.RegionMachine.Regions.{bound, is_live}
use Rattle.rgo_core_frames.specs.Examples.{FrameExamples, IntExamples, LocalExamples, FrameRecordExamples, WordExamples, one_constant, small_table, two_owners, two_regions}
use Rattle.rgo_core_frames.specs.Fits.{IsOfLive}
use Rattle.rgo_core_frames.specs.shown.Constants.{ConstantsFit}

words : WordExamples
words = record {
  an_int = (omega arith, refl);
  other_int = λ e. let q = e.1 in cc;
  truth = refl;
  falsehood = λ e. let q : 0 ≡ 1 = e in cc;
  object = (9, refl, refl);
  address = λ e. let q : Some 9 ≡ Some e.0 = e.1 in let r = e.2 in cc;
  unmade = λ w e. let q = e.1 in cc;
  all = (refl, (refl, tt));
  fewer = λ e. e;
  adds = refl;
  subtracts = refl;
  traps = refl;
  touches = refl;
  prints = refl;
  prints_none = refl;
}

-- ---- frames and what is held

live_at : (r : ℕ) → is_live (two_regions 0) (Numbered r) ≡ true → r ≡ 0
live_at zero e = refl
live_at (suc zero) e = cc
live_at (suc (suc r)) e = cc

of_live : (o : ℕ) → IsOfLive (two_regions 0) two_owners o → o ≡ 0
of_live zero x = refl
of_live (suc zero) (r, e, l) =
    absurd (true≢false (sym l ∙ ap (is_live (two_regions 0)) (sym (same_Some (Numbered 1) r e))))
of_live (suc (suc o)) (r, e, l) = cc

in_table : (k : ℕ) → bound ((1, Numbered 5) ∷ []) k ≡ get_or small_table k None
in_table zero = refl
in_table (suc zero) = refl
in_table (suc (suc k)) =
    ap (λ t. if t then Some (Numbered 5) else None) (ne_of 1 (suc (suc k)) (λ e. absurd (omega (arith, e))))

abbrev many : Option (List (Region × ℕ) × ℕ) → ℕ
many None = 0
many (Some x) = length x.0

records : FrameRecordExamples
records = record {
  reads = refl;
  goes = refl;
  alike = record { function = refl; next = refl; as_many = refl };
  elsewhere = λ a. let n : 4 ≡ 5 = a.next in absurd (omega (arith, n));
  callers = λ code f. f;
  slots = refl;
  offers = refl;
  fills = refl;
  reserved = refl;
  one_slot = λ d. let n : 0 ≡ 1 = d 0 1 refl refl refl in absurd (omega (arith, n));
  slot_again = λ r q a b e. live_at r a ∙ sym (live_at q b);
  one_address = λ d.
      let n : 0 ≡ 1 = d 0 1 9 (Numbered 0, refl, refl) (Numbered 1, refl, refl) refl refl in absurd (omega (arith, n));
  address_again = λ o p a x y e f. of_live o x ∙ sym (of_live p y);
  missing = λ code slot_of a. let n : 0 ≡ 1 = a.as_many in absurd (omega (arith, n));
  ends = refl;
  spares = refl;
  spared = refl;
  not_spared = refl;
  shares = refl;
  exits = refl;
  owes = refl;
  returns = refl;
  counts = refl;
  counts_none = refl;
  stack = refl;
  table = in_table;
  other_table = λ t. let n : Some (Numbered 5) ≡ None = t 1 in cc;
  gives = λ code. record { new = refl; old = λ r l. absurd (omega (arith, l)) };
  keeps = λ code g. let n : 2 ≡ 3 = g.new in absurd (omega (arith, n));
  reserves = λ code. refl;
  owns = λ code. refl;
  both = λ code e.
      let n : 1 ≡ 2 = ap many e in absurd (omega (arith, n));
  reached = λ x e. ap Some (sym e);
  unreached = λ x r. let n : None ≡ Some x.s = r in cc;
}

-- ---- ints

ints : IntExamples
ints = record {
  largest = record { sfits = omega arith };
  larger = λ f. let l = f.sfits in absurd (omega (arith, l));
  smallest = record { sfits = omega arith };
  smaller = λ f. let l = f.sfits in absurd (omega (arith, l));
  pointer = tt;
  slice = ((record { sfits = omega arith }, (tt, tt)), record { sfits = omega arith });
  wide_cell = λ f. let l = f.0.sfits in absurd (omega (arith, l));
  wide_channel = λ f. let l = f.1.sfits in absurd (omega (arith, l));
}

-- ---- local steps

same_constant : (k j : ℤ) (to : Option ℕ) (from removes : List ℕ)
    → Do (Some 0) (action.Int k) [] [] ≡ Do to (action.Int j) from removes → k ≡ j
same_constant k j to from removes e = cc

module _ (k : ℤ) (fits : FitsSigned w64 k) where
  abbrev its_body : List CodeInstr
  its_body = plain_instr (Do (Some 0) (action.Int k) [] []) ∷ []

  one_fits : (instr : CodeInstr) (to : Option ℕ) (j : ℤ) (from removes : List ℕ)
      → instr.op ≡ Do to (action.Int j) from removes → (i : ℕ) → slice_get its_body i ≡ Some instr → FitsSigned w64 j
  one_fits instr to j from removes c zero e =
      subst (FitsSigned w64) (same_constant k j to from removes
      (ap (λ (x : CodeInstr). x.op) (same_Some (plain_instr (Do (Some 0) (action.Int k) [] [])) instr e) ∙ c)) fits
  one_fits instr to j from removes c (suc i) e = cc

  constants_fit : ConstantsFit (one_constant k)
  constants_fit zero i fn instr to j from removes a b c =
      one_fits instr to j from removes c i
      (ap (λ (f : CodeFn). slice_get f.body i) (same_Some (main_of (int_slot ∷ []) its_body) fn a) ∙ b)
  constants_fit (suc n) i fn instr to j from removes a b c = cc

steps : LocalExamples
steps = record {
  begins = refl;
  computes = refl;
  waits = refl;
  constants = constants_fit;
  unfit = λ k n fit. n (fit 0 0 (main_of (int_slot ∷ []) (plain_instr (Do (Some 0) (action.Int k) [] []) ∷ []))
      (plain_instr (Do (Some 0) (action.Int k) [] [])) (Some 0) k [] [] refl refl refl);
}

pub examples : FrameExamples
examples = record { words = words; ints = ints; records = records; steps = steps }
