-- Which small code is printable, and how long texts may be.
use Rattle.std.proofs.Common.{◌≡◌, ℕ, true, true≢false, List, [], ◌∷◌, None, refl, sym, arith, codes}
use Rattle.std.proofs.lemmas.List.Elements.{All-nil, All-cons, All-head}
use Rattle.rgo_code.specs.Code.{CodeOp, CodeFn}
use Rattle.rgo_code_text.specs.Examples.{CodeTextExamples, one_function}
use Rattle.rgo_code_text.specs.Printable.{IsPrintable, InstrPrints, FnPrints}
use Rattle.rgo_code_text.specs.Written.{SlotFits}
use Rattle.rgo_code_words.specs.Worded.{is_name, IsSmallNumber}

main_is_name : is_name (codes "main") ≡ true
unfolding is_name
main_is_name = refl

keyword_is_none : is_name (codes "func") ≡ true → ⊥
unfolding is_name
keyword_is_none e = true≢false (sym e)

-- the one name, and the one instruction
name_of : (name : List ℕ) (op : CodeOp) (place : ℕ) → IsPrintable (one_function name op place) → is_name name ≡ true
name_of name op place p = All-head (λ n. is_name n ≡ true) name [] p.functions

instr_of : (name : List ℕ) (op : CodeOp) (place : ℕ) → IsPrintable (one_function name op place)
    → InstrPrints (record { creates = []; op = op; place = place })
instr_of name op place p =
    let f = All-head FnPrints (fn name op place) [] p.fits in All-head InstrPrints (record { creates = []; op = op; place = place }) [] f.body
  where
    fn : (name : List ℕ) (op : CodeOp) (place : ℕ) → CodeFn
    fn name op place = record {
      name = name;
      params = 0;
      result = None;
      variables = [];
      entry = [];
      body = record { creates = []; op = op; place = place } ∷ [];
    }

pub examples : CodeTextExamples
examples = record {
  returns = record {
    structs = All-nil _;
    variables = All-nil _;
    functions = All-cons (λ n. is_name n ≡ true) (codes "main") [] main_is_name (All-nil (λ n. is_name n ≡ true));
    fits = All-cons FnPrints _ [] (record {
      params = omega arith;
      result = tt;
      variables = All-nil SlotFits;
      entry = All-nil IsSmallNumber;
      indexes = omega arith;
      body = All-cons InstrPrints _ [] (omega arith, All-nil IsSmallNumber, tt) (All-nil InstrPrints);
    }) (All-nil FnPrints);
  };
  keyword = λ p. keyword_is_none (name_of _ _ _ p);
  place = λ p. let i = instr_of _ _ _ p in absurd (omega (arith, i.0));
  print = λ p. let i = instr_of _ _ _ p in absurd (omega (arith, i.2.1));
  longest = λ text e large. omega (arith, e, large);
  too_long = λ text e. omega (arith, e);
}
