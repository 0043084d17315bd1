-- The operator at the front of a text: it fits, by itself it is the same operator, and it is the
-- longest one.
use Rattle.std.proofs.Common.{◌≡◌, ℕ, zero, suc, ◌<◌, ◌≤◌, true, List, [], ◌∷◌, length, take, Option, Some, None, refl, ap, ◌∙◌, arith, Contains}
use Rattle.std.specs.Prelude.{nat_lt}
use Rattle.rgo_lexer.specs.Operators.{operator_at, operator_entry, operator_front, operators, longest_front}
use Rattle.rgo_lexer.specs.Front.{FitsIn}
use Rattle.rgo_lexer.specs.Laws.{IsLongestOperator}
use Rattle.rgo_lexer.specs.declared.front.Front.TheVariants.{Piece}
use Rattle.rgo_lexer.specs.declared.terminals.Terminal.{Terminal}
use Rattle.rgo_lexer.proofs.Begins.{begins_with-from}
use Rattle.rgo_lexer.proofs.OperatorLemmas.{Covers, IsAtMost, found_among, found_longest, found-take, passes}

-- no operator is empty
some : (text : List ℕ) (n : ℕ) (k : Terminal) → Contains operators (take n text, k) → 0 < n
some text zero k c =
    let long : nat_lt 0 0 ≡ true = passes (λ e. nat_lt 0 (length e.0)) operators ([], k) refl c in
    cc
some text (suc n) k c = omega arith

front_fits : (text : List ℕ) (o : Option (ℕ × Terminal)) → 0 < length text
    → ((n : ℕ) (k : Terminal) → o ≡ Some (n, k) → Contains operators (take n text, k)
    × (n ≤ length text)) → FitsIn text (operator_front o)
front_fits text None h found = h
front_fits text (Some f) h found =
    let found = found f.0 f.1 refl in
    record { some = some text f.0 f.1 found.0; within = found.1 }

pub operator_fits_in : (text : List ℕ) → 0 < length text → FitsIn text (operator_at text)
unfolding operator_at operator_entry
operator_fits_in text h =
    front_fits text (longest_front operators text) h (found_among operators text)

pub operator_fits : (b : ℕ) (rest : List ℕ) → FitsIn (b ∷ rest) (operator_at (b ∷ rest))
operator_fits b rest = operator_fits_in (b ∷ rest) (omega arith)

piece_is : (o : Option (ℕ × Terminal)) (k : Terminal) (n : ℕ) → operator_front o ≡ Piece k n
    → o ≡ Some (n, k)
piece_is None k n e = cc
piece_is (Some f) k n e =
    let same : f.1 ≡ k = cc in let width : f.0 ≡ n = cc in rw (← same, ← width) refl

at_most : (o : Option (ℕ × Terminal)) (n : ℕ) (k : Terminal) → o ≡ Some (n, k) → IsAtMost n o
at_most o n k e = rw e (omega arith)

pub operator_stable : (text : List ℕ) (k : Terminal) (n : ℕ) → operator_at text ≡ Piece k n
    → operator_at (take n text) ≡ Piece k n
unfolding operator_at operator_entry
operator_stable text k n e =
    let found = piece_is (longest_front operators text) k n e in
    ap operator_front (found-take operators text n
    (at_most (longest_front operators text) n k found)) ∙ e

covers_at_most : (m n : ℕ) (k : Terminal) (o : Option (ℕ × Terminal)) → o ≡ Some (n, k) → Covers m o
    → m ≤ n
covers_at_most m n k o e c = rw e at c

pub operator_longest : (text : List ℕ) (k : Terminal) (n : ℕ) → operator_at text ≡ Piece k n
    → IsLongestOperator text k n
unfolding operator_at operator_entry
operator_longest text k n e =
    let found = piece_is (longest_front operators text) k n e in
    record {
      among = (found_among operators text n k found).0;
      longest =
          λ operator rest c d. covers_at_most (length operator.0) n k
          (longest_front operators text) found
          (found_longest operators text operator c (begins_with-from operator.0 rest text d));
    }
