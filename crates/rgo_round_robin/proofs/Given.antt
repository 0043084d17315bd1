-- What goes out line by line.
use Rattle.std.proofs.Common.{◌≡◌, ◌<◌, ◌+◌, ◌-◌, ℕ, Bool, true, List, length, take, drop, All, Option}
use Rattle.std.proofs.Common.{refl, ap, sym, subst, ◌∙◌, arith, ◌++◌, length-drop, length-take-le}
use Rattle.std.proofs.lemmas.List.{take-take, drop-take}
use Rattle.std.proofs.lemmas.List.Elements.{All-append, All-drop, All-take, All-weaker}
use Rattle.std.proofs.Math.Seq.{take-add}
use Rattle.std.proofs.KnownBytes.{Appends-trans}
use Rattle.std.specs.Io.KnownBytes.{Appends}
use Rattle.rgo_outside.specs.Causes.{Rose, one_more}
use Rattle.rgo_outside.specs.Pieces.{AddsOnly, IsEndOf}
use Rattle.rgo_outside.proofs.PieceLemmas.{AddsPieces-trans, AddsOnly-nil}
use Rattle.rgo_round_robin.specs.Lines.{IsLineEnd, Writes}

pub line_more : (n k : ℕ) (bytes : List ℕ) (a b c : Option (List ℕ)) → Appends a b (take n bytes)
    → Appends b c (take k (drop n bytes)) → Appends a c (take (n + k) bytes)
line_more n k bytes a b c p q =
    subst (Appends a c) (sym (take-add n k bytes)) (Appends-trans a b c (take n bytes) (take k (drop n bytes)) p q)

-- ---- lines

abbrev pub IsOther : ℕ → Type 0
IsOther b = b ≡ 10 → ⊥

pub line_at : (bytes : List ℕ) (i : ℕ) → i < length bytes → All IsOther (take i bytes) → IsLineEnd (take (i + 1) bytes)
line_at bytes i lt all =
    let long : length (take (i + 1) bytes) ≡ i + 1 = length-take-le (i + 1) bytes (omega (arith, lt)) in
    let same : take (length (take (i + 1) bytes) - 1) (take (i + 1) bytes) ≡ take i bytes =
    take-take _ (i + 1) bytes (omega (arith, long)) ∙ ap (λ n. take n bytes) (omega (arith, long)) in
    subst (All IsOther) (sym same) all

pub line_all : (bytes : List ℕ) (n : ℕ) → All IsOther (take n bytes) → IsLineEnd (take n bytes)
line_all bytes n all = All-take IsOther (length (take n bytes) - 1) (take n bytes) all

line_end : (line piece : List ℕ) → IsLineEnd line → IsEndOf line piece → IsLineEnd piece
line_end line piece all is =
    let n = is.0 in
    let m = length (drop n line) - 1 in
    let long : length (drop n line) ≡ length line - n = length-drop n line in
    let same : drop n (take (length line - 1) line) ≡ take m (drop n line) =
    ap (λ k. drop n (take k line)) (omega (arith, long, is.1)) ∙ drop-take n m line in
    subst IsLineEnd (sym is.2) (subst (All IsOther) same (All-drop IsOther n (take (length line - 1) line) all))

pub line_pieces : (line : List ℕ) (old new : Option (List (List ℕ))) → IsLineEnd line → AddsOnly (IsEndOf line) old new
    → AddsOnly IsLineEnd old new
line_pieces line old new all adds =
    (adds.0, adds.1, All-weaker (IsEndOf line) IsLineEnd (λ piece is. line_end line piece all is) adds.0 adds.2)

-- ---- what was written

pub writes_none : (failed : Type 0) (n : ℕ) (b : Bool) (pieces : Option (List (List ℕ))) → (failed → ⊥)
    → Writes failed n n b pieces pieces
writes_none failed n b pieces not = record {
  fault = λ f. absurd (not f);
  broken = λ f. absurd (not f);
  kept = λ f. refl;
  lines = AddsOnly-nil IsLineEnd pieces;
}

pub writes_line : (failed : Type 0) (line : List ℕ) (m n : ℕ) (b : Bool) (old new : Option (List (List ℕ)))
    → IsLineEnd line
    → n ≡ m → AddsOnly (IsEndOf line) old new → (failed → ⊥) → Writes failed m n b old new
writes_line failed line m n b old new all same adds not = record {
  fault = λ f. absurd (not f);
  broken = λ f. absurd (not f);
  kept = λ f. same;
  lines = line_pieces line old new all adds;
}

pub writes_fault : (failed : Type 0) (line : List ℕ) (m n : ℕ) (b : Bool) (old new : Option (List (List ℕ)))
    → IsLineEnd line
    → Rose m n → b ≡ true → AddsOnly (IsEndOf line) old new → failed → Writes failed m n b old new
writes_fault failed line m n b old new all rose broken adds is = record {
  fault = λ f. rose;
  broken = λ f. broken;
  kept = λ f. absurd (f is);
  lines = line_pieces line old new all adds;
}

-- what failed may be said in another way
pub writes_as : (f h : Type 0) (m n : ℕ) (b : Bool) (old new : Option (List (List ℕ))) → (h → f) → (f → h)
    → Writes f m n b old new → Writes h m n b old new
writes_as f h m n b old new to from writes = record {
  fault = λ x. writes.fault (to x);
  broken = λ x. writes.broken (to x);
  kept = λ not. writes.kept (λ x. not (from x));
  lines = writes.lines;
}

-- nothing failed
pub writes_whole : (f h : Type 0) (m n : ℕ) (b : Bool) (old new : Option (List (List ℕ))) → (f → ⊥) → (h → ⊥)
    → Writes f m n b old new → Writes h m n b old new
writes_whole f h m n b old new not none writes =
    writes_as f h m n b old new (λ x. absurd (none x)) (λ x. absurd (not x)) writes

pub writes_on : (f h : Type 0) (m n k : ℕ) (b c : Bool) (old mid new : Option (List (List ℕ))) → (f → ⊥)
    → Writes f m n b old mid → Writes h n k c mid new → Writes h m k c old new
writes_on f h m n k b c old mid new not first more =
    let same = first.kept not in
    record {
      fault = λ x. subst (λ v. k ≡ one_more v) same (more.fault x);
      broken = more.broken;
      kept = λ x. more.kept x ∙ same;
      lines = (
        first.lines.0 ++ more.lines.0,
        AddsPieces-trans old mid new first.lines.0 more.lines.0 first.lines.1 more.lines.1,
        All-append IsLineEnd first.lines.0 more.lines.0 first.lines.2 more.lines.2,
      );
    }
