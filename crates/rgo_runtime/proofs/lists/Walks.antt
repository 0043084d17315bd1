-- A walk over prints in the order of their tickets, in which those whose turn it is go out and the others are kept. `Walk` is the loop's
-- invariant. `below` is why one walk is enough: a print that was kept has a ticket no greater than those still to come, so it does not
-- become the next when one of those goes out.
use Rattle.std.proofs.Common.{◌≡◌, ◌+◌, ◌<◌, ◌≤◌, ℕ, suc, List, [], ◌∷◌, ◌++◌, All, Contains, IsPermutation, Option, length, take, drop, set, get_or, refl, sym, ap, ◌∙◌, subst, append_assoc, append-nil, arith, length-append, length-set, drop-cons, ⊎_elim, add-one, add-zero}
use Rattle.std.specs.Io.KnownBytes.{Appends}
use Rattle.std.specs.List.{swap}
use Rattle.std.specs.List.Sorted.{IsNonDecreasingBy}
use Rattle.std.proofs.KnownBytes.{Appends-nil, Appends-trans}
use Rattle.std.proofs.lemmas.List.{drop-set-lt, take-set, take-set-le, take_more_set}
use Rattle.std.proofs.Math.Seq.{take-append-add}
use Rattle.std.proofs.lemmas.List.Edits.{swap_is}
use Rattle.std.proofs.lemmas.Bool.{cases_lt}
use Rattle.rgo_outside.specs.Pieces.{AddsOnly, IsEndOf}
use Rattle.rgo_outside.proofs.PieceLemmas.{AddsPieces-trans}
use Rattle.std.proofs.lemmas.List.Elements.{All-append, All-from_get_or, All-head, All-nil, All-push, All-tail, All-weaker, Contains-append_right, Contains-get_or}
use Rattle.std.proofs.lemmas.List.Sorted.{Contains-permutation, IsNonDecreasingBy-drop, IsPermutation-append_right, IsPermutation-middle, IsPermutation-refl, IsPermutation-sym, IsPermutation-trans}
use Rattle.rgo_runtime.specs.Printing.{AreFrom, GivesOut, GivesSome, IsPieceOf, bytes_of_prints, ticket_of}
use Rattle.rgo_table_runs.specs.Goroutine.Acts.declared.prints.Print.{Print}

abbrev pub NotAfter : List Print → Print → Type 0
NotAfter rest print = All (λ q. print.ticket ≤ q.ticket) rest

-- Some of the prints have gone out, some are kept, and the rest is still to come.
pub record Walk
    (prints : List Print) (from : ℕ) (kept rest : List Print) (next : ℕ) (before now : Option (List ℕ))
    : Type 0 where
  pub given : List Print
  pub turns : AreFrom from given
  pub all : IsPermutation prints (given ++ (kept ++ rest))
  pub many : next ≡ from + length given
  pub sorted : IsNonDecreasingBy ticket_of rest
  pub below : All (NotAfter rest) kept
  pub none : All (λ print. print.ticket ≡ next → ⊥) kept
  pub out : Appends before now (bytes_of_prints given)

-- ---- lists of prints

turns_more : (from next : ℕ) (given : List Print) (x : Print) → AreFrom from given → next ≡ from + length given → x.ticket ≡ next
    → AreFrom from (given ++ x ∷ [])
turns_more from next [] x turns many turn = (turn ∙ many ∙ omega arith, tt)
turns_more from next (p ∷ given) x turns many turn =
    (turns.0, turns_more (from + 1) next given x turns.1 (omega (arith, many)) turn)

bytes_more : (given : List Print) (x : Print) → bytes_of_prints (given ++ x ∷ []) ≡ bytes_of_prints given ++ x.bytes.items
bytes_more [] x = append-nil x.bytes.items
bytes_more (p ∷ given) x =
    ap (λ l. p.bytes.items ++ l) (bytes_more given x) ∙ sym (append_assoc p.bytes.items (bytes_of_prints given) x.bytes.items)

-- the first of them has no greater ticket than the others
first_not_after : (x : Print) (rest : List Print) → IsNonDecreasingBy ticket_of (x ∷ rest) → NotAfter rest x
first_not_after x rest sorted =
    All-from_get_or (λ q. x.ticket ≤ q.ticket) rest x (λ i within. sorted 0 (suc i) x (omega arith) (omega (arith, within)))

tail_sorted : (x : Print) (rest : List Print) → IsNonDecreasingBy ticket_of (x ∷ rest) → IsNonDecreasingBy ticket_of rest
tail_sorted x rest sorted = IsNonDecreasingBy-drop ticket_of 1 (x ∷ rest) sorted

-- ---- the walk

pub walk_none : (prints : List Print) (from : ℕ) (now : Option (List ℕ)) → IsNonDecreasingBy ticket_of prints → Walk prints from [] prints from now now
walk_none prints from now sorted = record {
  given = [];
  turns = tt;
  all = IsPermutation-refl prints;
  many = omega arith;
  sorted = sorted;
  below = All-nil (NotAfter prints);
  none = All-nil (λ print. print.ticket ≡ from → ⊥);
  out = Appends-nil now;
}

module _
    (prints : List Print) (from : ℕ) (kept : List Print) (x : Print) (rest : List Print) (next : ℕ) (before now : Option (List ℕ))
    (walk : Walk prints from kept (x ∷ rest) next before now) where
  -- the next print is one of all
  pub walk_has : Contains prints x
  walk_has =
      Contains-permutation (walk.given ++ (kept ++ x ∷ rest)) prints x (IsPermutation-sym _ _ walk.all)
      (Contains-append_right walk.given (kept ++ x ∷ rest) x (Contains-append_right kept (x ∷ rest) x (Contains-get_or (x ∷ rest) 0 x (omega arith))))

  -- the print `x` comes after those that went out
  moved : IsPermutation prints ((walk.given ++ x ∷ []) ++ (kept ++ rest))
  moved =
      IsPermutation-trans _ _ _ walk.all
      (subst (IsPermutation (walk.given ++ (kept ++ x ∷ rest))) (sym (append_assoc walk.given (x ∷ []) (kept ++ rest)))
      (IsPermutation-append_right walk.given _ _ (IsPermutation-middle kept x rest)))

  -- it is the turn of the next print, which has gone out
  pub walk_given : (later : Option (List ℕ)) → x.ticket ≡ next → Appends now later x.bytes.items → Walk prints from kept rest (next + 1) before later
  walk_given later turn out = record {
    given = walk.given ++ x ∷ [];
    turns = turns_more from next walk.given x walk.turns walk.many turn;
    all = moved;
    many = omega (arith, walk.many, length-append walk.given (x ∷ []));
    sorted = tail_sorted x rest walk.sorted;
    below = All-weaker (NotAfter (x ∷ rest)) (NotAfter rest) (λ p all. All-tail (λ q. p.ticket ≤ q.ticket) x rest all) kept walk.below;
    none = All-weaker (NotAfter (x ∷ rest)) (λ p. p.ticket ≡ next + 1 → ⊥)
        (λ p all is. omega (arith, turn, is, All-head (λ q. p.ticket ≤ q.ticket) x rest all)) kept walk.below;
    out = subst (Appends before later) (sym (bytes_more walk.given x)) (Appends-trans before now later _ _ walk.out out);
  }

  -- it is not, and the print is kept
  pub walk_kept : (x.ticket ≡ next → ⊥) → Walk prints from (kept ++ x ∷ []) rest next before now
  walk_kept apart = record {
    given = walk.given;
    turns = walk.turns;
    all = subst (λ l. IsPermutation prints (walk.given ++ l)) (sym (append_assoc kept (x ∷ []) rest)) walk.all;
    many = walk.many;
    sorted = tail_sorted x rest walk.sorted;
    below = All-push (NotAfter rest) kept x
        (All-weaker (NotAfter (x ∷ rest)) (NotAfter rest) (λ p all. All-tail (λ q. p.ticket ≤ q.ticket) x rest all) kept walk.below)
        (first_not_after x rest walk.sorted);
    none = All-push (λ p. p.ticket ≡ next → ⊥) kept x walk.none apart;
    out = walk.out;
  }

  -- some of it has gone out
  pub walk_fault : (later : Option (List ℕ)) (n : ℕ) → x.ticket ≡ next → Appends now later (take n x.bytes.items) → GivesSome prints from before later
  walk_fault later n turn out = record {
    given = walk.given ++ x ∷ [];
    turns = turns_more from next walk.given x walk.turns walk.many turn;
    rest = kept ++ rest;
    all = moved;
    count = length (bytes_of_prints walk.given) + n;
    out = subst (Appends before later)
        (sym (ap (take (length (bytes_of_prints walk.given) + n)) (bytes_more walk.given x) ∙ take-append-add (bytes_of_prints walk.given) x.bytes.items n))
        (Appends-trans before now later _ _ walk.out out);
  }

pub walk_all : (prints : List Print) (from : ℕ) (kept rest : List Print) (next : ℕ) (before now : Option (List ℕ))
    → Walk prints from kept rest next before now → rest ≡ [] → GivesOut prints from kept next before now
walk_all prints from kept rest next before now walk none = record {
  given = walk.given;
  turns = walk.turns;
  all = subst (λ l. IsPermutation prints (walk.given ++ l)) (ap (λ l. kept ++ l) none ∙ append-nil kept) walk.all;
  many = walk.many;
  none = walk.none;
  out = walk.out;
}

-- ---- places of a list

-- the element at i comes after the first k
pub take-swap : {X : Type 0} (xs : List X) (k i : ℕ) (x : X) → k ≤ i → i < length xs → x ≡ get_or xs i x
    → take (k + 1) (swap xs k i) ≡ take k xs ++ x ∷ []
take-swap xs k i x below within is = ⊎_elim before at (cases_lt k i)
  where
    whole : swap xs k i ≡ set (set xs k (get_or xs i x)) i (get_or xs k x)
    whole = sym (swap_is xs k i x (omega arith) within)

    before : k < i → take (k + 1) (swap xs k i) ≡ take k xs ++ x ∷ []
    before lt =
        ap (take (k + 1)) whole
        ∙ take-set-le (k + 1) (set xs k (get_or xs i x)) i (get_or xs k x) (omega arith)
        ∙ take_more_set xs k (get_or xs i x) (omega arith)
        ∙ ap (λ y. take k xs ++ y ∷ []) (sym is)

    at : i ≤ k → take (k + 1) (swap xs k i) ≡ take k xs ++ x ∷ []
    at le =
        let same : i ≡ k = omega arith in
        let ys = set xs k (get_or xs i x) in
        ap (take (k + 1)) (whole ∙ ap (λ j. set ys j (get_or xs k x)) same)
        ∙ take_more_set ys k (get_or xs k x) (omega (arith, length-set xs k (get_or xs i x)))
        ∙ ap (λ l. l ++ get_or xs k x ∷ []) (take-set xs k (get_or xs i x))
        ∙ ap (λ y. take k xs ++ y ∷ []) (sym (is ∙ ap (λ j. get_or xs j x) same))

-- what comes after i stays
pub drop-swap : {X : Type 0} (xs : List X) (k i : ℕ) (x : X) → k ≤ i → i < length xs → drop (i + 1) (swap xs k i) ≡ drop (i + 1) xs
drop-swap xs k i x below within =
    ap (drop (i + 1)) (sym (swap_is xs k i x (omega arith) within))
    ∙ drop-set-lt (i + 1) (set xs k (get_or xs i x)) i (get_or xs k x) (omega arith)
    ∙ drop-set-lt (i + 1) xs k (get_or xs i x) (omega arith)

pub drop-at : {X : Type 0} (xs : List X) (i : ℕ) (x : X) → i < length xs → x ≡ get_or xs i x → drop i xs ≡ x ∷ drop (i + 1) xs
drop-at xs i x within is = rw add-one (drop-cons xs i x within ∙ ap (λ y. y ∷ drop (suc i) xs) (sym is))

-- ---- pieces

-- the pieces of one more print
pub pieces_more : (prints : List Print) (x : Print) (a b c : Option (List (List ℕ))) → Contains prints x → AddsOnly (IsPieceOf prints) a b
    → AddsOnly (IsEndOf x.bytes.items) b c → AddsOnly (IsPieceOf prints) a c
pieces_more prints x a b c has first more = (
  first.0 ++ more.0,
  AddsPieces-trans a b c first.0 more.0 first.1 more.1,
  All-append (IsPieceOf prints) first.0 more.0 first.2
      (All-weaker (IsEndOf x.bytes.items) (IsPieceOf prints) (λ piece end. (x, has, end)) more.0 more.2),
)

-- ---- prints that were sorted

module _ (old sorted : List Print) (same : IsPermutation old sorted) (from : ℕ) where
  pub sorted_out : (new : List Print) (next : ℕ) (before now : Option (List ℕ)) → GivesOut sorted from new next before now
      → GivesOut old from new next before now
  sorted_out new next before now gives = record {
    given = gives.given;
    turns = gives.turns;
    all = IsPermutation-trans _ _ _ same gives.all;
    many = gives.many;
    none = gives.none;
    out = gives.out;
  }

  pub sorted_some : (before now : Option (List ℕ)) → GivesSome sorted from before now → GivesSome old from before now
  sorted_some before now gives = record {
    given = gives.given;
    turns = gives.turns;
    rest = gives.rest;
    all = IsPermutation-trans _ _ _ same gives.all;
    count = gives.count;
    out = gives.out;
  }

pub sorted_pieces : (old sorted : List Print) → IsPermutation old sorted → (before now : Option (List (List ℕ)))
    → AddsOnly (IsPieceOf sorted) before now → AddsOnly (IsPieceOf old) before now
sorted_pieces old sorted same before now pieces = (
  pieces.0,
  pieces.1,
  All-weaker (IsPieceOf sorted) (IsPieceOf old)
      (λ piece is. (is.0, Contains-permutation sorted old is.0 (IsPermutation-sym old sorted same) is.1, is.2)) pieces.0 pieces.2,
)

-- ---- one call after another

pub turns_append : (from : ℕ) (given more : List Print) → AreFrom from given → AreFrom (from + length given) more → AreFrom from (given ++ more)
turns_append from [] more first later = subst (λ n. AreFrom n more) (add-zero from) later
turns_append from (p ∷ given) more first later =
    let n : from + length (p ∷ given) ≡ from + 1 + length given = omega arith in
    (first.0, turns_append (from + 1) given more first.1 (subst (λ k. AreFrom k more) n later))

pub bytes_append : (given more : List Print) → bytes_of_prints (given ++ more) ≡ bytes_of_prints given ++ bytes_of_prints more
bytes_append [] more = refl
bytes_append (p ∷ given) more =
    ap (λ l. p.bytes.items ++ l) (bytes_append given more) ∙ sym (append_assoc p.bytes.items (bytes_of_prints given) (bytes_of_prints more))
