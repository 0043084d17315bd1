-- The names of the options, in any order: the words in the order of the user are a permutation of those in the order of the definition.
use Rattle.std.proofs.Common.{◌≡◌, ◌∙◌, refl, sym, ap, ap₂, subst, codes, cond, Bool, true, false, true≢false}
use Rattle.std.proofs.Common.{◌||◌, ℕ, ◌<◌, List, [], ◌∷◌, ◌++◌, length, map, arith, slice_index_or, slice_set}
use Rattle.std.specs.List.{AllByRecursion, IsDistinct, list_any, swap}
use Rattle.std.specs.List.Sorted.{IsPermutation}
use Rattle.std.specs.Str.{bytes_eq}
use Rattle.std.proofs.lemmas.List.{get_or-map, length-map, map-set}
use Rattle.std.proofs.lemmas.List.Folds.{list_any-append}
use Rattle.std.proofs.lemmas.List.Sorted.{IsPermutation-keeps, IsPermutation-refl, IsPermutation-swap}
use Rattle.std.proofs.lemmas.List.Sorted.{IsPermutation-trans}
use Rattle.std.proofs.lemmas.Map.Keys.{IsDistinct-head}
use Rattle.std.proofs.lemmas.Slice.Eq.{bytes_eq-Decides}
use Rattle.clap.specs.Words.{Text}
use Rattle.rgo_command_line.specs.Laws.{joined_groups}
use Rattle.rgo_command_line.proofs.WordLemmas.{Name, goroutines, number, page_words, pages, regions, stats, steps}
use Rattle.rgo_command_line.proofs.WordLemmas.{text_of, workers}

abbrev pub same : Name → Name → Bool
same a b = bytes_eq (text_of a) (text_of b)

-- the option of this name
name_from : Text → Name
name_from text =
    cond (bytes_eq (codes "steps") text) (number steps)
    (cond (bytes_eq (codes "goroutines") text) (number goroutines)
    (cond (bytes_eq (codes "pages") text) (number pages)
    (cond (bytes_eq (codes "page-words") text) (number page_words)
    (cond (bytes_eq (codes "regions") text) (number regions)
    (cond (bytes_eq (codes "workers") text) (number workers) stats)))))

from_text : (name : Name) → name_from (text_of name) ≡ name
unfolding name_from
from_text (number steps) = refl
from_text (number goroutines) = refl
from_text (number pages) = refl
from_text (number page_words) = refl
from_text (number regions) = refl
from_text (number workers) = refl
from_text stats = refl

pub same_is : (a b : Name) → same a b ≡ true → a ≡ b
same_is a b e =
    sym (from_text a) ∙ ap name_from ((bytes_eq-Decides (text_of a) (text_of b)).0 e) ∙ from_text b

pub same_self : (a : Name) → same a a ≡ true
same_self a = (bytes_eq-Decides (text_of a) (text_of a)).1 refl

pub same_flips : (a b : Name) → same a b ≡ same b a
same_flips a b = by_both (same a b) (same b a) refl refl
  where
    turned : (a b : Name) → same a b ≡ true → same b a ≡ true
    turned a b e = subst (λ c. same c a ≡ true) (same_is a b e) (same_self a)

    by_both : (x y : Bool) → same a b ≡ x → same b a ≡ y → x ≡ y
    by_both true true e f = refl
    by_both false false e f = refl
    by_both true false e f = sym (turned a b e) ∙ f
    by_both false true e f = sym e ∙ turned b a f

-- each option once
abbrev pub names : List Name
names =
    number steps ∷ number goroutines ∷ number pages ∷ number page_words ∷ number regions ∷ number workers ∷ stats ∷ []

pub names_distinct : IsDistinct same names
unfolding IsDistinct
names_distinct = (
  (refl, (refl, (refl, (refl, (refl, (refl, tt)))))),
  (
    (refl, (refl, (refl, (refl, (refl, tt))))),
    (
      (refl, (refl, (refl, (refl, tt)))),
      (
        (refl, (refl, (refl, tt))),
        (
          (refl, (refl, tt)),
          ((refl, tt), (tt, tt)),
        ),
      ),
    ),
  ),
)

pub is_name : (name : Name) → list_any (same name) names ≡ true
is_name (number steps) = refl
is_name (number goroutines) = refl
is_name (number pages) = refl
is_name (number page_words) = refl
is_name (number regions) = refl
is_name (number workers) = refl
is_name stats = refl

none_of : (name : Name) (rest : List Name)
    → AllByRecursion (λ n. same name n ≡ false) rest
    → list_any (same name) rest ≡ false
none_of name [] h = refl
none_of name (x ∷ xs) h = ap₂ (λ (a b : Bool). a || b) h.0 (none_of name xs h.1)

-- the first of distinct names differs from the others
pub not_again : (name : Name) (rest : List Name)
    → IsDistinct same (name ∷ rest)
    → list_any (same name) rest ≡ false
not_again name rest distinct = none_of name rest (IsDistinct-head same name rest distinct)

-- where a name is among others
pub split : (name : Name) (all : List Name)
    → list_any (same name) all ≡ true
    → (before after : List Name) × (all ≡ before ++ name ∷ after)
split name [] e = absurd (true≢false (sym e))
split name (x ∷ xs) e = by_first (same name x) refl e (split name xs)
  where
    by_first : (b : Bool)
        → same name x ≡ b
        → (b || list_any (same name) xs) ≡ true
        → (list_any (same name) xs ≡ true → (before after : List Name) × (xs ≡ before ++ name ∷ after))
        → (before after : List Name) × (x ∷ xs ≡ before ++ name ∷ after)
    by_first true d f h = ([], xs, ap (λ n. n ∷ xs) (sym (same_is name x d)))
    by_first false d f h = (x ∷ (h f).0, (h f).1, ap (λ l. x ∷ l) (h f).2)

-- another name stays if this one is taken out
pub still_among : (name other : Name) (before after : List Name)
    → same name other ≡ false
    → list_any (same other) (before ++ name ∷ after) ≡ true
    → list_any (same other) (before ++ after) ≡ true
still_among name other before after differ e =
    list_any-append (same other) before after
    ∙ ap (λ b. list_any (same other) before || (b || list_any (same other) after))
    (sym (same_flips other name ∙ differ))
    ∙ sym (list_any-append (same other) before (name ∷ after))
    ∙ e

-- the words of one option do not matter if it is not among the names
pub other_words : (name : Name) (mine : List Text) (words : Name → List Text) (rest : List Name)
    → list_any (same name) rest ≡ false
    → map (λ n. cond (same name n) mine (words n)) rest ≡ map words rest
other_words name mine words [] e = refl
other_words name mine words (x ∷ xs) e = by_first (same name x) e (other_words name mine words xs)
  where
    by_first : (b : Bool)
        → (b || list_any (same name) xs) ≡ false
        → (list_any (same name) xs ≡ false → map (λ n. cond (same name n) mine (words n)) xs ≡ map words xs)
        → cond b mine (words x) ∷ map (λ n. cond (same name n) mine (words n)) xs ≡ words x ∷ map words xs
    by_first true f h = absurd (true≢false f)
    by_first false f h = ap (λ l. words x ∷ l) (h f)

pub no_words : (rest : List Name) → joined_groups (map (λ n. []) rest) ≡ []
no_words [] = refl
no_words (x ∷ xs) = no_words xs

-- ---- words in the order of names

module _ (words : Name → List Text) where
  map_swap : (l : List Name) (i j : ℕ)
      → i < length l
      → j < length l
      → map words (swap l i j) ≡ swap (map words l) i j
  map_swap [] i j p q = refl
  map_swap (d ∷ ys) i j p q =
      let l : List Name = d ∷ ys in
      map-set words (slice_set l i (slice_index_or l j d)) j (slice_index_or l i d)
      ∙ ap₂ (λ (g : List (List Text)) (w : List Text). slice_set g j w)
      (map-set words l i (slice_index_or l j d)
      ∙ ap (λ w. slice_set (map words l) i w) (sym (get_or-map words l j d (words d) q)))
      (sym (get_or-map words l i d (words d) p))

  -- the groups in some order are the words of the names in some order
  pub names_in_order : (all : List Name) (order : List (List Text))
      → IsPermutation (map words all) order
      → (places : List Name) × IsPermutation all places × (order ≡ map words places)
  names_in_order all order permuted =
      IsPermutation-keeps (map words all)
      (λ l. (places : List Name) × IsPermutation all places × (l ≡ map words places))
      (all, IsPermutation-refl all, refl)
      (λ l i j p q h.
      let long : length l ≡ length h.0 = ap length h.2 ∙ length-map h.0 words in (
        swap h.0 i j,
        IsPermutation-trans all h.0 (swap h.0 i j) h.1
            (IsPermutation-swap h.0 (swap h.0 i j) i j (omega (arith, p, long)) (omega (arith, q, long)) refl),
        ap (λ m. swap m i j) h.2 ∙ sym (map_swap h.0 i j (omega (arith, p, long)) (omega (arith, q, long))),
      ))
      order permuted
