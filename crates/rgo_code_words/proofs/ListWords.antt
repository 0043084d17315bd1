-- Lists are read back, and nothing else is read.
use Rattle.std.proofs.Common.{◌≡◌, ℕ, ◌+◌, ◌-◌, ◌<◌, ◌==◌, nat_lt, true, List, [], ◌∷◌, ◌++◌, map, length, take, drop, get_or, Option, Some, None, refl, sym, ap, subst, ◌∙◌, arith, append_assoc, length-append, length-drop, get_or-drop}
use Rattle.std.specs.List.{All, slice_split, join_with_byte}
use Rattle.std.specs.Str.{bytes_eq}
use Rattle.std.proofs.lemmas.Bool.Decides.{Decides-eqb, Decides-ltb}
use Rattle.std.proofs.lemmas.List.{take_at, drop_at, get_or_at, take-append-drop, take_all, take_more, length-map}
use Rattle.std.proofs.lemmas.List.Elements.{All-head, All-tail, All-nil, All-cons}
use Rattle.std.proofs.lemmas.List.Splits.{slice_split_none, slice_split_at, join_with_byte-slice_split, length-slice_split}
use Rattle.std.proofs.lemmas.Slice.Eq.{bytes_eq-Decides}
use Rattle.rgo_code_words.specs.Readers.{option_cons, read_each, read_list, bytes_inside}
use Rattle.rgo_code_printing.specs.Words.{comma_separated}
use Rattle.rgo_code_words.proofs.Lacks.{Lacks, AllLack, both_true}
use Rattle.rgo_code_words.proofs.Listing.{is_between, read_words}
use Rattle.rgo_code_words.proofs.Options.{some_same, not_none, under}

-- ---- what is between a front and a last byte

pub inside_back : (front list : List ℕ) (last : ℕ) → bytes_inside front last (front ++ (list ++ last ∷ [])) ≡ Some list
inside_back front list last =
    let word = front ++ (list ++ last ∷ []) in
    let long : length word ≡ length front + length list + 1 =
    length-append front (list ++ last ∷ []) ∙ ap (λ n. length front + n) (length-append list (last ∷ [])) ∙ omega arith in
    let enough : nat_lt (length front) (length word) ≡ true =
    (Decides-ltb (length front) (length word)).1 (omega (arith, long)) in
    let begins : bytes_eq (take (length front) word) front ≡ true =
    (bytes_eq-Decides (take (length front) word) front).1 (take_at front (list ++ last ∷ []) (length front) refl) in
    let both : length (front ++ list) ≡ length word - 1 = omega (arith, long, length-append front list) in
    let ends : (get_or word (length word - 1) 0 == last) ≡ true =
    (Decides-eqb (get_or word (length word - 1) 0) last).1
    (ap (λ w. get_or w (length word - 1) 0) (sym (append_assoc front list (last ∷ [])))
    ∙ get_or_at (front ++ list) last [] 0 (length word - 1) both) in
    let rest : drop (length front) word ≡ list ++ last ∷ [] = drop_at front (list ++ last ∷ []) (length front) refl in
    let len : length list ≡ length word - 1 - length front = omega (arith, long) in
    let middle : take (length word - 1 - length front) (drop (length front) word) ≡ list =
    ap (take (length word - 1 - length front)) rest ∙ take_at list (last ∷ []) (length word - 1 - length front) len in
    rw (enough, begins, ends) (ap Some middle)

inside_parts : (word : List ℕ) (n : ℕ) → n < length word
    → word ≡ take n word ++ (take (length word - 1 - n) (drop n word) ++ get_or word (length word - 1) 0 ∷ [])
inside_parts word n l =
    let rest = drop n word in
    let k = length word - 1 - n in
    let len : length rest ≡ k + 1 = omega (arith, l, length-drop n word) in
    let whole : take (k + 1) rest ≡ rest = take_all (k + 1) rest (omega (arith, len)) in
    let last : get_or rest k 0 ≡ get_or word (length word - 1) 0 =
    get_or-drop n word k 0 ∙ ap (λ j. get_or word j 0) (omega (arith, l)) in
    sym (take-append-drop n word)
    ∙ ap (λ t. take n word ++ t) (sym whole ∙ take_more rest k 0 (omega (arith, len)) ∙ ap (λ b. take k rest ++ b ∷ []) last)

pub inside_is : (front word list : List ℕ) (last : ℕ) → bytes_inside front last word ≡ Some list
    → word ≡ front ++ (list ++ last ∷ [])
inside_is front word list last e =
    let u = under _ _ list e in
    let a = both_true _ _ u.holds in
    let b = both_true _ _ a.0 in
    let begins : take (length front) word ≡ front = (bytes_eq-Decides (take (length front) word) front).0 b.1 in
    let ends : get_or word (length word - 1) 0 ≡ last = (Decides-eqb (get_or word (length word - 1) 0) last).0 a.1 in
    let long : length front < length word = (Decides-ltb (length front) (length word)).0 b.0 in
    inside_parts word (length front) long
    ∙ ap (λ t. t ++ (take (length word - 1 - length front) (drop (length front) word) ++ get_or word (length word - 1) 0 ∷ [])) begins
    ∙ ap (λ t. front ++ (t ++ get_or word (length word - 1) 0 ∷ [])) (some_same _ list u.is)
    ∙ ap (λ b. front ++ (list ++ b ∷ [])) ends

-- ---- words with a byte between them

pub split_again : (c : ℕ) (w : List ℕ) (ws : List (List ℕ)) → AllLack c (w ∷ ws)
    → slice_split (is_between c) (join_with_byte c (w ∷ ws)) ≡ w ∷ ws
split_again c w [] l = slice_split_none (is_between c) w (All-head (Lacks c) w [] l)
split_again c w (v ∷ ws) l =
    slice_split_at (is_between c) w c (join_with_byte c (v ∷ ws)) (All-head (Lacks c) w (v ∷ ws) l)
    ((Decides-eqb c c).1 refl)
    ∙ ap (λ t. w ∷ t) (split_again c v ws (All-tail (Lacks c) w (v ∷ ws) l))

-- words that are read back and lack the byte between, and nothing else is read
pub record Reads {A : Type 0} (c : ℕ) (read : List ℕ → Option A) (word : A → List ℕ) (Fits : A → Type 0) : Type 0 where
  pub back : (a : A) → Fits a → read (word a) ≡ Some a
  pub is : (bytes : List ℕ) (a : A) → read bytes ≡ Some a → (bytes ≡ word a) × Fits a
  pub lacks : (a : A) → Fits a → Lacks c (word a)

-- what the words of a list were read as
pub record AreWords {A : Type 0} (word : A → List ℕ) (Fits : A → Type 0) (words : List (List ℕ)) (xs : List A) : Type 0 where
  pub words_are : words ≡ map word xs
  pub fit : All Fits xs

module _ {A : Type 0} (c : ℕ) (read : List ℕ → Option A) (word : A → List ℕ) (Fits : A → Type 0)
    (reads : Reads c read word Fits) where
  each_back : (xs : List A) → All Fits xs → read_each read (map word xs) ≡ Some xs
  each_back [] f = refl
  each_back (x ∷ xs) f =
      ap (λ o. option_cons o (read_each read (map word xs))) (reads.back x (All-head Fits x xs f))
      ∙ ap (option_cons (Some x)) (each_back xs (All-tail Fits x xs f))

  all_lack : (xs : List A) → All Fits xs → AllLack c (map word xs)
  all_lack [] f = All-nil (Lacks c)
  all_lack (x ∷ xs) f =
      All-cons (Lacks c) (word x) (map word xs) (reads.lacks x (All-head Fits x xs f)) (all_lack xs (All-tail Fits x xs f))

  pub words_back : (x : A) (xs : List A) → All Fits (x ∷ xs)
      → read_words c read (join_with_byte c (map word (x ∷ xs))) ≡ Some (x ∷ xs)
  words_back x xs f =
      ap (read_each read) (split_again c (word x) (map word xs) (all_lack (x ∷ xs) f)) ∙ each_back (x ∷ xs) f

  each_is : (words : List (List ℕ)) (xs : List A) → read_each read words ≡ Some xs → AreWords word Fits words xs
  each_is [] xs e = subst (AreWords word Fits []) (some_same [] xs e) (record { words_are = refl; fit = All-nil Fits })
  each_is (w ∷ ws) xs e = by (read w) refl (read_each read ws) (each_is ws) e
    where
      by : (o : Option A) → read w ≡ o → (others : Option (List A))
          → ((ys : List A) → others ≡ Some ys → AreWords word Fits ws ys) → option_cons o others ≡ Some xs
          → AreWords word Fits (w ∷ ws) xs
      by None p others rest q = absurd (not_none xs q)
      by (Some a) p None rest q = absurd (not_none xs q)
      by (Some a) p (Some ys) rest q =
          let one = reads.is w a p in
          let more = rest ys refl in
          subst (AreWords word Fits (w ∷ ws)) (some_same (a ∷ ys) xs q)
          (record {
            words_are = ap (λ v. v ∷ ws) one.0 ∙ ap (λ vs. word a ∷ vs) more.words_are;
            fit = All-cons Fits a ys one.1 more.fit;
          })

  pub words_is : (list : List ℕ) (xs : List A) → read_words c read list ≡ Some xs
      → (list ≡ join_with_byte c (map word xs)) × All Fits xs
  words_is list xs e =
      let w = each_is (slice_split (is_between c) list) xs e in
      (sym (join_with_byte-slice_split c list) ∙ ap (join_with_byte c) w.words_are, w.fit)

  -- a list has a word
  pub words_some : (list : List ℕ) (xs : List A) → read_words c read list ≡ Some xs → 0 < length xs
  words_some list xs e =
      let w = each_is (slice_split (is_between c) list) xs e in
      omega (arith, length-slice_split (is_between c) list, ap length w.words_are, length-map xs word)

-- ---- lists with commas

module _ {A : Type 0} (read : List ℕ → Option A) (word : A → List ℕ) (Fits : A → Type 0) (reads : Reads 44 read word Fits)
    (some : (a : A) → 0 < length (word a)) where
  long : (x : A) (xs : List A) → 0 < length (comma_separated (map word (x ∷ xs)))
  long x [] = some x
  long x (y ∷ xs) =
      let len = length-append (word x) (44 ∷ comma_separated (map word (y ∷ xs))) in
      omega (arith, len, some x)

  some_list : (list : List ℕ) → 0 < length list → read_list read list ≡ read_words 44 read list
  some_list [] l = absurd (omega (arith, l))
  some_list (b ∷ list) l = refl

  pub list_back : (xs : List A) → All Fits xs → read_list read (comma_separated (map word xs)) ≡ Some xs
  list_back [] f = refl
  list_back (x ∷ xs) f =
      some_list (comma_separated (map word (x ∷ xs))) (long x xs) ∙ words_back 44 read word Fits reads x xs f

  pub list_is : (list : List ℕ) (xs : List A) → read_list read list ≡ Some xs → (list ≡ comma_separated (map word xs)) × All Fits xs
  list_is [] xs e =
      subst (λ ys. ([] ≡ comma_separated (map word ys)) × All Fits ys) (some_same [] xs e) (refl, All-nil Fits)
  list_is (b ∷ list) xs e = words_is 44 read word Fits reads (b ∷ list) xs e
