-- Lists with a byte between their words, read word by word.
use Rattle.std.proofs.Common.{◌≡◌, ◌≢◌, ℕ, ◌+◌, ◌<◌, ◌≤◌, ◌==◌, Bool, true, false, nat_lt, List, [], ◌∷◌, ◌++◌, length, take, drop, Option, Some, None, refl, sym, ap, subst, ◌∙◌, arith, append_assoc}
use Rattle.std.specs.List.{slice_split, position_or_len}
use Rattle.std.specs.Bool.{Decides}
use Rattle.std.proofs.lemmas.Bool.Decides.{Decides-ltb, not_from_Decides}
use Rattle.std.proofs.lemmas.List.{drop-drop, take_all}
use Rattle.std.proofs.lemmas.List.Elements.{All-from_get_or}
use Rattle.std.proofs.lemmas.List.Splits.{slice_split_first, slice_split_none}
use Rattle.std.proofs.lemmas.List.Sums.{fails_before_first}
use Rattle.rgo_code_words.specs.Readers.{option_cons, read_each}

-- what was read, and the rest
abbrev pub added : {A : Type 0} → List A → Option (List A) → Option (List A)
added xs None = None
added xs (Some ys) = Some (xs ++ ys)

more_of : {A : Type 0} (xs : List A) (a : A) (others : Option (List A))
    → added xs (option_cons (Some a) others) ≡ added (xs ++ a ∷ []) others
more_of xs a None = refl
more_of xs a (Some ys) = ap Some (sym (append_assoc xs (a ∷ []) ys))

module _ (c : ℕ) where
  abbrev pub is_between : ℕ → Bool
  is_between b = b == c

  -- all words of a list, at least one
  abbrev pub read_words : {A : Type 0} → (List ℕ → Option A) → List ℕ → Option (List A)
  read_words read list = read_each read (slice_split is_between list)

  first_read : {A : Type 0} (read : List ℕ → Option A) (rest : List ℕ) → position_or_len is_between rest < length rest
      → read_words read rest
      ≡ option_cons (read (take (position_or_len is_between rest) rest))
      (read_words read (drop (position_or_len is_between rest + 1) rest))
  first_read read rest l = ap (read_each read) (slice_split_first is_between rest 0 l)

  only_read : {A : Type 0} (read : List ℕ → Option A) (rest : List ℕ) → position_or_len is_between rest ≡ length rest
      → read_words read rest ≡ option_cons (read rest) (Some [])
  only_read read rest e =
      ap (read_each read) (slice_split_none is_between rest (All-from_get_or (λ b. is_between b ≡ false) rest 0
      (λ k l. fails_before_first is_between rest k 0 (omega (arith, l, e)))))

  -- a word that is followed by another one
  pub more_read : {A : Type 0} (read : List ℕ → Option A) (xs : List A) (list : List ℕ) (at n : ℕ) (a : A)
      → position_or_len is_between (drop at list) ≡ n → n < length (drop at list) → read (take n (drop at list)) ≡ Some a
      → added xs (read_words read (drop at list)) ≡ added (xs ++ a ∷ []) (read_words read (drop (at + n + 1) list))
  more_read read xs list at n a e l is =
      let rest = drop at list in
      let cut : read_words read rest ≡ option_cons (read (take n rest)) (read_words read (drop (n + 1) rest)) =
      subst (λ m. m < length rest
      → read_words read rest ≡ option_cons (read (take m rest)) (read_words read (drop (m + 1) rest)))
      e (first_read read rest) l in
      ap (added xs) (cut ∙ ap (λ o. option_cons o (read_words read (drop (n + 1) rest))) is)
      ∙ more_of xs a (read_words read (drop (n + 1) rest))
      ∙ ap (λ t. added (xs ++ a ∷ []) (read_words read t)) (drop-drop (n + 1) at list ∙ ap (λ m. drop m list) (omega arith))

  -- the last word
  pub last_read : {A : Type 0} (read : List ℕ → Option A) (xs : List A) (rest : List ℕ) (n : ℕ) (a : A)
      → position_or_len is_between rest ≡ n → n ≡ length rest → read (take n rest) ≡ Some a
      → added xs (read_words read rest) ≡ Some (xs ++ a ∷ [])
  last_read read xs rest n a e l is =
      let whole : take n rest ≡ rest = take_all n rest (omega (arith, l)) in
      ap (added xs) (only_read read rest (e ∙ l) ∙ ap (λ o. option_cons o (Some [])) (ap read (sym whole) ∙ is))

  -- a word that is not read
  pub none_read : {A : Type 0} (read : List ℕ → Option A) (xs : List A) (rest : List ℕ) (n : ℕ)
      → position_or_len is_between rest ≡ n → n ≤ length rest → read (take n rest) ≡ None
      → added xs (read_words read rest) ≡ None
  none_read {A} read xs rest n e l fails = by (nat_lt n (length rest)) (Decides-ltb n (length rest))
    where
      by : (b : Bool) → Decides b (n < length rest) → added xs (read_words read rest) ≡ None
      by true d =
          ap (added xs) (subst (λ m. m < length rest → read_words read rest
          ≡ option_cons (read (take m rest)) (read_words read (drop (m + 1) rest))) e (first_read read rest) (d.0 refl)
          ∙ ap (λ o. option_cons o (read_words read (drop (n + 1) rest))) fails)
      by false d =
          let no_less : ¬ (n < length rest) = not_from_Decides false d refl in
          let same : n ≡ length rest = omega (arith, l, no_less) in
          let whole : take n rest ≡ rest = take_all n rest (omega (arith, same)) in
          ap (added xs) (only_read read rest (e ∙ same) ∙ ap (λ o. option_cons o (Some [])) (ap read (sym whole) ∙ fails))

  -- ---- what is left of a list, as a slice has it

  module _ {A : Type 0} (read : List ℕ → Option A) (xs : List A) (list rest : List ℕ) (at n : ℕ) (whole : rest ≡ drop at list)
      (first : n ≡ position_or_len is_between rest) (within : n ≤ length rest)
      (so_far : added xs (read_words read (drop at list)) ≡ read_words read list) where
    pub list_none : (o : Option A) → o ≡ read (take n rest) → o ≡ None → None ≡ read_words read list
    list_none o e f =
        sym (sym so_far ∙ ap (λ r. added xs (read_words read r)) (sym whole)
        ∙ none_read read xs rest n (sym first) within (sym e ∙ f))

    pub list_last : (o : Option A) (a : A) (ys : List A) → o ≡ read (take n rest) → o ≡ Some a → n ≡ length rest
        → ys ≡ xs ++ a ∷ [] → Some ys ≡ read_words read list
    list_last o a ys e f l y =
        sym (sym so_far ∙ ap (λ r. added xs (read_words read r)) (sym whole)
        ∙ last_read read xs rest n a (sym first) l (sym e ∙ f) ∙ ap Some (sym y))

    pub list_more : (o : Option A) (a : A) (ys : List A) → o ≡ read (take n rest) → o ≡ Some a → n ≢ length rest
        → ys ≡ xs ++ a ∷ [] → added ys (read_words read (drop (at + n + 1) list)) ≡ read_words read list
    list_more o a ys e f l y =
        let less : n < length rest = omega (arith, within, l) in
        ap (λ zs. added zs (read_words read (drop (at + n + 1) list))) y
        ∙ sym (more_read read xs list at n a (ap (position_or_len is_between) (sym whole) ∙ sym first)
        (subst (λ r. n < length r) whole less) (ap (λ r. read (take n r)) (sym whole) ∙ sym e ∙ f))
        ∙ so_far
