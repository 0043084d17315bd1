-- The first place of a name among names, and what a further name changes.
use Rattle.std.proofs.Common.{◌≡◌, ℕ, suc, ◌+◌, ◌≤◌, ◌==◌, ◌||◌, not, nat_lt, Bool, true, false, true≢false, cond, if◌then◌else◌, List, [], ◌∷◌, ◌++◌, length, Some, None, is_some, refl, sym, ap, ◌∙◌, arith, length-append}
use Rattle.std.specs.Str.{bytes_eq}
use Rattle.std.proofs.lemmas.Bool.Decides.{Decides-ltb, nat_tests, not_from_Decides}
use Rattle.std.proofs.lemmas.List.Folds.{position_or_len_push}
use Rattle.std.proofs.lemmas.Slice.Eq.{bytes_eq-Decides}
use Rattle.rgo_code_text.specs.Numbers.{number_if_known}
use Rattle.rgo_code_text.specs.Written.{number_of_name}
use Rattle.rgo_code_words.specs.Worded.{is_among}
use Rattle.rgo_code_words.proofs.Options.{not_none}

pub number_within : (names : List (List ℕ)) (name : List ℕ) → number_of_name names name ≤ length names
number_within [] name = omega arith
number_within (k ∷ names) name = by (bytes_eq k name) (number_within names name)
  where
    by : (b : Bool) → number_of_name names name ≤ length names → cond (not b) (1 + number_of_name names name) 0 ≤ length (k ∷ names)
    by true l = omega arith
    by false l = omega (arith, l)

-- whether a name is among names, by its first place
pub among_is : (names : List (List ℕ)) (name : List ℕ) → is_among names name ≡ nat_lt (number_of_name names name) (length names)
among_is [] name = refl
among_is (k ∷ names) name = by (bytes_eq k name) (among_is names name)
  where
    by : (b : Bool) → is_among names name ≡ nat_lt (number_of_name names name) (length names)
        → (b || is_among names name) ≡ nat_lt (cond (not b) (1 + number_of_name names name) 0) (length (k ∷ names))
    by true e = sym ((Decides-ltb 0 (length (k ∷ names))).1 (omega arith))
    by false e = e ∙ same (number_of_name names name) (length names)
      where
        same : (m n : ℕ) → nat_lt m n ≡ nat_lt (1 + m) (suc n)
        same m n = grind (arith, nat_tests)

pub first_known : (names : List (List ℕ)) (name : List ℕ) → is_among names name ≡ true
    → number_if_known names name ≡ Some (number_of_name names name)
first_known names name e =
    ap (λ t. if t then Some (number_of_name names name) else None) (sym (among_is names name) ∙ e)

pub first_unknown : (names : List (List ℕ)) (name : List ℕ) → is_among names name ≡ false → number_if_known names name ≡ None
first_unknown names name e =
    ap (λ t. if t then Some (number_of_name names name) else None) (sym (among_is names name) ∙ e)

-- a name without a first place has the number of all names
pub number_unknown : (names : List (List ℕ)) (name : List ℕ) → number_if_known names name ≡ None → number_of_name names name ≡ length names
number_unknown names name e = by (nat_lt (number_of_name names name) (length names)) refl e
  where
    by : (t : Bool) → nat_lt (number_of_name names name) (length names) ≡ t
        → (if t then Some (number_of_name names name) else None) ≡ None → number_of_name names name ≡ length names
    by true p q = absurd (not_none (number_of_name names name) (sym q))
    by false p q =
        let past = not_from_Decides (nat_lt (number_of_name names name) (length names)) (Decides-ltb (number_of_name names name) (length names)) p in
        omega (arith, number_within names name, past)

pub unknown_none : (names : List (List ℕ)) (name : List ℕ) → number_if_known names name ≡ None → is_among names name ≡ false
unknown_none names name e =
    among_is names name ∙ ap (λ k. nat_lt k (length names)) (number_unknown names name e) ∙ not_less (length names)
  where
    not_less : (n : ℕ) → nat_lt n n ≡ false
    not_less n = grind (arith, nat_tests)

-- ---- one more name

pushed : (k len m : ℕ) (b : Bool) → k ≤ len → m ≡ cond (k == len) (len + cond b 0 1) k
    → (if nat_lt m (len + 1) then Some m else None) ≡ (if nat_lt k len then Some k else (if b then Some len else None))
pushed k len m b l e = by (nat_lt k len) refl b e
  where
    by : (t : Bool) → nat_lt k len ≡ t → (b : Bool) → m ≡ cond (k == len) (len + cond b 0 1) k
        → (if nat_lt m (len + 1) then Some m else None) ≡ (if t then Some k else (if b then Some len else None))
    by true p b e =
        let apart : (k == len) ≡ false = grind (arith, nat_tests) in
        let is : m ≡ k = e ∙ ap (λ t. cond t (len + cond b 0 1) k) apart in
        let less : nat_lt m (len + 1) ≡ true = grind (arith, nat_tests) in
        ap (λ t. if t then Some m else None) less ∙ ap Some is
    by false p true e =
        let same : (k == len) ≡ true = grind (arith, nat_tests) in
        let is : m ≡ len + 0 = e ∙ ap (λ t. cond t (len + 0) k) same in
        let less : nat_lt m (len + 1) ≡ true = grind (arith, nat_tests) in
        ap (λ t. if t then Some m else None) less ∙ ap Some (is ∙ omega arith)
    by false p false e =
        let same : (k == len) ≡ true = grind (arith, nat_tests) in
        let is : m ≡ len + 1 = e ∙ ap (λ t. cond t (len + 1) k) same in
        let less : nat_lt m (len + 1) ≡ false = grind (arith, nat_tests) in
        ap (λ t. if t then Some m else None) less

pub first_push : (names : List (List ℕ)) (n name : List ℕ)
    → number_if_known (names ++ n ∷ []) name
    ≡ (if nat_lt (number_of_name names name) (length names) then Some (number_of_name names name)
    else (if bytes_eq n name then Some (length names) else None))
first_push names n name =
    ap (λ len. if nat_lt (number_of_name (names ++ n ∷ []) name) len then Some (number_of_name (names ++ n ∷ []) name) else None)
    (length-append names (n ∷ []))
    ∙ pushed (number_of_name names name) (length names) (number_of_name (names ++ n ∷ []) name) (bytes_eq n name) (number_within names name)
    (position_or_len_push (λ known. bytes_eq known name) names n)

-- a name that is new
pub push_new : (names : List (List ℕ)) (n : List ℕ) → number_if_known names n ≡ None → (name : List ℕ)
    → (if bytes_eq n name then Some (length names) else number_if_known names name) ≡ number_if_known (names ++ n ∷ []) name
push_new names n e name = by (bytes_eq n name) refl
  where
    by : (b : Bool) → bytes_eq n name ≡ b
        → (if b then Some (length names) else number_if_known names name) ≡ number_if_known (names ++ n ∷ []) name
    by true p =
        let same : n ≡ name = (bytes_eq-Decides n name).0 p in
        let past : nat_lt (number_of_name names name) (length names) ≡ false =
        sym (among_is names name) ∙ unknown_none names name (ap (number_if_known names) (sym same) ∙ e) in
        sym (first_push names n name
        ∙ ap (λ t. if t then Some (number_of_name names name) else (if bytes_eq n name then Some (length names) else None)) past
        ∙ ap (λ t. if t then Some (length names) else None) p)
    by false p =
        sym (first_push names n name
        ∙ ap (λ t. if nat_lt (number_of_name names name) (length names) then Some (number_of_name names name)
        else (if t then Some (length names) else None)) p)

-- a name that is among them
pub push_known : (names : List (List ℕ)) (n : List ℕ) → is_among names n ≡ true → (name : List ℕ)
    → number_if_known names name ≡ number_if_known (names ++ n ∷ []) name
push_known names n e name = by (nat_lt (number_of_name names name) (length names)) refl (bytes_eq n name) refl
  where
    by : (t : Bool) → nat_lt (number_of_name names name) (length names) ≡ t → (b : Bool) → bytes_eq n name ≡ b
        → number_if_known names name ≡ number_if_known (names ++ n ∷ []) name
    by true p b q =
        ap (λ t. if t then Some (number_of_name names name) else None) p
        ∙ sym (first_push names n name
        ∙ ap (λ t. if t then Some (number_of_name names name) else (if bytes_eq n name then Some (length names) else None)) p)
    by false p true q =
        let same : n ≡ name = (bytes_eq-Decides n name).0 q in
        absurd (true≢false (sym e ∙ ap (is_among names) same ∙ among_is names name ∙ p))
    by false p false q =
        ap (λ t. if t then Some (number_of_name names name) else None) p
        ∙ sym (first_push names n name
        ∙ ap (λ t. if t then Some (number_of_name names name) else (if bytes_eq n name then Some (length names) else None)) p
        ∙ ap (λ t. if t then Some (length names) else None) q)

pub some_first : (names : List (List ℕ)) (name : List ℕ) → is_some (number_if_known names name) ≡ is_among names name
some_first names name = by (is_among names name) refl
  where
    by : (b : Bool) → is_among names name ≡ b → is_some (number_if_known names name) ≡ b
    by true e = ap is_some (first_known names name e)
    by false e = ap is_some (first_unknown names name e)
