-- Names by number: those that are declared, and then those that are used and not known.
use Rattle.std.proofs.Common.{◌≡◌, ℕ, ◌+◌, ◌<◌, ◌||◌, Bool, true, false, true≢false, if◌then◌else◌, List, [], ◌∷◌, ◌++◌, map, length, drop, get_or, refl, sym, ap, subst, ◌∙◌, append-nil, append_assoc}
use Rattle.std.specs.List.{All, flat_map}
use Rattle.std.specs.Str.{bytes_eq}
use Rattle.std.proofs.lemmas.Bool.Decides.{Decides-ltb}
use Rattle.std.proofs.lemmas.List.{drop_at, at_drop_more}
use Rattle.std.proofs.lemmas.List.Elements.{All-nil, All-cons, All-head, All-tail, All-append}
use Rattle.std.proofs.lemmas.List.Sums.{passes_at_first}
use Rattle.std.proofs.lemmas.Slice.Eq.{bytes_eq-Decides}
use Rattle.rgo_code_text.specs.Building.{with_all_names}
use Rattle.rgo_code_text.specs.Items.{IsName}
use Rattle.rgo_code_text.specs.Numbers.{with_name}
use Rattle.rgo_code_printing.specs.Words.{name_at}
use Rattle.rgo_code_text.specs.Written.{number_of_name, unknown, AreFirst, KindIsWritten}
use Rattle.rgo_code_words.specs.Worded.{is_among, AreNames}
use Rattle.rgo_code_text.proofs.naming.Firsts.{among_is}
use Rattle.rgo_code_words.proofs.ListFacts.{front_all, back_all}
use Rattle.rgo_code_text.proofs.naming.Naming.{IsKnown, AreKnown}

-- ---- names that are known

among_cons : (k : List ℕ) (names : List (List ℕ)) (x : List ℕ) → is_among (k ∷ names) x ≡ (bytes_eq k x || is_among names x)
among_cons k names x = refl

or_comm : (a b : Bool) → (a || b) ≡ (b || a)
or_comm true true = refl
or_comm true false = refl
or_comm false true = refl
or_comm false false = refl

or_assoc : (a b c : Bool) → (a || (b || c)) ≡ ((a || b) || c)
or_assoc true b c = refl
or_assoc false b c = refl

-- a further name, at the end or in front
among_push : (names : List (List ℕ)) (k x : List ℕ) → is_among (names ++ k ∷ []) x ≡ is_among (k ∷ names) x
among_push [] k x = refl
among_push (n ∷ names) k x =
    ap (λ t. bytes_eq n x || t) (among_push names k x)
    ∙ or_assoc (bytes_eq n x) (bytes_eq k x) (is_among names x)
    ∙ ap (λ t. t || is_among names x) (or_comm (bytes_eq n x) (bytes_eq k x))
    ∙ sym (or_assoc (bytes_eq k x) (bytes_eq n x) (is_among names x))

unknown_same : (us a b : List (List ℕ)) → ((x : List ℕ) → is_among a x ≡ is_among b x) → unknown a us ≡ unknown b us
unknown_same [] a b e = refl
unknown_same (u ∷ us) a b e =
    ap (λ t. if t then unknown a us else u ∷ unknown (u ∷ a) us) (e u)
    ∙ ap (λ t. if is_among b u then t else u ∷ unknown (u ∷ a) us) (unknown_same us a b e)
    ∙ ap (λ t. if is_among b u then unknown b us else u ∷ t)
    (unknown_same us (u ∷ a) (u ∷ b) (λ x. ap (λ t. bytes_eq u x || t) (e x)))

-- the names, and after them those that were not known
pub names_are : (us names : List (List ℕ)) → with_all_names names us ≡ names ++ unknown names us
names_are [] names = sym (append-nil names)
names_are (u ∷ us) names = by (is_among names u) (names_are us names) (names_are us (names ++ u ∷ []))
  where
    by : (t : Bool) → with_all_names names us ≡ names ++ unknown names us
        → with_all_names (names ++ u ∷ []) us ≡ (names ++ u ∷ []) ++ unknown (names ++ u ∷ []) us
        → with_all_names (if t then names else names ++ u ∷ []) us
        ≡ names ++ (if t then unknown names us else u ∷ unknown (u ∷ names) us)
    by true e f = e
    by false e f =
        f ∙ append_assoc names (u ∷ []) (unknown (names ++ u ∷ []) us)
        ∙ ap (λ t. names ++ u ∷ t) (unknown_same us (names ++ u ∷ []) (u ∷ names) (λ x. among_push names u x))

-- ---- the names that are used are among them

among_left : (names more : List (List ℕ)) (x : List ℕ) → is_among names x ≡ true → is_among (names ++ more) x ≡ true
among_left [] more x e = absurd (true≢false (sym e))
among_left (n ∷ names) more x e = by (bytes_eq n x) e (λ q. among_left names more x q)
  where
    by : (t : Bool) → (t || is_among names x) ≡ true → (is_among names x ≡ true → is_among (names ++ more) x ≡ true)
        → (t || is_among (names ++ more) x) ≡ true
    by true e f = refl
    by false e f = f e

among_itself : (names : List (List ℕ)) (x : List ℕ) → is_among (names ++ x ∷ []) x ≡ true
among_itself names x =
    among_push names x x ∙ ap (λ t. t || is_among names x) ((bytes_eq-Decides x x).1 refl)

abbrev Among : List (List ℕ) → List ℕ → Type 0
Among names x = is_among names x ≡ true

kept : (us names : List (List ℕ)) (x : List ℕ) → is_among names x ≡ true → is_among (with_all_names names us) x ≡ true
kept us names x e = ap (λ ns. is_among ns x) (names_are us names) ∙ among_left names (unknown names us) x e

with_name_knows : (names : List (List ℕ)) (u : List ℕ) → is_among (with_name names u) u ≡ true
with_name_knows names u = by (is_among names u) refl
  where
    by : (t : Bool) → is_among names u ≡ t → is_among (if t then names else names ++ u ∷ []) u ≡ true
    by true e = e
    by false e = among_itself names u

all_among : (us names : List (List ℕ)) → All (Among (with_all_names names us)) us
all_among [] names = All-nil (Among names)
all_among (u ∷ us) names =
    All-cons (Among (with_all_names (with_name names u) us)) u us (kept us (with_name names u) u (with_name_knows names u))
    (all_among us (with_name names u))

pub number_less : (names : List (List ℕ)) (x : List ℕ) → is_among names x ≡ true → number_of_name names x < length names
number_less names x e = (Decides-ltb (number_of_name names x) (length names)).0 (sym (among_is names x) ∙ e)

-- a name that is among the names has its number there
pub known_among : (names : List (List ℕ)) (name : List ℕ) → is_among names name ≡ true → IsKnown names name
known_among names name e =
    (bytes_eq-Decides (get_or names (number_of_name names name) []) name).0
    (passes_at_first (λ known. bytes_eq known name) names [] (number_less names name e))

all_known : (names us : List (List ℕ)) → All (Among names) us → AreKnown names us
all_known names [] a = All-nil (IsKnown names)
all_known names (u ∷ us) a =
    All-cons (IsKnown names) u us (known_among names u (All-head (Among names) u us a)) (all_known names us (All-tail (Among names) u us a))

pub used_known : (us names : List (List ℕ)) → AreKnown (with_all_names names us) us
used_known us names = all_known (with_all_names names us) us (all_among us names)

-- ---- a kind of names

unknown_fit : (us known : List (List ℕ)) → AreNames us → AreNames (unknown known us)
unknown_fit [] known a = All-nil IsName
unknown_fit (u ∷ us) known a = by (is_among known u) (unknown_fit us known rest) (unknown_fit us (u ∷ known) rest)
  where
    rest : AreNames us
    rest = All-tail IsName u us a

    by : (t : Bool) → AreNames (unknown known us) → AreNames (unknown (u ∷ known) us)
        → AreNames (if t then unknown known us else u ∷ unknown (u ∷ known) us)
    by true f g = f
    by false f g = All-cons IsName u (unknown (u ∷ known) us) (All-head IsName u us a) g

abbrev First : List (List ℕ) → ℕ → Type 0
First names n = (n < length names) × (number_of_name names (name_at names n) ≡ n)

all_first : (names us : List (List ℕ)) → All (Among names) us → AreFirst names (map (number_of_name names) us)
all_first names [] a = All-nil (First names)
all_first names (u ∷ us) a =
    let e = All-head (Among names) u us a in
    All-cons (First names) (number_of_name names u) (map (number_of_name names) us)
    (number_less names u e, ap (number_of_name names) (known_among names u e))
    (all_first names us (All-tail (Among names) u us a))

names_again : (names us : List (List ℕ)) → AreKnown names us → map (name_at names) (map (number_of_name names) us) ≡ us
names_again names [] k = refl
names_again names (u ∷ us) k =
    ap (λ w. w ∷ map (name_at names) (map (number_of_name names) us)) (All-head (IsKnown names) u us k)
    ∙ ap (λ ws. u ∷ ws) (names_again names us (All-tail (IsKnown names) u us k))

pub rest_is : (names us : List (List ℕ)) → drop (length names) (with_all_names names us) ≡ unknown names us
rest_is names us =
    ap (drop (length names)) (names_are us names) ∙ drop_at names (unknown names us) (length names) refl

pub whole_is : (names us : List (List ℕ)) → names ++ drop (length names) (with_all_names names us) ≡ with_all_names names us
whole_is names us = ap (λ t. names ++ t) (rest_is names us) ∙ sym (names_are us names)

-- names that are declared, and those that are used, make a kind
pub kind_written : (names us : List (List ℕ)) → AreNames names → AreNames us
    → KindIsWritten names (drop (length names) (with_all_names names us)) (map (number_of_name (with_all_names names us)) us)
kind_written names us a b =
    let all : List (List ℕ) = with_all_names names us in
    let whole = sym (whole_is names us) in
    record {
      names = subst AreNames (names_are us names ∙ ap (λ t. names ++ t) (sym (rest_is names us)))
          (subst AreNames (sym (names_are us names)) (All-append IsName names (unknown names us) a (unknown_fit us names b)));
      first = subst (λ ns. AreFirst ns (map (number_of_name all) us)) whole (all_first all us (all_among us names));
      unknown = rest_is names us
          ∙ ap (unknown names) (sym (names_again all us (used_known us names)))
          ∙ ap (λ ns. unknown names (map (name_at ns) (map (number_of_name all) us))) whole;
    }

-- ---- lists of lists

pub all_flat : {X Y : Type 0} (P : Y → Type 0) (f : X → List Y) (xs : List X) → All P (flat_map f xs) → All (λ x. All P (f x)) xs
all_flat P f [] a = All-nil (λ x. All P (f x))
all_flat P f (x ∷ xs) a =
    All-cons (λ x. All P (f x)) x xs (front_all P (f x) (flat_map f xs) a) (all_flat P f xs (back_all P (f x) (flat_map f xs) a))

pub flat_all : {X Y : Type 0} (Q : X → Type 0) (P : Y → Type 0) (f : X → List Y) (xs : List X) → All Q xs
    → ((x : X) → Q x → All P (f x)) → All P (flat_map f xs)
flat_all Q P f [] a g = All-nil P
flat_all Q P f (x ∷ xs) a g =
    All-append P (f x) (flat_map f xs) (g x (All-head Q x xs a)) (flat_all Q P f xs (All-tail Q x xs a) g)

-- ---- names, added step by step

pub with_both : (us vs names : List (List ℕ)) → with_all_names names (us ++ vs) ≡ with_all_names (with_all_names names us) vs
with_both [] vs names = refl
with_both (u ∷ us) vs names = with_both us vs (with_name names u)

-- one more of the things that use names
pub noted_more : {X : Type 0} (used : X → List (List ℕ)) (xs : List X) (i : ℕ) (x : X) (old now all : List (List ℕ))
    → i < length xs → x ≡ get_or xs i x → now ≡ with_all_names old (used x)
    → with_all_names old (flat_map used (drop i xs)) ≡ all → with_all_names now (flat_map used (drop (i + 1) xs)) ≡ all
noted_more used xs i x old now all l e n so_far =
    ap (λ ns. with_all_names ns (flat_map used (drop (i + 1) xs))) n
    ∙ sym (with_both (used x) (flat_map used (drop (i + 1) xs)) old)
    ∙ ap (λ y. with_all_names old (used y ++ flat_map used (drop (i + 1) xs))) e
    ∙ sym (at_drop_more (λ ys. with_all_names old (flat_map used ys)) xs i x l) ∙ so_far
