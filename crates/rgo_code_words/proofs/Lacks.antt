-- Words that lack a byte: a text that is cut at that byte has them as its parts again.
use Rattle.std.proofs.Common.{◌≡◌, ℕ, ◌+◌, ◌<◌, ◌≤◌, ◌^◌, ◌%◌, ◌==◌, ◌&&◌, nat_le, Bool, true, false, true≢false, List, [], ◌∷◌, ◌++◌, refl, sym, arith, decimal}
use Rattle.std.specs.List.{All, join_with_byte, list_all}
use Rattle.std.proofs.lemmas.Bool.Decides.{Decides-eqb, nat_tests}
use Rattle.std.proofs.lemmas.Fmt.{decimal_by_steps}
use Rattle.std.proofs.lemmas.List.Elements.{All-nil, All-cons, All-head, All-tail, All-append}
use Rattle.rgo_code_words.specs.Worded.{is_name, is_word, is_code_word_byte, is_code_letter}

abbrev pub Lacks : ℕ → List ℕ → Type 0
Lacks c bytes = All (λ b. (b == c) ≡ false) bytes

abbrev pub AllLack : ℕ → List (List ℕ) → Type 0
AllLack c words = All (Lacks c) words

pub differs : (a c : ℕ) → c < a → (a == c) ≡ false
differs a c l = by (a == c) refl
  where
    by : (x : Bool) → (a == c) ≡ x → x ≡ false
    by true e = absurd (omega (arith, l, (Decides-eqb a c).0 e))
    by false e = refl

pub one : (b c : ℕ) → (b == c) ≡ false → Lacks c (b ∷ [])
one b c e = All-cons (λ b. (b == c) ≡ false) b [] e (All-nil (λ b. (b == c) ≡ false))

pub after_byte : (b c : ℕ) (bytes : List ℕ) → (b == c) ≡ false → Lacks c bytes → Lacks c (b ∷ bytes)
after_byte b c bytes e l = All-cons (λ b. (b == c) ≡ false) b bytes e l

pub both : (xs ys : List ℕ) (c : ℕ) → Lacks c xs → Lacks c ys → Lacks c (xs ++ ys)
both xs ys c l m = All-append (λ b. (b == c) ≡ false) xs ys l m

-- a number has no byte below `0`
pub decimal_lacks : (k c : ℕ) → k < 2 ^ 64 → c < 48 → Lacks c (decimal k)
decimal_lacks k c small low =
    decimal_by_steps (λ n digits. Lacks c digits)
    (λ n l. one (48 + n) c (differs (48 + n) c (omega (arith, low))))
    (λ n digits l e. both digits ((48 + n % 10) ∷ []) c e (one (48 + n % 10) c (differs (48 + n % 10) c (omega (arith, low)))))
    k small

pub lettered_lacks : (letter k c : ℕ) → (letter == c) ≡ false → k < 2 ^ 32 → c < 48 → Lacks c (letter ∷ decimal k)
lettered_lacks letter k c e small low = after_byte letter c (decimal k) e (decimal_lacks k c (omega (arith, small)) low)

pub joined_lacks : (c d : ℕ) (words : List (List ℕ)) → (d == c) ≡ false → AllLack c words
    → Lacks c (join_with_byte d words)
joined_lacks c d [] e l = All-nil (λ b. (b == c) ≡ false)
joined_lacks c d (w ∷ []) e l = All-head (Lacks c) w [] l
joined_lacks c d (w ∷ v ∷ words) e l =
    both w (d ∷ join_with_byte d (v ∷ words)) c (All-head (Lacks c) w (v ∷ words) l)
    (after_byte d c (join_with_byte d (v ∷ words)) e (joined_lacks c d (v ∷ words) e (All-tail (Lacks c) w (v ∷ words) l)))

-- ---- words without a byte below some number

abbrev pub From : ℕ → List ℕ → Type 0
From m bytes = All (λ b. m ≤ b) bytes

abbrev pub AllFrom : ℕ → List (List ℕ) → Type 0
AllFrom m words = All (From m) words

pub lacks_from : (m c : ℕ) (bytes : List ℕ) → c < m → From m bytes → Lacks c bytes
lacks_from m c bytes l f k d h = differs _ c (omega (arith, l, f k d h))

pub all_lack_from : (m c : ℕ) (words : List (List ℕ)) → c < m → AllFrom m words → AllLack c words
all_lack_from m c words l f k d h = lacks_from m c _ l (f k d h)

pub from_less : (m n : ℕ) (bytes : List ℕ) → m ≤ n → From n bytes → From m bytes
from_less m n bytes l f k d h = omega (arith, l, f k d h)

pub from_cons : (m b : ℕ) (bytes : List ℕ) → m ≤ b → From m bytes → From m (b ∷ bytes)
from_cons m b bytes l f = All-cons (λ b. m ≤ b) b bytes l f

pub from_nil : (m : ℕ) → From m []
from_nil m = All-nil (λ b. m ≤ b)

pub from_both : (m : ℕ) (xs ys : List ℕ) → From m xs → From m ys → From m (xs ++ ys)
from_both m xs ys f g = All-append (λ b. m ≤ b) xs ys f g

pub both_true : (a b : Bool) → (a && b) ≡ true → (a ≡ true) × (b ≡ true)
both_true true b e = (refl, e)
both_true false b e = absurd (true≢false (sym e))

-- by a test, for words that are written out
pub from_test : (m : ℕ) (bytes : List ℕ) → list_all (nat_le m) bytes ≡ true → From m bytes
from_test m [] e = from_nil m
from_test m (b ∷ bytes) e =
    let p = both_true (nat_le m b) (list_all (nat_le m) bytes) e in
    from_cons m b bytes (grind (arith, nat_tests)) (from_test m bytes p.1)

pub decimal_from : (k : ℕ) → k < 2 ^ 64 → From 48 (decimal k)
decimal_from k small =
    decimal_by_steps (λ n digits. From 48 digits)
    (λ n l. from_cons 48 (48 + n) [] (omega arith) (from_nil 48))
    (λ n digits l f. from_both 48 digits ((48 + n % 10) ∷ []) f (from_cons 48 (48 + n % 10) [] (omega arith) (from_nil 48)))
    k small

pub lettered_from : (m letter k : ℕ) → m ≤ letter → m ≤ 48 → k < 2 ^ 32 → From m (letter ∷ decimal k)
lettered_from m letter k l h small =
    from_cons m letter (decimal k) l (from_less m 48 (decimal k) h (decimal_from k (omega (arith, small))))

word_byte_from : (b : ℕ) → is_code_word_byte b ≡ true → 48 ≤ b
word_byte_from b e = grind (arith, nat_tests)

letter_from : (b : ℕ) → is_code_letter b ≡ true → 48 ≤ b
letter_from b e = grind (arith, nat_tests)

word_bytes_from : (bytes : List ℕ) → list_all is_code_word_byte bytes ≡ true → From 48 bytes
word_bytes_from [] e = from_nil 48
word_bytes_from (b ∷ bytes) e =
    let p = both_true (is_code_word_byte b) (list_all is_code_word_byte bytes) e in
    from_cons 48 b bytes (word_byte_from b p.0) (word_bytes_from bytes p.1)

word_from : (bytes : List ℕ) → is_word bytes ≡ true → From 48 bytes
word_from [] e = from_nil 48
word_from (b ∷ bytes) e =
    let p = both_true (is_code_letter b) (list_all is_code_word_byte bytes) e in
    from_cons 48 b bytes (letter_from b p.0) (word_bytes_from bytes p.1)

pub name_from : (name : List ℕ) → is_name name ≡ true → From 48 name
unfolding is_name
name_from name e = word_from name (both_true (is_word name) _ e).0

pub joined_from : (m d : ℕ) (words : List (List ℕ)) → m ≤ d → AllFrom m words → From m (join_with_byte d words)
joined_from m d [] l f = from_nil m
joined_from m d (w ∷ []) l f = All-head (From m) w [] f
joined_from m d (w ∷ v ∷ words) l f =
    from_both m w (d ∷ join_with_byte d (v ∷ words)) (All-head (From m) w (v ∷ words) f)
    (from_cons m d (join_with_byte d (v ∷ words)) l (joined_from m d (v ∷ words) l (All-tail (From m) w (v ∷ words) f)))
