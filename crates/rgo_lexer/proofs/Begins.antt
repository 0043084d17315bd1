-- What a text begins with, against its length and its fronts.
use Rattle.std.proofs.Common.{◌≡◌, ℕ, zero, suc, ◌≤◌, true, List, [], ◌∷◌, ◌++◌, length, take, refl, sym, ap, ◌∙◌, arith}
use Rattle.std.specs.Prelude.{nat_eq, bytes_eq}
use Rattle.std.proofs.lemmas.Bool.{and_parts, and_from, false≢true}
use Rattle.std.proofs.lemmas.List.{take-take, take_at}
use Rattle.std.proofs.lemmas.Slice.Eq.{bytes_eq-Decides}
use Rattle.rgo_lexer.specs.Bytes.{has_prefix}

pub begins_with-length : (front text : List ℕ) → has_prefix text front ≡ true
    → length front ≤ length text
begins_with-length [] text e = omega arith
begins_with-length (c ∷ front) [] e = absurd (false≢true e)
begins_with-length (c ∷ front) (b ∷ text) e =
    (let ih = begins_with-length front text (and_parts (nat_eq c b) (has_prefix text front) e).1 in
    omega arith)

-- what a front of the text begins with, so does the text
pub begins_with-whole : (front text : List ℕ) (n : ℕ) → has_prefix (take n text) front ≡ true
    → has_prefix text front ≡ true
begins_with-whole [] text n e = refl
begins_with-whole (c ∷ front) [] zero e = absurd (false≢true e)
begins_with-whole (c ∷ front) [] (suc n) e = absurd (false≢true e)
begins_with-whole (c ∷ front) (b ∷ text) zero e = absurd (false≢true e)
begins_with-whole (c ∷ front) (b ∷ text) (suc n) e =
    let parts = and_parts (nat_eq c b) (has_prefix (take n text) front) e in
    and_from (nat_eq c b) (has_prefix text front) parts.0 (begins_with-whole front text n parts.1)

-- if the text begins with some bytes, so does a front of it that is at least as long as they are
pub begins_with-front : (front text : List ℕ) (n : ℕ) → length front ≤ n
    → has_prefix text front ≡ true → has_prefix (take n text) front ≡ true
begins_with-front front text n le e = ap (bytes_eq front) (take-take (length front) n text le) ∙ e

-- the test decides its property
pub begins_with-is : (front text : List ℕ) → has_prefix text front ≡ true
    → take (length front) text ≡ front
begins_with-is front text e = sym ((bytes_eq-Decides front (take (length front) text)).0 e)

pub begins_with-from : (front rest text : List ℕ) → text ≡ front ++ rest
    → has_prefix text front ≡ true
begins_with-from front rest text e =
    (bytes_eq-Decides front (take (length front) text)).1
    (sym (ap (take (length front)) e ∙ take_at front rest (length front) refl))
