-- Where the first `*/` of a text begins, one byte on.
use Rattle.std.proofs.Common.{◌≡◌, ℕ, suc, ◌+◌, false, cond, List, [], ◌∷◌, drop, Option, None, Some, refl, sym, ap, ◌∙◌, arith}
use Rattle.std.specs.Prelude.{option_map, codes}
use Rattle.std.proofs.lemmas.List.{drop-drop}
use Rattle.rgo_lexer.specs.Bytes.{has_prefix}
use Rattle.rgo_lexer.specs.Comments.{first_close}

first_close-later : (l : List ℕ) → has_prefix l (codes "*/") ≡ false
    → first_close l ≡ option_map suc (first_close (drop 1 l))
first_close-later [] none = refl
first_close-later (b ∷ l) none = ap (λ v. cond v (Some 0) (option_map suc (first_close l))) none

counted : (at : ℕ) (o : Option ℕ)
    → option_map (λ k. k + (at + 1)) o ≡ option_map (λ k. k + at) (option_map suc o)
counted at None = refl
counted at (Some k) = let e : k + (at + 1) ≡ suc k + at = omega arith in ap Some e

-- what the rest says, counted from the front of the text
pub first_close-more : (text : List ℕ) (at : ℕ) → has_prefix (drop at text) (codes "*/") ≡ false
    → option_map (λ k. k + (at + 1)) (first_close (drop (at + 1) text)) ≡ option_map (λ k. k + at)
    (first_close (drop at text))
first_close-more text at none =
    counted at (first_close (drop (at + 1) text))
    ∙ ap (λ l. option_map (λ k. k + at) (option_map suc (first_close l)))
    (sym (drop-drop 1 at text))
    ∙ ap (option_map (λ k. k + at)) (sym (first_close-later (drop at text) none))
