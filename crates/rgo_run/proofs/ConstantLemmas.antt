-- The step of a loop that checks the items of a list one by one.
use Rattle.std.proofs.Common.{ℕ, ◌+◌, ◌<◌, List, [], ◌∷◌, length, take, All, slice_get, IfSome, subst, arith}
use Rattle.std.proofs.lemmas.List.Elements.{All-more}
use Rattle.std.proofs.lemmas.Option.{slice_get-get_or}

pub one_more : {A : Type 0} (P : A → Type 0) (xs : List A) (n : ℕ) → n < length xs → All P (take n xs)
    → IfSome (slice_get xs n) P → All P (take (n + 1) xs)
one_more P [] n less all one = absurd (omega (arith, less))
one_more P (x ∷ xs) n less all one =
    All-more P (x ∷ xs) n x less all (subst (λ o. IfSome o P) (slice_get-get_or (x ∷ xs) n x less) one)
