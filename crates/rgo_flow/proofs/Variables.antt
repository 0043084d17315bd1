-- Rows of the variables of an instruction.
use Rattle.std.proofs.Common.{◌≡◌, ◌↔◌, ℕ, ◌+◌, List, [], ◌∷◌, ◌++◌, Option, Some, None, slice_get, take, sym, ap, ◌∙◌, subst}
use Rattle.std.specs.List.{Contains}
use Rattle.std.proofs.lemmas.List.{take_more}
use Rattle.std.proofs.lemmas.Option.{none-some, same_Some, slice_get_within, get_or_from_slice_get}
use Rattle.rgo_graphs.proofs.Lists.{no_member, member_one, one_member}

-- one variable more
pub took : (variables : List ℕ) (n v : ℕ) → slice_get variables n ≡ Some v
    → take n variables ++ v ∷ [] ≡ take (n + 1) variables
took variables n v e =
    ap (λ x. take n variables ++ x ∷ []) (sym (get_or_from_slice_get variables n v v e))
    ∙ sym (take_more variables n v (slice_get_within variables n v e))

pub one_written : (row : List ℕ) (x : ℕ) (to : Option ℕ) → row ≡ x ∷ [] → to ≡ Some x
    → (v : ℕ) → Contains row v ↔ (to ≡ Some v)
one_written row x to is e v = (
  λ h. e ∙ ap Some (sym (member_one x v (subst (λ (l : List ℕ). Contains l v) is h))),
  λ h. subst (λ (l : List ℕ). Contains l v) (sym is)
      (subst (Contains (x ∷ [])) (same_Some x v (sym e ∙ h)) (one_member x)),
)

pub none_written : (row : List ℕ) (to : Option ℕ) → row ≡ [] → to ≡ None → (v : ℕ) → Contains row v ↔ (to ≡ Some v)
none_written row to is e v = (
  λ h. absurd (no_member v (subst (λ (l : List ℕ). Contains l v) is h)),
  λ h. absurd (none-some v (sym e ∙ h)),
)

pub either_way : {A B C : Type 0} → A ↔ B → B ↔ C → A ↔ C
either_way f g = (λ a. g.0 (f.0 a), λ c. f.1 (g.1 c))
