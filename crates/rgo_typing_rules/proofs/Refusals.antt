-- The first refusal of lists of nodes that are checked one after another. The contracts of all checks are of one form, so these few lemmas
-- let the prover find most proofs of the typing by itself.
use Rattle.std.proofs.Common.{◌≡◌, ◌++◌, List, [], ◌∷◌, Option, Some, None, refl, ap, ◌∙◌, sym}
use Rattle.rgo_typing_rules.specs.Checks.{Refuses}
use Rattle.rgo_typing_rules.specs.Sites.{Site, refusal_of, earlier, first_refusal}
use Rattle.rgo_typing_rules.specs.declared.errors.TypeError.{TypeError}
use Rattle.rgo_typing_rules.specs.declared.errors.TypeError.TheVariants.{NoMemory, Refused}
use Rattle.rgo_typing_rules.specs.declared.errors.TypeRefusal.{TypeRefusal}

earlier-assoc : (a b c : Option TypeRefusal) → earlier (earlier a b) c ≡ earlier a (earlier b c)
earlier-assoc None b c = refl
earlier-assoc (Some r) b c = refl

-- of two lists
pub first_of_both : (l m : List Site) → first_refusal (l ++ m) ≡ earlier (first_refusal l) (first_refusal m)
first_of_both [] m = refl
first_of_both (s ∷ l) m =
    ap (earlier (refusal_of s)) (first_of_both l m)
    ∙ sym (earlier-assoc (refusal_of s) (first_refusal l) (first_refusal m))

-- a refusal among the first nodes is that of all
pub refuses_first : (e : TypeError) (l m : List Site) → Refuses e (first_refusal l) → Refuses e (first_refusal (l ++ m))
refuses_first NoMemory l m refuses = tt
refuses_first (Refused r) l m refuses = first_of_both l m ∙ ap (λ o. earlier o (first_refusal m)) refuses

-- if the first nodes break no rule, the refusal is that of the others
pub none_first : (l m : List Site) → first_refusal l ≡ None → first_refusal (l ++ m) ≡ first_refusal m
none_first l m none = first_of_both l m ∙ ap (λ o. earlier o (first_refusal m)) none

-- a refusal among the other nodes is then that of all
pub refuses_after : (e : TypeError) (l m : List Site) → first_refusal l ≡ None → Refuses e (first_refusal m) → Refuses e (first_refusal (l ++ m))
refuses_after NoMemory l m none refuses = tt
refuses_after (Refused r) l m none refuses = none_first l m none ∙ refuses

pub ruleset refusals = (first_of_both)
