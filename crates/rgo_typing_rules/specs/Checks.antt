-- What a check returns: that no node of a list breaks a rule, or the first refusal. Checks in sequence check the appended lists, which
-- is why every check in the crates of the typing has this one form.
use Rattle.std.specs.Prelude.{◌≡◌, List, Option, Some, None, Result, Ok, Err, ⊤}
use Rattle.rgo_typing_rules.specs.declared.errors.TypeError.{TypeError}
use Rattle.rgo_typing_rules.specs.declared.errors.TypeError.TheVariants.{NoMemory, Refused}
use Rattle.rgo_typing_rules.specs.declared.errors.TypeRefusal.{TypeRefusal}
use Rattle.rgo_typing_rules.specs.Sites.{Site, first_refusal}

-- the error is this refusal; an allocation may fail at any time
abbrev pub Refuses : TypeError → Option TypeRefusal → Type 0
Refuses NoMemory refusal = ⊤
Refuses (Refused r) refusal = refusal ≡ Some r

abbrev pub Checks : {X : Type 0} → Result X TypeError → List Site → Type 0
Checks (Ok x) sites = first_refusal sites ≡ None
Checks (Err e) sites = Refuses e (first_refusal sites)
