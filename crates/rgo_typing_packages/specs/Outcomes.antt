-- What a check that changes a state returns: the first refusal; or, if no node breaks a rule, the state after it.
use Rattle.std.specs.Prelude.{◌≡◌, List, None, Result, Ok, Err}
use Rattle.rgo_typing_rules.specs.Checks.{Refuses}
use Rattle.rgo_typing_rules.specs.Sites.{Site, first_refusal}
use Rattle.rgo_typing_rules.specs.declared.errors.TypeError.{TypeError}

-- a check of these nodes that leaves this state
abbrev pub ChecksInto : {X S : Type 0} → Result X TypeError → List Site → S → S → Type 0
ChecksInto (Ok x) sites state after = (first_refusal sites ≡ None) × (state ≡ after)
ChecksInto (Err e) sites state after = Refuses e (first_refusal sites)
