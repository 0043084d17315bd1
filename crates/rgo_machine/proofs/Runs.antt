-- Runs one after the other, and runs within the limits as runs.
use Rattle.std.proofs.Common.{◌≡◌, Bool, true, false, List, [], ◌∷◌, ◌++◌, Option, Some, None, refl, ap, sym, ◌∙◌}
use Rattle.std.specs.Prelude.{option_and_then, if◌then◌else◌}
use Rattle.rgo_machine.specs.declared.limits.Limits.{Limits}
use Rattle.rgo_machine.specs.declared.picks.Pick.{Pick}
use Rattle.rgo_machine.specs.Limits.{if_within, is_within, limited_step, LeadsWithin}
use Rattle.rgo_machine.specs.Machines.{Machine, State, step_by}
use Rattle.rgo_machine.specs.Runs.{run, Leads}

module _ {S E : Type 0} (step : S → E → Option S) where
  through : (es fs : List E) (o : Option S)
      → ((s : S) → run step s (es ++ fs) ≡ option_and_then (λ t. run step t fs) (run step s es))
      → option_and_then (λ t. run step t (es ++ fs)) o
      ≡ option_and_then (λ t. run step t fs) (option_and_then (λ t. run step t es) o)
  through es fs None h = refl
  through es fs (Some t) h = h t

  pub in_two : (s : S) (es fs : List E) → run step s (es ++ fs) ≡ option_and_then (λ t. run step t fs) (run step s es)
  in_two s [] fs = refl
  in_two s (e ∷ es) fs = through es fs (step s e) (λ t. in_two t es fs)

  -- one run after the other
  pub joined : (s t u : S) (es fs : List E) → Leads step s es t → Leads step t fs u → Leads step s (es ++ fs) u
  joined s t u es fs p q = in_two s es fs ∙ ap (option_and_then (λ v. run step v fs)) p ∙ q

  -- one event alone
  pub single : (s t : S) (e : E) → step s e ≡ Some t → Leads step s (e ∷ []) t
  single s t e p = ap (option_and_then (λ v. run step v [])) p

module _ {F : Type 0} (machine : Machine F) (limits : Limits) where
  -- one run within the limits after the other
  pub leads_joined : (s t u : State F) (picks more : List Pick) → LeadsWithin machine limits s picks t
      → LeadsWithin machine limits t more u → LeadsWithin machine limits s (picks ++ more) u
  leads_joined s t u picks more p q = joined (limited_step machine limits) s t u picks more p q

  pub leads_one : (s t : State F) (pick : Pick) → limited_step machine limits s pick ≡ Some t
      → LeadsWithin machine limits s (pick ∷ []) t
  leads_one s t pick e = single (limited_step machine limits) s t pick e

  if_so : (b : Bool) (s t : State F) → (if b then Some s else None) ≡ Some t → (Some s ≡ Some t) × (b ≡ true)
  if_so true s t e = (e, refl)
  if_so false s t e = cc

  abbrev within_some : Option (State F) → Bool
  within_some None = false
  within_some (Some s) = is_within limits s

  step_so : (o : Option (State F)) (t : State F) → option_and_then (if_within limits) o ≡ Some t
      → (o ≡ Some t) × (is_within limits t ≡ true)
  step_so None t e = cc
  step_so (Some s) t e =
      let both = if_so (is_within limits s) s t e in (both.0, ap within_some (sym both.0) ∙ both.1)

  -- a step within the limits is a step, to a state within the limits
  pub is_step : (s t : State F) (pick : Pick) → limited_step machine limits s pick ≡ Some t
      → (step_by machine s pick ≡ Some t) × (is_within limits t ≡ true)
  is_step s t pick e = step_so (step_by machine s pick) t e

  -- and the other way round
  pub limited : (s t : State F) (pick : Pick) → step_by machine s pick ≡ Some t → is_within limits t ≡ true
      → limited_step machine limits s pick ≡ Some t
  limited s t pick e within =
      ap (option_and_then (if_within limits)) e ∙ ap (λ b. if b then Some t else None) within

  first : (o : Option (State F)) (t : State F) (picks : List Pick)
      → option_and_then (λ u. run (limited_step machine limits) u picks) o ≡ Some t
      → (u : State F) × (o ≡ Some u) × LeadsWithin machine limits u picks t
  first None t picks e = cc
  first (Some u) t picks e = (u, refl, e)

  -- a run within the limits is a run
  pub is_run : (s t : State F) (picks : List Pick) → LeadsWithin machine limits s picks t
      → Leads (step_by machine) s picks t
  is_run s t [] e = e
  is_run s t (pick ∷ picks) e =
      let one = first (limited_step machine limits s pick) t picks e in
      ap (option_and_then (λ u. run (step_by machine) u picks)) (is_step s one.0 pick one.1).0
      ∙ is_run one.0 t picks one.2

  -- it ends within the limits if it began there
  pub ends_within : (s t : State F) (picks : List Pick) → is_within limits s ≡ true
      → LeadsWithin machine limits s picks t
      → is_within limits t ≡ true
  ends_within s t [] within e = ap within_some (sym e) ∙ within
  ends_within s t (pick ∷ picks) within e =
      let one = first (limited_step machine limits s pick) t picks e in
      ends_within one.0 t picks (is_step s one.0 pick one.1).1 one.2
