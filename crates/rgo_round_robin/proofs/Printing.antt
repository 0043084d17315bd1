-- A pick that has no step has none whatever was printed.
use Rattle.std.proofs.Common.{◌≡◌, List, ℕ, [], Option, Some, None, refl, ap, sym, ◌∙◌, append-nil}
use Rattle.std.specs.Prelude.{option_map}
use Rattle.rgo_machine.specs.declared.picks.Pick.{Pick}
use Rattle.rgo_machine.specs.Machines.{Machine, State, step_by}
use Rattle.rgo_machine.proofs.Printing.{with_before, step_before}
use Rattle.rgo_round_robin.specs.Playing.{state_with_print}

module _ {F : Type 0} (machine : Machine F) where
  none_in : {X Y : Type 0} (f : X → Y) (o : Option X) → option_map f o ≡ None → o ≡ None
  none_in f None e = refl
  none_in f (Some x) e = cc

  -- a pick that has no step has none whatever was printed
  pub no_step : (s : State F) (bytes : List ℕ) (pick : Pick) → step_by machine s pick ≡ None
      → step_by machine (state_with_print s bytes) pick ≡ None
  no_step s bytes pick e =
      let silent = state_with_print s [] in
      let was : step_by machine (with_before s.printed silent) pick ≡ None =
      ap (λ l. step_by machine (state_with_print s l) pick) (append-nil s.printed) ∙ e in
      let none : step_by machine silent pick ≡ None =
      none_in (with_before s.printed) _ (sym (step_before machine s.printed silent pick) ∙ was) in
      sym (ap (λ l. step_by machine (state_with_print s l) pick) (append-nil bytes))
      ∙ step_before machine bytes silent pick ∙ ap (option_map (with_before bytes)) none

  -- and the other way round
  pub no_step_of : (s : State F) (bytes : List ℕ) (pick : Pick) → step_by machine (state_with_print s bytes) pick ≡ None
      → step_by machine s pick ≡ None
  no_step_of s bytes pick e = no_step (state_with_print s bytes) s.printed pick e
