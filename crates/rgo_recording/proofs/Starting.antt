-- A run may begin in the first state, whatever limits it.
use Rattle.std.proofs.Common.{◌≡◌, ℕ, suc, ◌≤◌, Bool, true, false, List, [], ◌∷◌, length, refl, arith}
use Rattle.std.specs.Prelude.{max, nat_le, codes, bytes_eq, if◌then◌else◌}
use Rattle.std.proofs.lemmas.Bool.Decides.{nat_tests}
use Rattle.rgo_memory.specs.Memory.{Memory}
use Rattle.rgo_memory.specs.Opening.{opening}
use Rattle.rgo_machine.specs.declared.limits.Limits.{Limits}
use Rattle.rgo_machine.specs.Limits.{is_within}
use Rattle.rgo_machine.specs.Machines.{start_state}
use Rattle.rgo_tac.specs.Code.{TacFn, Tac}
use Rattle.rgo_tac.specs.Frames.{new_tac_frame}
use Rattle.rgo_tac.specs.Tac.{tac_main_frames, tac_start}
use Rattle.rgo_round_robin.specs.Runs.{IsReadyForTurn}

one_fits : (n : ℕ) → nat_le 1 (max 1 n) ≡ true
one_fits n = grind (arith, nat_tests)

within : {F : Type 0} (limits : Limits) (m : Memory) (frames : List F) → length frames ≤ 1
    → is_within limits (start_state m frames) ≡ true
within limits m [] h = rw (one_fits limits.goroutines) refl
within limits m (f ∷ []) h = rw (one_fits limits.goroutines) refl
within limits m (f ∷ g ∷ frames) h = absurd (omega (arith, h))

one_or_more : {F : Type 0} (b : Bool) (f : F) (more : List F) → length more ≤ 1
    → length (if b then f ∷ [] else more) ≤ 1
one_or_more true f more h = omega arith
one_or_more false f more h = h

one_main : (fns : List TacFn) (n : ℕ) → length (tac_main_frames fns n) ≤ 1
one_main [] n = omega arith
one_main (fn ∷ fns) n =
    one_or_more (bytes_eq fn.name (codes "main")) (new_tac_frame fn n []) (tac_main_frames fns (suc n)) (one_main fns (suc n))

pub starts_ready : (limits : Limits) (code : Tac) → IsReadyForTurn limits (tac_start code)
starts_ready limits code = record {
  on = record {
    running = refl;
    within = within limits (opening code.variables) (tac_main_frames code.functions 0) (one_main code.functions 0);
  };
  silent = refl;
}
