-- The headline of calls that run these texts: completeness yields a run to an end of its own, and by the search each such end is an
-- exit with the number on `out`.
use Rattle.std.proofs.Common.{◌≡◌, ◌⊎◌, inl, inr, ℕ, zero, suc, Bool, true, false, not, List, length, Option, Some, None}
use Rattle.std.proofs.Common.{refl, sym, ap, ◌∙◌, subst, true≢false}
use Rattle.std.specs.Prelude.{codes}
use Rattle.std.specs.Fmt.{digits}
use Rattle.std.specs.Io.KnownBytes.{Appends}
use Rattle.std.specs.Str.{bytes_eq}
use Rattle.std.proofs.lemmas.Bool.{and_from}
use Rattle.std.proofs.lemmas.Slice.Eq.{bytes_eq-Decides}
use Rattle.rgo_typed.specs.Tree.{Typed}
use Rattle.rgo_machine.specs.declared.picks.End.{End}
use Rattle.rgo_machine.specs.declared.picks.End.TheVariants.{Exit, Trap}
use Rattle.rgo_machine.specs.declared.picks.Pick.{Pick}
use Rattle.rgo_machine.specs.declared.picks.Pick.TheVariants.{One, Meet}
use Rattle.rgo_machine.specs.Limits.{LeadsWithin, limited_step}
use Rattle.rgo_machine.specs.Machines.{step_by}
use Rattle.rgo_machine.specs.Runs.{IsBlocked}
use Rattle.rgo_tac.specs.Code.{Tac}
use Rattle.rgo_tac.specs.Tac.{TacState, tac, tac_start}
use Rattle.rgo_lower.specs.Lowered.{IsLowered}
use Rattle.rgo_lower.proofs.Determined.{lowering_is_determined}
use Rattle.rgo_code.specs.Erasure.{erased}
use Rattle.rgo_machine.specs.declared.ends.RunEnd.{RunEnd}
use Rattle.rgo_machine.specs.declared.ends.RunEnd.TheVariants as run_end
use Rattle.rgo_machine.specs.Ends.{RunsFreely}
use Rattle.rgo_command_line.specs.Limits.{default_options}
use Rattle.rgo_run.specs.Calls.{SinkGrew}
use Rattle.rgo_run.specs.Endings.{status_of_run}
use Rattle.rgo_run.specs.Headline.{Complete, IsOwnEnd, RunsWhole, Suffices}
use Rattle.rgo_run.specs.Runs.{of_program}
use Rattle.rgo_run.specs.Verdicts.{IsTypedProgram}
use Rattle.rgo_run.specs.declared.endings.TextKind.TheVariants as text_kind
use Rattle.rgo_claim_examples.specs.Programs.{one_object, linked_list, binary_tree, sender}
use Rattle.rgo_claim_examples.specs.Texts.{object_text, list_text, tree_text, sender_text}
use Rattle.rgo_claim_examples.specs.Whole.{RunsToExit, TextsRun}
use Rattle.rgo_claim_examples.proofs.Codes.{one_object_code, linked_list_code, binary_tree_code, sender_code}
use Rattle.rgo_claim_examples.proofs.Lowered.{one_object_lowered, linked_list_lowered, binary_tree_lowered, sender_lowered}
use Rattle.rgo_claim_examples.proofs.ProgramTexts.{object_is_program, list_is_program, tree_is_program, sender_is_program}
use Rattle.rgo_claim_examples.proofs.ProgramsSuffice.{programs_suffice}
use Rattle.rgo_claim_examples.proofs.Quiet.{limited_is_of}
use Rattle.rgo_claim_examples.proofs.Search.{all_below, all_next, all_within, found, leads_to}

-- ---- a state whose only possible end is an exit

always_below : (test : ℕ → Bool) (n : ℕ) → ((k : ℕ) → test k ≡ true) → all_below test n ≡ true
always_below test zero each = refl
always_below test (suc n) each = and_from (test n) (all_below test n) (each n) (always_below test n each)

abbrev never : TacState → Bool
never s = false

-- if no pick has a step, the states after the steps pass any test
blocked_passes : (code : Tac) (s : TacState) → IsBlocked (step_by (tac code)) s
    → all_next (step_by (tac code)) never s ≡ true
blocked_passes code s blocked =
    and_from _ _
    (always_below (λ g. leads_to never (step_by (tac code) s (One g))) (length s.goroutines)
    (λ g. ap (leads_to never) (blocked (One g))))
    (always_below (λ r. all_below (λ t. leads_to never (step_by (tac code) s (Meet r t))) (length s.goroutines))
    (length s.goroutines) (λ r.
    always_below (λ t. leads_to never (step_by (tac code) s (Meet r t))) (length s.goroutines)
    (λ t. ap (leads_to never) (blocked (Meet r t)))))

-- it has exited and printed this, or has a step
abbrev goes_well : (right : Bool) → Option End → (blocked : Bool) → Bool
goes_well right None blocked = not blocked
goes_well right (Some Exit) blocked = right
goes_well right (Some (Trap trap place)) blocked = false

abbrev is_well : (print : List ℕ) → Tac → TacState → Bool
is_well print code s = goes_well (bytes_eq s.printed print) s.ended (all_next (step_by (tac code)) never s)

-- whether this holds of each state that the code reaches within the default limits
abbrev always_well : (print : List ℕ) → Tac → ℕ → Bool
always_well print code steps =
    all_within (limited_step (tac code) default_options.limits) (is_well print code) steps (tac_start code)

same_bytes : (xs ys : List ℕ) → bytes_eq xs ys ≡ true → xs ≡ ys
same_bytes xs ys e = (bytes_eq-Decides xs ys).0 e

module _ (program : Typed) (code : Tac) (steps : ℕ) (print : List ℕ) (lowered : IsLowered program code)
    (well : always_well print code steps ≡ true) where
  well_at : (other : Tac) → IsLowered program other → (picks : List Pick) (t : TacState)
      → LeadsWithin (tac other) default_options.limits (tac_start other) picks t → is_well print other t ≡ true
  well_at other is picks t leads =
      let same = lowering_is_determined program code other lowered is in
      let here = subst (λ c. LeadsWithin (tac c) default_options.limits (tac_start c) picks t) same leads in
      let passes =
      (found (tac code) (limited_step (tac code) default_options.limits)
      (limited_is_of (tac code) default_options.limits) (is_well print code) steps picks (tac_start code) t well here).0 in
      subst (λ c. is_well print c t ≡ true) (sym same) passes

  -- an end of its own is the exit
  exits : (other : Tac) → IsLowered program other → (end : RunEnd) (old new : Option (List ℕ)) → IsOwnEnd end
      → RunsFreely (tac other) default_options.limits (tac_start other) end old new
      → (status_of_run end ≡ 0) × Appends old new print
  exits other is (run_end.Ended Exit) old new own run =
      let passes = well_at other is run.picks run.state run.ran in
      let right = subst (λ e. goes_well (bytes_eq run.state.printed print) e
      (all_next (step_by (tac other)) never run.state) ≡ true) run.ends passes in
      (refl, subst (Appends old new) (same_bytes run.state.printed print right) run.gives)
  exits other is (run_end.Ended (Trap trap place)) old new own run =
      let passes = well_at other is run.picks run.state run.ran in
      let trapped = subst (λ e. goes_well (bytes_eq run.state.printed print) e
      (all_next (step_by (tac other)) never run.state) ≡ true) run.ends passes in
      absurd (true≢false (sym trapped))
  exits other is run_end.Deadlock old new own run =
      let passes = well_at other is run.picks run.state run.ran in
      let going = subst (λ e. goes_well (bytes_eq run.state.printed print) e
      (all_next (step_by (tac other)) never run.state) ≡ true) run.ends.0 passes in
      absurd (true≢false (sym (subst (λ b. not b ≡ true) (blocked_passes other run.state run.ends.1) going)))
  exits other is run_end.CallsTooDeep old new own run = absurd own
  exits other is run_end.StepsSpent old new own run = absurd own
  exits other is run_end.GoroutinesSpent old new own run = absurd own
  exits other is (run_end.NoRoom why) old new own run = absurd own
  exits other is run_end.WriteFault old new own run = absurd own
  exits other is run_end.NoMemory old new own run = absurd own

  runs_to_exit : (text : List ℕ) → IsTypedProgram text program → Suffices default_options (of_program program) → RunsToExit text print
  runs_to_exit text is_program enough call claim same asked read out err =
      by (complete.run text_kind.Go default_options asked read out err (of_program program) (refl, is_program) enough)
    where
      complete : Complete call text
      complete = subst (Complete call) same claim.complete

      by : RunsWhole text_kind.Go default_options call text (of_program program) ⊎ (call.status ≡ 11)
          → ((call.status ≡ 0) × SinkGrew call.out print) ⊎ (call.status ≡ 11)
      by (inr e) = inr e
      by (inl whole) =
          let x = exits (erased whole.runs.code) whole.runs.is_code.lowered whole.end call.out.old call.out.new
          whole.is_own whole.runs.runs in
          inl (whole.status ∙ x.0, x.1)

object_well : always_well (codes "0\n") one_object_code 6 ≡ true
unfolding digits
object_well = refl

list_well : always_well (codes "6\n") linked_list_code 100 ≡ true
unfolding digits
list_well = refl

tree_well : always_well (codes "3\n") binary_tree_code 200 ≡ true
unfolding digits
tree_well = refl

sender_well : always_well (codes "7\n") sender_code 20 ≡ true
unfolding digits
sender_well = refl

pub texts_run : TextsRun
texts_run = record {
  object =
      runs_to_exit one_object one_object_code 6 (codes "0\n") one_object_lowered object_well object_text object_is_program
      programs_suffice.object.suffices;
  list =
      runs_to_exit linked_list linked_list_code 100 (codes "6\n") linked_list_lowered list_well list_text list_is_program
      programs_suffice.list.suffices;
  tree =
      runs_to_exit binary_tree binary_tree_code 200 (codes "3\n") binary_tree_lowered tree_well tree_text tree_is_program
      programs_suffice.tree.suffices;
  goroutines =
      runs_to_exit sender sender_code 20 (codes "7\n") sender_lowered sender_well sender_text sender_is_program
      programs_suffice.goroutines.suffices;
}
