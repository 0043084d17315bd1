-- What endings and statuses exclude. The last clauses of `rgo` speak of the status alone, so the proof has to know which endings can
-- have it.
use Rattle.std.proofs.Common.{◌≡◌, ◌⊎◌, inl, inr, Bool, true, false, ◌||◌, ℕ, List, Option, refl, sym, ap, ◌∙◌, subst, true≢false}
use Rattle.std.specs.Prelude.{◌==◌}
use Rattle.rgo_machine.specs.declared.picks.End.TheVariants as the_end
use Rattle.rgo_machine.specs.declared.limits.Shortage.TheVariants as shortage
use Rattle.rgo_machine.specs.declared.ends.RunEnd.{RunEnd}
use Rattle.rgo_machine.specs.declared.ends.RunEnd.TheVariants as run_end
use Rattle.rgo_run.specs.declared.endings.TextKind.{TextKind}
use Rattle.rgo_run.specs.declared.endings.TextKind.TheVariants as text_kind
use Rattle.rgo_run.specs.declared.endings.Ending.{Ending}
use Rattle.rgo_run.specs.declared.endings.Ending.TheVariants.{Valid, Ran, Usage, ReadFault, Refused, CodeRefused, WriteFault, NoMemory}
use Rattle.rgo_run.specs.Endings.{status_of, status_of_run, is_run_status}
use Rattle.rgo_run.specs.Reports.{in_short}
use Rattle.rgo_region_machine.specs.declared.tallies.Tally.{Tally}
use Rattle.rgo_run.specs.Headline.{EndsEmit, EndsRun, IsWriteFault}
use Rattle.rgo_run.specs.Texts.{RefusedAs}

-- a refusal has status 1
pub refused_status : (kind : TextKind) (text : List ℕ) (e : Ending) → RefusedAs kind text e → status_of e ≡ 1
refused_status text_kind.Go text (Refused why) r = refl
refused_status text_kind.Code text (CodeRefused why) r = refl
refused_status _ text _ r = absurd r

-- the statuses of runs: those of runs alone, and 0, 10 and 11
abbrev pub has_run_status : ℕ → Bool
has_run_status n = n == 0 || n == 10 || n == 11 || is_run_status n

run_has_status : (end : RunEnd) → has_run_status (status_of_run end) ≡ true
run_has_status (run_end.Ended the_end.Exit) = refl
run_has_status (run_end.Ended (the_end.Trap trap at)) = refl
run_has_status run_end.Deadlock = refl
run_has_status (run_end.NoRoom shortage.Pages) = refl
run_has_status (run_end.NoRoom shortage.Regions) = refl
run_has_status (run_end.NoRoom shortage.ObjectSize) = refl
run_has_status run_end.CallsTooDeep = refl
run_has_status run_end.StepsSpent = refl
run_has_status run_end.GoroutinesSpent = refl
run_has_status run_end.WriteFault = refl
run_has_status run_end.NoMemory = refl

-- a run has no other status
pub no_run_status : (n : ℕ) → has_run_status n ≡ false → (end : RunEnd) → status_of_run end ≡ n → ⊥
no_run_status n none end s = true≢false (sym (run_has_status end) ∙ ap has_run_status s ∙ none)

pub not_status_1 : (end : RunEnd) → status_of_run end ≡ 1 → ⊥
not_status_1 end s = no_run_status 1 refl end s

-- a run with status 10 has ended with a failed write
pub fault_of_run : (end : RunEnd) → status_of_run end ≡ 10 → end ≡ run_end.WriteFault
fault_of_run run_end.WriteFault s = refl
fault_of_run (run_end.Ended the_end.Exit) s = absurd (let wrong = s in cc)
fault_of_run (run_end.Ended (the_end.Trap trap at)) s = absurd (let wrong = s in cc)
fault_of_run run_end.Deadlock s = absurd (let wrong = s in cc)
fault_of_run (run_end.NoRoom shortage.Pages) s = absurd (let wrong = s in cc)
fault_of_run (run_end.NoRoom shortage.Regions) s = absurd (let wrong = s in cc)
fault_of_run (run_end.NoRoom shortage.ObjectSize) s = absurd (let wrong = s in cc)
fault_of_run run_end.CallsTooDeep s = absurd (let wrong = s in cc)
fault_of_run run_end.StepsSpent s = absurd (let wrong = s in cc)
fault_of_run run_end.GoroutinesSpent s = absurd (let wrong = s in cc)
fault_of_run run_end.NoMemory s = absurd (let wrong = s in cc)

-- ---- statuses that are neither that of wrong words nor that of a failed read

abbrev pub IsLate : ℕ → Type 0
IsLate n = (n ≡ 64 → ⊥) × (n ≡ 9 → ⊥)

pub run_is_late : (end : RunEnd) → IsLate (status_of_run end)
run_is_late end = (no_run_status 64 refl end, no_run_status 9 refl end)

-- why a text was not run: a refusal, or a lack of memory
pub failing_late : (e : Ending) → (e ≡ NoMemory) ⊎ (status_of e ≡ 1) → IsLate (status_of e)
failing_late e (inl is) = subst (λ x. IsLate (status_of x)) (sym is) (λ s. cc, λ s. cc)
failing_late e (inr is) = subst IsLate (sym is) (λ s. cc, λ s. cc)

pub failing_ten : (e : Ending) → (e ≡ NoMemory) ⊎ (status_of e ≡ 1) → status_of e ≡ 10 → ⊥
failing_ten e (inl is) ten = let wrong = sym (ap status_of is) ∙ ten in cc
failing_ten e (inr is) ten = let wrong = sym is ∙ ten in cc

-- ---- endings

-- an ending with status 1 differs from those with another status
pub not_one : (e other : Ending) → status_of e ≡ 1 → (status_of other ≡ 1 → ⊥) → e ≡ other → ⊥
not_one e other s differs is = differs (subst (λ x. status_of x ≡ 1) is s)

pub one_is_no_run : (e : Ending) → status_of e ≡ 1 → EndsRun e → ⊥
one_is_no_run (Ran kind end stats) s m = not_status_1 end s
one_is_no_run NoMemory s m = cc
one_is_no_run _ s m = m

pub one_is_no_emit : (e : Ending) → status_of e ≡ 1 → EndsEmit e → ⊥
one_is_no_emit Valid s m = cc
one_is_no_emit WriteFault s m = cc
one_is_no_emit _ s m = m

-- an ending with status 9 is a failed read
pub read_fault : (e : Ending) → status_of e ≡ 9 → e ≡ ReadFault
read_fault ReadFault s = refl
read_fault (Ran kind end stats) s = absurd (no_run_status 9 refl end s)
read_fault Valid s = cc
read_fault Usage s = cc
read_fault (Refused why) s = cc
read_fault (CodeRefused why) s = cc
read_fault WriteFault s = cc
read_fault NoMemory s = cc

-- an ending with status 10 is a failed write to `out`
pub write_fault : (e : Ending) → status_of e ≡ 10 → IsWriteFault e
write_fault (Ran kind end stats) s = inl (kind, stats, ap (λ e. Ran kind e stats) (fault_of_run end s))
write_fault WriteFault s = inr refl
write_fault ReadFault s = cc
write_fault Valid s = cc
write_fault Usage s = cc
write_fault (Refused why) s = cc
write_fault (CodeRefused why) s = cc
write_fault NoMemory s = cc

pub run_of_status : (e : Ending) → is_run_status (status_of e) ≡ true
    → (kind : TextKind) × (end : RunEnd) × (stats : Option Tally) × (e ≡ Ran kind end stats)
run_of_status (Ran kind end stats) s = (kind, end, stats, refl)
run_of_status Valid s = cc
run_of_status NoMemory s = cc
run_of_status Usage s = cc
run_of_status ReadFault s = cc
run_of_status (Refused why) s = cc
run_of_status (CodeRefused why) s = cc
run_of_status WriteFault s = cc

-- ---- the short report, if there is no memory for the lines

short_of_run : (kind : TextKind) (end : RunEnd) (stats : Option Tally)
    → (in_short (Ran kind end stats) ≡ NoMemory) ⊎ (end ≡ run_end.WriteFault)
short_of_run kind run_end.WriteFault stats = inr refl
short_of_run kind (run_end.Ended end) stats = inl refl
short_of_run kind run_end.Deadlock stats = inl refl
short_of_run kind (run_end.NoRoom why) stats = inl refl
short_of_run kind run_end.CallsTooDeep stats = inl refl
short_of_run kind run_end.StepsSpent stats = inl refl
short_of_run kind run_end.GoroutinesSpent stats = inl refl
short_of_run kind run_end.NoMemory stats = inl refl

-- what is reported if there is no memory for the lines: that memory ran out, or that a write failed
pub short_is : (e : Ending) → (in_short e ≡ NoMemory) ⊎ ((status_of e ≡ 10) × (status_of (in_short e) ≡ 10))
short_is (Ran kind end stats) = by (short_of_run kind end stats)
  where
    by : (in_short (Ran kind end stats) ≡ NoMemory) ⊎ (end ≡ run_end.WriteFault)
        → (in_short (Ran kind end stats) ≡ NoMemory)
        ⊎ ((status_of (Ran kind end stats) ≡ 10) × (status_of (in_short (Ran kind end stats)) ≡ 10))
    by (inl is) = inl is
    by (inr is) = inr (ap status_of_run is, ap (λ x. status_of (in_short (Ran kind x stats))) is)
short_is Valid = inl refl
short_is Usage = inl refl
short_is ReadFault = inl refl
short_is (Refused why) = inl refl
short_is (CodeRefused why) = inl refl
short_is WriteFault = inl refl
short_is NoMemory = inl refl

-- for an ending other than a failed write: that memory ran out
pub short_without_fault : (e : Ending) → (status_of e ≡ 10 → ⊥) → in_short e ≡ NoMemory
short_without_fault e other = by (short_is e)
  where
    by : (in_short e ≡ NoMemory) ⊎ ((status_of e ≡ 10) × (status_of (in_short e) ≡ 10)) → in_short e ≡ NoMemory
    by (inl is) = is
    by (inr fault) = absurd (other fault.0)

pub short_of_refusal : (e : Ending) → status_of e ≡ 1 → in_short e ≡ NoMemory
short_of_refusal e one = short_without_fault e (λ ten. let wrong = sym one ∙ ten in cc)

-- its status is 10 or 11, and 10 only after a failed write
pub short_status : (e : Ending) → (status_of (in_short e) ≡ 11) ⊎ ((status_of e ≡ 10) × (status_of (in_short e) ≡ 10))
short_status e = by (short_is e)
  where
    by : (in_short e ≡ NoMemory) ⊎ ((status_of e ≡ 10) × (status_of (in_short e) ≡ 10))
        → (status_of (in_short e) ≡ 11) ⊎ ((status_of e ≡ 10) × (status_of (in_short e) ≡ 10))
    by (inl is) = inl (ap status_of is)
    by (inr fault) = inr fault

pub short_is_late : (e : Ending) → IsLate (status_of (in_short e))
short_is_late e = by (short_status e)
  where
    by : (status_of (in_short e) ≡ 11) ⊎ ((status_of e ≡ 10) × (status_of (in_short e) ≡ 10)) → IsLate (status_of (in_short e))
    by (inl is) = subst IsLate (sym is) (λ s. cc, λ s. cc)
    by (inr is) = subst IsLate (sym is.1) (λ s. cc, λ s. cc)

pub short_fault : (e : Ending) → status_of (in_short e) ≡ 10 → status_of e ≡ 10
short_fault e ten = by (short_status e)
  where
    by : (status_of (in_short e) ≡ 11) ⊎ ((status_of e ≡ 10) × (status_of (in_short e) ≡ 10)) → status_of e ≡ 10
    by (inl is) = absurd (let wrong = sym is ∙ ten in cc)
    by (inr is) = is.0

pub short_is_no_refusal : (e : Ending) → status_of (in_short e) ≡ 1 → ⊥
short_is_no_refusal e one = by (short_status e)
  where
    by : (status_of (in_short e) ≡ 11) ⊎ ((status_of e ≡ 10) × (status_of (in_short e) ≡ 10)) → ⊥
    by (inl is) = let wrong = sym is ∙ one in cc
    by (inr is) = let wrong = sym is.1 ∙ one in cc
