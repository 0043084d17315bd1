-- The law of `record` and `replay`: replaying a recorded journal with its text writes the same bytes, and its status corresponds.
use Rattle.std.specs.Prelude.{◌≡◌, ◌⊎◌, ◌≤◌, ℕ, Bool, true, false, ◌==◌, ◌||◌, List, ◌++◌, length, Some}
use Rattle.rgo_command_line.specs.declared.commands.Command.TheVariants.{Record, Replay}
use Rattle.rgo_command_line.specs.declared.limits.RunOptions.{RunOptions}
use Rattle.rgo_journal.specs.declared.picks.TacPick.{TacPick}
use Rattle.rgo_journal.specs.Text.{journal}
use Rattle.rgo_run.specs.Calls.{AsksForCommand, Call, SinkGrew}
use Rattle.rgo_run.specs.CodeVerdicts.{code_limit}
use Rattle.rgo_run.specs.Recorded.{IsOfNoRun}
use Rattle.rgo_run.specs.Replayed.{Claim}

-- the run reached its own end: `main` returned, a goroutine trapped, or there was a deadlock
abbrev pub is_own_status : ℕ → Bool
is_own_status status = status == 0 || status == 2 || status == 3

-- The status of a replay, by that of the run: the same if the run reached its own end, else 13 for an unfinished replay. A run whose
-- steps were spent may be deadlocked at that point; its replay then returns 3.
pub record AnswersAs (ran replayed : ℕ) : Type 0 where
  pub own : is_own_status ran ≡ true → replayed ≡ ran
  pub cut : is_own_status ran ≡ false → (replayed ≡ 13) ⊎ ((replayed ≡ 3) × (ran ≡ 8))

-- both calls appended the same bytes to `out`, and their statuses correspond
pub record ReplaysCall (recorded replayed : Call) : Type 0 where
  pub bytes : List ℕ
  pub ran : SinkGrew recorded.out bytes
  pub replays : SinkGrew replayed.out bytes
  pub answers : AnswersAs recorded.status replayed.status

-- no read or write failed, and memory sufficed; otherwise a replay may stop anywhere
abbrev pub IsUnhindered : ℕ → Type 0
IsUnhindered status = (status ≡ 9 → ⊥) × (status ≡ 10 → ⊥) × (status ≡ 11 → ⊥)

-- `err` took a journal first, and each call of `replay` that reads this journal followed by the text replays the recorded call
pub record LeavesJournal (recorded : Call) (text : List ℕ) : Type 0 where
  pub picks : List TacPick
  pub line : List ℕ
  pub wrote : SinkGrew recorded.err (journal picks ++ line)
  pub replays : (replayed : Call) → AsksForCommand replayed Replay → Claim replayed
      → replayed.source.left ≡ Some (journal picks ++ text) → length (journal picks ++ text) ≤ code_limit
      → IsUnhindered replayed.status → ReplaysCall recorded replayed

-- a call of `record` with a status that only runs have leaves such a journal
abbrev pub RecordedIsReplayed : Type 0
RecordedIsReplayed = (options : RunOptions) (recorded : Call) (text : List ℕ) → AsksForCommand recorded (Record options) → Claim recorded
    → recorded.source.left ≡ Some text → (IsOfNoRun recorded.status → ⊥) → LeavesJournal recorded text
