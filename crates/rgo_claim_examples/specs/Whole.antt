-- What the headline implies for calls that run the texts of these programs: from the claim alone, with no look at the code of `rgo`,
-- follows what the user sees.
use Rattle.std.specs.Prelude.{◌≡◌, ◌⊎◌, ℕ, List, codes}
use Rattle.rgo_command_line.specs.Limits.{default_options}
use Rattle.rgo_run.specs.Calls.{Call, Failed, SinkGrew, IsRunCall, SourceFailed}
use Rattle.rgo_run.specs.Headline.{Headline}
use Rattle.rgo_run.specs.declared.endings.TextKind.TheVariants as text_kind
use Rattle.rgo_claim_examples.specs.Texts.{object_text, list_text, tree_text, sender_text}

-- a call that runs this text with the default options prints this and returns 0, unless a read or write fails or memory runs out
abbrev pub RunsToExit : (text print : List ℕ) → Type 0
RunsToExit text print =
    (call : Call) (claim : Headline call) → claim.text ≡ text → IsRunCall call text_kind.Go default_options
    → (SourceFailed call.source → ⊥) → (Failed call.out → ⊥) → (Failed call.err → ⊥)
    → ((call.status ≡ 0) × SinkGrew call.out print) ⊎ (call.status ≡ 11)

pub record TextsRun : Type 0 where
  pub object : RunsToExit object_text (codes "0\n")
  pub list : RunsToExit list_text (codes "6\n")
  pub tree : RunsToExit tree_text (codes "3\n")
  pub goroutines : RunsToExit sender_text (codes "7\n")
