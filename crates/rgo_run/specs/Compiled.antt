-- `IsCompiled`: the code with regions of a text's program. `Emits`: how `emit` prints it.
use Rattle.std.specs.Prelude.{◌≡◌, ◌≤◌, ℕ, List, take, length}
use Rattle.rgo_typed.specs.Tree.{Typed}
use Rattle.rgo_lower.specs.Lowered.{IsLowered}
use Rattle.rgo_classes.specs.declared.classes.Summary.{Summary}
use Rattle.rgo_summaries.specs.Families.{IsLeastFamily}
use Rattle.rgo_code.specs.Checked.{IsChecked}
use Rattle.rgo_code.specs.Code.{Code}
use Rattle.rgo_code.specs.Erasure.{erased}
use Rattle.rgo_code.specs.NameRules.{Ascends}
use Rattle.rgo_insert.specs.Bare.{nothing_undeclared}
use Rattle.rgo_insert.specs.Inserted.{HasClasses}
use Rattle.rgo_code_printing.specs.Text.{text_of}
use Rattle.rgo_run.specs.declared.endings.Ending.{Ending}
use Rattle.rgo_run.specs.declared.endings.Ending.TheVariants.{Valid, WriteFault}
use Rattle.rgo_run.specs.Calls.{SinkUse, Failed, SinkGrew, SinkHadNoFault}
use Rattle.rgo_run.specs.CodeVerdicts.{code_limit, CodePasses}
use Rattle.rgo_run.specs.Verdicts.{IsTypedProgram}

-- The code keeps all rules, and its lists of names are ascending. Without regions it is the program's three-address code. Its
-- classes are those of the functions under the least summaries, which makes the code unique.
pub record IsCompiledFrom (program : Typed) (code : Code) : Type 0 where
  pub lowered : IsLowered program (erased code)
  pub family : List Summary
  pub least : IsLeastFamily (erased code) family
  pub classes : HasClasses family code
  pub declared : code.undeclared ≡ nothing_undeclared
  pub checked : IsChecked code
  pub ascends : Ascends code

-- A program has at most one compiled code. Without this, `emit` and `run` could each have a code of their own for the same text.
abbrev pub OneCompiled : Type 0
OneCompiled = (program : Typed) (a b : Code) → IsCompiledFrom program a → IsCompiledFrom program b → a ≡ b

-- The text is a valid program, and this is its code with regions. There is at most one such code: `OneCompiled` for the program, and
-- `OneVerdict` of Verdicts.antt for the text.
pub record IsCompiled (text : List ℕ) (code : Code) : Type 0 where
  pub program : Typed
  pub is_program : IsTypedProgram text program
  pub from : IsCompiledFrom program code

-- The bytes are the text of the program's code. If they are within the limit of a code text, `code` accepts them.
pub record IsCodeText (text bytes : List ℕ) : Type 0 where
  pub code : Code
  pub compiled : IsCompiled text code
  pub is_text : bytes ≡ text_of code
  pub accepted : length bytes ≤ code_limit → CodePasses bytes

-- the bytes were written; or a write failed after a front part of them, and the ending says so
abbrev pub WritesCode : List ℕ → Ending → SinkUse → Type 0
WritesCode bytes Valid out = SinkGrew out bytes × SinkHadNoFault out
WritesCode bytes WriteFault out = Failed out × (n : ℕ) × SinkGrew out (take n bytes)
WritesCode bytes _ out = ⊥

-- the text has a code, and this is how its text was written
abbrev pub Emits : List ℕ → Ending → SinkUse → Type 0
Emits text ending out = (bytes : List ℕ) × IsCodeText text bytes × WritesCode bytes ending out
