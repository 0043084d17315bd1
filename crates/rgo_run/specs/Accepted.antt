-- A law of the commands: what `emit` prints, `code` accepts.
use Rattle.std.specs.Prelude.{ℕ, ◌≤◌, List, length}
use Rattle.rgo_code.specs.Code.{Code}
use Rattle.rgo_code.specs.Erasure.{erased}
use Rattle.rgo_code_printing.specs.Text.{text_of}
use Rattle.rgo_run.specs.CodeVerdicts.{code_limit, CodePasses}
use Rattle.rgo_run.specs.Compiled.{IsCompiled}
use Rattle.rgo_run.specs.Constants.{TacConstantsFit}

-- the text of a program's code passes, if it is within the limit and a code text can express the code's constants and places
abbrev pub EmittedPasses : Type 0
EmittedPasses = (text : List ℕ) (code : Code) → IsCompiled text code → TacConstantsFit (erased code)
    → length (text_of code) ≤ code_limit → CodePasses (text_of code)
