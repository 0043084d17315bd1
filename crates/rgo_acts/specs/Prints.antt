-- Prints: the values of the operands, and what was drawn for their bytes.
use Rattle.std.specs.Prelude.{◌≡◌, ℕ, true, false, List, [], ◌∷◌, None, map, slice_get}
use lib.IntN.{pos}
use Rattle.rgo_sound.specs.Code.Code.{CodeFn}
use Rattle.rgo_core.specs.Frames.steps.Prints.{typed_value}
use Rattle.rgo_core.specs.Frames.shown.WordFrames.{WordFrame}
use Rattle.rgo_sound.specs.Memory.declared.values.Value.{Value}
use Rattle.rgo_sound.specs.Memory.declared.values.Value.TheVariants as value
use Rattle.rgo_body.specs.Stack.Stacks.{newest_word}
use Rattle.rgo_sound.specs.Tac.declared.regions.Class.TheVariants.{NoClass}
use Rattle.rgo_sound.specs.WellFormed.TypeRules.{bool, int}
use Rattle.rgo_core.specs.Records.{Drawn}
use Rattle.rgo_acts.specs.declared.prints.Print.{Print}

-- the value of a variable of the newest frame, which runs this function
abbrev pub value_in : CodeFn → List WordFrame → ℕ → Value
value_in fn frames v = typed_value (slice_get fn.variables v) (newest_word frames v)

-- those of some variables
abbrev pub values_in : CodeFn → List WordFrame → List ℕ → List Value
values_in fn frames from = map (value_in fn frames) from

-- what the record has of a print
abbrev pub drawn_of : Print → Drawn
drawn_of p = record { ticket = p.ticket; bytes = p.bytes.items; is_void = p.is_void }

-- ---- examples: an int and a bool

abbrev two_variables : CodeFn
two_variables = record {
  name = [];
  params = 0;
  result = None;
  variables = record { ty = int; class = NoClass } ∷ record { ty = bool; class = NoClass } ∷ [];
  entry = [];
  body = [];
}

abbrev newest : WordFrame
newest = record { function = 0; next = 0; variables = 5 ∷ 1 ∷ [] }

pub record PrintExamples : Type 0 where
  pub values : values_in two_variables (newest ∷ []) (1 ∷ 0 ∷ []) ≡ value.Bool true ∷ value.Int (pos 5) ∷ []
  -- a word of a bool that is not set
  pub unset : value_in two_variables (record { function = 0; next = 0; variables = 5 ∷ 0 ∷ [] } ∷ []) 1 ≡ value.Bool false
  -- a variable that does not exist
  pub missing : value_in two_variables (newest ∷ []) 2 ≡ value.Nil
  pub not_typed : value_in two_variables (newest ∷ []) 0 ≡ value.Bool true → ⊥
