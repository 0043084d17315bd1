-- What is printed of the parts of lines.
use Rattle.std.specs.Prelude.{ℕ, ◌+◌, ◌==◌, if◌then◌else◌, List, [], ◌∷◌, ◌++◌, Option, Some, None}
use Rattle.std.specs.List.{flat_map}
use Rattle.rgo_code.specs.declared.notes.Note.{Note}
use Rattle.rgo_code.specs.Code.{Slot, CodeInstr, CodeFn}
use Rattle.rgo_code.specs.Lists.{creates_in, passes_in, protects_in, removes_in, otherwise_in}
use Rattle.rgo_code_printing.specs.declared.ops.Lists.{Lists}
use Rattle.rgo_code_printing.specs.Text.{Names, slot_words, instr_words, fn_lines}

-- words, each after a space
abbrev pub words_after_spaces : List (List ℕ) → List ℕ
words_after_spaces words = flat_map (λ word. 32 ∷ word) words

-- the comma before a word that is not the first one of its list
abbrev pub comma : ℕ → List ℕ
comma i = if i == 0 then [] else 44 ∷ []

-- the words of a list from number i on, with their commas
abbrev pub listed_from : ℕ → List (List ℕ) → List ℕ
listed_from i [] = []
listed_from i (word ∷ words) = comma i ++ (word ++ listed_from (i + 1) words)

-- what an instruction says of regions
abbrev pub note_of : Lists → Note
note_of l = record {
  creates = l.creates.now;
  passes = l.passes.now;
  protects = l.protects.now;
  removes = l.removes.now;
  otherwise = l.otherwise.now;
}

abbrev pub note_in : Option CodeInstr → Note
note_in o = record {
  creates = creates_in o;
  passes = passes_in o;
  protects = protects_in o;
  removes = removes_in o;
  otherwise = otherwise_in o;
}

-- the line of the instruction of number i, if there is one
abbrev pub instr_lines : Names → (i : ℕ) → Option CodeInstr → List (List (List ℕ))
instr_lines n i None = []
instr_lines n i (Some instr) = instr_words n i instr ∷ []

-- the lines of a variable and of a function, if they exist
abbrev pub slot_lines : Names → Option Slot → List (List (List ℕ))
slot_lines n None = []
slot_lines n (Some s) = slot_words n s ∷ []

abbrev pub lines_of_fn : Names → Option CodeFn → List (List (List ℕ))
lines_of_fn n None = []
lines_of_fn n (Some f) = fn_lines n f
