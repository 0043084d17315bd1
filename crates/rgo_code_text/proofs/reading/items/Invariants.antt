use Rattle.std.proofs.Common.{◌-◌, length, map}
use Rattle.rgo_code_text.specs.Views.{item_of}
use Rattle.rgo_code_text.proofs.line_forms.Walking.{ReadSoFar}
use Rattle.rgo_code_text.proofs.reading.items.Given as goal

abbrev pub invariant-lines : goal.invariant-lines
invariant-lines l = ReadSoFar l.text (map item_of l.items.items) l.place l.at l.line

abbrev pub decreases-lines : goal.decreases-lines
decreases-lines l = length l.text - l.at
