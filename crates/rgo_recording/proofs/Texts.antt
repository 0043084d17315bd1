-- The lines of notes, one note after the other.
use Rattle.std.proofs.Common.{◌≡◌, ℕ, ◌+◌, ◌<◌, List, ◌∷◌, ◌++◌, length, drop, get_or, replicate, sym, ap, ◌∙◌, append_assoc}
use Rattle.std.proofs.lemmas.List.{at_drop_more}
use Rattle.rgo_code_words.proofs.ListFacts.{flat_append, flat_push}
use Rattle.std.proofs.lemmas.List.{replicate_more}
use Rattle.rgo_journal.specs.declared.picks.TacPick.{TacPick}
use Rattle.rgo_journal.specs.Text.{pick_line, pick_lines}
use Rattle.rgo_recording.specs.declared.notes.Note.{Note}
use Rattle.rgo_recording.specs.Notes.{picks_in}

abbrev pub lines_in : List Note → List ℕ
lines_in notes = pick_lines (picks_in notes)

abbrev pub lines_of : Note → List ℕ
lines_of note = pick_lines (replicate note.times note.pick)

-- the lines of the first note come first
pub lines_next : (note : Note) (notes : List Note) → lines_in (note ∷ notes) ≡ lines_of note ++ lines_in notes
lines_next note notes = flat_append pick_line (replicate note.times note.pick) (picks_in notes)

-- one note more was printed
pub note_printed : (start out new : List ℕ) (notes : List Note) (i : ℕ) (d : Note) → i < length notes
    → out ++ lines_in (drop i notes) ≡ start ++ lines_in notes → new ≡ out ++ lines_of (get_or notes i d)
    → new ++ lines_in (drop (i + 1) notes) ≡ start ++ lines_in notes
note_printed start out new notes i d l before more =
    ap (λ b. b ++ lines_in (drop (i + 1) notes)) more
    ∙ append_assoc out (lines_of (get_or notes i d)) (lines_in (drop (i + 1) notes))
    ∙ ap (λ b. out ++ b) (sym (at_drop_more lines_in notes i d l ∙ lines_next (get_or notes i d) (drop (i + 1) notes)))
    ∙ before

-- the line of a pick was printed once more
pub line_printed : (start out new : List ℕ) (pick : TacPick) (n : ℕ) (line : List ℕ) → line ≡ pick_line pick
    → out ≡ start ++ pick_lines (replicate n pick) → new ≡ out ++ line → new ≡ start ++ pick_lines (replicate (n + 1) pick)
line_printed start out new pick n line is before more =
    more
    ∙ ap (λ b. b ++ line) before
    ∙ ap (λ b. (start ++ pick_lines (replicate n pick)) ++ b) is
    ∙ append_assoc start (pick_lines (replicate n pick)) (pick_line pick)
    ∙ ap (λ b. start ++ b) (sym (flat_push pick_line (replicate n pick) pick) ∙ ap pick_lines (replicate_more n pick))
